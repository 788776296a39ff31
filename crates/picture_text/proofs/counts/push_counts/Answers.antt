use Rattle.std.proofs.lemmas.Result.{on_ok_weaker}
use Rattle.picture_text.specs.declared.events.Counter.TheVariants as counters
use Rattle.picture_text.specs.Events.{count_to}
use Rattle.picture_text.proofs.AppendLaws.{pushed_three}
use Rattle.picture_text.proofs.counts.push_counts.Goals as goal

pub returns : goal.returns
returns c =
    let place = c.args.place in
    let a = c.args.before.now in
    let b = c.args.after.now in
    on_ok_weaker c.push_count-3.result (λ last.
    pushed_three c.args.events.now.items c.push_count.new.events.items c.push_count-2.new.events.items c.push_count-3.new.events.items
    (count_to place counters.Frames a.frames b.frames) (count_to place counters.Pages a.pages b.pages)
    (count_to place counters.Version a.version b.version)
    c.in_ok-push_count.ensures c.in_ok-push_count-2.ensures last)
    c.push_count-3.ensures
