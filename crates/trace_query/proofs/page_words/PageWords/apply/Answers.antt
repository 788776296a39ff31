use Rattle.std.proofs.Common.{if◌then◌else◌, None, sym, ap, ◌∙◌}
use Rattle.flat_machine.specs.inner.Parts.{memory_of}
use Rattle.flat_machine.specs.inner.Step.{reply_of, step_of}
use Rattle.flat_words.specs.Writes.{nothing, new_page, writes_of}
use Rattle.trace_query.proofs.TakenLaws.{done_accepted, refused_not_accepted}
use Rattle.trace_query.proofs.page_words.PageWords.apply.Goals as goal

pub returns-in-Did-clause-takes : goal.returns-in-Did-clause-takes
returns-in-Did-clause-takes c =
    let m = memory_of c.args.self.now.flat in
    let actor = c.args.actor in
    let action = c.args.action.now in
    let same = c.reserve.ensures.same in
    let taken = done_accepted m actor action c.in-Did.field-0 c.requires.actor
    (sym c.in-Did.is ∙ c.in_ok-apply.ensures.reply ∙ ap (λ memory. reply_of memory actor action) same.memory) in
    record {
      memory = c.in_ok-apply.ensures.memory ∙ ap (λ memory. step_of memory actor action) same.memory;
      writes = c.writes.ensures.value ∙ ap (λ b. if b then writes_of m actor action else nothing) (sym taken);
      page = c.new_page.ensures ∙ ap (λ b. if b then new_page action else None) (sym taken);
      added = same.added;
      lists = same.lists;
      len = same.len;
    }

pub returns-in-Refused-clause-takes : goal.returns-in-Refused-clause-takes
returns-in-Refused-clause-takes c =
    let m = memory_of c.args.self.now.flat in
    let actor = c.args.actor in
    let action = c.args.action.now in
    let same = c.reserve.ensures.same in
    let refused = refused_not_accepted m actor action c.in-Refused.field-0 c.requires.actor
    (sym c.in-Refused.is ∙ c.in_ok-apply.ensures.reply ∙ ap (λ memory. reply_of memory actor action) same.memory) in
    record {
      memory = c.in_ok-apply.ensures.memory ∙ ap (λ memory. step_of memory actor action) same.memory;
      writes = ap (λ b. if b then writes_of m actor action else nothing) (sym refused);
      page = ap (λ b. if b then new_page action else None) (sym refused);
      added = same.added;
      lists = same.lists;
      len = same.len;
    }
