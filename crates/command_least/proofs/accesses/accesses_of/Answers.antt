use Rattle.std.proofs.Common.{List, map, None, ap, reverse, take}
use Rattle.std.proofs.lemmas.List.{get_or-replicate}
use Rattle.sgx_rules.specs.declared.entries.Entry.{Entry}
use Rattle.command_least.specs.inner.Kept.{page_of}
use Rattle.command_least.proofs.InsideLaws.{accesses_more, inside_more}
use Rattle.command_least.proofs.accesses.accesses_of.Goals as goal

pub loop-entry-init : goal.loop-entry-init
loop-entry-init c = record {
  inside = λ p d low. get_or-replicate 256 p None d low;
  accesses = ap (map page_of) c.new-accesses.ensures.items;
}

pub loop-entry-preserved : goal.loop-entry-preserved
loop-entry-preserved c =
    let was = c.loop-entry.invariant in
    let past : List Entry = reverse (take c.loop-entry.entry-index c.args.entries.now) in
    let notes = c.in_ok-note.ensures in
    record {
      inside = inside_more c.args.entries.now c.loop-entry.entry-index _ c.note.new.inside c.loop-entry-test.true
          (notes.inside past was.inside);
      accesses = accesses_more c.args.entries.now c.loop-entry.entry-index _ _ _ c.loop-entry-test.true (notes.accesses past was.inside)
          was.accesses;
    }
