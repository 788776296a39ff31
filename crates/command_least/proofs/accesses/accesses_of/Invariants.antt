use Rattle.std.proofs.Common.{◌≡◌, map, reverse, take}
use Rattle.command_least.specs.Accesses.{accesses_of}
use Rattle.command_least.specs.inner.Kept.{AreInside, page_of}
use Rattle.command_least.proofs.accesses.accesses_of.Given as goal

abbrev pub invariant-loop-entry : goal.invariant-loop-entry
invariant-loop-entry l = record {
  inside : AreInside (reverse (take l.entry-index l.entries)) l.inside;
  accesses : map page_of l.accesses.items ≡ accesses_of (reverse (take l.entry-index l.entries));
}
