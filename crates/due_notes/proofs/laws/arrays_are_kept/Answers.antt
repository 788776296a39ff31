use Rattle.due_notes.proofs.ArrayLaws.{arrays_begin, arrays_in_pass, arrays_late, arrays_moved, arrays_stay}
use Rattle.due_notes.proofs.laws.arrays_are_kept.Goals as goal

pub returns : goal.returns
returns c = record { first = arrays_begin; others = arrays_stay; moved = arrays_moved; passes = arrays_in_pass; late = arrays_late }
