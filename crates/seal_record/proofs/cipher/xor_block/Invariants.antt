use Rattle.std.proofs.Common.{◌≡◌}
use Rattle.seal_record.proofs.Xor.{changed_to}
use Rattle.seal_record.proofs.cipher.xor_block.Given as goal

abbrev pub invariant-loop-i : goal.invariant-loop-i
invariant-loop-i l = l.bytes ≡ changed_to l.i l.initial.bytes l.block
