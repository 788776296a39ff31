use Rattle.std.proofs.Common.{◌≡◌}
use Rattle.seal_record.proofs.Enciphered.{enciphered}
use Rattle.seal_record.proofs.cipher.encipher.Given as goal

abbrev pub invariant-loop-index : goal.invariant-loop-index
invariant-loop-index l = l.page ≡ enciphered l.key l.version l.index l.initial.page
