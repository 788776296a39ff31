-- Pieces appended one after another are their whole.
use Rattle.std.proofs.Common.{◌≡◌, ℕ, List, [], ◌++◌, append_assoc, refl, sym, ap, ◌∙◌}
use Rattle.std.specs.Prelude.{codes}
use Rattle.std.specs.Int.{w32, w64, to_le_bytes}
use Rattle.sgx_types.specs.Layouts.{zeros}
use Rattle.measure_log.specs.Blocks.{ecreate_block, eadd_block, eextend_block}

-- four pieces behind a log
four_pieces : (log a b c d : List ℕ) → log ++ a ++ b ++ c ++ d ≡ log ++ (a ++ b ++ c ++ d)
four_pieces log a b c d =
    append_assoc (log ++ a ++ b) c d ∙ append_assoc (log ++ a) b (c ++ d) ∙ append_assoc log a (b ++ (c ++ d))
    ∙ ap (λ rest. log ++ rest) (sym (append_assoc (a ++ b) c d ∙ append_assoc a b (c ++ d)))

pub eadd_pieces : (log : List ℕ) (offset flags : ℕ)
    → log ++ (codes "EADD" ++ zeros 4) ++ to_le_bytes w64 offset ++ to_le_bytes w64 flags ++ zeros 40 ≡ log ++ eadd_block offset flags
unfolding eadd_block
eadd_pieces log offset flags = four_pieces log (codes "EADD" ++ zeros 4) (to_le_bytes w64 offset) (to_le_bytes w64 flags) (zeros 40)

pub ecreate_pieces : (size : ℕ) → [] ++ (codes "ECREATE" ++ zeros 1) ++ to_le_bytes w32 1 ++ to_le_bytes w64 size
    ++ zeros 44 ≡ ecreate_block size
unfolding ecreate_block
ecreate_pieces size = refl

pub eextend_pieces : (log : List ℕ) (offset : ℕ) (chunk : List ℕ)
    → log ++ (codes "EEXTEND" ++ zeros 1) ++ to_le_bytes w64 offset ++ zeros 48 ++ chunk ≡ log ++ eextend_block offset chunk
unfolding eextend_block
eextend_pieces log offset chunk = four_pieces log (codes "EEXTEND" ++ zeros 1) (to_le_bytes w64 offset) (zeros 48) chunk
