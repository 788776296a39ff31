-- What a sum of loads gains by one more entry.
use Rattle.std.proofs.Common.{◌≡◌, ◌++◌, [], ℕ, ◌+◌, ◌<◌, ◌%◌, ◌^◌, List, length, take, get_or, ap}
use Rattle.std.proofs.Common.{sym, ◌∙◌}
use Rattle.std.specs.List.{sum_by}
use Rattle.std.proofs.lemmas.List.Sums.{sum_by_more}
use Rattle.std.proofs.Math.Nat.{mod-add-mod}
use Rattle.std.proofs.lemmas.List.{append-nil, append_assoc}
use Rattle.sgx_rules.specs.declared.entries.Entry.{Entry}
use Rattle.page_commands.specs.Summary.{loaded_value}

pub sum_more : (entries : List Entry) (i : ℕ) (d : Entry) (sum : ℕ) → i < length entries
    → sum ≡ sum_by loaded_value (take i entries) % 2 ^ 64
    → (sum + loaded_value (get_or entries i d)) % 2 ^ 64 ≡ sum_by loaded_value (take (i + 1) entries) % 2 ^ 64
sum_more entries i d sum within is =
    ap (λ s. (s + loaded_value (get_or entries i d)) % 2 ^ 64) is
    ∙ mod-add-mod (sum_by loaded_value (take i entries)) (2 ^ 64) (loaded_value (get_or entries i d))
    ∙ ap (λ s. s % 2 ^ 64) (sym (sum_by_more loaded_value entries i d within))

-- four texts one behind another
pub four_texts : (a b c d : List ℕ) → ((a ++ b) ++ c) ++ d ≡ a ++ (b ++ (c ++ (d ++ [])))
four_texts a b c d =
    append_assoc (a ++ b) c d ∙ append_assoc a b (c ++ d) ∙ ap (λ t. a ++ (b ++ (c ++ t))) (sym (append-nil d))
