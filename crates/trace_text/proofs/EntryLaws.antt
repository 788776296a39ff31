-- What a text gains by one more entry, where the entries that a printer is given stand oldest first.
use Rattle.std.proofs.Common.{◌≡◌, ℕ, ◌+◌, ◌<◌, List, [], ◌∷◌, ◌++◌, length, take, reverse, get_or, sym, ap}
use Rattle.std.proofs.Common.{◌∙◌}
use Rattle.std.proofs.lemmas.List.{append_assoc, reverse-append, take_more}
use Rattle.sgx_rules.specs.declared.entries.Entry.{Entry}
use Rattle.trace_text.specs.declared.edition.Edition.{Edition}
use Rattle.trace_text.specs.TraceText.{entry_text, entries_text}

pub newest_more : (entries : List Entry) (i : ℕ) (d : Entry) → i < length entries
    → reverse (take (i + 1) entries) ≡ get_or entries i d ∷ reverse (take i entries)
newest_more entries i d within = ap reverse (take_more entries i d within) ∙ reverse-append (take i entries) (get_or entries i d ∷ [])

pub entries_text_more : (edition : Edition) (text : List ℕ) (entries : List Entry) (i : ℕ) (d : Entry) → i < length entries
    → (text ++ entries_text edition (reverse (take i entries))) ++ entry_text edition (get_or entries i d) ≡ text
    ++ entries_text edition (reverse (take (i + 1) entries))
entries_text_more edition text entries i d within =
    append_assoc text (entries_text edition (reverse (take i entries))) (entry_text edition (get_or entries i d))
    ∙ ap (λ (past : List Entry). text ++ entries_text edition past) (sym (newest_more entries i d within))
