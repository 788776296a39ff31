-- What of a trace's text stands before the entries that are still to come, and what behind.
use Rattle.std.proofs.Common.{◌≡◌, ◌≤◌, ℕ, List, [], ◌∷◌, ◌++◌, length, take, drop, reverse, refl, ap, sym}
use Rattle.std.proofs.Common.{◌∙◌, append_assoc}
use Rattle.std.proofs.lemmas.List.{append-nil, length-reverse, reverse-append, take_all, take-append-drop}
use Rattle.sgx_rules.specs.declared.entries.Entry.{Entry}
use Rattle.trace_text.specs.declared.edition.Edition.TheVariants as editions
use Rattle.trace_text.specs.TraceText.{entry_text, entries_text, first_line, last_line, trace_in, trace_of}

entries_text-append : (newer older : List Entry)
    → entries_text editions.Two (newer ++ older) ≡ entries_text editions.Two older ++ entries_text editions.Two newer
entries_text-append [] older = sym (append-nil (entries_text editions.Two older))
entries_text-append (e ∷ newer) older =
    ap (λ text. text ++ entry_text editions.Two e) (entries_text-append newer older)
    ∙ append_assoc (entries_text editions.Two older) (entries_text editions.Two newer) (entry_text editions.Two e)

-- the entries so far, and the others
entries_parted : (entries : List Entry) (i : ℕ)
    → entries_text editions.Two (reverse entries)
    ≡ entries_text editions.Two (reverse (take i entries)) ++ entries_text editions.Two (reverse (drop i entries))
entries_parted entries i =
    ap (λ all. entries_text editions.Two (reverse all)) (sym (take-append-drop i entries))
    ∙ ap (entries_text editions.Two) (reverse-append (take i entries) (drop i entries))
    ∙ entries_text-append (reverse (drop i entries)) (reverse (take i entries))

-- the text behind the first entries
abbrev pub text_after : List Entry → ℕ → List ℕ
text_after entries i = entries_text editions.Two (reverse (drop i entries)) ++ last_line (length (reverse entries))

pub trace_parted : (entries : List Entry) (i : ℕ)
    → (first_line editions.Two ++ entries_text editions.Two (reverse (take i entries))) ++ text_after entries i ≡ trace_of (reverse entries)
unfolding trace_in
trace_parted entries i =
    sym (append_assoc (first_line editions.Two ++ entries_text editions.Two (reverse (take i entries)))
    (entries_text editions.Two (reverse (drop i entries)))
    (last_line (length (reverse entries))))
    ∙ ap (λ text. text ++ last_line (length (reverse entries)))
    (append_assoc (first_line editions.Two) (entries_text editions.Two (reverse (take i entries)))
    (entries_text editions.Two (reverse (drop i entries)))
    ∙ ap (λ text. first_line editions.Two ++ text) (sym (entries_parted entries i)))

-- the whole of the entries, and the last line
pub trace_ended : (entries : List Entry) (i : ℕ) → length entries ≤ i
    → (first_line editions.Two ++ entries_text editions.Two (reverse (take i entries))) ++ last_line (length entries)
    ≡ trace_of (reverse entries)
unfolding trace_in
trace_ended entries i past = rw (take_all i entries past, length-reverse entries) refl
