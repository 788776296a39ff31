-- What one more entry says of the processors and of the accesses, where the entries that are gone along stand oldest first.
use Rattle.std.proofs.Common.{◌≡◌, ℕ, ◌+◌, ◌<◌, List, ◌∷◌, ◌++◌, Option, length, take, reverse, get_or, sym, ap}
use Rattle.std.proofs.Common.{subst, ◌∙◌}
use Rattle.trace_text.proofs.EntryLaws.{newest_more}
use Rattle.sgx_rules.specs.declared.entries.Entry.{Entry}
use Rattle.sgx_types.specs.declared.names.Page.{Page}
use Rattle.command_least.specs.Accesses.{accessed, accesses_of}
use Rattle.command_least.specs.inner.Kept.{AreInside}

pub inside_more : (entries : List Entry) (i : ℕ) (d : Entry) (inside : List (Option ℕ)) → i < length entries
    → AreInside (get_or entries i d ∷ reverse (take i entries)) inside
    → AreInside (reverse (take (i + 1) entries)) inside
inside_more entries i d inside within is =
    let Is : List Entry → Type 0 = λ past. AreInside past inside in subst Is (sym (newest_more entries i d within)) is

pub accesses_more : (entries : List Entry) (i : ℕ) (d : Entry) (all before : List Page) → i < length entries
    → all ≡ before ++ accessed (reverse (take i entries)) (get_or entries i d).actor (get_or entries i d).event
    → before ≡ accesses_of (reverse (take i entries))
    → all ≡ accesses_of (reverse (take (i + 1) entries))
accesses_more entries i d all before within is was =
    is ∙ ap (λ pages. pages ++ accessed (reverse (take i entries)) (get_or entries i d).actor (get_or entries i d).event) was
    ∙ ap accesses_of (sym (newest_more entries i d within))
