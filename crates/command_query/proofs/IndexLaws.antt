-- An index over the entries of a trace that are gone along oldest first.
use Rattle.std.proofs.Common.{ℕ, ◌+◌, ◌≤◌, ◌<◌, List, ◌∷◌, length, take, reverse, get_or, sym, ap, subst}
use Rattle.std.proofs.lemmas.List.{take_all}
use Rattle.sgx_rules.specs.declared.entries.Entry.{Entry}
use Rattle.trace_text.proofs.EntryLaws.{newest_more}
use Rattle.trace_query.specs.declared.index.Index.{Index}
use Rattle.trace_query.specs.Index.{IndexStands}

pub stands_more : (index : Index) (entries : List Entry) (i : ℕ) (d : Entry) → i < length entries
    → IndexStands index (get_or entries i d ∷ reverse (take i entries)) → IndexStands index (reverse (take (i + 1) entries))
stands_more index entries i d within stands =
    let Is : List Entry → Type 0 = λ past. IndexStands index past in subst Is (sym (newest_more entries i d within)) stands

pub stands_all : (index : Index) (entries : List Entry) (i : ℕ) → length entries ≤ i → IndexStands index (reverse (take i entries))
    → IndexStands index (reverse entries)
stands_all index entries i end stands =
    let Is : List Entry → Type 0 = λ past. IndexStands index past in subst Is (ap reverse (take_all i entries end)) stands
