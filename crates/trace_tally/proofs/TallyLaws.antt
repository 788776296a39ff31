-- A tally of entries that are gone along oldest first.
use Rattle.std.proofs.Common.{ℕ, ◌+◌, ◌≤◌, ◌<◌, List, ◌∷◌, length, take, reverse, get_or, sym, ap, subst}
use Rattle.std.proofs.lemmas.List.{take_all}
use Rattle.sgx_rules.specs.declared.entries.Entry.{Entry}
use Rattle.trace_text.proofs.EntryLaws.{newest_more}
use Rattle.trace_tally.specs.declared.tally.Tally.{Tally}
use Rattle.trace_tally.specs.inner.Tally.{TallyFollows}

pub follows_more : (tally : Tally) (entries : List Entry) (i : ℕ) (d : Entry) → i < length entries
    → TallyFollows tally (get_or entries i d ∷ reverse (take i entries)) → TallyFollows tally (reverse (take (i + 1) entries))
follows_more tally entries i d within follows =
    let Is : List Entry → Type 0 = λ past. TallyFollows tally past in subst Is (sym (newest_more entries i d within)) follows

pub follows_all : (tally : Tally) (entries : List Entry) (i : ℕ) → length entries ≤ i → TallyFollows tally (reverse (take i entries))
    → TallyFollows tally (reverse entries)
follows_all tally entries i end follows =
    let Is : List Entry → Type 0 = λ past. TallyFollows tally past in subst Is (ap reverse (take_all i entries end)) follows
