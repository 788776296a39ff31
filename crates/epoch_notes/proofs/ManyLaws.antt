-- Entries taken in one after another.
use Rattle.std.proofs.Common.{◌≡◌, ◌+◌, ◌-◌, ◌≤◌, ◌<◌, ℕ, zero, suc, true, get_or, List, [], ◌∷◌, ◌++◌}
use Rattle.std.proofs.Common.{length, reverse, drop, take, sym, ap, ◌∙◌, subst, is_some, arith}
use Rattle.std.specs.List.{All}
use Rattle.std.proofs.lemmas.List.{append_assoc, get_or-reverse, length-reverse, reverse-append, take-append-drop, take_all}
use Rattle.std.proofs.lemmas.List.{take_more}
use Rattle.sgx_rules.specs.declared.entries.Entry.{Entry}
use Rattle.sgx_rules.specs.inner.Enclaves.{created}
use Rattle.sgx_rules.specs.Rules.{Along}
use Rattle.driver_laws.specs.inner.Tracking.{TrackingRule}
use Rattle.epoch_notes.specs.inner.Notes.{CanNote, IsOfCpus, NotesView, TellsEntries}
use Rattle.epoch_notes.proofs.EntryLaws.{created_more}

-- ---- a run's front

-- a fact along entries is one along those before some of them
pub shorter : (rule : List Entry → Entry → Type 0) (es past : List Entry) → Along rule (es ++ past) → Along rule past
shorter rule [] past along = along
shorter rule (e ∷ es) past along = shorter rule es past along.1

-- the entries up to a place, the newest first: the one there, and those before it
one_more : (xs : List Entry) (i : ℕ) (d : Entry) → i < length xs → reverse (take (i + 1) xs) ≡ get_or xs i d ∷ reverse (take i xs)
one_more xs i d low = ap reverse (take_more xs i d low) ∙ reverse-append (take i xs) (get_or xs i d ∷ [])

-- .. and those behind them
pub split : (xs : List Entry) (i : ℕ) (d : Entry) → i < length xs
    → (after : List Entry) × (reverse xs ≡ after ++ (get_or xs i d ∷ reverse (take i xs)))
split xs i d low = (
  reverse (drop (i + 1) xs),
  ap reverse (sym (take-append-drop (i + 1) xs)) ∙ reverse-append (take (i + 1) xs) (drop (i + 1) xs)
      ∙ ap (λ ys. reverse (drop (i + 1) xs) ++ ys) (one_more xs i d low),
)

-- ---- one after another

-- the next entry can be taken in
unfoldable pub can_next : (n now : NotesView) (xs : List Entry) (i : ℕ) (can : CanNote n (reverse xs)) (low : i < length xs)
    → now.words ≡ n.words
    → length now.inside ≡ length n.inside → TellsEntries can.first (reverse (take i xs) ++ can.past) now → (d : Entry)
    → CanNote now (get_or xs i d ∷ [])
can_next n now xs i can low words cpus tells d =
    let parts = split xs i d low in
    let whole : reverse xs ++ can.past ≡ parts.0 ++ (get_or xs i d ∷ (reverse (take i xs) ++ can.past)) =
    ap (λ ys. ys ++ can.past) parts.1 ∙ append_assoc parts.0 (get_or xs i d ∷ reverse (take i xs)) can.past in
    let few = can.few in
    record {
      first = can.first;
      past = reverse (take i xs) ++ can.past;
      tells = tells;
      rule = shorter (TrackingRule can.first) parts.0 (get_or xs i d ∷ (reverse (take i xs) ++ can.past))
          (subst (Along (TrackingRule can.first)) whole can.rule);
      begun = can.begun;
      enclaves = λ enclave made.
          let k = can.enclaves enclave
          (subst (λ ys. is_some (created ys enclave) ≡ true) (sym whole)
          (created_more parts.0 (get_or xs i d ∷ (reverse (take i xs) ++ can.past)) enclave made)) in
          (k.0, subst (λ (w : _). enclave ≤ w.words) (sym words) k.1);
      few = omega (arith, few, cpus);
      actors = λ k e one. own k e one;
    }
  where
    of_any : (ys : List Entry) (j : ℕ) (e : Entry) → j < length ys → All (λ (x : Entry). IsOfCpus (length n.inside) x.actor) (reverse ys)
        → IsOfCpus (length n.inside) (get_or ys j e).actor
    of_any ys j e lt all =
        let k : ℕ = length ys - 1 - j in
        let back : length ys - 1 - k ≡ j = omega (arith, lt) in
        let low_k : k < length (reverse ys) = let long = length-reverse ys in omega (arith, lt, long) in
        subst (λ (x : Entry). IsOfCpus (length n.inside) x.actor)
        (get_or-reverse ys k e (omega (arith, lt)) ∙ ap (λ m. get_or ys m e) back) (all k e low_k)

    own : (k : ℕ) (e : Entry) → k < 1 → IsOfCpus (length now.inside) (get_or (get_or xs i d ∷ []) k e).actor
    own zero e one = subst (λ m. IsOfCpus m (get_or xs i d).actor) (sym cpus) (of_any xs i d low can.actors)
    own (suc k) e one = absurd (omega (arith, one))

-- what is told behind it is told of the entries up to it
pub next_told : (n : NotesView) (xs : List Entry) (i first : ℕ) (past : List Entry) → i < length xs → (d : Entry)
    → TellsEntries first (get_or xs i d ∷ (reverse (take i xs) ++ past)) n → TellsEntries first (reverse (take (i + 1) xs) ++ past) n
next_told n xs i first past low d tells = subst (λ ys. TellsEntries first (ys ++ past) n) (sym (one_more xs i d low)) tells

-- all are
pub all_told : (n : NotesView) (xs : List Entry) (first : ℕ) (past : List Entry) (i : ℕ)
    → TellsEntries first (reverse (take i xs) ++ past) n
    → length xs ≤ i → TellsEntries first (reverse xs ++ past) n
all_told n xs first past i tells long = subst (λ ys. TellsEntries first (reverse ys ++ past) n) (take_all i xs long) tells
