-- The counts of the first words: what the steps of processors make of them.
use Rattle.std.proofs.Common.{◌≡◌, ◌≢◌, ◌⊎◌, ℕ, ◌+◌, ◌*◌, ◌≤◌, List, length, get_or, set, Bool, true}
use Rattle.std.proofs.Common.{Some, None, refl}
use Rattle.std.proofs.Common.{ap, ◌∙◌, subst, ⊎_elim, arith, length-set, get_or-set_same, get_or-set_other, eq-eqb, ne_eqb}
use Rattle.std.proofs.lemmas.Bool.{false_from_ne_true}
use mathlib.Core.Option.{some}
use lib.ListN.{get_elem?}
use Rattle.frame_gate.specs.declared.view.View.{View}
use Rattle.frame_gate.specs.declared.view.Ledger.{Ledger}
use Rattle.frame_gate.specs.declared.view.Pair.{Pair}
use Rattle.frame_gate.specs.declared.view.Role.TheVariants.{Processor}
use Rattle.frame_gate.specs.inner.Words.{leave_word}
use Rattle.frame_gate.specs.inner.Views.{visit, ledger}
use Rattle.frame_gate.specs.inner.Rule.{total, one_if, is_at, role_at, inside_at, role_entries, entries_of, role_seats, seats_of}
use Rattle.frame_gate.specs.inner.Rule.{AreCounted}
use Rattle.frame_gate.proofs.SumLaws.{sum_set, one_of}

pub at_itself : (e : ℕ) → is_at e (Some e) ≡ 1
at_itself e = ap one_if (eq-eqb e e refl)

pub at_other : (e x : ℕ) → x ≢ e → is_at e (Some x) ≡ 0
at_other e x n = ap one_if (ne_eqb x e n)

pub enter_counts : (l : Ledger) (before n r : ℕ) (ws : List ℕ) (vs : List View) (id e : ℕ) (v w : View) (ps ps' : List Pair)
    → AreCounted l before n ws vs → get_elem? vs id ≡ some v → v.role ≡ Processor (visit e None) ps
    → w.role ≡ Processor (visit (e + 1) (Some l.epoch)) ps' → r ≡ l.epoch * 4294967296 + (n + 1) → AreCounted l before (n + 1)
    (set ws 0 r) (set vs id w)
enter_counts l before n r ws vs id e v w ps ps' k at is isw new =
    let wide = k.wide in
    let up = k.epoch in
    let still : (x : ℕ) → get_or (set ws 0 r) (leave_word x) 0 ≡ get_or ws (leave_word x) 0 = λ x. get_or-set_other ws 0
    (leave_word x) r 0 (λ h. omega arith) in
    let v_at : (x : ℕ) → inside_at x v ≡ 0 = λ x. ap (role_at x) is in
    let w_now : inside_at l.epoch w ≡ 1 = ap (role_at l.epoch) isw ∙ at_itself l.epoch in
    let w_before : inside_at before w ≡ 0 = ap (role_at before) isw ∙ at_other before l.epoch (λ h. omega arith) in
    let now = sum_set (inside_at l.epoch) vs id v w at in
    let old = sum_set (inside_at before) vs id v w at in
    let seats = sum_set seats_of vs id v w at in
    let made = sum_set entries_of vs id v w at in record {
      wide = let a = length-set ws 0 r in omega arith;
      epoch = up;
      word = get_or-set_same ws 0 r 0 (omega arith) ∙ new;
      inside = let a = k.inside in let b = still l.epoch in let c = v_at l.epoch in omega arith;
      older = λ z. let a = k.older z in let b = still before in let c = v_at before in omega arith;
      set_back = λ z. ((k.set_back z).0, still before ∙ (k.set_back z).1);
      empty = λ z. let a = k.empty z in let c = v_at before in omega arith;
      seats = let a = k.seats in let b : seats_of v ≡ 1 = ap role_seats is in let c : seats_of w ≡ 1 = ap role_seats isw in omega arith;
      few = k.few;
      made =
          let a = k.made in
          let b : entries_of v ≡ e = ap role_entries is in
          let c : entries_of w ≡ e + 1 = ap role_entries isw in
          omega arith;
      limited = k.limited;
    }

-- a count that stands in one word, and the processors inside that it has not counted
pub leave_counts : (l : Ledger) (before n r e m : ℕ) (ws : List ℕ) (vs : List View) (id : ℕ) (v w : View) (ps ps' : List Pair)
    → AreCounted l before n ws vs → get_elem? vs id ≡ some v → v.role ≡ Processor (visit m (Some e)) ps → w.role ≡ Processor
    (visit m None) ps'
    → r ≡ get_or ws (leave_word e) 0 + 1 → (e ≡ l.epoch) ⊎ (e ≡ before) → AreCounted l before n (set ws (leave_word e) r) (set vs id w)
leave_counts l before n r e m ws vs id v w ps ps' k at is isw new which =
    let wide = k.wide in
    let up = k.epoch in
    let i : ℕ = leave_word e in
    let here : get_or (set ws i r) i 0 ≡ r = get_or-set_same ws i r 0 (omega arith) in
    let still : (x : ℕ) → leave_word x ≢ i → get_or (set ws i r) (leave_word x) 0 ≡ get_or ws
    (leave_word x) 0 = λ x ne. get_or-set_other ws i (leave_word x) r 0 ne in
    let w_at : (x : ℕ) → inside_at x w ≡ 0 = λ x. ap (role_at x) isw in
    let v_here : inside_at e v ≡ 1 = ap (role_at e) is ∙ at_itself e in
    let v_else : (x : ℕ) → e ≢ x → inside_at x v ≡ 0 = λ x ne. ap (role_at x) is ∙ at_other x e ne in
    let some_in : 1 ≤ total (inside_at e) vs = let a = one_of (inside_at e) vs id v at in omega arith in
    let now = sum_set (inside_at l.epoch) vs id v w at in
    let old = sum_set (inside_at before) vs id v w at in
    let seats = sum_set seats_of vs id v w at in
    let made = sum_set entries_of vs id v w at in
    let one : seats_of v ≡ 1 = ap role_seats is in
    let one' : seats_of w ≡ 1 = ap role_seats isw in
    let all : entries_of v ≡ m = ap role_entries is in
    let all' : entries_of w ≡ m = ap role_entries isw in
    let word : get_or (set ws i r) 0 0 ≡ l.epoch * 4294967296 + n = get_or-set_other ws i 0 r 0 (λ h. omega arith) ∙ k.word in
    let long : 3 ≤ length (set ws i r) = let a = length-set ws i r in omega arith in
    ⊎_elim
    (λ (t : e ≡ l.epoch).
    let apart : leave_word before ≢ i = λ h. omega arith in
    let in_now : inside_at l.epoch v ≡ 1 = subst (λ (x : ℕ). inside_at x v ≡ 1) t v_here in
    let in_old : inside_at before v ≡ 0 = v_else before (λ h. omega arith) in
    let new' : get_or (set ws i r) (leave_word l.epoch) 0 ≡ get_or ws (leave_word l.epoch) 0 + 1 = subst
    (λ (x : ℕ). get_or (set ws i r) (leave_word x) 0 ≡ get_or ws (leave_word x) 0 + 1) t (here ∙ new) in
    record {
      wide = long;
      epoch = up;
      word = word;
      inside = let a = k.inside in let b = w_at l.epoch in omega arith;
      older = λ z. let a = k.older z in let b = still before apart in let c = w_at before in omega arith;
      set_back = λ z. ((k.set_back z).0, still before apart ∙ (k.set_back z).1);
      empty = λ z. let a = k.empty z in let c = w_at before in omega arith;
      seats = let a = k.seats in omega arith;
      few = k.few;
      made = let a = k.made in omega arith;
      limited = k.limited;
    })
    (λ (t : e ≡ before).
    let apart : leave_word l.epoch ≢ i = λ h. omega arith in
    let in_old : inside_at before v ≡ 1 = subst (λ (x : ℕ). inside_at x v ≡ 1) t v_here in
    let in_now : inside_at l.epoch v ≡ 0 = v_else l.epoch (λ h. omega arith) in
    let some_old : 1 ≤ total (inside_at before) vs = subst (λ (x : ℕ). 1 ≤ total (inside_at x) vs) t some_in in
    let new' : get_or (set ws i r) (leave_word before) 0 ≡ get_or ws (leave_word before) 0 + 1 = subst
    (λ (x : ℕ). get_or (set ws i r) (leave_word x) 0 ≡ get_or ws (leave_word x) 0 + 1) t (here ∙ new) in
    let not_none : l.is_empty ≡ true → ⊥ = λ z. let a = k.empty z in omega arith in
    record {
      wide = long;
      epoch = up;
      word = word;
      inside = let a = k.inside in let b = still l.epoch apart in let c = w_at l.epoch in omega arith;
      older = λ z. let a = k.older z in let c = w_at before in omega arith;
      set_back = λ z. absurd (not_none (k.set_back z).0);
      empty = λ z. absurd (not_none z);
      seats = let a = k.seats in omega arith;
      few = k.few;
      made = let a = k.made in omega arith;
      limited = k.limited;
    })
    which

-- the ledger may learn that E - 1 is empty
pub learn_counts : (l : Ledger) (before n : ℕ) (ws : List ℕ) (vs vs' : List View) (empty : Bool) → AreCounted l before n ws vs →
    (empty ≡ true → total (inside_at before) vs ≡ 0) → (l.is_set_back ≡ true → empty ≡ true)
    → ((x : ℕ) → total (inside_at x) vs' ≡ total (inside_at x) vs) → total seats_of vs' ≡ total seats_of vs
    → total entries_of vs' ≡ total entries_of vs → AreCounted (ledger l.seats l.epoch l.kept empty l.is_set_back) before n ws vs'
learn_counts l before n ws vs vs' empty k clear back at seats made = record {
  wide = k.wide;
  epoch = k.epoch;
  word = k.word;
  inside = let a = at l.epoch in let b = k.inside in omega arith;
  older = λ z. let a = at before in let b = k.older z in omega arith;
  set_back = λ z. (back z, (k.set_back z).1);
  empty = λ z. at before ∙ clear z;
  seats = seats ∙ k.seats;
  few = k.few;
  made = let a = k.made in omega arith;
  limited = k.limited;
}

-- a step on a word that counts nothing
pub still_counts : (l : Ledger) (before n i r : ℕ) (ws : List ℕ) (vs vs' : List View) → AreCounted l before n ws vs → 3 ≤ i →
    ((x : ℕ) → total (inside_at x) vs' ≡ total (inside_at x) vs) → total seats_of vs' ≡ total seats_of vs
    → total entries_of vs' ≡ total entries_of vs
    → AreCounted l before n (set ws i r) vs'
still_counts l before n i r ws vs vs' k far at seats made =
    let still : (x : ℕ) → get_or (set ws i r) (leave_word x) 0 ≡ get_or ws (leave_word x) 0 = λ x. get_or-set_other ws i
    (leave_word x) r 0 (λ h. omega arith) in record {
      wide = let a = length-set ws i r in let b = k.wide in omega arith;
      epoch = k.epoch;
      word = get_or-set_other ws i 0 r 0 (λ h. omega arith) ∙ k.word;
      inside = let a = at l.epoch in let b = k.inside in let c = still l.epoch in omega arith;
      older = λ z. let a = at before in let b = k.older z in let c = still before in omega arith;
      set_back = λ z. ((k.set_back z).0, still before ∙ (k.set_back z).1);
      empty = λ z. at before ∙ k.empty z;
      seats = seats ∙ k.seats;
      few = k.few;
      made = let a = k.made in omega arith;
      limited = k.limited;
    }
