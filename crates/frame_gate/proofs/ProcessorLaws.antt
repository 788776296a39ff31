-- Each step keeps the rule of the gate.
use Rattle.std.proofs.Common.{◌≡◌, ◌≢◌, ◌⊎◌, inl, inr, ℕ, ◌+◌, ◌-◌, ◌*◌, ◌/◌, ◌%◌, ◌^◌, ◌<◌}
use Rattle.std.proofs.Common.{◌≤◌, List, [], ◌∷◌}
use Rattle.std.proofs.Common.{◌++◌, get_or, set, Bool, true, false, cond, true≢false, Option, Some, None, refl}
use Rattle.std.proofs.Common.{sym, ap, ◌∙◌, subst, ⊎_elim, arith, length-set, get_or-set_other, eq-eqb, ne_eqb}
use Rattle.std.specs.Prelude.{◌==◌, is_some}
use Rattle.std.proofs.lemmas.List.{set-get_or}
use Rattle.std.proofs.lemmas.Bool.{false_from_ne_true}
use mathlib.Core.Logic.{dite}
use mathlib.Core.Option.{none, some, some-injective}
use native.Mathlib.Decide.{ℕ_discrete}
use lib.ListN.{get_elem?}
use Rattle.atomic_table.specs.Table.{step, keeps, stepped, Allows}
use Rattle.atomic_table.proofs.Lists.{set_else}
use Rattle.frame_gate.specs.declared.view.View.{View}
use Rattle.frame_gate.specs.declared.view.Counter.{Counter}
use Rattle.frame_gate.specs.declared.view.Ledger.{Ledger}
use Rattle.frame_gate.specs.declared.view.Visit.{Visit}
use Rattle.frame_gate.specs.declared.view.Pair.{Pair}
use Rattle.frame_gate.specs.declared.view.Written.{Written}
use Rattle.frame_gate.specs.declared.view.Role.{Role}
use Rattle.frame_gate.specs.declared.view.Role.TheVariants.{Pager, Processor}
use Rattle.frame_gate.specs.inner.Words.{leave_word, frame_word}
use Rattle.frame_gate.specs.inner.Views.{view, after_step, after_load, visit, pair, generation_of, put}
use Rattle.frame_gate.specs.inner.Views.{filled, written_of, role_entered, role_left, role_filled, role_holds}
use Rattle.frame_gate.specs.inner.Rule.{Shared, Seat, total, one_if, is_at, role_at, inside_at, role_entries, entries_of}
use Rattle.frame_gate.specs.inner.Rule.{role_seats, seats_of, AreCounted, IsMarked, AreWritten, HasEpoch, IsUntil}
use Rattle.frame_gate.specs.inner.Rule.{CanHold, AreHeld, RoleFits, IsPastDrained, AreFramesKept, Enters, Leaves, Meets, Fills, Touches}
use Rattle.frame_gate.proofs.SumLaws.{each_set, sum_set, sum_below, none_each, one_of}
use Rattle.frame_gate.proofs.CountLaws.{at_itself, enter_counts, leave_counts, still_counts}

-- the pager's seat is none of the processors'
pub apart : (views : List View) (i j : ℕ) (x y : View) (l : Ledger) (fs : List Written) (p : Visit) (ps : List Pair)
    → get_elem? views i ≡ some x → x.role ≡ Pager l fs → get_elem? views j ≡ some y → y.role ≡ Processor p ps → i ≢ j
apart views i j x y l fs p ps a r b q e =
    let s : x ≡ y = some-injective _ _ (sym a ∙ subst (λ (k : ℕ). get_elem? views k ≡ some y) (sym e) b) in
    let z : Pager l fs ≡ Processor p ps = sym r ∙ (ap (λ (v : View). v.role) s ∙ q) in
    cc

stands_most : (count pager : ℕ) (l : Ledger) (fs : List Written) (before j : ℕ) (r : Role) → RoleFits count pager l fs before j r
    → role_entries r ≤ 134217728 * role_seats r
stands_most count pager l fs before j (Pager m gs) h = omega arith
stands_most count pager l fs before j (Processor p ps) h = let a = h.0 in omega arith

-- entries never fill their part of the word
pub few_entries : (count : ℕ) (s : Shared) (k : AreFramesKept count s) → k.entries ≤ 2147483648
few_entries count s k =
    let a = sum_below entries_of seats_of s.views (λ j v e. stands_most count k.pager k.ledger k.frames k.before j v.role (k.each j v e)) in
    let b = k.counted.made in
    let c = k.counted.seats in
    let d = k.counted.few in
    omega arith

-- a step on another word than a frame's
pub frames_still : (count e i r : ℕ) (fs : List Written) (ws : List ℕ) → AreWritten count e fs ws → i < 3 → AreWritten count e fs
    (set ws i r)
frames_still count e i r fs ws k low = record {
  all = k.all;
  wide = length-set ws i r ∙ k.wide;
  word = λ f h. get_or-set_other ws i (frame_word f) r 0 (λ q. omega arith) ∙ k.word f h;
  marked = k.marked;
}

pub marked_later : (e e' w : ℕ) (b : Option ℕ) → e ≤ e' → IsMarked e w b → IsMarked e' w b
marked_later e e' w None le h = h
marked_later e e' w (Some b) le h = let a = h.1 in (h.0, omega arith)

pub frames_later : (count e e' : ℕ) (fs : List Written) (ws : List ℕ) → e ≤ e' → AreWritten count e fs ws → AreWritten count e' fs ws
frames_later count e e' fs ws le k = record {
  all = k.all;
  wide = k.wide;
  word = k.word;
  marked = λ f h. marked_later e e'
      (written_of fs f).word (written_of fs f).blocked le (k.marked f h);
}

-- who is inside entered after each epoch through which the pager has a frame drained, and does not hold that frame
not_held : (o : Option ℕ) → ((generation : ℕ) → o ≡ Some generation → ⊥) → o ≡ None
not_held None h = refl
not_held (Some generation) h = absurd (h generation refl)

past_drained : (count pager : ℕ) (l : Ledger) (fs : List Written) (before j : ℕ) (r : Role) → l.epoch ≡ before + 1
    → (l.is_empty ≡ true → role_at before r ≡ 0) → RoleFits count pager l fs before j r → IsPastDrained l fs r
past_drained count pager l fs before j (Pager m gs) up clear h = tt
past_drained count pager l fs before j (Processor p ps) up clear h = λ f b e d within.
    let which : (e ≡ l.epoch) ⊎ (e ≡ before) = subst (HasEpoch l.epoch before) within h.1 in
    let holding : AreHeld count fs (Some e) ps = subst (λ (o : Option ℕ). AreHeld count fs o ps) within h.2 in
    let old = d.tracked in
    let later : b < e = ⊎_elim
    (λ (t : e ≡ l.epoch). omega arith)
    (λ (t : e ≡ before). dite (ℕ_discrete (b + 1) l.epoch)
    (λ last.
    let zero = clear (d.empty last) in
    let one : is_at before p.epoch ≡ 1 = ap (is_at before) within ∙ ap one_if (eq-eqb e before t) in
    absurd (omega arith))
    (λ other. omega arith))
    which in
    (later, not_held (generation_of ps f) (λ g q. let until : e ≤ b = subst (IsUntil e) d.blocked (holding f g q).1.until in omega arith))

pub all_past_drained : (count pager : ℕ) (l : Ledger) (fs : List Written) (before n : ℕ) (ws : List ℕ) (vs : List View)
    → AreCounted l before n ws vs → ((j : ℕ) (v : View) → get_elem? vs j ≡ some v → RoleFits count pager l fs before j v.role)
    → (j : ℕ) (v : View) → get_elem? vs j ≡ some v → IsPastDrained l fs v.role
all_past_drained count pager l fs before n ws vs counted each j v at =
    past_drained count pager l fs before j v.role counted.epoch (λ z. none_each (inside_at before) vs j v (counted.empty z) at)
    (each j v at)

-- a step of a processor
proc_step : (count : ℕ) (s : Shared) (k : AreFramesKept count s) (id : ℕ) (v w : View) (p p' : Visit) (ps ps' : List Pair)
    (n : ℕ) (ws : List ℕ)
    → get_elem? s.views id ≡ some v → v.role ≡ Processor p ps → w.role ≡ Processor p' ps'
    → AreCounted k.ledger k.before n ws (set s.views id w) → AreWritten count k.ledger.epoch k.frames ws → p'.entries ≤ 134217728
    → HasEpoch k.ledger.epoch k.before p'.epoch → AreHeld count k.frames p'.epoch ps'
    → AreFramesKept count record { words = ws; homes = s.homes; views = set s.views id w }
proc_step count s k id v w p p' ps ps' n ws at is isw counts framed few which holding =
    let other : k.pager ≢ id = apart s.views k.pager id k.there.0 v k.ledger k.frames p ps k.there.1 k.there.2 at is in
    let each : (j : ℕ) (u : View) → get_elem? (set s.views id w) j ≡ some u → RoleFits count k.pager k.ledger k.frames k.before j u.role =
    each_set (λ j u. RoleFits count k.pager k.ledger k.frames k.before j u.role) s.views id w
    (subst (RoleFits count k.pager k.ledger k.frames k.before id) (sym isw) (few, which, holding)) (λ j u _ e. k.each j u e) in
    record {
      pager = k.pager;
      ledger = k.ledger;
      frames = k.frames;
      before = k.before;
      entries = n;
      there = (k.there.0, set_else s.views id k.pager w other ∙ k.there.1, k.there.2);
      counted = counts;
      written = framed;
      each = each;
      drained = all_past_drained count k.pager k.ledger k.frames k.before n ws (set s.views id w) counts each;
    }

-- what the rule says of the seat of a processor
proc_stands : (count : ℕ) (s : Shared) (k : AreFramesKept count s) (id : ℕ) (v : View) (p : Visit) (ps : List Pair)
    → get_elem? s.views id ≡ some v → v.role ≡ Processor p ps → RoleFits count k.pager k.ledger k.frames k.before id (Processor p ps)
proc_stands count s k id v p ps at is = subst (RoleFits count k.pager k.ledger k.frames k.before id) is (k.each id v at)

pub enters : (count slots id : ℕ) (me : Seat) (e : ℕ) (ps : List Pair) → me.0.role ≡ Processor (visit e None) ps → e < 134217728 → Allows
    (AreFramesKept count) slots id me 0 (λ n. (n + 1) % 2 ^ 64) (Enters (step slots 0 1 0 none) me)
enters count slots id me e ps is room s k _ at fits =
    let w0 : ℕ = get_or s.words 0 0 in
    let most = few_entries count s k in
    let word : w0 ≡ k.ledger.epoch * 4294967296 + k.entries = k.counted.word in
    let small : w0 < 18446744073709551616 = fits in
    let epoch : w0 / 4294967296 ≡ k.ledger.epoch = omega arith in
    let new : (w0 + 1) % 18446744073709551616 ≡ k.ledger.epoch * 4294967296 + (k.entries + 1) = omega arith in
    let w : View = view (Processor (visit (e + 1) (Some k.ledger.epoch)) []) (after_step me.0.counter) in (
      w,
      keeps,
      tt,
      proc_step count s k id me.0 w _ _ _ _ (k.entries + 1) (set s.words 0 ((w0 + 1) % 18446744073709551616)) at is refl
          (enter_counts k.ledger k.before k.entries _ s.words s.views id e me.0 w ps [] k.counted at is refl new)
          (frames_still count k.ledger.epoch 0 _ k.frames s.words k.written (omega arith)) (omega arith) (inl refl) (λ f g h. absurd (cc)),
      (λ i. view (role_entered (sym is i) (sym epoch i)) (after_step me.0.counter)),
    )

pub leaves_gate : (count slots id : ℕ) (me : Seat) (m e : ℕ) (ps : List Pair) → me.0.role ≡ Processor (visit m (Some e)) ps → Allows
    (AreFramesKept count) slots id me (leave_word e) (λ n. (n + 1) % 2 ^ 64) (Leaves (step slots (leave_word e) 1 0 none) me)
leaves_gate count slots id me m e ps is s k _ at fits =
    let x : ℕ = get_or s.words (leave_word e) 0 in
    let l : Ledger = k.ledger in
    let stands = proc_stands count s k id me.0 (visit m (Some e)) ps at is in
    let most = few_entries count s k in
    let v_here : inside_at e me.0 ≡ 1 = ap (role_at e) is ∙ at_itself e in
    let below : x < 4294967296 = ⊎_elim
    (λ (t : e ≡ l.epoch). let a : total (inside_at e) s.views + x ≡ k.entries = subst
    (λ (y : ℕ). total (inside_at y) s.views + get_or s.words (leave_word y) 0 ≡ k.entries) (sym t) k.counted.inside in omega arith)
    (λ (t : e ≡ k.before).
    let a : 1 ≤ total (inside_at e) s.views = let b = one_of (inside_at e) s.views id me.0 at in omega arith in
    let a' : 1 ≤ total (inside_at k.before) s.views = subst (λ (y : ℕ). 1 ≤ total (inside_at y) s.views) t a in
    let kept : l.is_set_back ≡ false =
    false_from_ne_true l.is_set_back (λ z. let b = k.counted.empty (k.counted.set_back z).0 in omega arith) in
    let b : total (inside_at e) s.views + x ≡ l.kept = subst
    (λ (y : ℕ). total (inside_at y) s.views + get_or s.words (leave_word y) 0 ≡ l.kept) (sym t) (k.counted.older kept) in
    let c = k.counted.limited in
    omega arith)
    stands.1 in
    let new : (x + 1) % 18446744073709551616 ≡ x + 1 = omega arith in
    let w : View = view (Processor (visit m None) []) (after_step me.0.counter) in (
      w,
      keeps,
      tt,
      proc_step count s k id me.0 w _ _ _ _ k.entries (set s.words (leave_word e) ((x + 1) % 18446744073709551616)) at is refl
          (leave_counts l k.before k.entries _ e m s.words s.views id me.0 w ps [] k.counted at is refl new stands.1)
          (frames_still count l.epoch (leave_word e) _ k.frames s.words k.written (omega arith)) stands.0 tt tt,
      (λ i. view (role_left (sym is i)) (after_step me.0.counter)),
    )

-- frames

-- where the first pair is not the one
pass : {y : Option ℕ} (b : Bool) (x : ℕ) (o o' : Option ℕ) → cond b (Some x) o ≡ None → (o ≡ None → o' ≡ y) → cond b (Some x) o' ≡ y
pass true x o o' h f = absurd (cc)
pass false x o o' h f = f h

by_test : {R : Type 0} (b : Bool) (x o o' y : Option ℕ) → (o' ≡ y → (o ≡ y) ⊎ R) → cond b x o' ≡ y → (cond b x o ≡ y) ⊎ R
by_test true x o o' y f h = inl h
by_test false x o o' y f h = f h

held_snoc : (ps : List Pair) (f g f' g' : ℕ) → generation_of (ps ++ pair f g ∷ []) f' ≡ Some g' → (generation_of ps f' ≡ Some g') ⊎
    ((f ≡ f') × (g ≡ g'))
held_snoc [] f g f' g' h = dite (ℕ_discrete f f')
    (λ e. let P : Bool → Type 0 = λ b. cond b (Some g) None ≡ Some g' in let h' : Some g ≡ Some g' = subst P (eq-eqb f f' e) h in inr
    (e, cc))
    (λ n. let P : Bool → Type 0 = λ b. cond b (Some g) None ≡ Some g' in let h' : None ≡ Some g' = subst P (ne_eqb f f' n) h in absurd (cc))
held_snoc (q ∷ qs) f g f' g' h = by_test (q.frame == f') _ _ _ _ (held_snoc qs f g f' g') h

-- a frame that is not blocked may be held at any epoch
until_free : (epoch e w : ℕ) (b : Option ℕ) → IsMarked epoch w b → w % 4 ≡ 1 → IsUntil e b
until_free epoch e w None m h = tt
until_free epoch e w (Some b) m h = let a = m.0 in absurd (omega arith)

module _ (count epoch e : ℕ) (fs : List Written) (f found : ℕ) (inside : f < count) (is : found ≡ (written_of fs f).word)
    (marked : IsMarked epoch (written_of fs f).word (written_of fs f).blocked) where
  one_more : (ps : List Pair) → AreHeld count fs (Some e) ps → found % 4 ≡ 1 → AreHeld count fs (Some e) (ps ++ pair f (found / 4) ∷ [])
  one_more ps h one f' g' q = ⊎_elim (λ (t : generation_of ps f' ≡ Some g'). h f' g' t)
      (λ (t : (f ≡ f') × (found / 4 ≡ g')). subst (λ (z : ℕ × ℕ). (z.0 < count) × CanHold e z.1 (written_of fs z.0)) (λ i. (t.0 i, t.1 i)) (
        inside,
        record {
          generation = ap (λ (x : ℕ). x / 4) (sym is);
          not_free = omega arith;
          until = until_free epoch e
              (written_of fs f).word (written_of fs f).blocked marked (ap (λ (x : ℕ). x % 4) (sym is) ∙ one);
        },
      ))
      (held_snoc ps f (found / 4) f' g' q)

  put_holds : (ps : List Pair) (o : Option ℕ) → AreHeld count fs (Some e) ps → AreHeld count fs (Some e) (put ps o f found)
  put_holds ps (Some g) h = h
  put_holds ps None h = dite (ℕ_discrete (found % 4) 1)
      (λ one. subst (λ (b : Bool). AreHeld count fs (Some e) (cond b (ps ++ pair f (found / 4) ∷ []) ps)) (sym (eq-eqb (found % 4) 1 one))
      (one_more ps h one))
      (λ no. subst (λ (b : Bool). AreHeld count fs (Some e) (cond b (ps ++ pair f (found / 4) ∷ []) ps)) (sym (ne_eqb (found % 4) 1 no)) h)

-- a frame's word has no fourth state
three_states : (epoch w : ℕ) (o : Option ℕ) → IsMarked epoch w o → w % 4 ≤ 2
three_states epoch w None m = omega arith
three_states epoch w (Some b) m = let blocked = m.0 in omega arith

-- no sum sees a change that leaves epoch and entries
pub same_sums : (g : Role → ℕ) (vs : List View) (id : ℕ) (v w : View) → get_elem? vs id ≡ some v → g w.role ≡ g v.role → total
    (λ (u : View). g u.role) (set vs id w) ≡ total (λ (u : View). g u.role) vs
same_sums g vs id v w at a = let c = sum_set (λ (u : View). g u.role) vs id v w at in omega arith

module _ (count slots id : ℕ) (me : Seat) (p : Visit) (ps : List Pair) (e f i : ℕ) (is : me.0.role ≡ Processor p ps)
    (within : p.epoch ≡ Some e) (low : f < count) (place : i ≡ frame_word f) where
  meets : (s : Shared) (k : AreFramesKept count s) → get_elem? s.views id ≡ some me.0 → Meets me.0.role f (get_or s.words i 0)
  meets s k at g h =
      let stands = proc_stands count s k id me.0 p ps at is in
      let holding : AreHeld count k.frames (Some e) ps = subst (λ (o : Option ℕ). AreHeld count k.frames o ps) within stands.2 in
      let found : get_or s.words i 0 ≡ (written_of k.frames f).word = ap (λ (j : ℕ). get_or s.words j 0) place ∙ k.written.word f low in
      ap (λ (x : ℕ). x / 4) found ∙ (holding f g (ap (λ (r : Role). role_holds r f) (sym is) ∙ h)).1.generation

  -- a load by which the pairs become ps'
  looks : (s : Shared) (k : AreFramesKept count s) (ps' : List Pair) (x : Counter) → get_elem? s.views id ≡ some me.0
      → AreHeld count k.frames
      (Some e) ps' → AreFramesKept count (stepped s i (get_or s.words i 0) id me.1 (view (Processor p ps') x) keeps)
  looks s k ps' x at holding =
      let w : View = view (Processor p ps') x in
      let stands = proc_stands count s k id me.0 p ps at is in
      let sums : (y : ℕ) → total (inside_at y) (set s.views id w) ≡ total (inside_at y) s.views = λ y. same_sums
      (role_at y) s.views id me.0 w at (sym (ap (role_at y) is)) in
      let seats = same_sums role_seats s.views id me.0 w at (sym (ap role_seats is)) in
      let made = same_sums role_entries s.views id me.0 w at (sym (ap role_entries is)) in
      let counts : AreCounted k.ledger k.before k.entries s.words (set s.views id w) = subst
      (λ (ws : List ℕ). AreCounted k.ledger k.before k.entries ws (set s.views id w)) (set-get_or s.words i 0)
      (still_counts k.ledger k.before k.entries i (get_or s.words i 0) s.words s.views (set s.views id w) k.counted
      (omega arith) sums seats made) in
      subst (λ (ws : List ℕ). AreFramesKept count record { words = ws; homes = s.homes; views = set s.views id w })
      (sym (set-get_or s.words i 0))
      (proc_step count s k id me.0 w p p ps ps' k.entries s.words at is refl counts k.written stands.0 stands.1
      (subst (λ (o : Option ℕ). AreHeld count k.frames o ps') (sym within) holding))

  pub fills : Allows (AreFramesKept count) slots id me i (λ n. n) (Fills (step slots i 0 0 none) me)
  fills s k _ at _ =
      let r : ℕ = get_or s.words i 0 in
      let stands = proc_stands count s k id me.0 p ps at is in
      let holding : AreHeld count k.frames (Some e) ps = subst (λ (o : Option ℕ). AreHeld count k.frames o ps) within stands.2 in
      let found : r ≡ (written_of k.frames f).word = ap (λ (j : ℕ). get_or s.words j 0) place ∙ k.written.word f low in
      let back : f ≡ i - 3 = omega arith in
      let x : Counter = after_load me.0.counter i r in (
        view (Processor p (filled ps f r)) x,
        keeps,
        tt,
        looks s k (filled ps f r) x at (put_holds count k.ledger.epoch e k.frames f r low found (k.written.marked f low) ps
            (generation_of ps f) holding),
        (
          (λ j. view (role_filled (sym is j) (back j) r) x),
          subst (λ (j : ℕ). Meets me.0.role j r) back (meets s k at),
          subst (λ (z : ℕ). z % 4 ≤ 2) (sym found) (three_states k.ledger.epoch _ _ (k.written.marked f low)),
        ),
      )

  pub touches : Allows (AreFramesKept count) slots id me i (λ n. n) (Touches (step slots i 0 0 none) me)
  touches s k _ at _ =
      let r : ℕ = get_or s.words i 0 in
      let stands = proc_stands count s k id me.0 p ps at is in
      let holding : AreHeld count k.frames (Some e) ps = subst (λ (o : Option ℕ). AreHeld count k.frames o ps) within stands.2 in
      let back : f ≡ i - 3 = omega arith in
      let x : Counter = after_load me.0.counter i r in (
        view (Processor p ps) x,
        keeps,
        tt,
        looks s k ps x at holding,
        ((λ j. view (sym is j) x), subst (λ (j : ℕ). Meets me.0.role j r) back (meets s k at)),
      )

pub is_inside : (o : Option ℕ) → o ≢ None → (e : ℕ) × (o ≡ Some e)
is_inside None h = absurd (h refl)
is_inside (Some e) h = (e, refl)

-- who holds a frame is inside
pub holder : (o : Option ℕ) (ps : List Pair) (f : ℕ) → (o ≡ None → ps ≡ []) → generation_of ps f ≢ None → (e : ℕ) × (o ≡ Some e)
holder o ps f h has = is_inside o (λ z. has (ap (λ (l : List Pair). generation_of l f) (h z)))

-- a look that found the frame held, which the seat did not hold
pub filled_new : (ps : List Pair) (f found : ℕ) → generation_of ps f ≡ None → found % 4 ≡ 1
    → filled ps f found ≡ ps ++ pair f (found / 4) ∷ []
filled_new ps f found new one = ap (λ (o : Option ℕ). put ps o f found) new
    ∙ ap (λ (b : Bool). cond b (ps ++ pair f (found / 4) ∷ []) ps) (eq-eqb (found % 4) 1 one)

pub held_new : (ps : List Pair) (f g : ℕ) → generation_of ps f ≡ None → generation_of (ps ++ pair f g ∷ []) f ≡ Some g
held_new [] f g h = ap (λ (b : Bool). cond b (Some g) None) (eq-eqb f f refl)
held_new (q ∷ qs) f g h = pass (q.frame == f) _ _ _ h (held_new qs f g)

pub none_of : (o : Option ℕ) → is_some o ≡ false → o ≡ None
none_of None h = refl
none_of (Some x) h = absurd (true≢false h)
