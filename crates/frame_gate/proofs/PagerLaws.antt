-- Each step of the pager keeps the rule.
use Rattle.std.proofs.Common.{◌≡◌, ◌≢◌, ◌⊎◌, inr, ℕ, zero, suc, ◌+◌, ◌-◌, ◌*◌, ◌%◌, ◌<◌, ◌≤◌}
use Rattle.std.proofs.Common.{List, [], ◌∷◌, ◌++◌}
use Rattle.std.proofs.Common.{length, get_or, set, Bool, true, false, cond, true≢false, Option, Some, None, refl, sym}
use Rattle.std.proofs.Common.{ap, ◌∙◌, subst, ⊎_elim, arith, length-set, get_or-set_same, get_or-set_other, eq-eqb, ne_eqb}
use Rattle.std.specs.Prelude.{◌==◌}
use Rattle.std.proofs.lemmas.List.{set-get_or}
use Rattle.std.proofs.lemmas.Bool.{false_from_ne_true}
use mathlib.Core.Logic.{dite}
use mathlib.Core.Option.{none, some}
use native.Mathlib.Decide.{ℕ_discrete}
use lib.ListN.{get_elem?}
use Rattle.atomic_table.specs.Table.{step, keeps, Allows, Splits}
use Rattle.atomic_table.proofs.Lists.{set_here, at_longer, at_snoc}
use Rattle.frame_gate.specs.declared.view.View.{View}
use Rattle.frame_gate.specs.declared.view.Counter.{Counter}
use Rattle.frame_gate.specs.declared.view.Ledger.{Ledger}
use Rattle.frame_gate.specs.declared.view.Visit.{Visit}
use Rattle.frame_gate.specs.declared.view.Pair.{Pair}
use Rattle.frame_gate.specs.declared.view.Written.{Written}
use Rattle.frame_gate.specs.declared.view.Role.{Role}
use Rattle.frame_gate.specs.declared.view.Role.TheVariants.{Pager, Processor}
use Rattle.frame_gate.specs.inner.Words.{TableId, leave_word, frame_word, free_word, held_word, blocked_word, generation_in}
use Rattle.frame_gate.specs.inner.Words.{IsFree, IsHeld}
use Rattle.frame_gate.specs.inner.Views.{IsDrained, view, after_step, after_load, ledger, emptied, settled}
use Rattle.frame_gate.specs.inner.Views.{set_back, tracked, written, untouched, written_of, role_settled}
use Rattle.frame_gate.specs.inner.Views.{role_set_back, role_tracked, blocked_by, role_wrote, role_split, newcomer}
use Rattle.frame_gate.specs.inner.Rule.{Shared, Seat, total, one_if, is_at, role_at, inside_at, role_entries}
use Rattle.frame_gate.specs.inner.Rule.{entries_of, role_seats, seats_of, AreCounted, IsMarked, AreWritten}
use Rattle.frame_gate.specs.inner.Rule.{HasEpoch, IsUntil, CanHold, AreHeld, RoleFits, AreFramesKept}
use Rattle.frame_gate.specs.inner.Rule.{Settles, SetsBack, Tracks, WritesFrame}
use Rattle.frame_gate.proofs.SumLaws.{inside, each_set, sum_snoc, sum_none, none_each}
use Rattle.frame_gate.proofs.CountLaws.{at_other, learn_counts, still_counts}
use Rattle.frame_gate.proofs.ProcessorLaws.{few_entries, frames_still, frames_later, same_sums, all_past_drained}

module _ (count : ℕ) where
  -- what a view under one ledger and its frames stands for under another
  abbrev Carries : Ledger → List Written → ℕ → Ledger → List Written → ℕ → Visit → List Pair → Type 0
  Carries l fs before l' fs' before' p ps = HasEpoch l.epoch before p.epoch → AreHeld count fs p.epoch ps
      → HasEpoch l'.epoch before' p.epoch × AreHeld count fs' p.epoch ps

  restand : (pager : ℕ) (l l' : Ledger) (fs fs' : List Written) (before before' j : ℕ) (r : Role) → j ≢ pager →
      ((p : Visit) (ps : List Pair) → r ≡ Processor p ps → Carries l fs before l' fs' before' p ps) → RoleFits count pager l fs before j r
      → RoleFits count pager l' fs' before' j r
  restand pager l l' fs fs' before before' j (Pager m gs) ne conv h = absurd (ne h.0)
  restand pager l l' fs fs' before before' j (Processor p ps) ne conv h = let a = conv p ps refl h.1 h.2 in (h.0, a.0, a.1)

  module _ (s : Shared) (k : AreFramesKept count s) (id : ℕ) (v w : View) (l : Ledger) (fs : List Written)
      (at : get_elem? s.views id ≡ some v)
      (is : v.role ≡ Pager l fs) where
    mine : (id ≡ k.pager) × (l ≡ k.ledger) × (fs ≡ k.frames)
    mine = subst (RoleFits count k.pager k.ledger k.frames k.before id) is (k.each id v at)

    pager_counts : AreCounted l k.before k.entries s.words s.views
    pager_counts = subst (λ (z : Ledger). AreCounted z k.before k.entries s.words s.views) (sym mine.1) k.counted

    pager_frames : AreWritten count l.epoch fs s.words
    pager_frames = subst (λ (z : ℕ × List Written). AreWritten count z.0 z.1 s.words) (λ i. ((sym mine.1 i).epoch, sym mine.2 i)) k.written

    others : (j : ℕ) (u : View) → get_elem? s.views j ≡ some u → RoleFits count id l fs k.before j u.role
    others j u e = subst (λ (z : ℕ × (Ledger × List Written)). RoleFits count z.0 z.1.0 z.1.1 k.before j u.role)
        (λ i. (sym mine.0 i, (sym mine.1 i, sym mine.2 i))) (k.each j u e)

    pager_step : (l' : Ledger) (fs' : List Written) (before' n : ℕ) (ws : List ℕ) → w.role ≡ Pager l' fs' → AreCounted l' before' n ws
        (set s.views id w) → AreWritten count l'.epoch fs' ws
        → ((j : ℕ) (u : View) (p : Visit) (ps : List Pair) → get_elem? s.views j ≡ some u → u.role ≡ Processor p ps
        → Carries l fs k.before l' fs' before' p ps) → AreFramesKept count record { words = ws; homes = s.homes; views = set s.views id w }
    pager_step l' fs' before' n ws isw counts framed conv =
        let each : (j : ℕ) (u : View) → get_elem? (set s.views id w) j ≡ some u → RoleFits count id l' fs' before' j u.role =
        each_set (λ j u. RoleFits count id l' fs' before' j u.role) s.views id w
        (subst (RoleFits count id l' fs' before' id) (sym isw) (refl, refl, refl))
        (λ j u ne e. restand id l l' fs fs' k.before before' j u.role ne (λ p ps q. conv j u p ps e q) (others j u e)) in
        record {
          pager = id;
          ledger = l';
          frames = fs';
          before = before';
          entries = n;
          there = (w, set_here s.views id w (inside s.views id v at), isw);
          counted = counts;
          written = framed;
          each = each;
          drained = all_past_drained count id l' fs' before' n ws (set s.views id w) counts each;
        }

    module _ (l' : Ledger) (fs' : List Written) (isw : w.role ≡ Pager l' fs') where
      sums_at : (x : ℕ) → total (inside_at x) (set s.views id w) ≡ total (inside_at x) s.views
      sums_at x = same_sums (role_at x) s.views id v w at (ap (role_at x) isw ∙ sym (ap (role_at x) is))

      sums_seats : total seats_of (set s.views id w) ≡ total seats_of s.views
      sums_seats = same_sums role_seats s.views id v w at (ap role_seats isw ∙ sym (ap role_seats is))

      sums_entries : total entries_of (set s.views id w) ≡ total entries_of s.views
      sums_entries = same_sums role_entries s.views id v w at (ap role_entries isw ∙ sym (ap role_entries is))

  same_epoch : (b : Bool) (l : Ledger) → (cond b (emptied l) l).epoch ≡ l.epoch
  same_epoch true l = refl
  same_epoch false l = refl

  pub settles : (slots id : ℕ) (me : Seat) (l : Ledger) (fs : List Written) (i : ℕ) → me.0.role ≡ Pager l fs → l.is_empty ≡ false
      → i ≡ leave_word (l.epoch - 1) → Allows (AreFramesKept count) slots id me i (λ n. n) (Settles (step slots i 0 0 none) me)
  settles slots id me l fs i is unknown word s k _ at _ =
      let r : ℕ = get_or s.words i 0 in
      let l' : Ledger = settled l r in
      let loads : Counter = after_load me.0.counter i r in
      let w : View = view (Pager l' fs) loads in
      let c = pager_counts s k id me.0 w l fs at is in
      let up = c.epoch in
      let here : i ≡ leave_word k.before = word ∙ ap leave_word (let P : l.epoch - 1 ≡ k.before = omega arith in P) in
      let kept : l.is_set_back ≡ false = false_from_ne_true l.is_set_back (λ z. true≢false (sym (c.set_back z).0 ∙ unknown)) in
      let sum : total (inside_at k.before) s.views + r ≡ l.kept = subst
      (λ (j : ℕ). total (inside_at k.before) s.views + get_or s.words j 0 ≡ l.kept) (sym here) (c.older kept) in
      let sums = sums_at s k id me.0 w l fs at is l' fs refl in
      let seats = sums_seats s k id me.0 w l fs at is l' fs refl in
      let made = sums_entries s k id me.0 w l fs at is l' fs refl in
      let counts : AreCounted l' k.before k.entries s.words (set s.views id w) = dite (ℕ_discrete r l.kept)
      (λ (e : r ≡ l.kept). subst (λ (b : Bool). AreCounted (cond b (emptied l) l) k.before k.entries s.words (set s.views id w))
      (sym (eq-eqb r l.kept e)) (learn_counts l k.before k.entries s.words s.views (set s.views id w) true c (λ _. omega arith)
      (λ _. refl) sums seats made))
      (λ (n : r ≢ l.kept). subst (λ (b : Bool). AreCounted (cond b (emptied l) l) k.before k.entries s.words (set s.views id w))
      (sym (ne_eqb r l.kept n))
      (learn_counts l k.before k.entries s.words s.views (set s.views id w) l.is_empty c c.empty
      (λ z. (c.set_back z).0) sums seats made)) in
      let same : l'.epoch ≡ l.epoch = same_epoch (r == l.kept) l in (
        w,
        keeps,
        tt,
        subst (λ (ws : List ℕ). AreFramesKept count record { words = ws; homes = s.homes; views = set s.views id w })
            (sym (set-get_or s.words i 0))
            (pager_step s k id me.0 w l fs at is l' fs k.before k.entries s.words refl counts
            (subst (λ (x : ℕ). AreWritten count x fs s.words) (sym same) (pager_frames s k id me.0 w l fs at is))
            (λ j u p ps _ _ h g. (subst (λ (x : ℕ). HasEpoch x k.before p.epoch) (sym same) h, g))),
        (λ t. view (role_settled (sym is t) r) loads),
      )

  pub sets_back : (slots id : ℕ) (me : Seat) (l : Ledger) (fs : List Written) (i : ℕ) → me.0.role ≡ Pager l fs → l.is_empty ≡ true
      → i ≡ leave_word (l.epoch - 1) → Allows (AreFramesKept count) slots id me i (λ _. 0) (λ _. SetsBack (step slots i 0 0 none) me 0)
  sets_back slots id me l fs i is clear word s k _ at _ =
      let l' : Ledger = set_back l in
      let w : View = view (Pager l' fs) (after_step me.0.counter) in
      let c = pager_counts s k id me.0 w l fs at is in
      let up = c.epoch in
      let wide = c.wide in
      let here : i ≡ leave_word k.before = word ∙ ap leave_word (let P : l.epoch - 1 ≡ k.before = omega arith in P) in
      let sums = sums_at s k id me.0 w l fs at is l' fs refl in
      let same_seats = sums_seats s k id me.0 w l fs at is l' fs refl in
      let same_entries = sums_entries s k id me.0 w l fs at is l' fs refl in
      let counts : AreCounted l' k.before k.entries (set s.words i 0) (set s.views id w) = record {
        wide = let a = length-set s.words i 0 in omega arith;
        epoch = up;
        word = get_or-set_other s.words i 0 0 0 (λ h. omega arith) ∙ c.word;
        inside = let a = sums l.epoch in let b = c.inside in let d = get_or-set_other s.words i (leave_word l.epoch) 0 0
            (λ h. omega arith) in omega arith;
        older = λ z. absurd (true≢false z);
        set_back = λ _. (clear, subst (λ (j : ℕ). get_or (set s.words i 0) j 0 ≡ 0) here (get_or-set_same s.words i 0 0 (omega arith)));
        empty = λ z. sums k.before ∙ c.empty z;
        seats = same_seats ∙ c.seats;
        few = c.few;
        made = let a = c.made in omega arith;
        limited = c.limited;
      } in (
        w,
        keeps,
        tt,
        pager_step s k id me.0 w l fs at is l' fs k.before k.entries (set s.words i 0) refl counts
            (frames_still count l.epoch i 0 fs s.words (pager_frames s k id me.0 w l fs at is) (omega arith)) (λ j u p ps _ _ h g. (h, g)),
        (λ t. view (role_set_back (sym is t)) (after_step me.0.counter)),
      )

  -- of a view that is not inside with the epoch before
  one_left : (epoch before : ℕ) (e : Option ℕ) → is_at before e ≡ 0 → HasEpoch epoch before e → HasEpoch (epoch + 1) epoch e
  one_left epoch before None z h = tt
  one_left epoch before (Some x) z h = ⊎_elim (λ (t : x ≡ epoch). inr t)
      (λ (t : x ≡ before). let a : is_at before (Some x) ≡ 1 = ap one_if (eq-eqb x before t) in absurd (omega arith)) h

  none_at : (epoch before : ℕ) → epoch ≡ before + 1 → (e : Option ℕ) → HasEpoch epoch before e → is_at (epoch + 1) e ≡ 0
  none_at epoch before up None h = refl
  none_at epoch before up (Some x) h = at_other (epoch + 1) x
      (λ e. ⊎_elim (λ (t : x ≡ epoch). omega arith) (λ (t : x ≡ before). omega arith) h)

  -- no processor is inside with an epoch that has not begun
  none_next : (pager : ℕ) (l : Ledger) (fs : List Written) (before j : ℕ) (r : Role) → l.epoch ≡ before + 1
      → RoleFits count pager l fs before j r → role_at (l.epoch + 1) r ≡ 0
  none_next pager l fs before j (Pager m gs) up h = refl
  none_next pager l fs before j (Processor p ps) up h = none_at l.epoch before up p.epoch h.1

  pub tracks : (slots id : ℕ) (me : Seat) (l : Ledger) (fs : List Written) (new : ℕ) → me.0.role ≡ Pager l fs → l.is_set_back ≡ true
      → new ≡ (l.epoch + 1) * 4294967296 → Allows (AreFramesKept count) slots id me 0 (λ _. new) (Tracks (step slots 0 new 0 none) me)
  tracks slots id me l fs new is back now s k _ at _ =
      let w0 : ℕ = get_or s.words 0 0 in
      let l' : Ledger = tracked l (w0 % 4294967296) in
      let w : View = view (Pager l' fs) (after_step me.0.counter) in
      let c = pager_counts s k id me.0 w l fs at is in
      let up = c.epoch in
      let wide = c.wide in
      let few = few_entries count s k in
      let word : w0 ≡ l.epoch * 4294967296 + k.entries = c.word in
      let n : w0 % 4294967296 ≡ k.entries = omega arith in
      let sums = sums_at s k id me.0 w l fs at is l' fs refl in
      let same_seats = sums_seats s k id me.0 w l fs at is l' fs refl in
      let gone = c.set_back back in
      let next : total (inside_at (l.epoch + 1)) s.views ≡ 0 = sum_none (inside_at (l.epoch + 1)) s.views
      (λ j u e. none_next id l fs k.before j u.role up (others s k id me.0 w l fs at is j u e)) in
      let none_old = c.empty gone.0 in
      let turn : leave_word (l.epoch + 1) ≡ leave_word k.before = omega arith in
      let counts : AreCounted l' l.epoch 0 (set s.words 0 new) (set s.views id w) = record {
        wide = let a = length-set s.words 0 new in omega arith;
        epoch = refl;
        word = get_or-set_same s.words 0 new 0 (omega arith) ∙ now ∙ omega arith;
        inside = let a = sums (l.epoch + 1) in let b = get_or-set_other s.words 0 (leave_word (l.epoch + 1)) new 0
            (λ h. omega arith) in let d : get_or s.words (leave_word (l.epoch + 1)) 0 ≡ 0 = ap (λ (i : ℕ). get_or s.words i 0) turn
            ∙ gone.1 in omega arith;
        older = λ _. let a = sums l.epoch in let b = get_or-set_other s.words 0 (leave_word l.epoch) new 0
            (λ h. omega arith) in let d = c.inside in omega arith;
        set_back = λ z. absurd (true≢false (sym z));
        empty = λ z. absurd (true≢false (sym z));
        seats = same_seats ∙ c.seats;
        few = c.few;
        made = omega arith;
        limited = omega arith;
      } in (
        w,
        keeps,
        tt,
        pager_step s k id me.0 w l fs at is l' fs l.epoch 0 (set s.words 0 new) refl counts
            (frames_still count (l.epoch + 1) 0 new fs s.words
            (frames_later count l.epoch (l.epoch + 1) fs s.words (omega arith) (pager_frames s k id me.0 w l fs at is)) (omega arith))
            (λ j u p ps e q h g. (
              one_left l.epoch k.before p.epoch
                  (sym (ap (role_at k.before) q) ∙ none_each (inside_at k.before) s.views j u none_old e) h,
              g,
            )),
        (λ t. view (role_tracked (sym is t) (w0 % 4294967296)) (after_step me.0.counter)),
      )

  pub splits : (id : ℕ) (v : View) (l : Ledger) (fs : List Written) → v.role ≡ Pager l fs → l.seats < 16 → Splits (AreFramesKept count) id v
      (view (role_split v.role) v.counter) newcomer
  splits id v l fs is room s k at =
      let l' : Ledger = ledger (l.seats + 1) l.epoch l.kept l.is_empty l.is_set_back in
      let w : View = view (role_split v.role) v.counter in
      let isw : w.role ≡ Pager l' fs = ap role_split is in
      let c = pager_counts s k id v w l fs at is in
      let vs : List View = set s.views id w in
      let all : List View = vs ++ newcomer ∷ [] in
      let sums : (x : ℕ) → total (inside_at x) all ≡ total (inside_at x) s.views = λ x.
      let a = sums_at s k id v w l fs at is l' fs isw x in
      let b = sum_snoc (inside_at x) vs newcomer in
      omega arith in
      let more : total seats_of all ≡ total seats_of s.views + 1 =
      let a = sums_seats s k id v w l fs at is l' fs isw in
      let b = sum_snoc seats_of vs newcomer in
      omega arith in
      let made : total entries_of all ≡ total entries_of s.views =
      let a = sums_entries s k id v w l fs at is l' fs isw in
      let b = sum_snoc entries_of vs newcomer in
      omega arith in
      let counted : AreCounted l' k.before k.entries s.words all = record {
        wide = c.wide;
        epoch = c.epoch;
        word = c.word;
        inside = let a = sums l.epoch in let b = c.inside in omega arith;
        older = λ z. let a = sums k.before in let b = c.older z in omega arith;
        set_back = c.set_back;
        empty = λ z. sums k.before ∙ c.empty z;
        seats = let a = c.seats in omega arith;
        few = omega arith;
        made = let a = c.made in omega arith;
        limited = c.limited;
      } in
      let each : (j : ℕ) (u : View) → get_elem? all j ≡ some u → RoleFits count id l' fs k.before j u.role = λ j u e. ⊎_elim
      (λ (t : get_elem? vs j ≡ some u).
      each_set (λ j u. RoleFits count id l' fs k.before j u.role) s.views id w
      (subst (RoleFits count id l' fs k.before id) (sym isw) (refl, refl, refl))
      (λ j u ne e. restand id l l' fs fs k.before k.before j u.role ne (λ p ps q h g. (h, g)) (others s k id v w l fs at is j u e)) j u t)
      (λ (t : newcomer ≡ u). subst (λ (z : View). RoleFits count id l' fs k.before j z.role) t (omega arith, tt, tt))
      (at_snoc vs newcomer u j e) in
      record {
        pager = id;
        ledger = l';
        frames = fs;
        before = k.before;
        entries = k.entries;
        there = (w, at_longer vs (newcomer ∷ []) id w (set_here s.views id w (inside s.views id v at)), isw);
        counted = counted;
        written = pager_frames s k id v w l fs at is;
        each = each;
        drained = all_past_drained count id l' fs k.before k.entries s.words all counted each;
      }

  -- frames

  -- what a view holds of a frame stays so under the frame's new word
  abbrev Survives : Ledger → List Written → ℕ → Written → Type 0
  Survives l fs f x = (before e g : ℕ) → l.epoch ≡ before + 1 → (e ≡ l.epoch) ⊎ (e ≡ before) → (l.is_empty ≡ true → e ≢ before)
      → CanHold e g (written_of fs f) → CanHold e g x

  frames_set : (e f i word : ℕ) (b : Option ℕ) (fs : List Written) (ws : List ℕ) → AreWritten count e fs ws → f < count → i ≡ frame_word f
      → IsMarked e word b → AreWritten count e (set fs f (written word b)) (set ws i word)
  frames_set e f i word b fs ws k low place marked = let all = k.all in let wide = k.wide in record {
    all = length-set fs f (written word b) ∙ k.all;
    wide = length-set ws i word ∙ k.wide;
    word = λ f' h. dite (ℕ_discrete f' f)
        (λ (q : f' ≡ f). subst (λ (z : ℕ). get_or (set ws i word) (frame_word z) 0 ≡ (written_of (set fs f (written word b)) z).word)
        (sym q)
        (subst (λ (z : ℕ). get_or (set ws i word) z 0 ≡ (written_of (set fs f (written word b)) f).word) place
        (get_or-set_same ws i word 0 (omega arith) ∙ sym
        (ap (λ (z : Written). z.word) (get_or-set_same fs f (written word b) untouched (omega arith))))))
        (λ (q : f' ≢ f). get_or-set_other ws i (frame_word f') word 0 (λ z. q (omega arith)) ∙
        (k.word f' h ∙ sym (ap (λ (z : Written). z.word) (get_or-set_other fs f f' (written word b) untouched q))));
    marked = λ f' h. dite (ℕ_discrete f' f)
        (λ (q : f' ≡ f). subst (λ (z : Written). IsMarked e z.word z.blocked)
        (sym (ap (written_of (set fs f (written word b))) q ∙ get_or-set_same fs f (written word b) untouched (omega arith))) marked)
        (λ (q : f' ≢ f). subst (λ (z : Written). IsMarked e z.word z.blocked)
        (sym (get_or-set_other fs f f' (written word b) untouched q)) (k.marked f' h));
  }

  holding_set : (l : Ledger) (before f : ℕ) (fs : List Written) (x : Written) (o : Option ℕ) (ps : List Pair) → f < length fs
      → l.epoch ≡ before + 1 → Survives l fs f x → (l.is_empty ≡ true → is_at before o ≡ 0) → HasEpoch l.epoch before o
      → AreHeld count fs o ps
      → AreHeld count (set fs f x) o ps
  holding_set l before f fs x None ps low up conv clear which h = tt
  holding_set l before f fs x (Some e) ps low up conv clear which h = λ f' g q.
      let old = h f' g q in
      let apart : l.is_empty ≡ true → e ≢ before = λ z t. let a = clear z in let b : is_at before (Some e) ≡ 1 = ap one_if
      (eq-eqb e before t) in omega arith in (
        old.0,
        dite (ℕ_discrete f' f)
            (λ (t : f' ≡ f). subst (CanHold e g) (sym (ap (written_of (set fs f x)) t ∙ get_or-set_same fs f x untouched low))
            (conv before e g up which apart (subst (λ (z : ℕ). CanHold e g (written_of fs z)) t old.1)))
            (λ (n : f' ≢ f). subst (CanHold e g) (sym (get_or-set_other fs f f' x untouched n)) old.1),
      )

  pub writes_frame : (slots id : ℕ) (me : Seat) (l : Ledger) (fs : List Written) (f i word : ℕ) → me.0.role ≡ Pager l fs → f < count
      → i ≡ frame_word f → IsMarked l.epoch word (blocked_by l.epoch word) → Survives l fs f (written word (blocked_by l.epoch word))
      → Allows (AreFramesKept count) slots id me i (λ _. word) (WritesFrame (step slots i word 0 none) me)
  writes_frame slots id me l fs f i word is low place marked conv s k _ at _ =
      let b : Option ℕ = blocked_by l.epoch word in
      let fs' : List Written = set fs f (written word b) in
      let w : View = view (Pager l fs') (after_step me.0.counter) in
      let c = pager_counts s k id me.0 w l fs at is in
      let up = c.epoch in
      let framed = pager_frames s k id me.0 w l fs at is in
      let all = framed.all in
      let sums = sums_at s k id me.0 w l fs at is l fs' refl in
      let seats = sums_seats s k id me.0 w l fs at is l fs' refl in
      let made = sums_entries s k id me.0 w l fs at is l fs' refl in
      let back : f ≡ i - 3 = omega arith in (
        w,
        keeps,
        tt,
        pager_step s k id me.0 w l fs at is l fs' k.before k.entries (set s.words i word) refl
            (still_counts l k.before k.entries i word s.words s.views (set s.views id w) c (omega arith) sums seats made)
            (frames_set l.epoch f i word b fs s.words framed low place marked)
            (λ j u p ps e q h g. (
              h,
              holding_set l k.before f fs (written word b) p.epoch ps (omega arith) up conv
                  (λ z. sym (ap (role_at k.before) q) ∙ none_each (inside_at k.before) s.views j u (c.empty z) e) h g,
            )),
        (λ t. view (role_wrote (sym is t) (back t) word) (after_step me.0.counter)),
      )

  up_to : (b : Bool) (e epoch : ℕ) → e ≤ epoch → IsUntil e (cond b (Some epoch) None)
  up_to true e epoch h = h
  up_to false e epoch h = tt

  -- a word that is not blocked
  marked_open : (epoch word : ℕ) → word % 4 < 2 → IsMarked epoch word (blocked_by epoch word)
  marked_open epoch word h = subst (λ (b : Bool). IsMarked epoch word (cond b (Some epoch) None))
      (sym (ne_eqb (word % 4) 2 (λ q. omega arith))) h

  marked_blocked : (epoch word : ℕ) → word % 4 ≡ 2 → IsMarked epoch word (blocked_by epoch word)
  marked_blocked epoch word h = subst (λ (b : Bool). IsMarked epoch word (cond b (Some epoch) None)) (sym (eq-eqb (word % 4) 2 h))
      (h, omega arith)

  pub blocks : (slots id : ℕ) (me : Seat) (l : Ledger) (fs : List Written) (f i word : ℕ) → me.0.role ≡ Pager l fs → f < count
      → i ≡ frame_word f → IsHeld (written_of fs f).word → word ≡ blocked_word (generation_in (written_of fs f).word)
      → Allows (AreFramesKept count) slots id me i (λ _. word) (WritesFrame (step slots i word 0 none) me)
  blocks slots id me l fs f i word is low place taken new = writes_frame slots id me l fs f i word is low place
      (marked_blocked l.epoch word (omega arith))
      (λ before e g up which _ h. record {
        generation = let a = h.generation in omega arith;
        not_free = omega arith;
        until = up_to (word % 4 == 2) e l.epoch (⊎_elim (λ (t : e ≡ l.epoch). omega arith) (λ (t : e ≡ before). omega arith) which);
      })

  pub places : (slots id : ℕ) (me : Seat) (l : Ledger) (fs : List Written) (f i word : ℕ) → me.0.role ≡ Pager l fs → f < count
      → i ≡ frame_word f → IsFree (written_of fs f).word → word ≡ held_word (generation_in (written_of fs f).word + 1)
      → Allows (AreFramesKept count) slots id me i (λ _. word) (WritesFrame (step slots i word 0 none) me)
  places slots id me l fs f i word is low place empty new = writes_frame slots id me l fs f i word is low place
      (marked_open l.epoch word (omega arith)) (λ before e g up which _ h. let a = h.not_free in absurd (omega arith))

  pub frees : (slots id : ℕ) (me : Seat) (l : Ledger) (fs : List Written) (f i word b : ℕ) → me.0.role ≡ Pager l fs → f < count
      → i ≡ frame_word f → word ≡ free_word (generation_in (written_of fs f).word) → IsDrained l (written_of fs f) b
      → Allows (AreFramesKept count) slots id me i (λ _. word) (WritesFrame (step slots i word 0 none) me)
  frees slots id me l fs f i word b is low place new drained = writes_frame slots id me l fs f i word is low place
      (marked_open l.epoch word (omega arith))
      (λ before e g up which apart h.
      let until : e ≤ b = subst (IsUntil e) drained.blocked h.until in
      let old = drained.tracked in
      ⊎_elim (λ (t : e ≡ l.epoch). absurd (omega arith)) (λ (t : e ≡ before). absurd (apart (drained.empty (omega arith)) t)) which)

any_else : (l : List Written) (i : ℕ) (d e : Written) → i < length l → get_or l i d ≡ get_or l i e
any_else [] i d e h = absurd (omega arith)
any_else (x ∷ xs) zero d e h = refl
any_else (x ∷ xs) (suc i) d e h = any_else xs i d e (omega arith)

-- a frame of the gate is among those of the pager, and what it looks up there is what it has written for the frame
pub at_frame : (gate seat : TableId) (count f : ℕ) (fs : List Written) (x d : Written) → gate.words ≡ 3 + count → seat ≡ gate
    → 3 + length fs ≡ seat.words → 3 + f < gate.words → x ≡ get_or fs f d → (f < count) × (x ≡ written_of fs f)
at_frame gate seat count f fs x d wide here all low is =
    let same : seat.words ≡ gate.words = ap (λ (t : TableId). t.words) here in
    (omega arith, is ∙ any_else fs f d untouched (omega arith))
