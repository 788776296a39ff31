-- The slots of the version array pages that frames hold: which are busy, and which versions they have, whatever records are brought.
use Rattle.std.proofs.Common.{◌≡◌, ℕ, ◌<◌, ◌==◌, ◌&&◌, ◌||◌, Bool, true, false, cond, refl, sym, ap, ◌∙◌, subst}
use Rattle.std.proofs.Common.{Some, List, ◌∷◌, IfSome, get_or, nat_le, arith, ⊎_elim}
use Rattle.std.proofs.lemmas.Bool.{eqb-true, eq-eqb, false≢true, leb-false, leb-true, or_right}
use Rattle.std.proofs.lemmas.List.FromFn.{get_or-map-range_with_len}
use Rattle.sgx_rules.specs.declared.entries.Action.TheVariants.{Ewb, Eld}
use Rattle.sgx_types.specs.declared.names.Actor.{Actor}
use Rattle.sgx_rules.specs.declared.entries.Answer.TheVariants.{Moved}
use Rattle.sgx_rules.specs.declared.entries.Entry.{Entry}
use Rattle.sgx_rules.specs.declared.entries.Event.TheVariants.{Did}
use Rattle.sgx_types.specs.declared.names.Frame.{Frame}
use Rattle.sgx_types.specs.declared.names.Page.{Page}
use Rattle.sgx_types.specs.declared.names.VaSlot.{VaSlot}
use Rattle.sgx_rules.specs.Frames.{Content, Free, IsVa, content, is_sealing, vas_made}
use Rattle.sgx_rules.specs.PageBytes.{va_words}
use Rattle.sgx_types.specs.Pages.{same_slot}
use Rattle.sgx_types.specs.inner.Places.{same_place}
use Rattle.sgx_rules.specs.Slots.{is_slot_busy, is_va_of, names_slot, open_slot, slot_of, takes_out, version_in}
use Rattle.sgx_rules.specs.Starts.{Start, open_start}
use Rattle.sgx_rules.specs.inner.Starts.{BareStart, bare_start, without_place}
use Rattle.sgx_rules.specs.Table.{is_va}
use Rattle.sgx_rules.proofs.Busy.{IsBareOf, IsNamedBy, bare_of, busy_named, open_busy}
use Rattle.sgx_types.proofs.CountLaws.{any_below-some}
use Rattle.sgx_types.proofs.Pages.{same_place-refl, same_places, same_slot-refl, same_slots}
use Rattle.sgx_types.proofs.Truths.{both_true, either, left_true}
use Rattle.machine_copies.specs.inner.Away.{ArraysApart, array_in}
use Rattle.machine_copies.specs.inner.Once.{IsFound}
use Rattle.machine_copies.proofs.OpenStarts.{entry_of}
use Rattle.machine_laws.specs.inner.Columns.{HasBusy, HasColumns, HasVersions}
use Rattle.machine_laws.specs.inner.Guarded.{IsGuarded, IsOpen}
use Rattle.machine_laws.proofs.ColumnLaws.{content_is, sealing_is, start_is, vas_is}
use Rattle.machine_copies.proofs.ArrayLaws.{va_is}
use Rattle.machine_laws.specs.inner.Columns as columns
use Rattle.machine_laws.specs.inner.State.{State, after_eld, after_ewb, place_at}
use Rattle.epcm_entry.specs.inner.Words.{words_of}

-- ---- a slot by its place

-- where a start found its slot and a frame with a version array page, the start names a slot of that page by one test or the other
module _ (past : List Entry) (x : Start) (found : IsFound past x) (arrays : ArraysApart (vas_made past) (content past)) where
  tests_agree : (n k index : ℕ) → content past n ≡ IsVa k
      → same_place x.at (place_at n index) ≡ same_slot x.slot (columns.slot_of k index)
  tests_agree n k index held = by_place (same_place x.at (place_at n index)) refl (same_slot x.slot (columns.slot_of k index)) refl
    where
      by_place : (b : Bool) → same_place x.at (place_at n index) ≡ b → (d : Bool) → same_slot x.slot (columns.slot_of k index) ≡ d → b ≡ d
      by_place true e true d = refl
      by_place false e false d = refl
      by_place true e false d =
          let at = both_true (x.at.frame.0 == n) (x.at.index == index) e in
          let here : IsVa x.slot.va ≡ IsVa k = sym found.held ∙ ap (content past) (eqb-true x.at.frame.0 n at.0) ∙ held in
          let same : x.slot.va ≡ k = cc here in
          absurd (false≢true (sym d ∙ rw (
            eq-eqb x.slot.va k same,
            eq-eqb x.slot.index index (sym found.index ∙ eqb-true x.at.index index at.1),
          )
          refl))
      by_place false e true d =
          let at = both_true (x.slot.va == k) (x.slot.index == index) d in
          let frame : x.at.frame.0 ≡ n = arrays.once x.at.frame.0 n k (found.held ∙ ap IsVa (eqb-true x.slot.va k at.0)) held in
          absurd (false≢true (sym e ∙ rw (
            eq-eqb x.at.frame.0 n frame,
            eq-eqb x.at.index index (found.index ∙ eqb-true x.slot.index index at.1),
          )
          refl))

-- ---- versions

-- a frame's version goes into its slot, and what the frame held goes with its slots
module _ (s : State) (past : List Entry) (a : Actor) (f : Frame) (x : Start) (opened : open_start past f.0 ≡ Some x)
    (found : IsFound past x)
    (arrays : ArraysApart (vas_made past) (content past)) where
  pub ewb_versions : (page : Page) (tag : List ℕ) (n k : ℕ) → (n == f.0) ≡ false → content past n ≡ IsVa k → HasVersions s past n k
      → HasVersions (after_ewb s f.0 (without_place x)) (entry_of a (Did (Ewb f) (Moved page x.version tag)) ∷ past) n k
  ewb_versions page tag n k other held h index low =
      rw (other, ap slot_of opened, tests_agree past x found arrays n k index held)
      (ap (cond (same_slot x.slot (columns.slot_of k index)) x.version) (gone (is_va (s.content f.0)) ∙ h index low))
    where
      gone : (b : Bool) → cond (b && false) 0 (s.version_in (place_at n index)) ≡ s.version_in (place_at n index)
      gone true = refl
      gone false = refl

  -- .. and comes out of it, where another frame is not the one that takes a page
  pub eld_versions : (back : Content) (plain : List ℕ) (page : Page) (version : ℕ) (tag : List ℕ) (n k : ℕ) → (n == f.0) ≡ false
      → content past n ≡ IsVa k → HasVersions s past n k
      → HasVersions (after_eld s f.0 (without_place x) back plain) (entry_of a (Did (Eld f) (Moved page version tag)) ∷ past) n k
  eld_versions back plain page version tag n k other held h index low =
      rw (other, ap slot_of opened, tests_agree past x found arrays n k index held)
      (gone (is_va back) ∙ ap (cond (same_slot x.slot (columns.slot_of k index)) 0) (h index low))
    where
      gone : (b : Bool) → cond (b && false) (get_or (words_of plain) index 0)
          (cond (same_slot x.slot (columns.slot_of k index)) 0 (s.version_in (place_at n index)))
          ≡ cond (same_slot x.slot (columns.slot_of k index)) 0 (s.version_in (place_at n index))
      gone true = refl
      gone false = refl

  -- a version array page is back with the slots that its record brought, where these are those of the entries and no frame held it
  pub back_versions : (plain : List ℕ) (page : Page) (version : ℕ) (tag : List ℕ) (k : ℕ) → ((n : ℕ) → content past n ≡ IsVa k → ⊥)
      → words_of plain ≡ va_words past k
      → HasVersions (after_eld s f.0 (without_place x) (IsVa k) plain) (entry_of a (Did (Eld f) (Moved page version tag)) ∷ past) f.0 k
  back_versions plain page version tag k away brings index low =
      rw (eq-eqb f.0 f.0 refl, ap slot_of opened, elsewhere (same_slot x.slot (columns.slot_of k index)) refl)
      (ap (λ ws. get_or ws index 0) brings
      ∙ get_or-map-range_with_len (λ i. version_in past (columns.slot_of k i)) 0 512 index index 0 low (omega arith))
    where
      elsewhere : (b : Bool) → same_slot x.slot (columns.slot_of k index) ≡ b → b ≡ false
      elsewhere false e = refl
      elsewhere true e =
          let va : x.slot.va ≡ k = ap (λ (y : VaSlot). y.va) (same_slots x.slot (columns.slot_of k index) e) in
          absurd (away x.at.frame.0 (found.held ∙ ap IsVa va))

-- ---- which slots are busy

-- the start of a frame, by the entries
pub started_as : (s : State) (past : List Entry) → HasColumns s past → (n : ℕ) (x : BareStart) → s.start n ≡ Some x
    → IsBareOf (open_start past n) x
started_as s past h n x is = bare_of (open_start past n) x (sym (start_is h n) ∙ is)

-- each open start finds its slot still
pub found_as : (s : State) (past : List Entry) → HasColumns s past → IsGuarded s → (n : ℕ) (x : Start) → open_start past n ≡ Some x
    → IsFound past x
found_as s past h guarded n x is =
    let there : s.start n ≡ Some (without_place x) = start_is h n ∙ ap bare_start is in
    let is_open : IsOpen s (without_place x) = subst (λ o. IfSome o (IsOpen s)) there (guarded.opened n) in
    record {
      held = sym (content_is h x.at.frame.0) ∙ is_open.held;
      index = is_open.index;
      stays = sym (sealing_is h x.at.frame.0) ∙ is_open.stays;
    }

-- one frame at most holds a version array page, by the entries too
pub arrays_as : (s : State) (past : List Entry) → HasColumns s past → IsGuarded s → ArraysApart (vas_made past) (content past)
arrays_as s past h guarded = record {
  below = λ n k is. subst (λ v. k < v) (vas_is h) (guarded.kept.arrays.below n k (ap array_in (content_is h n) ∙ is));
  once = λ m n k here there. guarded.kept.arrays.once m n k (content_is h m ∙ here) (content_is h n ∙ there);
}

-- a slot of the version array page in a frame is busy exactly where it is by the entries
pub busy_is : (s : State) (past : List Entry) → HasColumns s past → IsGuarded s → HasBusy s past
busy_is s past h guarded n k index held low =
    rw held (by_tests (s.is_slot_named (place_at n index) || s.is_sealing n) refl (is_slot_busy s.frames past slot) refl)
  where
    slot : VaSlot
    slot = columns.slot_of k index

    there : content past n ≡ IsVa k
    there = sym (content_is h n) ∙ held

    arrays : ArraysApart (vas_made past) (content past)
    arrays = arrays_as s past h guarded

    within : n < s.frames
    within = by_order (nat_le s.frames n) refl
      where
        by_order : (b : Bool) → nat_le s.frames n ≡ b → n < s.frames
        by_order false e = leb-false s.frames n e
        by_order true e =
            let none : IsVa k ≡ Free = sym held ∙ guarded.kept.bounded n (leb-true s.frames n e) in cc none

    from_mark : s.is_slot_named (place_at n index) ≡ true → is_slot_busy s.frames past slot ≡ true
    from_mark marked =
        let named = guarded.apart.named (place_at n index) marked in
        let x = started_as s past h named.frame named.start named.is_open in
        let found = found_as s past h guarded named.frame x.start x.opened in
        let place : x.start.at ≡ place_at n index = ap (λ (y : BareStart). y.at) x.same ∙ named.names in
        let same : same_slot x.start.slot slot ≡ true =
        sym (tests_agree past x.start found arrays n k index there) ∙ rw place (same_place-refl (place_at n index)) in
        subst (λ t. is_slot_busy s.frames past t ≡ true) (same_slots x.start.slot slot same)
        (open_busy s.frames past named.frame x.start (guarded.apart.below named.frame named.start named.is_open) x.opened)

    from_seal : s.is_sealing n ≡ true → is_slot_busy s.frames past slot ≡ true
    from_seal leaves =
        any_below-some (λ m. names_slot (open_slot past m) slot || takes_out past k m) s.frames n within
        (or_right (names_slot (open_slot past n) slot) (takes_out past k n)
        (rw (there, eq-eqb k k refl) (sym (sealing_is h n) ∙ leaves)))

    to_state : is_slot_busy s.frames past slot ≡ true → (s.is_slot_named (place_at n index) || s.is_sealing n) ≡ true
    to_state busy =
        let k' = busy_named s.frames past slot busy in
        ⊎_elim (from_name k'.0) (from_out k'.0) k'.2
      where
        from_name : (m : ℕ) → IsNamedBy past slot m → (s.is_slot_named (place_at n index) || s.is_sealing n) ≡ true
        from_name m named =
            let found = found_as s past h guarded m named.start named.opened in
            let same : same_place named.start.at (place_at n index) ≡ true =
            tests_agree past named.start found arrays n k index there ∙ rw named.names (same_slot-refl slot) in
            let bare : s.start m ≡ Some (without_place named.start) = start_is h m ∙ ap bare_start named.opened in
            left_true (s.is_slot_named (place_at n index)) (s.is_sealing n)
            (sym (ap s.is_slot_named (same_places named.start.at (place_at n index) same))
            ∙ guarded.apart.marked m (without_place named.start) bare)

        from_out : (m : ℕ) → takes_out past k m ≡ true → (s.is_slot_named (place_at n index) || s.is_sealing n) ≡ true
        from_out m out =
            let both = both_true (is_va_of (content past m) k) (is_sealing past m) out in
            let frame : m ≡ n = arrays.once m n k (va_is (content past m) k both.0) there in
            right_one (s.is_slot_named (place_at n index)) (s.is_sealing n)
            (sealing_is h n ∙ ap (is_sealing past) (sym frame) ∙ both.1)
          where
            right_one : (a b : Bool) → b ≡ true → (a || b) ≡ true
            right_one true b e = refl
            right_one false b e = e

    by_tests : (a : Bool) → (s.is_slot_named (place_at n index) || s.is_sealing n) ≡ a → (b : Bool) → is_slot_busy s.frames past slot ≡ b
        → a ≡ b
    by_tests true e true d = refl
    by_tests false e false d = refl
    by_tests false e true d = sym e ∙ to_state d
    by_tests true e false d =
        absurd (false≢true (sym d ∙ ⊎_elim from_mark from_seal (either (s.is_slot_named (place_at n index)) (s.is_sealing n) e)))
