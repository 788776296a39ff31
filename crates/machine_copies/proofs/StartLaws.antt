-- Each open start has its slot for itself, and finds it still where it found it.
use Rattle.std.proofs.Common.{◌≡◌, ℕ, zero, suc, ◌<◌, ◌==◌, Bool, true, false, cond, not, refl, sym, ap, ◌∙◌, subst}
use Rattle.std.proofs.Common.{Option, Some, None, List, [], ◌∷◌, length, ◌||◌, ◌&&◌, nat_le, nat_lt, ◌⊎◌, inl, inr}
use Rattle.std.proofs.Common.{⊎_elim, arith}
use Rattle.std.proofs.lemmas.Bool.{cond_both, eqb-true, eq-eqb, false≢true, leb-false, or_right}
use Rattle.sgx_rules.specs.declared.entries.Action.TheVariants.{Epa, Create, Add, EwbStart, Ewb, EldStart, Eld}
use Rattle.sgx_types.specs.declared.names.Actor.{Actor}
use Rattle.sgx_rules.specs.declared.entries.Answer.{Answer}
use Rattle.sgx_rules.specs.declared.entries.Answer.TheVariants.{Moved}
use Rattle.sgx_rules.specs.declared.entries.Entry.{Entry}
use Rattle.sgx_rules.specs.declared.entries.Event.{Event}
use Rattle.sgx_rules.specs.declared.entries.Event.TheVariants.{Did, Refused}
use Rattle.sgx_types.specs.declared.lawful.PageInit.{PageInit}
use Rattle.sgx_types.specs.declared.names.Kind.{Kind}
use Rattle.sgx_types.specs.declared.names.Frame.{Frame}
use Rattle.sgx_types.specs.declared.names.Page.{Page}
use Rattle.sgx_types.specs.declared.names.Perm.{Perm}
use Rattle.sgx_types.specs.declared.names.SlotAt.{SlotAt}
use Rattle.sgx_types.specs.declared.names.VaSlot.{VaSlot}
use Rattle.sgx_rules.specs.declared.refusals.Refusal.{Refusal}
use Rattle.sgx_rules.specs.inner.Enclaves.{is_there}
use Rattle.sgx_rules.specs.Ends.{EndsIn}
use Rattle.sgx_rules.specs.Flat.{enclave_sight, flat}
use Rattle.sgx_types.specs.Pages.{page_at}
use Rattle.sgx_rules.specs.Frames.{Content, Free, Holds, IsLoading, IsVa, SecsOf, content, is_sealing, sealing_after, vas_made}
use Rattle.sgx_rules.specs.Rules.{Along, RefusalRule}
use Rattle.sgx_rules.specs.Sights.{is_in_use, is_known, row_at, secs_sight_at, sight_at, slot_sight_at}
use Rattle.sgx_types.specs.Pages.{same_slot}
use Rattle.sgx_rules.specs.Slots.{is_busy_at, is_busy_of, is_of_va, is_slot_busy, is_va_of, names_slot, open_slot}
use Rattle.sgx_rules.specs.Slots.{slot_of, takes_out, version_after, version_at, version_in, version_of}
use Rattle.sgx_rules.specs.Starts.{Start, open_start, opened_by, slot_found, slot_in, started, version_told}
use Rattle.sgx_rules.specs.Table.{EnclaveSight, SecsSight, add_row, is_busy, is_out_of_range, is_va}
use Rattle.sgx_types.specs.Making.{Making}
use Rattle.machine_copies.specs.inner.Once.{IsFound, KeepsMoves, StartsApart}
use Rattle.sgx_rules.proofs.Busy.{open_busy}
use Rattle.sgx_rules.proofs.Contents.{free_there, va_there}
use Rattle.sgx_types.proofs.CountLaws.{any_below-some}
use Rattle.sgx_types.proofs.Pages.{same_slots}
use Rattle.sgx_rules.proofs.Rows.{NoneHolds, none_holds}
use Rattle.sgx_types.proofs.Truths.{apart, neither, not_false}
use Rattle.machine_copies.proofs.OpenStarts.{apart_frames, ended_cases, entry_of, opened_cases}
use Rattle.machine_copies.proofs.ThereLaws.{known_there, there_still}

-- ---- entries that leave the starts

-- an event that leaves each open start, each slot and each page that is on its way out
pub record LeavesStarts (e : Event) : Type 0 where
  pub opens : (actor : Actor) (place : ℕ) (held : ℕ → Content) (n : ℕ) (o : Option Start) → opened_by actor place held e n o ≡ o
  pub versions : (opened : ℕ → Option VaSlot) (slot : VaSlot) (v : ℕ) → version_after e opened slot v ≡ v
  pub seals : (n : ℕ) (b : Bool) → sealing_after e n b ≡ b

-- what frames hold that are not free they go on to hold
abbrev pub KeepsHeld : List Entry → Entry → Type 0
KeepsHeld past e = (n : ℕ) (c : Content) → (c ≡ Free → ⊥) → content past n ≡ c → content (e ∷ past) n ≡ c

-- no frame that waits or holds a version array page is free
waits_not : (g : Page) → IsLoading g ≡ Free → ⊥
waits_not g h = cc

va_not : (k : ℕ) → IsVa k ≡ Free → ⊥
va_not k h = cc

-- .. leaves each start apart, where it takes a free frame at most
kept_apart : (frames : ℕ) (past : List Entry) (e : Entry) → LeavesStarts e.event → KeepsHeld past e → StartsApart frames past
    → StartsApart frames (e ∷ past)
kept_apart frames past e q puts h = record {
  below = λ n x is. h.below n x (before n x is);
  busy = λ n x is. open_busy frames (e ∷ past) n x (h.below n x (before n x is)) is;
  alone = λ m n x y is too same. h.alone m n x y (before m x is) (before n y too) same;
  found = λ n x g is loads. rw (q.versions (open_slot past) x.slot (version_in past x.slot)) (h.found n x g (before n x is) loads);
  there = λ n x g is loads. there_still past e g (h.there n x g (before n x is) loads);
  loading = λ n x g is loads. puts n (IsLoading g) (waits_not g) (h.loading n x g (before n x is) loads);
  empty = λ n x is writes. rw (q.versions (open_slot past) x.slot (version_in past x.slot)) (h.empty n x (before n x is) writes);
  leaving = λ n x is writes. q.seals n (is_sealing past n) ∙ h.leaving n x (before n x is) writes;
  where_found = λ n x is. let was = h.where_found n x (before n x is) in record {
    held = puts x.at.frame.0 (IsVa x.slot.va) (va_not x.slot.va) was.held;
    index = was.index;
    stays = q.seals x.at.frame.0 (is_sealing past x.at.frame.0) ∙ was.stays;
  };
}
  where
    before : (n : ℕ) (x : Start) → open_start (e ∷ past) n ≡ Some x → open_start past n ≡ Some x
    before n x is = sym (q.opens e.actor (length past) (content past) n (open_start past n)) ∙ is

-- what takes a free frame leaves what the others hold
taken_free : (past : List Entry) (f : ℕ) (new : Content) → content past f ≡ Free → (n : ℕ) (c : Content) → (c ≡ Free → ⊥)
    → content past n ≡ c → cond (f == n) new (content past n) ≡ c
taken_free past f new free n c used is =
    cond_both (f == n) new (content past n) (λ v. v ≡ c)
    (λ same. absurd (used (sym is ∙ ap (content past) (sym (eqb-true f n same)) ∙ free))) (λ _. is)

-- ---- entries that end a start

-- where a frame's start ends, and no slot but its own changes, the others are apart still
module _ (frames : ℕ) (past : List Entry) (e : Entry) (f : ℕ) (h : StartsApart frames past) where
  -- what the end leaves
  record Ends : Type 0 where
    pub opens : (n : ℕ) → open_start (e ∷ past) n ≡ cond (f == n) None (open_start past n)
    pub versions : (slot : VaSlot) → names_slot (open_slot past f) slot ≡ false → version_in (e ∷ past) slot ≡ version_in past slot
    pub puts : (n : ℕ) → (f == n) ≡ false → content (e ∷ past) n ≡ content past n
    pub seals : (n : ℕ) → (f == n) ≡ false → is_sealing (e ∷ past) n ≡ is_sealing past n
    -- no slot was found in the frame
    pub elsewhere : (n : ℕ) (x : Start) → open_start past n ≡ Some x → (f == x.at.frame.0) ≡ false

  -- an open start of another frame has another slot
  other_slot : (n : ℕ) (x : Start) → (f == n) ≡ false → open_start past n ≡ Some x → names_slot (open_slot past f) x.slot ≡ false
  other_slot n x isnt is = by_start (open_start past f) refl
    where
      by_test : (y : Start) (b : Bool) → open_start past f ≡ Some y → same_slot y.slot x.slot ≡ b → b ≡ false
      by_test y true there same = absurd (apart_frames f n isnt (h.alone f n y x there is same))
      by_test y false there same = refl

      by_start : (o : Option Start) → open_start past f ≡ o → names_slot (slot_of o) x.slot ≡ false
      by_start None there = refl
      by_start (Some y) there = by_test y (same_slot y.slot x.slot) there refl

  -- and so the others are apart
  ended_apart : Ends → StartsApart frames (e ∷ past)
  ended_apart q = record {
    below = λ n x is. h.below n x (before n x is).1;
    busy = λ n x is. open_busy frames (e ∷ past) n x (h.below n x (before n x is).1) is;
    alone = λ m n x y is too same. h.alone m n x y (before m x is).1 (before n y too).1 same;
    found = λ n x g is loads. let k = before n x is in let was = h.found n x g k.1 loads in
        (q.versions x.slot (other_slot n x k.0 k.1) ∙ was.0, was.1);
    there = λ n x g is loads. there_still past e g (h.there n x g (before n x is).1 loads);
    loading = λ n x g is loads. let k = before n x is in q.puts n k.0 ∙ h.loading n x g k.1 loads;
    empty = λ n x is writes. let k = before n x is in q.versions x.slot (other_slot n x k.0 k.1) ∙ h.empty n x k.1 writes;
    leaving = λ n x is writes. let k = before n x is in q.seals n k.0 ∙ h.leaving n x k.1 writes;
    where_found = λ n x is. let k = before n x is in let was = h.where_found n x k.1 in let other = q.elsewhere n x k.1 in record {
      held = q.puts x.at.frame.0 other ∙ was.held;
      index = was.index;
      stays = q.seals x.at.frame.0 other ∙ was.stays;
    };
  }
    where
      before : (n : ℕ) (x : Start) → open_start (e ∷ past) n ≡ Some x → ((f == n) ≡ false) × (open_start past n ≡ Some x)
      before n x is = ended_cases (f == n) x (open_start past n) (sym (q.opens n) ∙ is)

-- no slot was found in a frame that is on its way out
sealing_elsewhere : (frames : ℕ) (past : List Entry) (f : ℕ) → StartsApart frames past → is_sealing past f ≡ true → (n : ℕ) (x : Start)
    → open_start past n ≡ Some x → (f == x.at.frame.0) ≡ false
sealing_elsewhere frames past f h sealing n x is =
    apart f x.at.frame.0 (λ same. false≢true (sym (h.where_found n x is).stays ∙ ap (is_sealing past) (sym same) ∙ sealing))

-- .. nor in one that holds something else
other_elsewhere : (frames : ℕ) (past : List Entry) (f : ℕ) (c : Content) → StartsApart frames past → content past f ≡ c
    → ((k : ℕ) → c ≡ IsVa k → ⊥) → (n : ℕ) (x : Start) → open_start past n ≡ Some x → (f == x.at.frame.0) ≡ false
other_elsewhere frames past f c h held not_va n x is =
    apart f x.at.frame.0
    (λ same. not_va x.slot.va (sym held ∙ ap (content past) same ∙ (h.where_found n x is).held))

-- ---- entries that start

-- where a frame starts with a slot that is not busy, the starts are apart still
module _ (frames : ℕ) (past : List Entry) (e : Entry) (f : ℕ) (new : Start) (h : StartsApart frames past) where
  -- what the start changes
  record Starts : Type 0 where
    pub opens : (n : ℕ) → open_start (e ∷ past) n ≡ cond (f == n) (Some new) (open_start past n)
    pub versions : (slot : VaSlot) → version_in (e ∷ past) slot ≡ version_in past slot
    pub low : f < frames
    pub idle : is_slot_busy frames past new.slot ≡ false
    pub found : (g : Page) → new.loads ≡ Some g → (version_in past new.slot ≡ new.version) × (0 < new.version)
    pub there : (g : Page) → new.loads ≡ Some g → is_there past g ≡ true
    pub loading : (g : Page) → new.loads ≡ Some g → content (e ∷ past) f ≡ IsLoading g
    pub puts : (n : ℕ) → (f == n) ≡ false → content (e ∷ past) n ≡ content past n
    pub empty : new.loads ≡ None → version_in past new.slot ≡ 0
    pub leaves : new.loads ≡ None → is_sealing (e ∷ past) f ≡ true
    pub seals : (n : ℕ) → (f == n) ≡ false → is_sealing (e ∷ past) n ≡ is_sealing past n
    pub new_found : IsFound past new
    pub new_elsewhere : (f == new.at.frame.0) ≡ false
    pub elsewhere : (n : ℕ) (x : Start) → open_start past n ≡ Some x → (f == x.at.frame.0) ≡ false

  -- no start from before has its slot
  other_slots : (n : ℕ) (x : Start) → is_slot_busy frames past new.slot ≡ false → open_start past n ≡ Some x → new.slot ≡ x.slot → ⊥
  other_slots n x idle is same = false≢true (sym idle ∙ ap (is_slot_busy frames past) same ∙ h.busy n x is)

  -- a slot that was found elsewhere is found there still
  found_still : Starts → (x : Start) → (f == x.at.frame.0) ≡ false → IsFound past x → IsFound (e ∷ past) x
  found_still q x other was = record {
    held = q.puts x.at.frame.0 other ∙ was.held;
    index = was.index;
    stays = q.seals x.at.frame.0 other ∙ was.stays;
  }

  -- and so it is apart from the others
  started_apart : Starts → StartsApart frames (e ∷ past)
  started_apart q = record {
    below = low_still;
    busy = λ n x is. open_busy frames (e ∷ past) n x (low_still n x is) is;
    alone = alone_still;
    found = λ n x g is loads.
        ⊎_elim (λ k. subst (λ (z : Start). (version_in (e ∷ past) z.slot ≡ z.version) × (0 < z.version)) k.1
        (let new_found = q.found g (ap (λ (z : Start). z.loads) k.1 ∙ loads) in (q.versions new.slot ∙ new_found.0, new_found.1)))
        (λ k. let was = h.found n x g k.1 loads in (q.versions x.slot ∙ was.0, was.1)) (new_or_old n x is);
    there = λ n x g is loads. there_still past e g
        (⊎_elim (λ k. q.there g (ap (λ (z : Start). z.loads) k.1 ∙ loads)) (λ k. h.there n x g k.1 loads) (new_or_old n x is));
    loading = λ n x g is loads.
        ⊎_elim (λ k. ap (content (e ∷ past)) (sym (eqb-true f n k.0)) ∙ q.loading g (ap (λ (z : Start). z.loads) k.1 ∙ loads))
        (λ k. q.puts n k.0 ∙ h.loading n x g k.1 loads) (new_or_old n x is);
    empty = λ n x is writes.
        q.versions x.slot ∙ ⊎_elim (λ k. ap (λ (z : Start). version_in past z.slot) (sym k.1)
        ∙ q.empty (ap (λ (z : Start). z.loads) k.1 ∙ writes)) (λ k. h.empty n x k.1 writes) (new_or_old n x is);
    leaving = λ n x is writes.
        ⊎_elim (λ k. ap (is_sealing (e ∷ past)) (sym (eqb-true f n k.0)) ∙ q.leaves (ap (λ (z : Start). z.loads) k.1 ∙ writes))
        (λ k. q.seals n k.0 ∙ h.leaving n x k.1 writes) (new_or_old n x is);
    where_found = λ n x is.
        ⊎_elim (λ k. subst (IsFound (e ∷ past)) k.1 (found_still q new q.new_elsewhere q.new_found))
        (λ k. found_still q x (q.elsewhere n x k.1) (h.where_found n x k.1)) (new_or_old n x is);
  }
    where
      new_or_old : (n : ℕ) (x : Start) → open_start (e ∷ past) n ≡ Some x
          → (((f == n) ≡ true) × (new ≡ x)) ⊎ (((f == n) ≡ false) × (open_start past n ≡ Some x))
      new_or_old n x is = opened_cases (f == n) new x (open_start past n) (sym (q.opens n) ∙ is)

      low_still : (n : ℕ) (x : Start) → open_start (e ∷ past) n ≡ Some x → n < frames
      low_still n x is = ⊎_elim (λ k. subst (λ (m : ℕ). m < frames) (eqb-true f n k.0) q.low) (λ k. h.below n x k.1) (new_or_old n x is)

      alone_still : (m n : ℕ) (x y : Start) → open_start (e ∷ past) m ≡ Some x → open_start (e ∷ past) n ≡ Some y
          → same_slot x.slot y.slot ≡ true → m ≡ n
      alone_still m n x y is too same = by_cases (new_or_old m x is) (new_or_old n y too)
        where
          by_cases : (((f == m) ≡ true) × (new ≡ x)) ⊎ (((f == m) ≡ false) × (open_start past m ≡ Some x))
              → (((f == n) ≡ true) × (new ≡ y)) ⊎ (((f == n) ≡ false) × (open_start past n ≡ Some y)) → m ≡ n
          by_cases (inl a) (inl b) = sym (eqb-true f m a.0) ∙ eqb-true f n b.0
          by_cases (inl a) (inr b) = absurd (other_slots n y q.idle b.1 (ap (λ (z : Start). z.slot) a.1 ∙ same_slots x.slot y.slot same))
          by_cases (inr a) (inl b) =
              absurd (other_slots m x q.idle a.1 (ap (λ (z : Start). z.slot) b.1 ∙ sym (same_slots x.slot y.slot same)))
          by_cases (inr a) (inr b) = h.alone m n x y a.1 b.1 same

-- ---- what the rows of the starts say

-- a number that is not 0 is above it
above_zero : (n : ℕ) → (n == 0) ≡ false → 0 < n
above_zero zero h = let no : true ≡ false = h in absurd (false≢true (sym no))
above_zero (suc n) h = omega arith

-- the two frames of a start are of the EPC
record InEpc (frames f : ℕ) (at : SlotAt) : Type 0 where
  pub first : f < frames
  pub slot : at.frame.0 < frames

in_epc : (k : Making) (past : List Entry) (f : ℕ) (at : SlotAt)
    → is_out_of_range (sight_at k.frames past f) (slot_sight_at k.frames past at) ≡ false → InEpc k.frames f at
in_epc k past f at within =
    let inner = neither (nat_le k.frames f || nat_le k.frames at.frame.0) (nat_lt 511 at.index) within in
    let both = neither (nat_le k.frames f) (nat_le k.frames at.frame.0) inner.0 in
    record { first = leb-false k.frames f both.0; slot = leb-false k.frames at.frame.0 both.1 }

-- the slot that is found in a frame that holds a version array page
abbrev slot_there : (past : List Entry) (at : SlotAt) → is_va (content past at.frame.0) ≡ true → VaSlot
slot_there past at va = record { va = (va_there (content past at.frame.0) va).0; index = at.index }

found_there : (past : List Entry) (at : SlotAt) (va : is_va (content past at.frame.0) ≡ true)
    → slot_found (content past) at ≡ Some (slot_there past at va)
found_there past at va = ap (λ c. slot_in c at.index) (va_there (content past at.frame.0) va).1

-- a slot that is not busy is found in a page that is not on its way out
idle_stays : (frames : ℕ) (past : List Entry) (at : SlotAt) (slot : VaSlot) → at.frame.0 < frames
    → content past at.frame.0 ≡ IsVa slot.va → is_slot_busy frames past slot ≡ false → is_sealing past at.frame.0 ≡ false
idle_stays frames past at slot low held idle = by_test (is_sealing past at.frame.0) refl
  where
    by_test : (b : Bool) → is_sealing past at.frame.0 ≡ b → b ≡ false
    by_test false is = refl
    by_test true is =
        absurd (false≢true (sym idle ∙ any_below-some (λ n. names_slot (open_slot past n) slot || takes_out past slot.va n) frames
        at.frame.0 low
        (or_right (names_slot (open_slot past at.frame.0) slot) (takes_out past slot.va at.frame.0)
        (ap (λ c. is_va_of c slot.va && is_sealing past at.frame.0) held ∙ rw (eq-eqb slot.va slot.va refl) is))))

-- no open start found its slot in a version array page without a busy slot
unused_elsewhere : (frames : ℕ) (past : List Entry) (f : ℕ) → StartsApart frames past → is_in_use frames past (content past f) ≡ false
    → (n : ℕ) (x : Start) → open_start past n ≡ Some x → (f == x.at.frame.0) ≡ false
unused_elsewhere frames past f h unused n x is =
    apart f x.at.frame.0 (λ same.
    false≢true (sym (ap (is_in_use frames past) (sym (ap (content past) same ∙ (h.where_found n x is).held)) ∙ unused)
    ∙ any_below-some (λ m. is_of_va (open_slot past m) x.slot.va) frames n (h.below n x is)
    (ap (λ o. is_of_va (slot_of o) x.slot.va) is ∙ eq-eqb x.slot.va x.slot.va refl)))

-- ---- each entry

-- a page is added only into a free frame
pub add_free : (past : List Entry) (f : ℕ) (number : ℕ) (kind : Kind) (perm : Perm) (init : PageInit) (o : Option EnclaveSight)
    (secs : SecsSight)
    (is_added : Bool) (frames : ℕ)
    → NoneHolds (add_row number kind perm init o secs is_added (sight_at frames past f)) → content past f ≡ Free
add_free past f number kind perm init None secs is_added frames row = let no : true ≡ false = row.1.0 in cc
add_free past f number kind perm init (Some enclave) secs is_added frames row =
    free_there (content past f) (is_sealing past f) row.1.1.1.1.1.1.1.1.0 row.1.1.1.1.1.1.1.1.1.0

module _ (k : Making) (past : List Entry) (actor : Actor) (refusals : Along (RefusalRule k) past) (h : StartsApart k.frames past) where
  ewbstart_apart : (f : Frame) (at : SlotAt) (answer : Answer) → RefusalRule k past (entry_of actor (Did (EwbStart f at) answer))
      → StartsApart k.frames (entry_of actor (Did (EwbStart f at) answer) ∷ past)
  ewbstart_apart f at answer refusal =
      started_apart k.frames past (entry_of actor (Did (EwbStart f at) answer)) f.0
      (record { at = at; slot = slot; version = version_told answer; loads = None; place = length past; actor = actor }) h
      (record {
        opens = λ n. ap (λ o. cond (f.0 == n) (started actor (length past) at answer None o) (open_start past n)) named;
        versions = λ other. refl;
        low = within.first;
        idle = idle;
        found = λ g loads. cc loads;
        there = λ g loads. cc loads;
        loading = λ g loads. cc loads;
        puts = λ n isnt. refl;
        empty = λ writes. ap (version_of past) (sym named)
            ∙ eqb-true (version_at past at) 0 (not_false (version_at past at == 0) row.1.1.1.1.1.1.1.0);
        leaves = λ writes. rw (eq-eqb f.0 f.0 refl) refl;
        seals = λ n isnt. rw isnt refl;
        new_found = record { held = held; index = refl; stays = idle_stays k.frames past at slot within.slot held idle };
        new_elsewhere = own.1;
        elsewhere = unused_elsewhere k.frames past f.0 h busy.1;
      })
    where
      row : NoneHolds (row_at k past actor (EwbStart f at))
      row = none_holds (row_at k past actor (EwbStart f at)) refusal.0

      within : InEpc k.frames f.0 at
      within = in_epc k past f.0 at row.0

      own : (not (is_va (content past at.frame.0)) ≡ false) × ((f.0 == at.frame.0) ≡ false)
      own = neither (not (is_va (content past at.frame.0))) (f.0 == at.frame.0) row.1.1.1.0

      is_array : is_va (content past at.frame.0) ≡ true
      is_array = not_false (is_va (content past at.frame.0)) own.0

      slot : VaSlot
      slot = slot_there past at is_array

      held : content past at.frame.0 ≡ IsVa slot.va
      held = (va_there (content past at.frame.0) is_array).1

      named : slot_found (content past) at ≡ Some slot
      named = found_there past at is_array

      busy : ((is_busy (sight_at k.frames past f.0) || is_busy_at k.frames past at) ≡ false)
          × (is_in_use k.frames past (content past f.0) ≡ false)
      busy = neither (is_busy (sight_at k.frames past f.0) || is_busy_at k.frames past at)
          (is_in_use k.frames past (content past f.0)) row.1.0

      idle : is_slot_busy k.frames past slot ≡ false
      idle = ap (is_busy_of k.frames past) (sym named)
          ∙ (neither (is_busy (sight_at k.frames past f.0)) (is_busy_at k.frames past at) busy.0).1

  eldstart_apart : (f : Frame) (page : Page) (at : SlotAt) (answer : Answer)
      → RefusalRule k past (entry_of actor (Did (EldStart f page at) answer))
      → StartsApart k.frames (entry_of actor (Did (EldStart f page at) answer) ∷ past)
  eldstart_apart f page at answer refusal =
      started_apart k.frames past (entry_of actor (Did (EldStart f page at) answer)) f.0
      (record { at = at; slot = slot; version = version_told answer; loads = Some page; place = length past; actor = actor }) h
      (record {
        opens = λ n. ap (λ o. cond (f.0 == n) (started actor (length past) at answer (Some page) o) (open_start past n)) named;
        versions = λ other. refl;
        low = within.first;
        idle = idle;
        found = λ g loads. (told, subst (λ v. 0 < v) told low);
        there = λ g loads. let same : page ≡ g = cc loads in
            subst (λ q. is_there past q ≡ true) same
            (known_there k past refusals page (not_false (is_known (flat past) (vas_made past) page) row.1.0));
        loading = λ g loads. let same : page ≡ g = cc loads in rw (eq-eqb f.0 f.0 refl) (ap IsLoading same);
        puts = λ n isnt. rw isnt refl;
        empty = λ writes. cc writes;
        leaves = λ writes. cc writes;
        seals = λ n isnt. refl;
        new_found = record { held = held; index = refl; stays = idle_stays k.frames past at slot within.slot held idle };
        new_elsewhere = apart f.0 at.frame.0 (λ same. va_not slot.va (sym held ∙ ap (content past) (sym same) ∙ free));
        elsewhere = other_elsewhere k.frames past f.0 Free h free (λ va is. va_not va (sym is));
      })
    where
      row : NoneHolds (row_at k past actor (EldStart f page at))
      row = none_holds (row_at k past actor (EldStart f page at)) refusal.0

      within : InEpc k.frames f.0 at
      within = in_epc k past f.0 at row.0

      is_array : is_va (content past at.frame.0) ≡ true
      is_array = not_false (is_va (content past at.frame.0)) row.1.1.1.1.1.1.0

      slot : VaSlot
      slot = slot_there past at is_array

      held : content past at.frame.0 ≡ IsVa slot.va
      held = (va_there (content past at.frame.0) is_array).1

      named : slot_found (content past) at ≡ Some slot
      named = found_there past at is_array

      busy : (is_busy (sight_at k.frames past f.0) ≡ false) × (is_busy_at k.frames past at ≡ false)
      busy = neither (is_busy (sight_at k.frames past f.0)) (is_busy_at k.frames past at) row.1.1.1.1.0

      idle : is_slot_busy k.frames past slot ≡ false
      idle = ap (is_busy_of k.frames past) (sym named) ∙ busy.1

      free : content past f.0 ≡ Free
      free = free_there (content past f.0) (is_sealing past f.0) busy.0 row.1.1.1.1.1.0

      told : version_in past slot ≡ version_told answer
      told = ap (version_of past) (sym named) ∙ sym (ap version_told refusal.1)

      low : 0 < version_in past slot
      low = subst (λ v. 0 < v) (ap (version_of past) named) (above_zero (version_at past at) row.1.1.1.1.1.1.1.0)

  ewb_apart : (f : Frame) (page : Page) (version : ℕ) (tag : List ℕ) (start : Start) → open_start past f.0 ≡ Some start → start.loads ≡ None
      → StartsApart k.frames (entry_of actor (Did (Ewb f) (Moved page version tag)) ∷ past)
  ewb_apart f page version tag start opened writes =
      ended_apart k.frames past (entry_of actor (Did (Ewb f) (Moved page version tag))) f.0 h
      (record {
        opens = λ n. refl;
        versions = λ slot isnt. rw isnt refl;
        puts = λ n isnt. rw isnt refl;
        seals = λ n isnt. rw isnt refl;
        elsewhere = sealing_elsewhere k.frames past f.0 h (h.leaving f.0 start opened writes);
      })

  -- no slot was found in a frame that waits for a page
  loading_elsewhere : (n : ℕ) (g : Page) → EndsIn past n g → (m : ℕ) (x : Start) → open_start past m ≡ Some x → (n == x.at.frame.0) ≡ false
  loading_elsewhere n g ends =
      other_elsewhere k.frames past n (IsLoading g) h (h.loading n ends.start g ends.opened ends.loads) (λ va is. cc is)

  eld_apart : (f : Frame) (page : Page) (version : ℕ) (tag : List ℕ) → EndsIn past f.0 page
      → StartsApart k.frames (entry_of actor (Did (Eld f) (Moved page version tag)) ∷ past)
  eld_apart f page version tag ends =
      ended_apart k.frames past (entry_of actor (Did (Eld f) (Moved page version tag))) f.0 h
      (record {
        opens = λ n. refl;
        versions = λ slot isnt. rw isnt refl;
        puts = λ n isnt. rw isnt refl;
        seals = λ n isnt. refl;
        elsewhere = loading_elsewhere f.0 page ends;
      })

  failed_apart : (f : Frame) (why : Refusal) (page : Page) → EndsIn past f.0 page
      → StartsApart k.frames (entry_of actor (Refused (Eld f) why) ∷ past)
  failed_apart f why page ends =
      ended_apart k.frames past (entry_of actor (Refused (Eld f) why)) f.0 h
      (record {
        opens = λ n. refl;
        versions = λ slot isnt. refl;
        puts = λ n isnt. rw isnt refl;
        seals = λ n isnt. refl;
        elsewhere = loading_elsewhere f.0 page ends;
      })

  -- an entry that keeps the rules leaves the starts apart
  starts_still : (event : Event) → RefusalRule k past (entry_of actor event) → StartsApart k.frames (entry_of actor event ∷ past)
  starts_still (Did (Epa f) answer) refusal =
      let row = none_holds (row_at k past actor (Epa f)) refusal.0 in
      kept_apart k.frames past (entry_of actor (Did (Epa f) answer))
      (record { opens = λ actor place held n o. refl; versions = λ opened slot v. refl; seals = λ n b. refl })
      (taken_free past f.0 (IsVa (vas_made past)) (free_there (content past f.0) (is_sealing past f.0) row.1.0 row.1.1.0)) h
  starts_still (Did (Create enclave f base size) answer) refusal =
      let row = none_holds (row_at k past actor (Create enclave f base size)) refusal.0 in
      kept_apart k.frames past (entry_of actor (Did (Create enclave f base size) answer))
      (record { opens = λ actor place held n o. refl; versions = λ opened slot v. refl; seals = λ n b. refl })
      (taken_free past f.0 (SecsOf enclave) (free_there (content past f.0) (is_sealing past f.0) row.1.1.0 row.1.1.1.0)) h
  starts_still (Did (Add enclave number f kind perm init) answer) refusal =
      let row = none_holds (row_at k past actor (Add enclave number f kind perm init)) refusal.0 in
      kept_apart k.frames past (entry_of actor (Did (Add enclave number f kind perm init) answer))
      (record { opens = λ actor place held n o. refl; versions = λ opened slot v. refl; seals = λ n b. refl })
      (taken_free past f.0 (Holds (page_at enclave number) kind perm)
      (add_free past f.0 number kind perm init (enclave_sight (flat past) enclave) (secs_sight_at k.frames past enclave) _ k.frames row)) h
  starts_still (Did (EwbStart f at) answer) refusal = ewbstart_apart f at answer refusal
  starts_still (Did (EldStart f page at) answer) refusal = eldstart_apart f page at answer refusal
  starts_still (Did (Ewb f) answer) refusal =
      let out = refusal.1 in
      rw out.told (ewb_apart f out.page out.version out.tag out.start out.opened out.writes)
  starts_still (Did (Eld f) answer) refusal =
      let back = refusal.1 in
      rw back.told (eld_apart f back.page back.version back.tag back.ends)
  starts_still (Refused (Eld f) why) refusal = failed_apart f why refusal.page refusal.ends
  starts_still event refusal =
      kept_apart k.frames past (entry_of actor event)
      (record { opens = λ actor place held n o. refl; versions = λ opened slot v. refl; seals = λ n b. refl }) (λ n c used is. is) h

-- where each instruction is done exactly where its row allows it, each open start has its slot for itself
pub starts_by_rows : (k : Making) (past : List Entry) → Along (RefusalRule k) past → StartsApart k.frames past
starts_by_rows k [] h = record {
  below = λ n x is. cc;
  busy = λ n x is. cc;
  alone = λ m n x y is too same. cc;
  found = λ n x g is loads. cc;
  there = λ n x g is loads. cc;
  loading = λ n x g is loads. cc;
  empty = λ n x is writes. cc;
  leaving = λ n x is writes. cc;
  where_found = λ n x is. cc;
}
starts_by_rows k (e ∷ past) h = starts_still k past e.actor h.1 (starts_by_rows k past h.1) e.event h.0

-- .. and so it has where the rules are kept
pub starts_apart : (k : Making) (past : List Entry) → KeepsMoves k past → StartsApart k.frames past
starts_apart k past h = starts_by_rows k past h.refusal
