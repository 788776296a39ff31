-- The bytes of a SECS and of a version array page rest while it is out.
use Rattle.std.proofs.Common.{◌≡◌, ℕ, ◌≤◌, ◌==◌, ◌&&◌, not, Bool, true, false, cond, refl, sym, ap, ◌∙◌, subst}
use Rattle.std.proofs.Common.{Option, Some, None, List, [], ◌∷◌, map}
use Rattle.std.proofs.lemmas.Bool.{eqb-true, false≢true}
use Rattle.std.specs.List.{range_with_len}
use Rattle.sgx_rules.specs.declared.entries.Action.TheVariants.{Create, Init, Ewb, Eld}
use Rattle.sgx_types.specs.declared.names.Actor.{Actor}
use Rattle.sgx_rules.specs.declared.entries.Entry.{Entry}
use Rattle.sgx_rules.specs.declared.entries.Event.{Event}
use Rattle.sgx_rules.specs.declared.entries.Event.TheVariants.{Did}
use Rattle.sgx_types.specs.declared.names.Page.{Page}
use Rattle.sgx_types.specs.declared.names.TheConstants.{SECS_NUMBER}
use Rattle.sgx_types.specs.declared.names.VaSlot.{VaSlot}
use Rattle.sgx_rules.specs.inner.Enclaves.{created, created_by}
use Rattle.sgx_rules.specs.Flat.{FlatEnclave, enclave_sight, flat, words_of}
use Rattle.sgx_types.specs.Pages.{same_page}
use Rattle.sgx_rules.specs.Frames.{Content, Free, Holds, IsLoading, IsVa, SecsOf, content, is_secs_of, secs_frame}
use Rattle.sgx_types.specs.Pages.{secs_page, va_page}
use Rattle.sgx_rules.specs.Frames.{is_sealing, page_there}
use Rattle.sgx_types.specs.Layouts.{bytes_of}
use Rattle.sgx_types.specs.Making.{Making}
use Rattle.sgx_rules.specs.PageBytes.{digest_after, digest_of, secs_bytes_of, va_words}
use Rattle.sgx_rules.specs.Rules.{Along, RefusalRule}
use Rattle.sgx_rules.specs.Sights.{row_at, secs_seen, secs_sight_at}
use Rattle.sgx_types.specs.Pages.{same_slot}
use Rattle.sgx_rules.specs.Slots.{names_slot, open_slot, slot_of, version_in}
use Rattle.sgx_rules.specs.Starts.{Start, open_start}
use Rattle.sgx_rules.specs.Table.{EnclaveSight, SecsSight, init_row}
use Rattle.sgx_rules.proofs.Contents.{there_is}
use Rattle.sgx_types.proofs.Pages.{same_page-refl, same_pages, same_slots}
use Rattle.sgx_rules.proofs.Rows.{NoneHolds, none_holds}
use Rattle.sgx_types.proofs.Truths.{apart}
use Rattle.machine_copies.specs.inner.Away.{BytesRest}
use Rattle.machine_copies.specs.inner.Copies.{Copy, InFrame, InSlot, OneLiveCopy, copy, in_slot}
use Rattle.machine_copies.specs.inner.Once.{KeepsMoves, StartsApart}
use Rattle.machine_copies.proofs.CopyLaws.{live_copies}
use Rattle.machine_copies.proofs.DrawnLaws.{keeps_before}
use Rattle.machine_copies.proofs.OpenStarts.{entry_of}
use Rattle.sgx_types.proofs.LeastLaws.{is_least}
use Rattle.machine_copies.proofs.StartLaws.{starts_by_rows}
use Rattle.machine_copies.proofs.ThereLaws.{created_there}

-- a page is not in a frame and in a slot
in_one : (o : Option Copy) (n : ℕ) (s : VaSlot) (v : ℕ) → o ≡ Some (InFrame n) → o ≡ Some (InSlot s v) → ⊥
in_one o n s v a b = cc (a, b)

-- .. nor in two frames
in_frame : (o : Option Copy) (m n : ℕ) → o ≡ Some (InFrame m) → o ≡ Some (InFrame n) → m ≡ n
in_frame o m n a b = cc (a, b)

-- ---- version array pages

module _ (k : Making) (past : List Entry) (a : Actor) (number : ℕ) (refusals : Along (RefusalRule k) past) (live : OneLiveCopy past) where
  abbrev apart_starts : StartsApart k.frames past
  apart_starts = starts_by_rows k past refusals

  -- the page of a slot that an open start named is in the frame where it was found
  page_in : (n : ℕ) (x : Start) → open_start past n ≡ Some x → x.slot.va ≡ number → copy past (va_page number) ≡ Some (InFrame x.at.frame.0)
  page_in n x is same =
      live.framed x.at.frame.0 (va_page number)
      (there_is (content past x.at.frame.0) (va_page number)
      (ap page_there (apart_starts.where_found n x is).held ∙ ap (λ va. Some (va_page va)) same))

  -- so where it is out no open start names a slot of it
  not_named : (n : ℕ) (s : VaSlot) (v : ℕ) (index : ℕ) → copy past (va_page number) ≡ Some (InSlot s v)
      → names_slot (open_slot past n) (record { va = number; index = index }) ≡ false
  not_named n s v index out = by_start (open_start past n) refl
    where
      slot : VaSlot
      slot = record { va = number; index = index }

      by_test : (x : Start) → open_start past n ≡ Some x → (b : Bool) → same_slot x.slot slot ≡ b → b ≡ false
      by_test x is false e = refl
      by_test x is true e =
          absurd (in_one (copy past (va_page number)) x.at.frame.0 s v
          (page_in n x is (ap (λ (y : VaSlot). y.va) (same_slots x.slot slot e))) out)

      by_start : (o : Option Start) → open_start past n ≡ o → names_slot (slot_of o) slot ≡ false
      by_start None is = refl
      by_start (Some x) is = by_test x is (same_slot x.slot slot) refl

  -- .. nor does the start that sends it out
  not_its_own : (f : ℕ) (x : Start) (index : ℕ) → open_start past f ≡ Some x → x.loads ≡ None
      → copy past (va_page number) ≡ Some (InFrame f) → same_slot x.slot (record { va = number; index = index }) ≡ false
  not_its_own f x index is writes here = by_test (same_slot x.slot slot) refl
    where
      slot : VaSlot
      slot = record { va = number; index = index }

      by_test : (b : Bool) → same_slot x.slot slot ≡ b → b ≡ false
      by_test false e = refl
      by_test true e =
          let there = page_in f x is (ap (λ (y : VaSlot). y.va) (same_slots x.slot slot e)) in
          let frame = in_frame (copy past (va_page number)) x.at.frame.0 f there here in
          absurd (false≢true (sym (apart_starts.where_found f x is).stays ∙ ap (is_sealing past) frame
          ∙ apart_starts.leaving f x is writes))

  -- the versions in it rest
  version_rests : (event : Event) → RefusalRule k past (entry_of a event) → (s : VaSlot) (v : ℕ) (index : ℕ)
      → copy (entry_of a event ∷ past) (va_page number) ≡ Some (InSlot s v)
      → version_in (entry_of a event ∷ past) (record { va = number; index = index })
      ≡ version_in past (record { va = number; index = index })
  version_rests (Did (Ewb f) answer) refusal s v index =
      let out = refusal.1 in
      rw out.told (by_page (same_page out.page (va_page number)) refl)
    where
      slot : VaSlot
      slot = record { va = number; index = index }

      at_all : names_slot (open_slot past f.0) slot ≡ false
          → cond (names_slot (open_slot past f.0) slot) refusal.1.version (version_in past slot) ≡ version_in past slot
      at_all none = rw none refl

      by_page : (b : Bool) → same_page refusal.1.page (va_page number) ≡ b
          → cond b (in_slot (open_start past f.0) refusal.1.version) (copy past (va_page number)) ≡ Some (InSlot s v)
          → cond (names_slot (open_slot past f.0) slot) refusal.1.version (version_in past slot) ≡ version_in past slot
      by_page false e there = at_all (not_named f.0 s v index there)
      by_page true e there =
          let out = refusal.1 in
          let here : copy past (va_page number) ≡ Some (InFrame f.0) =
          live.framed f.0 (va_page number)
          (there_is (content past f.0) (va_page number) (out.held ∙ ap Some (same_pages out.page (va_page number) e))) in
          at_all (ap (λ o. names_slot (slot_of o) slot) out.opened ∙ not_its_own f.0 out.start index out.opened out.writes here)
  version_rests (Did (Eld f) answer) refusal s v index =
      let back = refusal.1 in
      rw back.told (by_page (same_page back.page (va_page number)))
    where
      slot : VaSlot
      slot = record { va = number; index = index }

      by_page : (b : Bool) → cond b (Some (InFrame f.0)) (copy past (va_page number)) ≡ Some (InSlot s v)
          → cond (names_slot (open_slot past f.0) slot) 0 (version_in past slot) ≡ version_in past slot
      by_page true there = cc there
      by_page false there = rw (not_named f.0 s v index there) refl
  version_rests event refusal s v index = λ out. refl

-- ---- SECSs

-- what the row of `init` says of the SECS
init_in : (o : Option EnclaveSight) (secs : SecsSight) → NoneHolds (init_row o secs) → secs.is_away ≡ false
init_in None secs row = absurd (false≢true (sym row.0))
init_in (Some enclave) secs row = row.0

-- a SECS that is not away is in a frame
frame_of_secs : (sealing : ℕ → Bool) (o : Option ℕ) → (secs_seen sealing o).is_away ≡ false → (n : ℕ) × (o ≡ Some n)
frame_of_secs sealing None h = cc h
frame_of_secs sealing (Some n) h = (n, refl)

secs_there : (c : Content) (e : ℕ) → is_secs_of c e ≡ true → page_there c ≡ Some (secs_page e)
secs_there (SecsOf x) e is = ap (λ y. Some (secs_page y)) (eqb-true x e is)
secs_there Free e is = cc is
secs_there (IsVa number) e is = cc is
secs_there (Holds page kind perm) e is = cc is
secs_there (IsLoading page) e is = cc is

module _ (k : Making) (past : List Entry) (a : Actor) (enclave : ℕ) (live : OneLiveCopy past) (s : VaSlot) (v : ℕ) where
  -- the range of the enclave and its digest
  abbrev SecsRests : Event → Type 0
  SecsRests event = (created_by event enclave (created past enclave) ≡ created past enclave)
      × (digest_after event enclave (digest_of past enclave) ≡ digest_of past enclave)

  -- what is done to another enclave leaves this one
  other_rests : (other : ℕ) (x : Option FlatEnclave) (d : List ℕ) → (other ≡ enclave → ⊥)
      → (cond (enclave == other) x (created past enclave) ≡ created past enclave)
      × (cond (other == enclave) d (digest_of past enclave) ≡ digest_of past enclave)
  other_rests other x d not_this = rw (apart enclave other (λ e. not_this (sym e)), apart other enclave not_this) (refl, refl)

  -- both rest while the SECS is out
  secs_rests : (event : Event) → RefusalRule k past (entry_of a event)
      → copy (entry_of a event ∷ past) (secs_page enclave) ≡ Some (InSlot s v) → SecsRests event
  secs_rests (Did (Create other f base size) answer) refusal = by_test (same_page (secs_page other) (secs_page enclave)) refl
    where
      by_test : (b : Bool) → same_page (secs_page other) (secs_page enclave) ≡ b
          → cond b (Some (InFrame f.0)) (copy past (secs_page enclave)) ≡ Some (InSlot s v)
          → SecsRests (Did (Create other f base size) answer)
      by_test true e out = cc out
      by_test false e out = (
        (other_rests other _ [] (λ same. false≢true (sym e ∙ ap (λ y. same_page (secs_page y) (secs_page enclave)) same
            ∙ same_page-refl (secs_page enclave)))).0,
        refl,
      )
  secs_rests (Did (Init other expect) answer) refusal = λ out.
      let row = none_holds (row_at k past a (Init other expect)) refusal.0 in
      let is_in = init_in (enclave_sight (flat past) other) (secs_sight_at k.frames past other) row in
      let found = frame_of_secs (is_sealing past) (secs_frame k.frames (content past) other) is_in in
      let least = is_least (λ n. is_secs_of (content past n) other) k.frames found.0 found.1 in
      let here : copy past (secs_page other) ≡ Some (InFrame found.0) =
      live.framed found.0 (secs_page other)
      (there_is (content past found.0) (secs_page other) (secs_there (content past found.0) other least.passes)) in
      let other_one : other ≡ enclave → ⊥ = λ same.
      in_one (copy past (secs_page enclave)) found.0 s v (subst (λ y. copy past (secs_page y) ≡ Some (InFrame found.0)) same here) out in
      subst (λ x. SecsRests (Did (Init other expect) x)) (sym refusal.1.1) (other_rests other _ refusal.1.0 other_one)
  secs_rests (Did action answer) refusal = λ out. (refl, refl)
  secs_rests event refusal = λ out. (refl, refl)

-- ---- the law

module _ (k : Making) (past : List Entry) (e : Entry) (low : 1 ≤ k.first_version) (keeps : KeepsMoves k (e ∷ past)) where
  before : KeepsMoves k past
  before = keeps_before k e past keeps

  live : OneLiveCopy past
  live = live_copies k past low before

  made : (n : ℕ) → (xs : List Entry) → Along (RefusalRule k) xs → (flat xs).enclaves n ≡ created xs n
  made n xs refusals = sym (created_there k xs refusals n)

  -- the slots of a version array page that is out
  slots_rest : (number : ℕ) (s : VaSlot) (v : ℕ) → copy (e ∷ past) (va_page number) ≡ Some (InSlot s v) → (index : ℕ)
      → version_in (e ∷ past) (record { va = number; index = index }) ≡ version_in past (record { va = number; index = index })
  slots_rest number s v out index = version_rests k past e.actor number before.refusal live e.event keeps.refusal.0 s v index out

  -- the bytes of a page that is out
  out_rest : (g : Page) (s : VaSlot) (v : ℕ) → copy (e ∷ past) g ≡ Some (InSlot s v)
      → (va : Bool) → (g.enclave == 0) ≡ va → (last : Bool) → (g.number == SECS_NUMBER) ≡ last
      → not va && not last ≡ false
      → cond va (bytes_of (va_words (e ∷ past) g.number))
      (cond (not va && last) (secs_bytes_of ((flat (e ∷ past)).enclaves g.enclave) (digest_of (e ∷ past) g.enclave))
      (bytes_of (words_of (flat (e ∷ past)) g)))
      ≡ cond va (bytes_of (va_words past g.number))
      (cond (not va && last) (secs_bytes_of ((flat past).enclaves g.enclave) (digest_of past g.enclave))
      (bytes_of (words_of (flat past) g)))
  out_rest g s v out true is last l own =
      let this_array : va_page g.number ≡ g = λ i. record { enclave = sym (eqb-true g.enclave 0 is) i; number = g.number } in
      λ i. bytes_of (map (λ index. slots_rest g.number s v (ap (copy (e ∷ past)) this_array ∙ out) index i) (range_with_len 0 512))
  out_rest g s v out false is true l own =
      let this_secs : secs_page g.enclave ≡ g = λ i. record { enclave = g.enclave; number = sym (eqb-true g.number SECS_NUMBER l) i } in
      let secs : SecsRests k past e.actor g.enclave live s v e.event =
      secs_rests k past e.actor g.enclave live s v e.event keeps.refusal.0 (ap (copy (e ∷ past)) this_secs ∙ out) in
      let enclaves = made g.enclave (e ∷ past) keeps.refusal ∙ secs.0 ∙ sym (made g.enclave past before.refusal) in
      λ i. secs_bytes_of (enclaves i) (secs.1 i)
  out_rest g s v out false is false l own = cc own

  -- the bytes of a SECS and of a version array page rest while it is out
  pub bytes_rest : BytesRest past e
  bytes_rest = record {
    bytes = λ g s v not_own out. out_rest g s v out (g.enclave == 0) refl (g.number == SECS_NUMBER) refl not_own;
    slots = λ number s v out i. map (λ index. slots_rest number s v out index i) (range_with_len 0 512);
  }
