-- Each version is drawn once, and is below the next.
use Rattle.std.proofs.Common.{◌≡◌, ℕ, ◌+◌, ◌<◌, ◌≤◌, ◌==◌, Bool, true, false, cond, refl, sym, ap, ◌∙◌}
use Rattle.std.proofs.Common.{subst, Option, Some, None, List, [], ◌∷◌, length, ◌⊎◌, inl, inr, ⊎_elim, arith}
use Rattle.std.proofs.lemmas.Bool.{eqb-true}
use Rattle.sgx_rules.specs.declared.entries.Action.TheVariants.{EwbStart, Ewb, EldStart, Eld}
use Rattle.sgx_types.specs.declared.names.Actor.{Actor}
use Rattle.sgx_rules.specs.declared.entries.Answer.{Answer}
use Rattle.sgx_rules.specs.declared.entries.Answer.TheVariants.{Version, Moved}
use Rattle.sgx_rules.specs.declared.entries.Entry.{Entry}
use Rattle.sgx_rules.specs.declared.entries.Event.{Event}
use Rattle.sgx_rules.specs.declared.entries.Event.TheVariants.{Did, Refused}
use Rattle.sgx_types.specs.declared.names.Frame.{Frame}
use Rattle.sgx_types.specs.declared.names.Page.{Page}
use Rattle.sgx_types.specs.declared.names.SlotAt.{SlotAt}
use Rattle.sgx_types.specs.declared.names.VaSlot.{VaSlot}
use Rattle.sgx_rules.specs.Rules.{EndsWriteOut, EvictRule, RisingRule}
use Rattle.sgx_rules.specs.Slots.{is_draw, next_version}
use Rattle.sgx_rules.specs.Starts.{Start, open_start, slot_found, started, version_told}
use Rattle.sgx_rules.specs.Frames.{content}
use Rattle.sgx_types.specs.Making.{Making}
use Rattle.machine_copies.specs.inner.Once.{DrawnOnce, Gone, IsGone, KeepsMoves, gone}
use Rattle.machine_copies.proofs.OpenStarts.{any_cases, apart_frames, ended_cases, entry_of}

-- the next version is not below the first
pub first_below : (first : ℕ) (past : List Entry) → first ≤ next_version first past
first_below first [] = omega arith
first_below first (e ∷ past) = by_test (is_draw e.event) (first_below first past)
  where
    by_test : (b : Bool) → first ≤ next_version first past → first ≤ cond b (next_version first past + 1) (next_version first past)
    by_test true h = omega arith
    by_test false h = h

-- where no start of a write-out is new, nor a page that went out, each version is still drawn once
fewer_drawn : (first : ℕ) (past : List Entry) (e : Entry)
    → ((n : ℕ) (x : Start) → open_start (e ∷ past) n ≡ Some x → x.loads ≡ None → open_start past n ≡ Some x)
    → ((x : Gone) → IsGone (e ∷ past) x → IsGone past x) → next_version first (e ∷ past) ≡ next_version first past → DrawnOnce first past
    → DrawnOnce first (e ∷ past)
fewer_drawn first past e opens goes next h = record {
  from = λ n x is writes. h.from n x (opens n x is writes) writes;
  started = λ n x is writes. rw next (h.started n x (opens n x is writes) writes);
  apart = λ m n x y is too writes also same. h.apart m n x y (opens m x is writes) (opens n y too also) writes also same;
  ended = λ x is. rw next (h.ended x (goes x is));
  not_open = λ n x y is writes went same. h.not_open n x y (opens n x is writes) writes (goes y went) same;
  once = λ x y is too same. h.once x y (goes x is) (goes y too) same;
}

-- a load that starts ends the start of a write-out, if any
load_opened : (b : Bool) (actor : Actor) (place : ℕ) (at : SlotAt) (answer : Answer) (page : Page) (o : Option VaSlot) (old : Option Start)
    (x : Start)
    → cond b (started actor place at answer (Some page) o) old ≡ Some x → x.loads ≡ None → old ≡ Some x
load_opened true actor place at answer page None old x is writes = cc is
load_opened true actor place at answer page (Some slot) old x is writes = cc (is, writes)
load_opened false actor place at answer page o old x is writes = is

-- a write-out starts with the next version
module _ (first : ℕ) (past : List Entry) (actor : Actor) (f : Frame) (slot : SlotAt) (answer : Answer)
    (told : answer ≡ Version (next_version first past)) (h : DrawnOnce first past) where
  abbrev later : List Entry
  later = entry_of actor (Did (EwbStart f slot) answer) ∷ past

  -- an open start of a write-out is this one, with the next version, or one from before
  new_or_old : (n : ℕ) (x : Start) → open_start later n ≡ Some x
      → ((f.0 ≡ n) × (x.version ≡ next_version first past)) ⊎ (open_start past n ≡ Some x)
  new_or_old n x is = by_slot (slot_found (content past) slot) (f.0 == n) refl is
    where
      by_slot : (o : Option VaSlot) (b : Bool) → (f.0 == n) ≡ b
          → cond b (started actor (length past) slot answer None o) (open_start past n) ≡ Some x
          → ((f.0 ≡ n) × (x.version ≡ next_version first past)) ⊎ (open_start past n ≡ Some x)
      by_slot None true e k = cc k
      by_slot (Some s) true e k =
          let version : version_told answer ≡ x.version = cc k in inl (eqb-true f.0 n e, sym version ∙ ap version_told told)
      by_slot o false e k = inr k

  -- no two open starts have one version
  apart_still : (m n : ℕ) (x y : Start) → open_start later m ≡ Some x → open_start later n ≡ Some y → x.loads ≡ None → y.loads ≡ None
      → x.version ≡ y.version → m ≡ n
  apart_still m n x y is too writes also same = by_cases (new_or_old m x is) (new_or_old n y too)
    where
      by_cases : ((f.0 ≡ m) × (x.version ≡ next_version first past)) ⊎ (open_start past m ≡ Some x)
          → ((f.0 ≡ n) × (y.version ≡ next_version first past)) ⊎ (open_start past n ≡ Some y) → m ≡ n
      by_cases (inl a) (inl b) = sym a.0 ∙ b.0
      by_cases (inl a) (inr b) = let low : y.version < next_version first past = h.started n y b also in omega (arith, a.1)
      by_cases (inr a) (inl b) = let low : x.version < next_version first past = h.started m x a writes in omega (arith, b.1)
      by_cases (inr a) (inr b) = h.apart m n x y a b writes also same

  -- and so each version is drawn once still
  ewbstart_drawn : DrawnOnce first later
  ewbstart_drawn = record {
    from = λ n x is writes. ⊎_elim (λ k. let low : first ≤ next_version first past = first_below first past in omega (arith, k.1))
        (λ old. h.from n x old writes) (new_or_old n x is);
    started = λ n x is writes. ⊎_elim (λ k. omega (arith, k.1))
        (λ old. let low : x.version < next_version first past = h.started n x old writes in omega arith) (new_or_old n x is);
    apart = apart_still;
    ended = λ x is. let k = h.ended x is in (k.0, omega (arith, k.1));
    not_open = λ n x y is writes went same. ⊎_elim (λ k. let low = (h.ended y went).1 in omega (arith, k.1, low))
        (λ old. h.not_open n x y old writes went same) (new_or_old n x is);
    once = h.once;
  }

-- a page is out with the version that its start drew
module _ (first : ℕ) (past : List Entry) (actor : Actor) (f : Frame) (page : Page) (version : ℕ) (tag : List ℕ)
    (ends : EndsWriteOut (open_start past f.0) version) (h : DrawnOnce first past) where
  abbrev out : Gone
  out = record { page = page; version = version }

  abbrev after : List Entry
  after = entry_of actor (Did (Ewb f) (Moved page version tag)) ∷ past

  -- the starts of the other frames are open still
  still_open : (n : ℕ) (x : Start) → open_start after n ≡ Some x → ((f.0 == n) ≡ false) × (open_start past n ≡ Some x)
  still_open n x is = ended_cases (f.0 == n) x (open_start past n) is

  -- a page that went out is this one, or went out before
  out_or_before : (x : Gone) → IsGone after x → (out ≡ x) ⊎ IsGone past x
  out_or_before x is = any_cases (λ one. one ≡ x) out (gone past) is

  -- no page from before went out with the version of an open start
  not_before : (x : Gone) → IsGone past x → version ≡ x.version → ⊥
  not_before x went same = h.not_open f.0 ends.start x ends.opened ends.writes went (ends.told ∙ same)

  -- no page went out with the version of an open start
  not_open_still : (n : ℕ) (x : Start) (y : Gone) → open_start after n ≡ Some x → x.loads ≡ None → IsGone after y → x.version ≡ y.version
      → ⊥
  not_open_still n x y is writes went same = ⊎_elim this before (out_or_before y went)
    where
      this : out ≡ y → ⊥
      this is_this =
          let k = still_open n x is in
          let frame : f.0 ≡ n = h.apart f.0 n ends.start x ends.opened k.1 ends.writes writes
          (ends.told ∙ ap (λ (z : Gone). z.version) is_this ∙ sym same) in
          apart_frames f.0 n k.0 frame

      before : IsGone past y → ⊥
      before old = h.not_open n x y (still_open n x is).1 writes old same

  -- no two pages went out with one version
  once_still : (x y : Gone) → IsGone after x → IsGone after y → x.version ≡ y.version → x ≡ y
  once_still x y is too same = by_cases (out_or_before x is) (out_or_before y too)
    where
      by_cases : (out ≡ x) ⊎ IsGone past x → (out ≡ y) ⊎ IsGone past y → x ≡ y
      by_cases (inl a) (inl b) = sym a ∙ b
      by_cases (inl a) (inr b) = absurd (not_before y b (ap (λ (z : Gone). z.version) a ∙ same))
      by_cases (inr a) (inl b) = absurd (not_before x a (ap (λ (z : Gone). z.version) b ∙ sym same))
      by_cases (inr a) (inr b) = h.once x y a b same

  -- and so each version is drawn once still
  ewb_drawn : DrawnOnce first after
  ewb_drawn = record {
    from = λ n x is writes. h.from n x (still_open n x is).1 writes;
    started = λ n x is writes. h.started n x (still_open n x is).1 writes;
    apart = λ m n x y is too writes also same. h.apart m n x y (still_open m x is).1 (still_open n y too).1 writes also same;
    ended = λ x is.
        ⊎_elim (λ this. subst (λ (z : Gone). (first ≤ z.version) × (z.version < next_version first past)) this
        (subst (λ (v : ℕ). (first ≤ v) × (v < next_version first past)) ends.told
        (h.from f.0 ends.start ends.opened ends.writes, h.started f.0 ends.start ends.opened ends.writes))) (h.ended x)
        (out_or_before x is);
    not_open = not_open_still;
    once = once_still;
  }

-- an entry that keeps the rules leaves each version drawn once
drawn_still : (first : ℕ) (past : List Entry) (actor : Actor) (event : Event) → RisingRule first past (entry_of actor event)
    → EvictRule past (entry_of actor event) → DrawnOnce first past → DrawnOnce first (entry_of actor event ∷ past)
drawn_still first past actor (Did (EwbStart f slot) answer) rising evict h = ewbstart_drawn first past actor f slot answer rising h
drawn_still first past actor (Did (Ewb f) (Moved page version tag)) rising evict h =
    ewb_drawn first past actor f page version tag evict h
drawn_still first past actor (Did (Ewb f) answer) rising evict h =
    fewer_drawn first past (entry_of actor (Did (Ewb f) answer)) (λ n x is writes. (ended_cases (f.0 == n) x (open_start past n) is).1)
    (λ x is. is) refl h
drawn_still first past actor (Did (EldStart f page slot) answer) rising evict h =
    fewer_drawn first past (entry_of actor (Did (EldStart f page slot) answer))
    (λ n x is writes. load_opened (f.0 == n) actor (length past) slot answer page (slot_found (content past) slot) (open_start past n) x is
    writes) (λ x is. is) refl h
drawn_still first past actor (Did (Eld f) answer) rising evict h =
    fewer_drawn first past (entry_of actor (Did (Eld f) answer)) (λ n x is writes. (ended_cases (f.0 == n) x (open_start past n) is).1)
    (λ x is. is) refl h
drawn_still first past actor (Refused (Eld f) why) rising evict h =
    fewer_drawn first past (entry_of actor (Refused (Eld f) why)) (λ n x is writes. (ended_cases (f.0 == n) x (open_start past n) is).1)
    (λ x is. is) refl h
drawn_still first past actor event rising evict h = fewer_drawn first past (entry_of actor event) (λ n x is writes. is) (λ x is. is) refl h

-- the rules were kept before the last entry
pub keeps_before : (k : Making) (e : Entry) (past : List Entry) → KeepsMoves k (e ∷ past) → KeepsMoves k past
keeps_before k e past h = record { refusal = h.refusal.1; flat = h.flat.1; evict = h.evict.1; fresh = h.fresh.1 }

-- where the rules are kept, each version is drawn once
pub drawn_once : (k : Making) (past : List Entry) → KeepsMoves k past → DrawnOnce k.first_version past
drawn_once k [] h = record {
  from = λ n x is writes. cc;
  started = λ n x is writes. cc;
  apart = λ m n x y is too writes also same. cc;
  ended = λ x is. omega (arith, is.2);
  not_open = λ n x y is writes went same. cc;
  once = λ x y is too same. let no : ⊥ = omega (arith, is.2) in absurd no;
}
drawn_once k (e ∷ past) h =
    drawn_still k.first_version past e.actor e.event h.fresh.0.rising h.evict.0
    (drawn_once k past (keeps_before k e past h))
