-- What a processor begins to hold by an instruction that is due: pages that were added, and those that the tables name.
use Rattle.std.proofs.Common.{◌≡◌, ℕ, ◌/◌, ◌||◌, not, Bool, true, false, if◌then◌else◌}
use Rattle.std.proofs.Common.{List, [], ◌∷◌, Option, Some, None, is_some, ◌++◌, ◌&&◌, ◌==◌, refl, sym, ap, subst, ◌∙◌}
use Rattle.std.proofs.lemmas.Bool.{false≢true, or_right}
use Rattle.sgx_rules.specs.declared.entries.AccessOp.{AccessOp}
use Rattle.sgx_rules.specs.declared.entries.AccessOp.TheVariants as accesses
use Rattle.sgx_rules.specs.declared.entries.Action.{Action}
use Rattle.sgx_rules.specs.declared.entries.Action.TheVariants as actions
use Rattle.sgx_rules.specs.declared.entries.Answer.{Answer}
use Rattle.sgx_rules.specs.declared.entries.Answer.TheVariants as answers
use Rattle.sgx_rules.specs.declared.entries.BusWhy.{BusWhy}
use Rattle.sgx_rules.specs.declared.entries.Cause.TheVariants as causes
use Rattle.sgx_rules.specs.declared.entries.Entry.{Entry}
use Rattle.sgx_rules.specs.declared.entries.Event.{Event}
use Rattle.sgx_rules.specs.declared.entries.Event.TheVariants.{Did, Refused, Age, Kick, Bus}
use Rattle.sgx_types.specs.declared.names.Page.{Page}
use Rattle.sgx_types.specs.declared.names.SlotAt.{SlotAt}
use Rattle.sgx_types.specs.declared.names.VaSlot.{VaSlot}
use Rattle.sgx_rules.specs.declared.refusals.Refusal.{Refusal}
use Rattle.sgx_rules.specs.Flat.{at_offset}
use Rattle.sgx_types.specs.Pages.{is_own_page, is_va_page, page_at, same_page, secs_page, va_page}
use Rattle.sgx_rules.specs.Frames.{Content, Free, Holds, IsLoading, IsVa, SecsOf, added, content, least_free, stands}
use Rattle.sgx_rules.specs.Processors.{Stay, holds_number, stay, translations}
use Rattle.sgx_rules.specs.Table.{is_lawful_access}
use Rattle.sgx_types.proofs.Pages.{same_page-refl, same_pages}
use Rattle.job_grammar.specs.declared.jobs.Op.{Op}
use Rattle.job_grammar.specs.declared.jobs.Op.TheVariants as ops
use Rattle.job_grammar.specs.Jobs.{JobView}
use Rattle.script_rules.specs.Script.{action_of, enter_with, is_interrupted, is_reply, is_reply_action, is_turned_away}
use Rattle.sgx_types.specs.Pages.{frame_at}
use Rattle.script_rules.specs.Script.{resume_with}
use Rattle.driver_rules.specs.declared.waits.Why.{Why}
use Rattle.driver_rules.specs.declared.waits.Why.TheVariants as waits
use Rattle.driver_rules.specs.Dues.{Due, Ends, Fetches, Finished, IsFetch, IsKickOf, IsLook, IsNext, IsTryOf, KicksAll, LooksAt}
use Rattle.driver_rules.specs.Dues.{Asks, Fetch, Makes, WaitsFor}
use Rattle.driver_rules.specs.Dues.{Reports, Stopped, TriesOut, Waits, makes_or}
use Rattle.driver_rules.specs.Holds.{access_of_stay, front_to, holds_by, is_among, pages_there, page_of_stay, those_here, up_to}
use Rattle.driver_rules.specs.Needs.{Interruption, access_page, interruption, listed, needs, needs_after, needs_to_enter}
use Rattle.driver_rules.specs.Needs.{needs_to_resume}
use Rattle.driver_rules.specs.Needs.{next_op, save_to_enter, save_to_resume}
use Rattle.driver_rules.specs.Places.{Absent, Away, Here, Leaving, Loading, Place, frame_here, is_here, place}
use Rattle.driver_rules.specs.Stops.{is_spent}
use Rattle.driver_rules.specs.Targets.{slot_here, target_by, target_from}
use Rattle.sgx_rules.specs.declared.refusals.Refusal.TheVariants as refusals
use Rattle.driver_rules.specs.Turns.{Fails, Last, Loads, Other, WasEnded, accesses_by, cpu_due, due_after, early_turn, enters}
use Rattle.driver_rules.specs.Turns.{fetch_by, fetches}
use Rattle.driver_rules.specs.Turns.{fills, first_away, inside_turn, is_built, is_kicked, is_last, last_of, op_turn}
use Rattle.driver_rules.specs.Turns.{outside_turn, resumes}
use Rattle.driver_rules.specs.Turns.{save_frame, stay_turn, turn_due, with_pages}
use Rattle.driver_laws.specs.inner.Sound.{IsSound, is_absent}
use Rattle.driver_laws.specs.inner.Three.{HoldsThree}
use Rattle.driver_laws.proofs.PlaceLaws.{here_there, stands_there}
use Rattle.driver_laws.proofs.SoundLaws.{lawful_there}
use Rattle.driver_laws.proofs.ThreeEntryLaws.{away_among}

-- ---- places

away_there : (past : List Entry) (g : Page) (slot : VaSlot) → place past g ≡ Away slot → is_absent (place past g) ≡ false
away_there past g slot is = ap is_absent is

is_here_there : (at : Place) → is_here at ≡ true → is_absent at ≡ false
is_here_there Absent h = cc
is_here_there (Here f) h = refl
is_here_there (Leaving f) h = cc
is_here_there (Loading f slot) h = cc
is_here_there (Away slot) h = cc

-- ---- lists

among_only : (x g : Page) → (same_page x g || false) ≡ true → x ≡ g
among_only x g h = same_pages x g (by_test (same_page x g) h)
  where
    by_test : (b : Bool) → (b || false) ≡ true → b ≡ true
    by_test true k = refl
    by_test false k = k

abbrev There : List Entry → Page → Type 0
There past g = is_absent (place past g) ≡ false

abbrev AllThere : List Entry → List Page → Type 0
AllThere past pages = (x : Page) → is_among pages x ≡ true → There past x

none_there : (past : List Entry) → AllThere past []
none_there past x h = absurd (false≢true h)

one_there : (past : List Entry) (g : Page) → There past g → AllThere past (g ∷ [])
one_there past g h x k = subst (There past) (among_only g x k) h

more_there : (past : List Entry) (g : Page) (gs : List Page) → There past g → AllThere past gs → AllThere past (g ∷ gs)
more_there past g gs h all x k = by_test (same_page g x) refl k
  where
    by_test : (b : Bool) → same_page g x ≡ b → (b || is_among gs x) ≡ true → There past x
    by_test true same k = subst (There past) (same_pages g x same) h
    by_test false same k = all x k

front_there : (past : List Entry) (pages : List Page) (g : Page) → first_away past pages ≡ Some g → There past g
    → AllThere past (front_to g pages)
front_there past [] g h there = none_there past
front_there past (y ∷ ys) g h there = by_here (is_here (place past y)) refl h (front_there past ys g)
  where
    stop : (b : Bool) → There past y → AllThere past (front_to g ys) → AllThere past (if b then y ∷ [] else y ∷ front_to g ys)
    stop true first rest = one_there past y first
    stop false first rest = more_there past y (front_to g ys) first rest

    by_here : (b : Bool) → is_here (place past y) ≡ b → (if b then first_away past ys else Some y) ≡ Some g
        → (first_away past ys ≡ Some g → There past g → AllThere past (front_to g ys))
        → AllThere past (if same_page y g then y ∷ [] else y ∷ front_to g ys)
    by_here true is k rest = stop (same_page y g) (is_here_there (place past y) is) (rest k there)
    by_here false is k rest =
        let same : y ≡ g = cc in
        let test : same_page y g ≡ true = subst (λ z. same_page y z ≡ true) same (same_page-refl y) in
        subst (λ b. AllThere past (if b then y ∷ [] else y ∷ front_to g ys)) (sym test)
        (one_there past y (subst (There past) (sym same) there))

up_to_there : (past : List Entry) (pages : List Page) (g : Page) → first_away past pages ≡ Some g → There past g
    → AllThere past (up_to g pages)
up_to_there past pages g h there =
    subst (λ b. AllThere past (if b then front_to g pages else g ∷ [])) (sym (away_among past pages g h)) (front_there past pages g h there)

append_there : (past : List Entry) (xs ys : List Page) → AllThere past xs → AllThere past ys → AllThere past (xs ++ ys)
append_there past [] ys h k = k
append_there past (x ∷ xs) ys h k =
    more_there past x (xs ++ ys) (h x (rw (same_page-refl x) refl))
    (append_there past xs ys (λ y m. h y (or_right (same_page x y) (is_among xs y) m)) k)

-- those that are here before the first that is not
those_there : (past : List Entry) (pages : List Page) → AllThere past (those_here past pages)
those_there past [] = none_there past
those_there past (h ∷ hs) = by_here (is_here (place past h)) refl (those_there past hs)
  where
    by_here : (b : Bool) → is_here (place past h) ≡ b → AllThere past (those_here past hs)
        → AllThere past (if b then h ∷ those_here past hs else [])
    by_here true is rest = more_there past h (those_here past hs) (is_here_there (place past h) is) rest
    by_here false is rest = none_there past

-- ---- what is brought back first

pub secs_aside : (e : ℕ) → is_own_page (secs_page e) ≡ true → ⊥
secs_aside e h = by_test (e == 0) h
  where
    by_test : (b : Bool) → (not b && false) ≡ true → ⊥
    by_test true k = cc
    by_test false k = cc

-- a TCS or REG page is brought back for itself alone
target_own : (past : List Entry) (g : Page) (slot : VaSlot) → is_own_page (target_by past g (Away slot)) ≡ true
    → target_by past g (Away slot) ≡ g
target_own past g slot h = by_own (is_own_page g) h
  where
    by_here : (b c : Bool) → is_own_page (if b then (if c then g else va_page slot.va) else secs_page g.enclave) ≡ true
        → (if b then (if c then g else va_page slot.va) else secs_page g.enclave) ≡ g
    by_here true true k = refl
    by_here true false k = absurd (false≢true k)
    by_here false c k = absurd (secs_aside g.enclave k)

    by_own : (b : Bool) → is_own_page (if b then target_from past g slot else g) ≡ true → (if b then target_from past g slot else g) ≡ g
    by_own true k = by_here (is_here (place past (secs_page g.enclave))) (is_here (place past (va_page slot.va))) k
    by_own false k = refl

-- ---- what is due

-- a load is of a page that is needed, or of another one while some page that is needed is not here; and a resumption by the frame of the
-- page that the tables name
abbrev pub IsExactLoad : Bool → JobView → List Entry → ℕ → Page → Type 0
IsExactLoad true j past p g = is_among (needs j past p) g ≡ true
IsExactLoad false j past p g = is_some (first_away past (needs j past p)) ≡ true

abbrev pub IsExact : JobView → List Entry → ℕ → Action → Type 0
IsExact j past p (actions.EldStart f g slot) = IsExactLoad (is_own_page g) j past p g
IsExact j past p (actions.Resume e t tf sf) =
    (frame_here (place past (page_at e t)) ≡ Some tf.0) × (save_frame past (page_at e t) (save_to_resume j past e t) ≡ Some sf.0)
IsExact j past p _ = Unit {0}

-- the pages that begin to be held were added, and are those that the tables name
pub record Fits (j : JobView) (past : List Entry) (p : ℕ) (action : Action) : Type 0 where
  pub there : AllThere past (holds_by j past p (Some action))
  pub exact : IsExact j past p action

-- .. of an instruction that is no reply
abbrev FitsIf : JobView → List Entry → ℕ → Action → Type 0
FitsIf j past p action = is_reply_action (is_interrupted past p) action ≡ false → Fits j past p action

abbrev FetchFits : JobView → List Entry → ℕ → Fetch → Type 0
FetchFits j past p (Asks target (Some slot) (Some f)) = Fits j past p (actions.EldStart (frame_at f) target slot)
FetchFits j past p _ = Unit {0}

abbrev DueFits : JobView → List Entry → ℕ → Due → Type 0
DueFits j past p (Ends action) = FitsIf j past p action
DueFits j past p (Makes action) = FitsIf j past p action
DueFits j past p (Fetches g fetch) = FetchFits j past p fetch
DueFits j past p _ = Unit {0}

-- an instruction by which nothing begins to be held
no_holds : (j : JobView) (past : List Entry) (p : ℕ) (action : Action) → holds_by j past p (Some action) ≡ [] → IsExact j past p action
    → Fits j past p action
no_holds j past p action none exact = record { there = subst (AllThere past) (sym none) (none_there past); exact = exact }

quiet_of : (b : Bool) (ev : Event) (a : Action) → action_of ev ≡ Some a → is_reply b ev ≡ false → is_reply_action b a ≡ false
quiet_of b (Did x answer) a same h = let is : x ≡ a = cc in ap (is_reply_action b) (sym is) ∙ h
quiet_of b (Refused x refusal) a same h = let is : x ≡ a = cc in ap (is_reply_action b) (sym is) ∙ h
quiet_of b (Age page look) a same h = cc
quiet_of b (Kick cpu) a same h = cc
quiet_of b (Bus page why) a same h = cc

bus_none : (page : Page) (why : BusWhy) (action : Action) → action_of (Bus page why) ≡ Some action → ⊥
bus_none page why action h = cc

module _ (j : JobView) (past : List Entry) (p : ℕ) (sound : IsSound past) (h : HoldsThree j past p) where
  fits_either : (b : Bool) (x y : Due) → DueFits j past p x → DueFits j past p y → DueFits j past p (if b then x else y)
  fits_either true x y k m = k
  fits_either false x y k m = m

  fits_reply : (action : Action) → ((b : Bool) → is_reply_action b action ≡ true) → FitsIf j past p action
  fits_reply action reply quiet = absurd (false≢true (sym quiet ∙ reply (is_interrupted past p)))

  fits_fetch : (g : Page) (pages : List Page) (at : Place) → place past g ≡ at → first_away past pages ≡ Some g → needs j past p ≡ pages
      → DueFits j past p (fetches j.epc past g at)
  fits_fetch g pages (Away slot) is away same =
      fits_asks (target_by past g (Away slot)) (place past (target_by past g (Away slot))) refl (target_own past g slot)
    where
      brought_there : (b : Bool) (t : Page) → is_own_page t ≡ b → (b ≡ true → t ≡ g) → There past t
          → AllThere past (if b then up_to t (needs j past p)
          else those_here past (needs j past p) ++ (if is_va_page t then t ∷ [] else []))
      brought_there true t own one there =
          subst (λ y. AllThere past (up_to y (needs j past p))) (sym (one refl))
          (subst (λ x. AllThere past (up_to g x)) (sym same) (up_to_there past pages g away (away_there past g slot is)))
      brought_there false t own one there =
          append_there past (those_here past (needs j past p)) (if is_va_page t then t ∷ [] else [])
          (those_there past (needs j past p)) (array_there (is_va_page t))
        where
          array_there : (b : Bool) → AllThere past (if b then t ∷ [] else [])
          array_there true = one_there past t there
          array_there false = none_there past

      exact_if : (b : Bool) (t : Page) → (b ≡ true → t ≡ g)
          → IsExactLoad b j past p t
      exact_if true t one =
          subst (λ y. is_among (needs j past p) y ≡ true) (sym (one refl))
          (subst (λ x. is_among x g ≡ true) (sym same) (away_among past pages g away))
      exact_if false t one = subst (λ x. is_some (first_away past x) ≡ true) (sym same) (ap is_some away)

      fits_asks : (t : Page) (at : Place) → place past t ≡ at → (is_own_page t ≡ true → t ≡ g)
          → FetchFits j past p (fetch_by j.epc past t at)
      fits_asks t Absent there one = tt
      fits_asks t (Here f) there one = tt
      fits_asks t (Leaving f) there one = tt
      fits_asks t (Loading f s) there one = tt
      fits_asks t (Away s) there one = by_slot (slot_here past s) (least_free j.epc (content past))
        where
          by_slot : (o : Option SlotAt) (free : Option ℕ) → FetchFits j past p (Asks t o free)
          by_slot None free = tt
          by_slot (Some x) None = tt
          by_slot (Some x) (Some f) = record {
            there = brought_there (is_own_page t) t refl one (away_there past t s there);
            exact = exact_if (is_own_page t) t one;
          }
  fits_fetch g pages Absent is away same = tt
  fits_fetch g pages (Here f) is away same = tt
  fits_fetch g pages (Leaving f) is away same = tt
  fits_fetch g pages (Loading f slot) is away same = tt

  fits_with : (pages : List Page) (d : Due) → needs j past p ≡ pages → DueFits j past p d
      → DueFits j past p (with_pages j past (first_away past pages) d)
  fits_with pages d same k = by_away (first_away past pages) refl
    where
      by_away : (o : Option Page) → first_away past pages ≡ o → DueFits j past p (with_pages j past o d)
      by_away None is = k
      by_away (Some g) is = fits_fetch g pages (place past g) refl is same

  fits_enter : (why : Why) (e t : ℕ) (tf sf : Option ℕ) → DueFits j past p (makes_or why (enter_with e t tf sf))
  fits_enter why e t None sf = tt
  fits_enter why e t (Some tf) None = tt
  fits_enter why e t (Some tf) (Some sf) = fits_reply (actions.Enter e t (frame_at tf) (frame_at sf)) (λ b. refl)

  page_in_there : (g : Page) (n : ℕ) → frame_here (place past g) ≡ Some n → AllThere past (pages_there (content past n))
  page_in_there g n is =
      held (content past n) (sound.places.frames g n ∙ stands_there (place past g) n is)
    where
      held : (c : Content) → stands c g ≡ true → AllThere past (pages_there c)
      held Free k = none_there past
      held (IsVa number) k = none_there past
      held (SecsOf enclave) k = none_there past
      held (IsLoading page) k = none_there past
      held (Holds page kind perm) k =
          one_there past page (subst (There past) (sym (same_pages page g k)) (here_there (place past g) n is))

  fits_resume : (why : Why) (e t : ℕ) (save : Option Page) → save ≡ save_to_resume j past e t → (tf sf : Option ℕ)
      → frame_here (place past (page_at e t)) ≡ tf → save_frame past (page_at e t) save ≡ sf
      → DueFits j past p (makes_or why (resume_with e t tf sf))
  fits_resume why e t save named None sf is at = tt
  fits_resume why e t save named (Some tf) None is at = tt
  fits_resume why e t save named (Some tf) (Some sf) is at = λ quiet. record {
    there =
        more_there past (page_at e t) (pages_there (content past sf))
        (here_there (place past (page_at e t)) tf is) (used save at);
    exact = (is, ap (save_frame past (page_at e t)) (sym named) ∙ at);
  }
    where
      used : (o : Option Page) → save_frame past (page_at e t) o ≡ Some sf → AllThere past (pages_there (content past sf))
      used None k = page_in_there (page_at e t) sf k
      used (Some g) k = page_in_there g sf k

  fits_resumes : (e t : ℕ) (pages : List Page) → needs j past p ≡ pages → DueFits j past p (resumes j past e t pages)
  fits_resumes e t pages same =
      fits_with pages
      (makes_or (waits.Busy (page_at e t)) (resume_with e t (frame_here (place past (page_at e t)))
      (save_frame past (page_at e t) (save_to_resume j past e t)))) same
      (fits_resume (waits.Busy (page_at e t)) e t (save_to_resume j past e t) refl (frame_here (place past (page_at e t)))
      (save_frame past (page_at e t) (save_to_resume j past e t)) refl refl)

  -- ---- accesses

  fits_fills : (s : Stay) (off : ℕ) → stay past p ≡ Some s → access_page s.seat.enclave (next_op j past p) ≡ Some
      (at_offset s.seat.enclave off)
      → There past (at_offset s.seat.enclave off) → (o : Option ℕ) → DueFits j past p (fills (off / 4096) o)
  fits_fills s off inside named there None = λ quiet. record {
    there = subst (λ x. AllThere past (access_of_stay j past p x)) (sym inside)
        (subst (λ x. AllThere past (listed x)) (sym named) (one_there past (at_offset s.seat.enclave off) there));
    exact = tt;
  }
  fits_fills s off inside named there (Some f) = λ quiet. record {
    there = subst (λ x. AllThere past (page_of_stay x (off / 4096))) (sym inside) (one_there past (at_offset s.seat.enclave off) there);
    exact = tt;
  }

  fits_access : (s : Option Stay) → stay past p ≡ s → (op : AccessOp) (off : ℕ) (access : Action) → ((b : Bool)
      → is_reply_action b access ≡ true)
      → ((e : ℕ) → access_page e (next_op j past p) ≡ Some (at_offset e off)) → DueFits j past p (accesses_by past p s op off access)
  fits_access None inside op off access reply named = fits_reply access reply
  fits_access (Some s) inside op off access reply named = by_lawful (is_lawful_access (added past (at_offset s.seat.enclave off)) op) refl
    where
      by_lawful : (b : Bool) → is_lawful_access (added past (at_offset s.seat.enclave off)) op ≡ b
          → DueFits j past p (if not b then Makes (actions.Pf op off)
          else if holds_number (translations past p) (off / 4096) then Makes access
          else fills (off / 4096) (frame_here (place past (at_offset s.seat.enclave off))))
      by_lawful false is = fits_reply (actions.Pf op off) (λ b. refl)
      by_lawful true is =
          fits_either (holds_number (translations past p) (off / 4096)) (Makes access)
          (fills (off / 4096) (frame_here (place past (at_offset s.seat.enclave off)))) (fits_reply access reply)
          (fits_fills s off inside (named s.seat.enclave) (lawful_there past (at_offset s.seat.enclave off) op sound is)
          (frame_here (place past (at_offset s.seat.enclave off))))

  -- ---- operations

  fits_op : (op : Op) → next_op j past p ≡ Some op → interruption past p ≡ None → DueFits j past p (op_turn j past p op)
  fits_op (ops.Enter e t) next calm =
      fits_either (is_turned_away past p e) (Makes (actions.Enter e t (frame_at 0) (frame_at 0))) (enters j past e t)
      (fits_reply (actions.Enter e t (frame_at 0) (frame_at 0)) (λ b. refl))
      (fits_with (needs_to_enter j past e t)
      (makes_or (waits.Busy (page_at e t)) (enter_with e t (frame_here (place past (page_at e t)))
      (save_frame past (page_at e t) (save_to_enter j past e t)))) (rw (calm, next) refl)
      (fits_enter (waits.Busy (page_at e t)) e t (frame_here (place past (page_at e t)))
      (save_frame past (page_at e t) (save_to_enter j past e t))))
  fits_op (ops.Resume e t) next calm =
      fits_either (is_turned_away past p e) (Makes (actions.Resume e t (frame_at 0) (frame_at 0)))
      (resumes j past e t (needs_to_resume j past e t))
      (λ quiet. absurd (false≢true (sym quiet ∙ ap not (h.interrupted ∙ ap is_some calm))))
      (fits_resumes e t (needs_to_resume j past e t) (rw (calm, next) refl))
  fits_op ops.Exit next calm = fits_reply actions.Exit (λ b. refl)
  fits_op ops.Timer next calm = fits_reply (actions.Aex causes.Timer) (λ b. refl)
  fits_op (ops.Load off) next calm =
      fits_access (stay past p) refl accesses.Load off (actions.Load off) (λ b. refl) (λ e. ap (access_page e) next)
  fits_op (ops.Store off value) next calm =
      fits_access (stay past p) refl accesses.Store off (actions.Store off value) (λ b. refl) (λ e. ap (access_page e) next)
  fits_op (ops.Xadd off value) next calm =
      fits_access (stay past p) refl accesses.Xadd off (actions.Xadd off value) (λ b. refl) (λ e. ap (access_page e) next)
  fits_op (ops.Set value) next calm = fits_reply (actions.Set value) (λ b. refl)
  fits_op (ops.Plus value) next calm = fits_reply (actions.Plus value) (λ b. refl)
  fits_op (ops.OutLoad enclave off) next calm = fits_reply (actions.OutLoad enclave off) (λ b. refl)
  fits_op (ops.OutStore enclave off value) next calm = fits_reply (actions.OutStore enclave off value) (λ b. refl)

  fits_outside : (i : Option Interruption) (op : Option Op) → interruption past p ≡ i → next_op j past p ≡ op
      → DueFits j past p (outside_turn j past p i op)
  fits_outside i None is next = tt
  fits_outside (Some i) (Some op) is next = fits_resumes i.enclave i.tcs (needs_after j past p i) (rw is refl)
  fits_outside None (Some op) is next = fits_op op next is

  fits_inside : (k : Bool) (op : Option Op) → next_op j past p ≡ op → is_some (stay past p) ≡ true
      → DueFits j past p (inside_turn j past p k op)
  fits_inside true op next inside = λ quiet. no_holds j past p (actions.Aex causes.Kick) refl tt
  fits_inside false None next inside = λ quiet. no_holds j past p (actions.Aex causes.End) refl tt
  fits_inside false (Some op) next inside = fits_op op next (h.apart inside)

  fits_stay : (s : Option Stay) → stay past p ≡ s → DueFits j past p (stay_turn j past p s)
  fits_stay None is = fits_outside (interruption past p) (next_op j past p) refl refl
  fits_stay (Some s) is = fits_inside (is_kicked past p) (next_op j past p) refl (ap is_some is)

  fits_early : (s : Option Stay) (op : Option Op) → DueFits j past p (early_turn s op)
  fits_early None None = tt
  fits_early None (Some op) = tt
  fits_early (Some s) op = tt

  fits_after : (l : Last) (b : Bool) (d : Due) → DueFits j past p d → DueFits j past p (due_after l b d)
  fits_after (Loads f page) b d k = λ quiet. no_holds j past p (actions.Eld (frame_at f)) refl tt
  fits_after (Fails page why) true d k = tt
  fits_after (Fails page why) false d k = tt
  fits_after WasEnded b d k = tt
  fits_after Other b d k = k

  fits_due : DueFits j past p (cpu_due j past p)
  fits_due =
      fits_either (is_spent past) Stopped (due_after (last_of past p) (is_last past p) (turn_due j past p)) tt
      (fits_after (last_of past p) (is_last past p) (turn_due j past p)
      (fits_either (is_built j past) (stay_turn j past p (stay past p)) (early_turn (stay past p) (next_op j past p))
      (fits_stay (stay past p) refl) (fits_early (stay past p) (next_op j past p))))

  -- an entry that is no reply
  fits_next : (d : Due) (ev : Event) → DueFits j past p d → IsNext d ev → is_reply (is_interrupted past p) ev ≡ false → (action : Action)
      → action_of ev ≡ Some action → Fits j past p action
  fits_next (Ends a) ev k n quiet action is =
      let same : a ≡ action = cc in subst (Fits j past p) same (k (quiet_of (is_interrupted past p) ev a n quiet))
  fits_next (Makes a) ev k n quiet action is =
      let same : a ≡ action = cc in subst (Fits j past p) same (k (quiet_of (is_interrupted past p) ev a n quiet))
  fits_next Stopped ev k n quiet action is = absurd n
  fits_next Finished ev k n quiet action is = absurd n
  fits_next (Waits why) ev k n quiet action is = absurd n
  fits_next (Reports page why) ev k n quiet action is = absurd (bus_none page why action (ap action_of (sym n) ∙ is))
  fits_next (Fetches g fetch) ev k n quiet action is = fetched fetch k ev n is
    where
      fetched : (o : Fetch) → FetchFits j past p o → (x : Event) → IsFetch g o x → action_of x ≡ Some action → Fits j past p action
      fetched o h (Bus page why) m same = cc
      fetched o h (Age page look) m same = cc
      fetched o h (Kick cpu) m same = cc
      fetched (WaitsFor target) h (Did a answer) m same = absurd m
      fetched (WaitsFor target) h (Refused a refusal) m same = absurd m
      fetched (Asks target slot None) h (Did a answer) m same = absurd m
      fetched (Asks target slot None) h (Refused a refusal) m same = absurd m
      fetched (Asks target None (Some f)) h (Did a answer) m same = cc
      fetched (Asks target None (Some f)) h (Refused a refusals.SlotEmpty) m same = cc
      fetched (Asks target None (Some f)) h (Refused a refusal) m same = absurd m
      fetched (Asks target (Some slot) (Some f)) h (Did a answer) m same =
          let told : actions.EldStart (frame_at f) target slot ≡ action = cc in subst (Fits j past p) told h
      fetched (Asks target (Some slot) (Some f)) h (Refused a refusals.SlotEmpty) m same =
          let told : actions.EldStart (frame_at f) target slot ≡ action = cc in subst (Fits j past p) told h
      fetched (Asks target (Some slot) (Some f)) h (Refused a refusal) m same = absurd m
  fits_next (LooksAt page held young) ev k n quiet action is = absurd (looked ev n is)
    where
      looked : (x : Event) → IsLook page held young x → action_of x ≡ Some action → ⊥
      looked (Age g look) m same = cc
      looked (Did a answer) m same = m
      looked (Refused a refusal) m same = m
      looked (Kick cpu) m same = m
      looked (Bus g why) m same = m
  fits_next (TriesOut g f) ev k n quiet action is = tried ev n is
    where
      tries : (a : Action) → IsTryOf f (Did a answers.Plain) → Fits j past p a
      tries (actions.EwbStart g slot) m = no_holds j past p (actions.EwbStart g slot) refl tt
      tries _ m = absurd m

      tried : (x : Event) → IsTryOf f x → action_of x ≡ Some action → Fits j past p action
      tried (Did a answer) m same = let told : a ≡ action = cc in subst (Fits j past p) told (tries a (made a answer m))
        where
          made : (b : Action) (c : Answer) → IsTryOf f (Did b c) → IsTryOf f (Did b answers.Plain)
          made (actions.EwbStart g slot) c o = o
          made _ c o = absurd o
      tried (Refused a refusal) m same = let told : a ≡ action = cc in subst (Fits j past p) told (tries a (made a refusal m))
        where
          made : (b : Action) (c : Refusal) → IsTryOf f (Refused b c) → IsTryOf f (Did b answers.Plain)
          made (actions.EwbStart g slot) c o = o
          made _ c o = absurd o
      tried (Age g look) m same = absurd m
      tried (Kick cpu) m same = absurd m
      tried (Bus g why) m same = absurd m
  fits_next (KicksAll []) ev k n quiet action is = absurd n
  fits_next (KicksAll (q ∷ qs)) ev k n quiet action is = absurd (kicked ev n is)
    where
      kicked : (x : Event) → IsKickOf (q ∷ qs) x → action_of x ≡ Some action → ⊥
      kicked (Kick cpu) m same = cc
      kicked (Did a answer) m same = m
      kicked (Refused a refusal) m same = m
      kicked (Age g look) m same = m
      kicked (Bus g why) m same = m

  pub fits_entry : (ev : Event) → IsNext (cpu_due j past p) ev → is_reply (is_interrupted past p) ev ≡ false → (action : Action)
      → action_of ev ≡ Some action → Fits j past p action
  fits_entry ev n quiet action is = fits_next (cpu_due j past p) ev fits_due n quiet action is
