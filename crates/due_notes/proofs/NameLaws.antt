-- What a due instruction of a processor names: frames of the pages that the rules name, and pages that were added.
use Rattle.std.proofs.Common.{◌≡◌, ◌≢◌, ℕ, ◌/◌, not, Bool, true, false, if◌then◌else◌, List, [], ◌∷◌, Option}
use Rattle.std.proofs.Common.{Some, None, refl, sym, subst, ◌∙◌}
use Rattle.sgx_rules.specs.declared.entries.AccessOp.{AccessOp}
use Rattle.sgx_rules.specs.declared.entries.AccessOp.TheVariants as accesses
use Rattle.sgx_rules.specs.declared.entries.Action.{Action}
use Rattle.sgx_rules.specs.declared.entries.Action.TheVariants as actions
use Rattle.sgx_rules.specs.declared.entries.Answer.{Answer}
use Rattle.sgx_rules.specs.declared.entries.Entry.{Entry}
use Rattle.sgx_rules.specs.declared.entries.Event.TheVariants.{Did}
use Rattle.sgx_types.specs.declared.names.Page.{Page}
use Rattle.sgx_types.specs.declared.names.SlotAt.{SlotAt}
use Rattle.sgx_rules.specs.Flat.{at_offset}
use Rattle.sgx_types.specs.Pages.{page_at}
use Rattle.sgx_rules.specs.Frames.{added}
use Rattle.sgx_rules.specs.Processors.{Stay, holds_number, stay, translations}
use Rattle.sgx_rules.specs.Table.{is_lawful_access}
use Rattle.job_grammar.specs.declared.jobs.Op.{Op}
use Rattle.job_grammar.specs.declared.jobs.Op.TheVariants as ops
use Rattle.job_grammar.specs.Jobs.{JobView}
use Rattle.script_rules.specs.Script.{enter_with, is_turned_away, resume_with}
use Rattle.sgx_types.specs.Pages.{frame_at}
use Rattle.driver_rules.specs.declared.waits.Why.{Why}
use Rattle.driver_rules.specs.declared.waits.Why.TheVariants as waits
use Rattle.driver_rules.specs.Dues.{Asks, Due, Ends, Fetch, Fetches, Finished, IsFetch, IsNext, IsTryOf, KicksAll, LooksAt, Makes, Reports}
use Rattle.driver_rules.specs.Dues.{Stopped, TriesOut, Waits, WaitsFor, load_by, makes_or}
use Rattle.driver_rules.specs.Needs.{Interruption, interruption, needs_after, needs_to_enter, needs_to_resume, next_op}
use Rattle.driver_rules.specs.Needs.{save_to_enter}
use Rattle.driver_rules.specs.Needs.{save_to_resume}
use Rattle.driver_rules.specs.Places.{Absent, Away, Here, Leaving, Loading, Place, frame_here, place}
use Rattle.driver_rules.specs.Stops.{is_spent}
use Rattle.driver_rules.specs.Turns.{Fails, Last, Loads, Other, WasEnded, accesses_by, cpu_due, due_after, early_turn, enters}
use Rattle.driver_rules.specs.Turns.{fetches}
use Rattle.driver_rules.specs.Turns.{fills, first_away, inside_turn, is_built, is_kicked, is_last, last_of, op_turn}
use Rattle.driver_rules.specs.Turns.{outside_turn, resumes}
use Rattle.driver_rules.specs.Turns.{save_frame, stay_turn, turn_due, with_pages}
use Rattle.driver_laws.specs.inner.Sound.{IsSound, is_absent}
use Rattle.driver_laws.proofs.SoundLaws.{lawful_there}

abbrev pub There : List Entry → Page → Type 0
There past g = is_absent (place past g) ≡ false

-- a TCS page and a state save page are here, in these frames
pub record NamesFrames (past : List Entry) (tcs : Page) (save : Option Page) (tf sf : ℕ) : Type 0 where
  pub page : Page
  pub is : save ≡ Some page
  pub tcs_here : frame_here (place past tcs) ≡ Some tf
  pub save_here : frame_here (place past page) ≡ Some sf

-- a page of the enclave that the processor is inside was added
abbrev pub NamesInside : List Entry → ℕ → ℕ → Type 0
NamesInside past p n = (s : Stay) → stay past p ≡ Some s → There past (page_at s.seat.enclave n)

-- who enters by two frames names those of the TCS page and of the state save page
abbrev pub Names : JobView → List Entry → ℕ → Action → Type 0
Names j past p (actions.Enter e t tf sf) = tf.0 ≢ sf.0 → NamesFrames past (page_at e t) (save_to_enter j past e t) tf.0 sf.0
Names j past p (actions.Resume e t tf sf) = tf.0 ≢ sf.0 → NamesFrames past (page_at e t) (save_to_resume j past e t) tf.0 sf.0
Names j past p (actions.Fill n f) = NamesInside past p n
Names j past p (actions.Load off) = NamesInside past p (off / 4096)
Names j past p (actions.Store off value) = NamesInside past p (off / 4096)
Names j past p (actions.Xadd off value) = NamesInside past p (off / 4096)
Names j past p _ = Unit {0}

abbrev DueNames : JobView → List Entry → ℕ → Due → Type 0
DueNames j past p (Ends action) = Names j past p action
DueNames j past p (Makes action) = Names j past p action
DueNames j past p _ = Unit {0}

module _ (j : JobView) (past : List Entry) (p : ℕ) (sound : IsSound past) where
  names_either : (b : Bool) (x y : Due) → DueNames j past p x → DueNames j past p y → DueNames j past p (if b then x else y)
  names_either true x y h k = h
  names_either false x y h k = k

  names_fetch : (g : Page) (at : Place) → DueNames j past p (fetches j.epc past g at)
  names_fetch g Absent = tt
  names_fetch g (Here f) = tt
  names_fetch g (Leaving f) = tt
  names_fetch g (Loading f slot) = tt
  names_fetch g (Away slot) = tt

  names_with : (o : Option Page) (d : Due) → DueNames j past p d → DueNames j past p (with_pages j past o d)
  names_with None d h = h
  names_with (Some g) d h = names_fetch g (place past g)

  -- ---- entries and resumptions

  by_frames : (tcs : Page) (save : Option Page) (tf sf : ℕ) → frame_here (place past tcs) ≡ Some tf
      → save_frame past tcs save ≡ Some sf → tf ≢ sf → NamesFrames past tcs save tf sf
  by_frames tcs None tf sf is at other = absurd (other (let same : tf ≡ sf = cc in same))
  by_frames tcs (Some g) tf sf is at other = record { page = g; is = refl; tcs_here = is; save_here = at }

  names_enter : (why : Why) (e t : ℕ) (tf sf : Option ℕ) → frame_here (place past (page_at e t)) ≡ tf
      → save_frame past (page_at e t) (save_to_enter j past e t) ≡ sf → DueNames j past p (makes_or why (enter_with e t tf sf))
  names_enter why e t None sf is at = tt
  names_enter why e t (Some tf) None is at = tt
  names_enter why e t (Some tf) (Some sf) is at = by_frames (page_at e t) (save_to_enter j past e t) tf sf is at

  names_resume : (why : Why) (e t : ℕ) (tf sf : Option ℕ) → frame_here (place past (page_at e t)) ≡ tf
      → save_frame past (page_at e t) (save_to_resume j past e t) ≡ sf → DueNames j past p (makes_or why (resume_with e t tf sf))
  names_resume why e t None sf is at = tt
  names_resume why e t (Some tf) None is at = tt
  names_resume why e t (Some tf) (Some sf) is at = by_frames (page_at e t) (save_to_resume j past e t) tf sf is at

  names_resumes : (e t : ℕ) (pages : List Page) → DueNames j past p (resumes j past e t pages)
  names_resumes e t pages =
      names_with (first_away past pages)
      (makes_or (waits.Busy (page_at e t)) (resume_with e t (frame_here (place past (page_at e t)))
      (save_frame past (page_at e t) (save_to_resume j past e t))))
      (names_resume (waits.Busy (page_at e t)) e t (frame_here (place past (page_at e t)))
      (save_frame past (page_at e t) (save_to_resume j past e t)) refl refl)

  -- ---- accesses

  names_fills : (n : ℕ) (o : Option ℕ) → NamesInside past p n → DueNames j past p (fills n o)
  names_fills n None there = tt
  names_fills n (Some f) there = there

  names_access : (s : Option Stay) → stay past p ≡ s → (op : AccessOp) (off : ℕ) (access : Action)
      → (NamesInside past p (off / 4096) → Names j past p access) → DueNames j past p (accesses_by past p s op off access)
  names_access None inside op off access to = to (λ s is. absurd (let bad : None ≡ Some s = sym inside ∙ is in cc))
  names_access (Some s) inside op off access to = by_lawful (is_lawful_access (added past (at_offset s.seat.enclave off)) op) refl
    where
      there : is_lawful_access (added past (at_offset s.seat.enclave off)) op ≡ true → NamesInside past p (off / 4096)
      there is x at =
          let same : s ≡ x = cc in
          subst (λ (y : Stay). There past (at_offset y.seat.enclave off)) same
          (lawful_there past (at_offset s.seat.enclave off) op sound is)

      by_lawful : (b : Bool) → is_lawful_access (added past (at_offset s.seat.enclave off)) op ≡ b
          → DueNames j past p (if not b then Makes (actions.Pf op off)
          else if holds_number (translations past p) (off / 4096) then Makes access
          else fills (off / 4096) (frame_here (place past (at_offset s.seat.enclave off))))
      by_lawful false is = tt
      by_lawful true is =
          names_either (holds_number (translations past p) (off / 4096)) (Makes access)
          (fills (off / 4096) (frame_here (place past (at_offset s.seat.enclave off)))) (to (there is))
          (names_fills (off / 4096) (frame_here (place past (at_offset s.seat.enclave off))) (there is))

  -- ---- the first rule that applies

  names_op : (op : Op) → DueNames j past p (op_turn j past p op)
  names_op (ops.Enter e t) =
      names_either (is_turned_away past p e) (Makes (actions.Enter e t (frame_at 0) (frame_at 0))) (enters j past e t)
      (λ other. absurd (other refl))
      (names_with (first_away past (needs_to_enter j past e t))
      (makes_or (waits.Busy (page_at e t)) (enter_with e t (frame_here (place past (page_at e t)))
      (save_frame past (page_at e t) (save_to_enter j past e t))))
      (names_enter (waits.Busy (page_at e t)) e t (frame_here (place past (page_at e t)))
      (save_frame past (page_at e t) (save_to_enter j past e t)) refl refl))
  names_op (ops.Resume e t) =
      names_either (is_turned_away past p e) (Makes (actions.Resume e t (frame_at 0) (frame_at 0)))
      (resumes j past e t (needs_to_resume j past e t)) (λ other. absurd (other refl)) (names_resumes e t (needs_to_resume j past e t))
  names_op ops.Exit = tt
  names_op ops.Timer = tt
  names_op (ops.Load off) = names_access (stay past p) refl accesses.Load off (actions.Load off) (λ h. h)
  names_op (ops.Store off value) = names_access (stay past p) refl accesses.Store off (actions.Store off value) (λ h. h)
  names_op (ops.Xadd off value) = names_access (stay past p) refl accesses.Xadd off (actions.Xadd off value) (λ h. h)
  names_op (ops.Set value) = tt
  names_op (ops.Plus value) = tt
  names_op (ops.OutLoad enclave off) = tt
  names_op (ops.OutStore enclave off value) = tt

  names_outside : (i : Option Interruption) (op : Option Op) → DueNames j past p (outside_turn j past p i op)
  names_outside i None = tt
  names_outside (Some i) (Some op) = names_resumes i.enclave i.tcs (needs_after j past p i)
  names_outside None (Some op) = names_op op

  names_inside : (k : Bool) (op : Option Op) → DueNames j past p (inside_turn j past p k op)
  names_inside true op = tt
  names_inside false None = tt
  names_inside false (Some op) = names_op op

  names_stay : (s : Option Stay) → DueNames j past p (stay_turn j past p s)
  names_stay None = names_outside (interruption past p) (next_op j past p)
  names_stay (Some s) = names_inside (is_kicked past p) (next_op j past p)

  names_early : (s : Option Stay) (op : Option Op) → DueNames j past p (early_turn s op)
  names_early None None = tt
  names_early None (Some op) = tt
  names_early (Some s) op = tt

  names_after : (l : Last) (b : Bool) (d : Due) → DueNames j past p d → DueNames j past p (due_after l b d)
  names_after (Loads f page) b d h = tt
  names_after (Fails page why) true d h = tt
  names_after (Fails page why) false d h = tt
  names_after WasEnded b d h = tt
  names_after Other b d h = h

  names_due : DueNames j past p (cpu_due j past p)
  names_due =
      names_either (is_spent past) Stopped (due_after (last_of past p) (is_last past p) (turn_due j past p)) tt
      (names_after (last_of past p) (is_last past p) (turn_due j past p)
      (names_either (is_built j past) (stay_turn j past p (stay past p)) (early_turn (stay past p) (next_op j past p))
      (names_stay (stay past p)) (names_early (stay past p) (next_op j past p))))

  names_next : (d : Due) (action : Action) (answer : Answer) → DueNames j past p d → IsNext d (Did action answer) → Names j past p action
  names_next (Ends a) action answer h n = let same : action ≡ a = cc in subst (Names j past p) (sym same) h
  names_next (Makes a) action answer h n = let same : action ≡ a = cc in subst (Names j past p) (sym same) h
  names_next Stopped action answer h n = absurd n
  names_next Finished action answer h n = absurd n
  names_next (Waits why) action answer h n = absurd n
  names_next (Reports page why) action answer h n = cc
  names_next (Fetches g fetch) action answer h n = fetched fetch n
    where
      loaded : (f : ℕ) (target : Page) (slot : Option SlotAt) → load_by target slot f ≡ Some action → Names j past p action
      loaded f target None m = cc
      loaded f target (Some at) m =
          let same : actions.EldStart (frame_at f) target at ≡ action = cc in subst (Names j past p) same tt

      fetched : (o : Fetch) → IsFetch g o (Did action answer) → Names j past p action
      fetched (WaitsFor target) m = absurd m
      fetched (Asks target slot None) m = absurd m
      fetched (Asks target slot (Some f)) m = loaded f target slot m
  names_next (LooksAt page held young) action answer h n = absurd n
  names_next (TriesOut g f) action answer h n = tried action n
    where
      tried : (a : Action) → IsTryOf f (Did a answer) → Names j past p a
      tried (actions.EwbStart k slot) m = tt
      tried _ m = absurd m
  names_next (KicksAll []) action answer h n = absurd n
  names_next (KicksAll (q ∷ qs)) action answer h n = absurd n

  -- an instruction that a processor has done by its turn
  pub names_done : (action : Action) (answer : Answer) → IsNext (cpu_due j past p) (Did action answer) → Names j past p action
  names_done action answer next = names_next (cpu_due j past p) action answer names_due next
