-- What an actor begins to hold, by the tables and by the rules.
use Rattle.std.proofs.Common.{◌≡◌, ℕ, zero, suc, ◌||◌, Bool}
use Rattle.std.proofs.Common.{true, false, if◌then◌else◌, List, [], ◌∷◌, ◌++◌, Option, Some, None}
use Rattle.std.proofs.Common.{is_some, refl, sym, ap, subst, ◌∙◌}
use Rattle.std.proofs.lemmas.Bool.{false≢true}
use Rattle.std.proofs.lemmas.List.{append-nil}
use Rattle.sgx_rules.specs.declared.entries.Action.{Action}
use Rattle.sgx_rules.specs.declared.entries.Action.TheVariants as actions
use Rattle.sgx_rules.specs.declared.entries.Cause.TheVariants as causes
use Rattle.sgx_rules.specs.declared.entries.Entry.{Entry}
use Rattle.sgx_types.specs.declared.names.Frame.{Frame}
use Rattle.sgx_types.specs.declared.names.Page.{Page}
use Rattle.sgx_types.specs.Pages.{is_own_page, page_at, same_page}
use Rattle.sgx_rules.specs.Frames.{content, stands}
use Rattle.sgx_rules.specs.Processors.{Stay, stay}
use Rattle.cached_translations.specs.declared.processor.Mode.{Mode}
use Rattle.cached_translations.specs.declared.processor.Mode.TheVariants.{Inside, Outside}
use Rattle.job_grammar.specs.declared.jobs.Op.{Op}
use Rattle.job_grammar.specs.declared.jobs.Op.TheVariants as ops
use Rattle.job_grammar.specs.Jobs.{JobView, lines_at, tcs_line}
use Rattle.job_grammar.specs.inner.Valid.{IsValid, IsValidOp}
use Rattle.script_rules.specs.Script.{saved_frames}
use Rattle.machine_laws.specs.inner.Columns.{seat_of_stay}
use Rattle.sgx_machine.specs.inner.Parts.{seat_of_mode}
use Rattle.driver_rules.specs.Holds.{access_of_stay, brought_with, holds_by, is_among}
use Rattle.driver_rules.specs.Holds.{pages_there, page_of_stay, those_here, up_to}
use Rattle.driver_rules.specs.Needs.{access_page, interruption, listed, needs, needs_by, next_op, save_to_enter}
use Rattle.driver_rules.specs.Needs.{save_to_resume}
use Rattle.driver_rules.specs.Places.{frame_here, place}
use Rattle.driver_rules.specs.Turns.{first_away, save_frame}
use Rattle.driver_laws.specs.inner.Sound.{IsSound, is_absent}
use Rattle.driver_laws.proofs.PlaceLaws.{stands_there}
use Rattle.due_tables.specs.declared.cpu_turns.Interruption as kept
use Rattle.due_tables.specs.inner.Asked.{Looks, last_save_of, next_save_of}
use Rattle.due_tables.specs.inner.CpuTurns.{interruption_told}
use Rattle.due_tables.specs.inner.Due.{IsOrderly}
use Rattle.due_tables.specs.inner.Holding.{access_inside_of, aside_held, brought}
use Rattle.due_tables.specs.inner.Holding.{held_of, loads_held, needed_of}
use Rattle.due_tables.specs.inner.Holding.{page_inside_of, pages_of}
use Rattle.due_tables.proofs.DueLaws.{access_is, enclave_same, enter_save_is, resume_save_is}
use Rattle.due_tables.proofs.LineLaws.{saved_within, tcs_line_is}
use Rattle.due_tables.proofs.LookLaws.{IsSeen}
use Rattle.due_tables.proofs.NeedLaws.{Fits, IsExactLoad}
use Rattle.due_tables.proofs.HeldLists.{Same, TellsHere, array_list, aside_load, here_by, last_own, loads_same}
use Rattle.due_tables.proofs.HeldLists.{none_away, none_in, one_same, page_in_is, page_in_once}

-- ---- what begins to be held, by the tables and by the rules

module _ (j : JobView) (past : List Entry) (p : ℕ) (look : Looks) (v : IsValid j) (o : IsOrderly j past) (seen : IsSeen j past p look)
    (sound : IsSound past) where
  enter_save : (e t : ℕ) → next_save_of e (look.tcs (page_at e t)) ≡ save_to_enter j past e t
  enter_save = enter_save_is j past p look v o seen

  resume_save : (e t : ℕ) → last_save_of e (look.tcs (page_at e t)) ≡ save_to_resume j past e t
  resume_save = resume_save_is j past p look v o seen

  inside_same : (mode : Mode) (s : Option Stay) (n : ℕ) → seat_of_mode mode ≡ seat_of_stay s
      → (g : Page) → is_among (listed (page_inside_of mode n) ++ ([] ++ [])) g ≡ is_among (page_of_stay s n) g
  inside_same Outside None n h g = refl
  inside_same Outside (Some s) n h g = cc
  inside_same (Inside e t tf sf epoch) None n h g = cc
  inside_same (Inside e t tf sf epoch) (Some s) n h g = ap (λ k. is_among (page_at k n ∷ []) g) (enclave_same e t tf sf epoch s h)

  access_same : (mode : Mode) (s : Option Stay) (op : Option Op) → seat_of_mode mode ≡ seat_of_stay s
      → ((y : Op) → op ≡ Some y → IsValidOp j y) → next_op j past p ≡ op
      → (g : Page) → is_among (listed (access_inside_of mode op) ++ ([] ++ [])) g ≡ is_among (access_of_stay j past p s) g
  access_same Outside None op h ok next g = refl
  access_same Outside (Some s) op h ok next g = cc
  access_same (Inside e t tf sf epoch) None op h ok next g = cc
  access_same (Inside e t tf sf epoch) (Some s) None h ok next g = ap (λ x. is_among (listed (access_page s.seat.enclave x)) g) (sym next)
  access_same (Inside e t tf sf epoch) (Some s) (Some y) h ok next g =
      one_same (access_inside_of (Inside e t tf sf epoch) (Some y)) g
      ∙ ap (λ x. is_among (listed x) g) (access_is j e y (ok y refl) ∙ ap (λ k. access_page k (Some y)) (enclave_same e t tf sf epoch s h)
      ∙ ap (access_page s.seat.enclave) (sym next))

  resume_same : (e t : ℕ) (tf sf : Frame) → frame_here (place past (page_at e t)) ≡ Some tf.0
      → save_frame past (page_at e t) (save_to_resume j past e t) ≡ Some sf.0
      → Same (page_at e t ∷ (listed (last_save_of e (look.tcs (page_at e t))) ++ [])) (page_at e t ∷ pages_there (content past sf.0))
  resume_same e t tf sf is at g =
      ap (λ x. is_among (page_at e t ∷ (listed x ++ [])) g) (resume_save e t) ∙ by_save (save_to_resume j past e t) refl at
    where
      stood : (h : Page) → frame_here (place past h) ≡ Some sf.0 → stands (content past sf.0) h ≡ true
      stood h k = sound.places.frames h sf.0 ∙ stands_there (place past h) sf.0 k

      own_save : (n : ℕ) (x : Page) → save_to_resume j past n t ≡ Some x → is_own_page x ≡ true
      own_save zero x k = cc
      own_save (suc n) x k =
          last_own n (saved_frames past (page_at (suc n) t)) (tcs_line (lines_at j.enclaves (suc n)) t) x (tcs_line_is j (suc n) t v)
          (saved_within past p (page_at (suc n) t) (tcs_line (lines_at j.enclaves (suc n)) t) (o.room p (page_at (suc n) t))) k

      by_save : (x : Option Page) → save_to_resume j past e t ≡ x → save_frame past (page_at e t) x ≡ Some sf.0
          → is_among (page_at e t ∷ (listed x ++ [])) g ≡ is_among (page_at e t ∷ pages_there (content past sf.0)) g
      by_save None named k = page_in_once (content past sf.0) (page_at e t) g (stood (page_at e t) k)
      by_save (Some x) named k =
          ap (λ b. same_page (page_at e t) g || b) (sym (page_in_is (content past sf.0) x g (own_save e x named) (stood x k)))

  load_same : (i : Option kept.Interruption) (op : Option Op) (page : Page) → interruption past p ≡ interruption_told i
      → next_op j past p ≡ op → is_among (needs j past p) page ≡ true
      → Same (pages_of (loads_held (needed_of look.tcs i op) page)) (up_to page (needs j past p))
  load_same (Some i) op page is next there =
      subst (λ save. Same (pages_of (loads_held (Some (record { tcs = page_at i.enclave i.tcs; save = save })) page)) (up_to page
      (needs j past p)))
      (sym (resume_save i.enclave i.tcs))
      (by_page i.for_page (ap (needs_by j past p) is))
    where
      by_page : (b : Bool)
          → needs j past p ≡ page_at i.enclave i.tcs ∷ (listed (save_to_resume j past i.enclave i.tcs) ++ (if b then listed
          (access_page i.enclave (next_op j past p)) else []))
          → Same (pages_of (loads_held (Some
          (record { tcs = page_at i.enclave i.tcs; save = save_to_resume j past i.enclave i.tcs })) page))
          (up_to page (needs j past p))
      by_page true same =
          loads_same (page_at i.enclave i.tcs) (save_to_resume j past i.enclave i.tcs) (access_page i.enclave (next_op j past p))
          (needs j past p) page same there
      by_page false same =
          loads_same (page_at i.enclave i.tcs) (save_to_resume j past i.enclave i.tcs) None (needs j past p) page same there
  load_same None None page is next there = absurd (none_in (needs j past p) page (rw (is, next) refl) there)
  load_same None (Some (ops.Enter e t)) page is next there =
      subst (λ save. Same (pages_of (loads_held (Some (record { tcs = page_at e t; save = save })) page)) (up_to page (needs j past p)))
      (sym (enter_save e t))
      (loads_same (page_at e t) (save_to_enter j past e t) None (needs j past p) page same there)
    where
      same : needs j past p ≡ page_at e t ∷ (listed (save_to_enter j past e t) ++ [])
      same = rw (is, next) (ap (λ xs. page_at e t ∷ xs) (sym (append-nil (listed (save_to_enter j past e t)))))
  load_same None (Some (ops.Resume e t)) page is next there =
      subst (λ save. Same (pages_of (loads_held (Some (record { tcs = page_at e t; save = save })) page)) (up_to page (needs j past p)))
      (sym (resume_save e t))
      (loads_same (page_at e t) (save_to_resume j past e t) None (needs j past p) page same there)
    where
      same : needs j past p ≡ page_at e t ∷ (listed (save_to_resume j past e t) ++ [])
      same = rw (is, next) (ap (λ xs. page_at e t ∷ xs) (sym (append-nil (listed (save_to_resume j past e t)))))
  load_same None (Some op) page is next there = absurd (none_in (needs j past p) page (rw (is, next) refl) there)

  aside_same : (i : Option kept.Interruption) (op : Option Op) (page : Page) → interruption past p ≡ interruption_told i
      → next_op j past p ≡ op → is_some (first_away past (needs j past p)) ≡ true
      → pages_of (aside_held (here_by past) (needed_of look.tcs i op) page) ≡ those_here past (needs j past p) ++ array_list page
  aside_same (Some i) op page is next away =
      ap (λ save. pages_of (aside_held (here_by past) (Some (record { tcs = page_at i.enclave i.tcs; save = save })) page))
      (resume_save i.enclave i.tcs)
      ∙ by_page i.for_page (ap (needs_by j past p) is)
    where
      by_page : (b : Bool)
          → needs j past p ≡ page_at i.enclave i.tcs ∷ (listed (save_to_resume j past i.enclave i.tcs) ++ (if b then listed
          (access_page i.enclave (next_op j past p)) else []))
          → pages_of (aside_held (here_by past)
          (Some (record { tcs = page_at i.enclave i.tcs; save = save_to_resume j past i.enclave i.tcs })) page)
          ≡ those_here past (needs j past p) ++ array_list page
      by_page true same =
          aside_load past (page_at i.enclave i.tcs) (save_to_resume j past i.enclave i.tcs) (access_page i.enclave (next_op j past p))
          (needs j past p) page same away
      by_page false same =
          aside_load past (page_at i.enclave i.tcs) (save_to_resume j past i.enclave i.tcs) None (needs j past p) page same away
  aside_same None None page is next away = absurd (none_away past (needs j past p) (rw (is, next) refl) away)
  aside_same None (Some (ops.Enter e t)) page is next away =
      ap (λ save. pages_of (aside_held (here_by past) (Some (record { tcs = page_at e t; save = save })) page)) (enter_save e t)
      ∙ aside_load past (page_at e t) (save_to_enter j past e t) None (needs j past p) page same away
    where
      same : needs j past p ≡ page_at e t ∷ (listed (save_to_enter j past e t) ++ [])
      same = rw (is, next) (ap (λ xs. page_at e t ∷ xs) (sym (append-nil (listed (save_to_enter j past e t)))))
  aside_same None (Some (ops.Resume e t)) page is next away =
      ap (λ save. pages_of (aside_held (here_by past) (Some (record { tcs = page_at e t; save = save })) page)) (resume_save e t)
      ∙ aside_load past (page_at e t) (save_to_resume j past e t) None (needs j past p) page same away
    where
      same : needs j past p ≡ page_at e t ∷ (listed (save_to_resume j past e t) ++ [])
      same = rw (is, next) (ap (λ xs. page_at e t ∷ xs) (sym (append-nil (listed (save_to_resume j past e t)))))
  aside_same None (Some op) page is next away = absurd (none_away past (needs j past p) (rw (is, next) refl) away)

  -- a page that is brought back: a TCS or REG page, or another one before it
  brought_same : (i : Option kept.Interruption) (op : Option Op) → interruption past p ≡ interruption_told i → next_op j past p ≡ op
      → (page : Page) → IsExactLoad (is_own_page page) j past p page
      → Same (pages_of (brought (here_by past) (needed_of look.tcs i op) page)) (brought_with past page (needs j past p))
  brought_same i op is next page exact = by_own (is_own_page page) exact
    where
      by_own : (b : Bool) → IsExactLoad b j past p page
          → Same (pages_of (if b then loads_held (needed_of look.tcs i op) page
          else aside_held (here_by past) (needed_of look.tcs i op) page))
          (if b then up_to page (needs j past p) else those_here past (needs j past p) ++ array_list page)
      by_own true k = load_same i op page is next k
      by_own false k = λ g. ap (λ xs. is_among xs g) (aside_same i op page is next k)

  held_same : (here : Page → Bool) (i : Option kept.Interruption) (op : Option Op) → interruption past p ≡ interruption_told i
      → next_op j past p ≡ op → ((y : Op) → op ≡ Some y → IsValidOp j y) → (action : Action) → TellsHere past here (Some action)
      → Fits j past p action
      → Same (pages_of (held_of here look.tcs look.mode i op (Some action))) (holds_by j past p (Some action))
  held_same here i op is next ok (actions.Fill n f) told fits = inside_same look.mode (stay past p) n seen.seat
  held_same here i op is next ok (actions.Aex causes.Fault) told fits = access_same look.mode (stay past p) op seen.seat ok next
  held_same here i op is next ok (actions.Aex causes.Timer) told fits = λ g. refl
  held_same here i op is next ok (actions.Aex causes.Kick) told fits = λ g. refl
  held_same here i op is next ok (actions.Aex causes.End) told fits = λ g. refl
  held_same here i op is next ok (actions.EldStart f page slot) told fits =
      subst (λ (h : Page → Bool). Same (pages_of (brought h (needed_of look.tcs i op) page)) (brought_with past page (needs j past p)))
      (sym same) (brought_same i op is next page fits.exact)
    where
      same : here ≡ here_by past
      same = λ k g. told f page slot refl g k
  held_same here i op is next ok (actions.Resume e t tf sf) told fits = resume_same e t tf sf fits.exact.0 fits.exact.1
  held_same here i op is next ok action told fits = λ g. refl

  -- .. behind an event that is no reply
  pub event_same : (here : Page → Bool) (i : Option kept.Interruption) (op : Option Op) → interruption past p ≡ interruption_told i
      → next_op j past p ≡ op → ((y : Op) → op ≡ Some y → IsValidOp j y) → (x : Option Action) → TellsHere past here x
      → ((action : Action) → x ≡ Some action → Fits j past p action)
      → Same (pages_of (held_of here look.tcs look.mode i op x)) (holds_by j past p x)
  event_same here i op is next ok None told fits = λ g. refl
  event_same here i op is next ok (Some action) told fits = held_same here i op is next ok action told (fits action refl)

  pub event_there : (x : Option Action) → ((action : Action) → x ≡ Some action → Fits j past p action) → (g : Page)
      → is_among (holds_by j past p x) g ≡ true → is_absent (place past g) ≡ false
  event_there None fits g h = absurd (false≢true h)
  event_there (Some action) fits g h = (fits action refl).there g h
