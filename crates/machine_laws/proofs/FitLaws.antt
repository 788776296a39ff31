-- No page comes to stand in two frames, as long as each load is of a page that is away.
use Rattle.std.proofs.Common.{◌≡◌, ℕ, ◌<◌, ◌≤◌, ◌==◌, ◌&&◌, ◌||◌, inl, inr, not, Bool, true, false, cond, refl, sym, ap, subst, ◌∙◌}
use Rattle.std.proofs.Common.{Option, Some, None, IfSome, List, ◌∷◌, MatchOption, is_some, length, arith, leb, nat_le, nat_lt}
use Rattle.std.proofs.lemmas.Bool.{false≢true, eq-eqb, eqb-true, leb-true, lt-ltb, ltb-true, false_from_ne_true}
use Rattle.sgx_rules.specs.declared.entries.Entry.{Entry}
use Rattle.sgx_types.specs.declared.names.Actor.{Actor}
use Rattle.sgx_rules.specs.declared.entries.Action.{Action}
use Rattle.sgx_rules.specs.declared.entries.Action.TheVariants.{Epa, Create, Add, EwbStart, Ewb, EldStart, Eld}
use Rattle.sgx_rules.specs.declared.entries.Answer.{Answer}
use Rattle.sgx_rules.specs.declared.entries.Answer.TheVariants as answers
use Rattle.sgx_types.specs.declared.lawful.PageInit.{PageInit}
use Rattle.sgx_types.specs.declared.names.Frame.{Frame}
use Rattle.sgx_types.specs.declared.names.Kind.{Kind}
use Rattle.sgx_types.specs.declared.names.Page.{Page}
use Rattle.sgx_types.specs.declared.names.Perm.{Perm}
use Rattle.sgx_types.specs.declared.names.SlotAt.{SlotAt}
use Rattle.sgx_types.specs.declared.names.TheConstants.{SECS_NUMBER}
use Rattle.sgx_types.specs.declared.names.VaSlot.{VaSlot}
use Rattle.sgx_types.specs.Lawful.{is_enclave, is_lawful}
use Rattle.sgx_rules.specs.declared.refusals.Refusal.{Refusal}
use Rattle.sgx_types.specs.Pages.{is_own_page, page_at, same_page, secs_page, va_page}
use Rattle.sgx_rules.specs.Frames.{Content, Free, IsVa, SecsOf, Holds, IsLoading, added}
use Rattle.sgx_rules.specs.Frames.{content, is_this, page_there, reloaded, reloaded_as}
use Rattle.sgx_rules.specs.Frames.{stands, vas_made}
use Rattle.sgx_rules.specs.Starts as opening
use Rattle.sgx_rules.specs.Starts.{Start, open_start, slot_found}
use Rattle.sgx_rules.specs.inner.Starts.{BareStart, bare_start, is_load_of}
use Rattle.sgx_rules.specs.Rules.{FitsRule, NoPageTwice}
use Rattle.sgx_rules.specs.inner.Rules.{LoadsAwayRule}
use Rattle.sgx_types.specs.Cases.{first_of_row}
use Rattle.sgx_rules.specs.Table.{is_loading, is_made}
use Rattle.sgx_rules.proofs.Rows.{none_holds}
use Rattle.sgx_types.proofs.Truths.{apart, both_true, neither, not_false}
use Rattle.sgx_types.specs.Sealed.{Sealed}
use Rattle.seal_record.specs.Cipher.{cipher}
use Rattle.machine_copies.specs.inner.Away.{array_in}
use Rattle.machine_copies.proofs.ApartLaws.{IsApart, IsAway, loaded_away, put_apart, start_apart}
use Rattle.machine_laws.specs.inner.Guarded.{IsGuarded, IsOpen}
use Rattle.machine_laws.specs.inner.Shape.{ShapeWithRules, FitsApart}
use Rattle.machine_laws.specs.inner.Stands.{HasEnclaves, IsSound, IsFramed}
use Rattle.machine_laws.specs.inner.State.{State, is_known, row_of, secs_sight, sight, after_eld, after_failed_eld}
use Rattle.machine_laws.specs.inner.Steps.{CanApply, IsDone, IsStep, IsComing, IsWrittenOut, IsReloaded, commit_row, did_by}
use Rattle.machine_laws.specs.inner.Steps.{refused_by}
use Rattle.machine_laws.proofs.TestLaws.{last_place}
use Rattle.machine_laws.specs.inner.Columns.{HasColumns}
use Rattle.machine_laws.proofs.BuildLaws.{adds}
use Rattle.machine_laws.proofs.ColumnLaws.{content_is, start_is, vas_is}
use Rattle.machine_laws.proofs.SlotLaws.{started_as}
use Rattle.machine_laws.proofs.RowLaws.{row_fits, step_entry, IsEntryOf}
use Rattle.machine_laws.proofs.MoveEnds.{is_end, no_end}
use Rattle.sgx_rules.specs.Flat.{FlatEnclave, enclave_sight_of}
use Rattle.sgx_types.proofs.Pages.{same_pages, same_page-refl}
use Rattle.sgx_types.specs.Making.{Making}

-- ---- one entry more

apart_in : (frames : ℕ) (past : List Entry) → FitsApart frames past → IsApart (content past) (open_start past)
apart_in frames past h = record { once = last_place NoPageTwice past h.fits.pages; frames = h.apart.frames; loads = h.apart.loads }

fits_more : (frames : ℕ) (past : List Entry) (e : Entry) → FitsRule frames past e → IsApart (content (e ∷ past)) (open_start (e ∷ past))
    → FitsApart frames past → FitsApart frames (e ∷ past)
fits_more frames past e rule next h = record {
  fits = record { entries = (rule, h.fits.entries); pages = (next.once, h.fits.pages) };
  apart = record { frames = next.frames; loads = next.loads };
}

-- an entry that no content and no start sees
pub fits_same : (frames : ℕ) (past : List Entry) (e : Entry) → ((n : ℕ) → content (e ∷ past) n ≡ content past n)
    → ((n : ℕ) → open_start (e ∷ past) n ≡ open_start past n) → FitsRule frames past e
    → FitsApart frames past → FitsApart frames (e ∷ past)
fits_same frames past e held starts rule h =
    let before = apart_in frames past h in
    fits_more frames past e rule
    (record {
      once = λ m n g. rw (held m, held n) (before.once m n g);
      frames = λ m n g. rw (starts m, held n) (before.frames m n g);
      loads = λ m n g. rw (starts m, starts n) (before.loads m n g);
    })
    h

-- what the name of a TCS or REG page is not
pub own_names : (va last : Bool) → (not va && not last) ≡ true → (va ≡ false) × (last ≡ false)
own_names true last is = cc is
own_names false true is = cc is
own_names false false is = (refl, refl)

-- what stands in a frame is there
standing_known : (s : State) → IsGuarded s → IsFramed s → HasEnclaves s → (n : ℕ) (g : Page) → stands (s.content n) g ≡ true
    → is_known s g ≡ true
standing_known s guarded framed owned n g = by_content (s.content n) refl
  where
    made_seen : (o : Option FlatEnclave) → is_some o ≡ true → is_made (enclave_sight_of o) ≡ true
    made_seen None is = cc is
    made_seen (Some x) is = refl

    known : (q : Page) → page_there (s.content n) ≡ Some q → is_known s q ≡ true → same_page q g ≡ true → is_known s g ≡ true
    known q there k same = subst (λ x. is_known s x ≡ true) (same_pages q g same) k

    by_content : (c : Content) → s.content n ≡ c → stands c g ≡ true → is_known s g ≡ true
    by_content Free e is = cc is
    by_content (IsLoading page) e is = cc is
    by_content (IsVa number) e is =
        known (va_page number) (ap page_there e)
        (lt-ltb number s.vas_made (guarded.kept.arrays.below n number (ap array_in e))) is
    by_content (SecsOf enclave) e is =
        let name : (enclave == 0) ≡ false = rw e at (guarded.kept.named n) in
        let made = made_seen (s.enclaves enclave) (owned n (secs_page enclave) (ap page_there e) name) in
        known (secs_page enclave) (ap page_there e) (rw name made) is
    by_content (Holds page kind perm) e is =
        let own : is_own_page page ≡ true = rw e at (guarded.kept.named n) in
        let names = own_names (page.enclave == 0) (page.number == SECS_NUMBER) own in
        let made = made_seen (s.enclaves page.enclave) (owned n page (ap page_there e) names.0) in
        known page (ap page_there e) (rw (names.0, names.1) (both (is_made (enclave_sight_of (s.enclaves page.enclave)))
        (is_some (s.added page)) made (framed n page kind perm e))) is
      where
        both : (a b : Bool) → a ≡ true → b ≡ true → (a && b) ≡ true
        both a b e d = rw (e, d) refl

-- a page that is not there is away
unknown_away : (s : State) (past : List Entry) → HasColumns s past → IsGuarded s → IsFramed s → HasEnclaves s → (g : Page)
    → is_known s g ≡ false → IsAway (content past) (open_start past) g
unknown_away s past columns guarded framed owned g new n = (
  false_from_ne_true (stands (content past n) g)
      (λ is. false≢true (sym new ∙ standing_known s guarded framed owned n g (ap (λ c. stands c g) (content_is columns n) ∙ is))),
  by_start (open_start past n) (subst (λ o. IfSome o (IsOpen s)) (start_is columns n) (guarded.opened n)),
)
  where
    by_load : (o : Option Page) → IfSome o (λ page. is_known s page ≡ true) → is_this o g ≡ false
    by_load None h = refl
    by_load (Some page) h =
        false_from_ne_true (same_page page g) (λ same. false≢true (sym new ∙ ap (is_known s) (sym (same_pages page g same)) ∙ h))

    by_start : (o : Option Start) → IfSome (bare_start o) (IsOpen s) → is_load_of o g ≡ false
    by_start None h = refl
    by_start (Some start) h = by_load start.loads h.loads

-- the page that an instruction adds is a TCS or REG page by its name
abbrev AddsOwn : Action → Type 0
AddsOwn (Add enclave number f kind perm init) = is_own_page (page_at enclave number) ≡ true
AddsOwn action = Unit {0}

-- ---- the rows that put a frame or start

module _ (s : State) (past : List Entry) (a : Actor) (guarded : IsGuarded s) (framed : IsFramed s) (owned : HasEnclaves s)
    (columns : HasColumns s past) (h : FitsApart s.frames past) where
  -- a page that is not there is put into a frame
  new_fits : (f : Frame) (c : Content) (g : Page) (e : Entry) → is_known s g ≡ false
      → ((q : Page) → stands c q ≡ true → same_page g q ≡ true) → FitsRule s.frames past e
      → ((n : ℕ) → content (e ∷ past) n ≡ cond (f.0 == n) c (content past n)) → ((n : ℕ) → open_start (e ∷ past) n ≡ open_start past n)
      → FitsApart s.frames (e ∷ past)
  new_fits f c g e new names rule held starts =
      let away = unknown_away s past columns guarded framed owned g new in
      let put = put_apart (content past) (open_start past) f.0 c (λ q here. rw (← same_pages g q (names q here)) away)
      (apart_in s.frames past h) in
      fits_more s.frames past e rule (record {
        once = λ m n q. rw (held m, held n) (put.once m n q);
        frames = λ m n q. rw (starts m, held n) (put.frames m n q);
        loads = λ m n q. rw (starts m, starts n) (put.loads m n q);
      }) h

  -- a page is added that stood nowhere
  add_fits : (enclave number : ℕ) (f : Frame) (kind : Kind) (perm : Perm) (init : PageInit) (answer : Answer)
      → first_of_row (row_of s a (Add enclave number f kind perm init)) ≡ None
      → FitsRule s.frames past (did_by a (Add enclave number f kind perm init) answer)
      → is_own_page (page_at enclave number) ≡ true
      → FitsApart s.frames (did_by a (Add enclave number f kind perm init) answer ∷ past)
  add_fits enclave number f kind perm init answer allowed rule own =
      let g = page_at enclave number in
      let none = (adds number kind perm init (enclave_sight_of (s.enclaves enclave)) (secs_sight s enclave) (is_some (s.added g))
      (sight s f.0)
      allowed).new in
      let names = own_names (enclave == 0) (number == SECS_NUMBER) own in
      new_fits f (Holds g kind perm) g _ (rw (names.0, names.1, none) (not_both (is_made (enclave_sight_of (s.enclaves enclave)))))
      (λ q is. is) rule (λ n. refl) (λ n. refl)
    where
      not_both : (b : Bool) → (b && false) ≡ false
      not_both true = refl
      not_both false = refl

  -- an enclave is created whose SECS stood nowhere
  create_fits : (enclave : ℕ) (f : Frame) (base size : ℕ) (answer : Answer)
      → first_of_row (row_of s a (Create enclave f base size)) ≡ None
      → FitsRule s.frames past (did_by a (Create enclave f base size) answer)
      → FitsApart s.frames (did_by a (Create enclave f base size) answer ∷ past)
  create_fits enclave f base size answer allowed rule =
      let none = none_holds (row_of s a (Create enclave f base size)) allowed in
      let range = neither (leb s.frames f.0) (not (is_enclave enclave))
      (neither (leb s.frames f.0 || not (is_enclave enclave)) (not (is_lawful base size)) none.0).0 in
      let first = leb-true 1 enclave (both_true (nat_le 1 enclave) (nat_le enclave 8) (not_false _ range.1)).0 in
      let numbered : (enclave == 0) ≡ false = apart enclave 0 (λ is. omega (arith, first, is)) in
      new_fits f (SecsOf enclave) (secs_page enclave) _ (rw numbered (unmade (s.enclaves enclave) none.1.0)) (λ q is. is) rule (λ n. refl)
      (λ n. refl)
    where
      unmade : (o : Option FlatEnclave) → is_some o ≡ false → is_made (enclave_sight_of o) ≡ false
      unmade None is = refl
      unmade (Some x) is = cc is

  -- a version array page is made that stood nowhere
  epa_fits : (f : Frame) (answer : Answer) → FitsRule s.frames past (did_by a (Epa f) answer)
      → FitsApart s.frames (did_by a (Epa f) answer ∷ past)
  epa_fits f answer rule =
      new_fits f (IsVa (vas_made past)) (va_page (vas_made past)) _
      (ap (nat_lt (vas_made past)) (vas_is columns) ∙ not_below (nat_lt (vas_made past) (vas_made past)) refl) (λ q is. is) rule (λ n. refl)
      (λ n. refl)
    where
      not_below : (b : Bool) → nat_lt (vas_made past) (vas_made past) ≡ b → b ≡ false
      not_below true e = let low = ltb-true (vas_made past) (vas_made past) e in absurd (omega (arith, low))
      not_below false e = refl

  -- a load starts of a page that is away
  eldstart_fits : (f : Frame) (page : Page) (slot : SlotAt) (answer : Answer)
      → FitsRule s.frames past (did_by a (EldStart f page slot) answer) → IsAway (content past) (open_start past) page
      → FitsApart s.frames (did_by a (EldStart f page slot) answer ∷ past)
  eldstart_fits f page slot answer rule away =
      let start = opening.started a (length past) slot answer (Some page) (slot_found (content past) slot) in
      let started = start_apart (content past) (open_start past) f.0 start
      (λ g loads. rw (← same_pages page g (loaded_by (slot_found (content past) slot) g loads)) away)
      (apart_in s.frames past h) in
      fits_more s.frames past _ rule (put_apart (content past) _ f.0 (IsLoading page) (λ g held. absurd (false≢true held)) started) h
    where
      loaded_by : (o : Option VaSlot) (g : Page)
          → is_load_of (opening.started a (length past) slot answer (Some page) o) g ≡ true → same_page page g ≡ true
      loaded_by None g loads = cc loads
      loaded_by (Some x) g loads = loads

  -- any instruction that is done
  done_fits : (action : Action) (answer : Answer) → first_of_row (row_of s a action) ≡ None → is_end action ≡ false → AddsOwn action
      → LoadsAwayRule past (did_by a action answer) → FitsRule s.frames past (did_by a action answer)
      → FitsApart s.frames (did_by a action answer ∷ past)
  done_fits (Epa f) answer allowed other own away rule = epa_fits f answer rule
  done_fits (Create enclave f base size) answer allowed other own away rule = create_fits enclave f base size answer allowed rule
  done_fits (Add enclave number f kind perm init) answer allowed other own away rule =
      add_fits enclave number f kind perm init answer allowed rule own
  done_fits (EwbStart f slot) answer allowed other own away rule =
      fits_more s.frames past _ rule (start_apart (content past) (open_start past) f.0 _
      (λ g loads. absurd (false≢true (sym (loads_none (slot_found (content past) slot) g) ∙ loads))) (apart_in s.frames past h)) h
    where
      loads_none : (o : Option VaSlot) (g : Page) → is_load_of (opening.started a (length past) slot answer None o) g ≡ false
      loads_none None g = refl
      loads_none (Some x) g = refl
  done_fits (EldStart f page slot) answer allowed other own away rule = eldstart_fits f page slot answer rule away
  done_fits (Ewb f) answer allowed other own away rule = cc other
  done_fits (Eld f) answer allowed other own away rule = cc other
  done_fits _ answer allowed other own away rule = fits_same s.frames past _ (λ n. refl) (λ n. refl) rule h

-- ---- the commits

ewb_fits : (frames : ℕ) (past : List Entry) (a : Actor) (f : Frame) (answer : Answer) → f.0 < frames → FitsApart frames past
    → FitsApart frames (did_by a (Ewb f) answer ∷ past)
ewb_fits frames past a f answer below h =
    fits_more frames past _ (below, tt)
    (put_apart (content past) _ f.0 Free (λ g held. absurd (false≢true held))
    (start_apart (content past) (open_start past) f.0 None (λ g loads. absurd (false≢true loads)) (apart_in frames past h))) h

eld_fits : (frames : ℕ) (past : List Entry) (a : Actor) (f : Frame) (page : Page) (version : ℕ) (tag : List ℕ)
    → f.0 < frames → is_load_of (open_start past f.0) page ≡ true
    → ((q : Page) → stands (reloaded page (added past page)) q ≡ true → same_page page q ≡ true)
    → FitsApart frames past → FitsApart frames (did_by a (Eld f) (answers.Moved page version tag) ∷ past)
eld_fits frames past a f page version tag below loads names h =
    let before = apart_in frames past h in
    let ended = start_apart (content past) (open_start past) f.0 None (λ g loads. absurd (false≢true loads)) before in
    let away = loaded_away (content past) (open_start past) f.0 page loads before in
    fits_more frames past _ (below, tt) (put_apart (content past) _ f.0 (reloaded page (added past page))
    (λ g held. rw (← same_pages page g (names g held)) away) ended) h

-- what is back stands under its name
back_named : (page : Page) (o : Option (Kind × Perm)) (q : Page) → stands (reloaded page o) q ≡ true → same_page page q ≡ true
back_named page o q is = by_name (page.enclave == 0) refl (page.number == SECS_NUMBER) refl o is
  where
    as_page : (g : Page) → g ≡ page → same_page g q ≡ true → same_page page q ≡ true
    as_page g e k = subst (λ x. same_page x q ≡ true) e k

    by_name : (va : Bool) → (page.enclave == 0) ≡ va → (last : Bool) → (page.number == SECS_NUMBER) ≡ last → (o : Option (Kind × Perm))
        → stands (cond va (IsVa page.number) (cond (not va && last) (SecsOf page.enclave) (reloaded_as page o))) q ≡ true
        → same_page page q ≡ true
    by_name true e last d o is =
        as_page (va_page page.number) (λ i. record { enclave = sym (eqb-true page.enclave 0 e) i; number = page.number }) is
    by_name false e true d o is =
        as_page (secs_page page.enclave) (λ i. record { enclave = page.enclave; number = sym (eqb-true page.number SECS_NUMBER d) i }) is
    by_name false e false d None is = cc is
    by_name false e false d (Some x) is = is

eld_refused_fits : (frames : ℕ) (past : List Entry) (a : Actor) (f : Frame) (refusal : Refusal) → FitsApart frames past
    → FitsApart frames (refused_by a (Eld f) refusal ∷ past)
eld_refused_fits frames past a f refusal h =
    fits_more frames past _ tt
    (put_apart (content past) _ f.0 Free (λ g held. absurd (false≢true held))
    (start_apart (content past) (open_start past) f.0 None (λ g loads. absurd (false≢true loads)) (apart_in frames past h))) h

-- ---- every step

-- one that is refused changes no frame and no start
refused_fits : (frames : ℕ) (past : List Entry) (a : Actor) (action : Action) (r : Refusal) → is_end action ≡ false → FitsApart frames past
    → FitsApart frames (refused_by a action r ∷ past)
refused_fits frames past a (Eld f) r other h = cc other
refused_fits frames past a _ r other h = fits_same frames past _ (λ n. refl) (λ n. refl) tt h

same_frames : (made : Making) (s : State) (past : List Entry) → ShapeWithRules made s past → s.frames ≡ made.frames
same_frames made s past shaped = ap (λ (m : Making). m.frames) shaped.shape.making

-- a law at the frames of a state, at those of its making
at_making : (made : Making) (s : State) (past : List Entry) (e : Entry) → ShapeWithRules made s past
    → (FitsApart s.frames past → FitsApart s.frames (e ∷ past)) → FitsApart made.frames past → FitsApart made.frames (e ∷ past)
at_making made s past e shaped = subst (λ n. FitsApart n past → FitsApart n (e ∷ past)) (same_frames made s past shaped)

step_in_state : (s t : State) (past : List Entry) (cpus : ℕ) (a : Actor) (action : Action) (e : Entry) → CanApply cpus a action
    → IsGuarded s → IsFramed s → HasEnclaves s → IsGuarded t → IsStep s a action e t → HasColumns s past → LoadsAwayRule past e
    → FitsApart s.frames past → FitsApart s.frames (e ∷ past)
step_in_state s t past cpus a action e can guarded framed owned guarded' k columns away h = by_row (first_of_row (row_of s a action)) refl k
  where
    other : is_end action ≡ false
    other = no_end cpus a action can

    -- what is added stands in its frame, so its name is right
    own : (action : Action) → IsDone s a action e t → AddsOwn action
    own (Add enclave number f kind perm init) now =
        let held : t.content f.0 ≡ Holds (page_at enclave number) kind perm =
        ap (λ (x : State). x.content f.0) now.1.state ∙ rw (eq-eqb f.0 f.0 refl) refl in
        rw held at (guarded'.kept.named f.0)
    own action now = tt

    done : first_of_row (row_of s a action) ≡ None → IsDone s a action e t → IsEntryOf a action e → FitsApart s.frames (e ∷ past)
    done allowed now (inl (answer, is)) =
        rw is (done_fits s past a guarded framed owned columns h action answer allowed other (own action now) (rw is at away)
        (row_fits s past cpus a action can columns allowed))
    done allowed now (inr (r, is)) = rw is (refused_fits s.frames past a action r other h)

    by_row : (o : Option Refusal) → first_of_row (row_of s a action) ≡ o
        → MatchOption o (IsDone s a action e t) (λ r. (e ≡ refused_by a action r) × (t ≡ s)) → FitsApart s.frames (e ∷ past)
    by_row None allowed now = done allowed now (step_entry s t a action e k)
    by_row (Some r) refused is = rw is.0 (refused_fits s.frames past a action r other h)

pub step_fits : (s t : State) (made : Making) (past : List Entry) (cpus : ℕ) (a : Actor) (action : Action) (e : Entry) → cpus ≤ 16
    → CanApply cpus a action → IsSound s → IsGuarded s → IsFramed s → HasEnclaves s → IsGuarded t
    → IsStep s a action e t → ShapeWithRules made s past → LoadsAwayRule past e → FitsApart made.frames past
    → FitsApart made.frames (e ∷ past)
step_fits s t made past cpus a action e few can sound guarded framed owned guarded' k shaped away =
    at_making made s past e shaped (step_in_state s t past cpus a action e can guarded framed owned guarded' k shaped.shape.columns away)

pub written_fits : (s t : State) (made : Making) (past : List Entry) (a : Actor) (f : Frame) (e : Entry) (rec : Sealed) → IsSound s
    → IsGuarded s → s.is_sealing f.0 ≡ true → f.0 < s.frames
    → IsWrittenOut s a f e rec t → ShapeWithRules made s past → FitsApart made.frames past → FitsApart made.frames (e ∷ past)
written_fits s t made past a f e rec sound guarded sealing below k shaped =
    at_making made s past e shaped (λ h. rw k.entry (ewb_fits s.frames past a f _ below h))

-- what a frame waits for, its open start loads
coming_in : (s : State) (past : List Entry) → HasColumns s past → (f : ℕ) (coming : IsComing s f)
    → is_load_of (open_start past f) coming.page ≡ true
coming_in s past columns f coming =
    let x = started_as s past columns f coming.start coming.opened in
    ap (λ o. is_load_of o coming.page) x.opened ∙ ap (λ (y : BareStart). is_this y.loads coming.page) x.same
    ∙ ap (λ o. is_this o coming.page) coming.loads ∙ same_page-refl coming.page

pub reloaded_fits : (s t : State) (made : Making) (past : List Entry) (a : Actor) (f : Frame) (rec : Sealed) (e : Entry) → IsSound s
    → IsGuarded s → is_loading (s.content f.0) ≡ true → f.0 < s.frames
    → IsReloaded s a f rec e t → ShapeWithRules made s past → FitsApart made.frames past → FitsApart made.frames (e ∷ past)
reloaded_fits s t made past a f rec e sound guarded loading below k shaped =
    at_making made s past e shaped (λ h. by_row (first_of_row (commit_row s f.0 k.coming rec)) k.row h)
  where
    columns : HasColumns s past
    columns = shaped.shape.columns

    by_row : (o : Option Refusal)
        → MatchOption o ((e ≡ did_by a (Eld f) (answers.Moved k.coming.page k.coming.start.version rec.tag))
        × (t ≡ after_eld s f.0 k.coming.start (reloaded k.coming.page (s.added k.coming.page))
        (cipher s.key k.coming.start.version rec.cipher)))
        (λ r. (e ≡ refused_by a (Eld f) r) × (t ≡ after_failed_eld s f.0 k.coming.start))
        → FitsApart s.frames past → FitsApart s.frames (e ∷ past)
    by_row None done h =
        rw done.0 (eld_fits s.frames past a f k.coming.page _ _ below (coming_in s past columns f.0 k.coming)
        (back_named k.coming.page (added past k.coming.page)) h)
    by_row (Some r) refused h = rw refused.0 (eld_refused_fits s.frames past a f r h)
