-- A page is added while the SECS of its enclave is here: a SECS leaves only once its enclave is initialised, and behind that the build adds
-- no page of it.
use Rattle.std.proofs.Common.{◌≡◌, ℕ, zero, suc, ◌+◌, ◌*◌, ◌≤◌, ◌<◌, ◌==◌, ◌||◌, ◌&&◌, inl, inr, ⊎_elim, not, Bool, true, false}
use Rattle.std.proofs.Common.{if◌then◌else◌, List, [], ◌∷◌, ◌++◌, Option, Some, None, is_some, map, replicate, slice_get}
use Rattle.std.proofs.Common.{refl, sym, ap, subst, ◌∙◌, arith}
use Rattle.std.specs.List.{flat_map}
use Rattle.std.proofs.lemmas.Bool.{eqb-true, false≢true, or_right}
use Rattle.sgx_rules.specs.declared.entries.Action.{Action}
use Rattle.sgx_rules.specs.declared.entries.Action.TheVariants as actions
use Rattle.sgx_types.specs.declared.names.Actor.{Actor}
use Rattle.sgx_types.specs.declared.names.Actor.TheVariants as actors
use Rattle.sgx_rules.specs.declared.entries.Answer.{Answer}
use Rattle.sgx_rules.specs.declared.entries.Answer.TheVariants.{Moved}
use Rattle.sgx_rules.specs.declared.entries.Entry.{Entry}
use Rattle.sgx_rules.specs.declared.entries.Event.{Event}
use Rattle.sgx_rules.specs.declared.entries.Event.TheVariants.{Did, Age}
use Rattle.sgx_rules.specs.declared.entries.Look.{Look}
use Rattle.sgx_rules.specs.declared.entries.Look.TheVariants as looks
use Rattle.sgx_types.specs.declared.lawful.PageInit.{PageInit}
use Rattle.sgx_types.specs.declared.lawful.PageInit.TheVariants as inits
use Rattle.sgx_types.specs.declared.names.Frame.{Frame}
use Rattle.sgx_types.specs.declared.names.Kind.{Kind}
use Rattle.sgx_types.specs.declared.names.Kind.TheVariants as kinds
use Rattle.sgx_types.specs.declared.names.Page.{Page}
use Rattle.sgx_types.specs.declared.names.Perm.{Perm}
use Rattle.sgx_types.specs.Pages.{is_own_page, no_perm, page_at, same_page, secs_page}
use Rattle.sgx_types.proofs.LeastLaws.{is_least}
use Rattle.sgx_types.proofs.Pages.{same_page-refl, same_pages}
use Rattle.sgx_types.proofs.Truths.{both_true}
use Rattle.sgx_rules.specs.Flat.{enclave_sight_of}
use Rattle.sgx_rules.specs.Frames.{Content, SecsOf, content, is_secs_of, secs_frame, stands}
use Rattle.sgx_rules.specs.Rules.{Along}
use Rattle.sgx_rules.specs.Sights.{secs_seen}
use Rattle.sgx_types.specs.Cases.{first_of_row}
use Rattle.job_grammar.specs.declared.jobs.PageLine.{PageLine}
use Rattle.job_grammar.specs.declared.jobs.PageLine.TheVariants as lines
use Rattle.job_grammar.specs.Jobs.{EnclaveView, JobView, va_pages}
use Rattle.job_grammar.specs.inner.Valid.{IsValid}
use Rattle.script_rules.specs.declared.steps.BuildStep.{BuildStep}
use Rattle.script_rules.specs.declared.steps.BuildStep.TheVariants as builds
use Rattle.script_rules.specs.Script.{build_of, built, enclaves_steps, is_builder, is_init_of, is_initialised, line_steps, numbers_from}
use Rattle.script_rules.specs.Script.{page_steps, step_action}
use Rattle.machine_laws.specs.inner.Columns.{HasColumns}
use Rattle.machine_laws.specs.inner.State.{State, row_of, secs_sight, sight}
use Rattle.machine_laws.specs.inner.Steps.{IsStep as IsMachineStep, did_by}
use Rattle.machine_laws.proofs.BuildLaws.{adds}
use Rattle.machine_laws.proofs.ColumnLaws.{content_is}
use Rattle.driver_rules.specs.Ages.{AgeOf, IsAhead, KeptAgeRule, ahead_by, head_of}
use Rattle.driver_rules.specs.Passes.{Aside, IsGoing, IsToGo, NoneAside, aside}
use Rattle.driver_rules.specs.Places.{Leaving, active, active_after, is_here, looked_at, place}
use Rattle.driver_rules.specs.Scripts.{ScriptRule}
use Rattle.driver_rules.specs.Spares.{due_with, outs_kept}
use Rattle.driver_rules.specs.Stops.{last_event}
use Rattle.driver_rules.proofs.ReclaimLaws.{other_secs}
use Rattle.driver_laws.specs.inner.Sound.{IsSound}
use Rattle.driver_laws.proofs.DueLaws.{due_inits}
use Rattle.driver_laws.proofs.OwnLaws.{script_own}
use Rattle.driver_laws.proofs.SoundLaws.{entry_of}
use Rattle.driver_laws.proofs.AsideLaws.{left_before, takes}
use Rattle.driver_laws.proofs.StepLaws.{Builds, ByStep, NoStep, builds_or_none}
use Rattle.driver_laws.proofs.HistoryLaws.{stands_where}
use Rattle.due_notes.specs.inner.Noted.{HasSecsHere}
use Rattle.due_notes.specs.inner.Plain.{is_reclaimer}
use Rattle.due_notes.proofs.ArrayLaws.{add_step, adds_own}
use Rattle.due_notes.proofs.EntryLaws.{IsEntryOf, entry_by}

-- ---- the order of the build

-- the version array pages come first, then the enclaves in their order, each with its `init` last
abbrev rank : BuildStep → ℕ
rank builds.Va = 0
rank (builds.Create e base size) = 2 * e
rank (builds.Add e n kind perm init) = 2 * e
rank (builds.Extend e n chunk) = 2 * e
rank (builds.Init e expect) = 2 * e + 1

abbrev AllAt : ℕ → List BuildStep → Type 0
AllAt r [] = Unit {0}
AllAt r (x ∷ xs) = (rank x ≡ r) × AllAt r xs

at_append : (r : ℕ) (xs ys : List BuildStep) → AllAt r xs → AllAt r ys → AllAt r (xs ++ ys)
at_append r [] ys h k = k
at_append r (x ∷ xs) ys h k = (h.0, at_append r xs ys h.1 k)

chunks_at : (e n k count : ℕ) → AllAt (2 * e) (map (builds.Extend e n) (numbers_from k count))
chunks_at e n k zero = tt
chunks_at e n k (suc count) = (refl, chunks_at e n (k + 1) count)

page_steps_at : (e n : ℕ) (kind : Kind) (perm : Perm) (init : PageInit) (plain : Bool) → AllAt (2 * e) (page_steps e n kind perm init plain)
page_steps_at e n kind perm init true = (refl, tt)
page_steps_at e n kind perm init false = (refl, chunks_at e n 0 16)

pages_at : (e : ℕ) (kind : Kind) (perm : Perm) (init : PageInit) (plain : Bool) (first count : ℕ)
    → AllAt (2 * e) (flat_map (λ n. page_steps e n kind perm init plain) (numbers_from first count))
pages_at e kind perm init plain first zero = tt
pages_at e kind perm init plain first (suc count) =
    at_append (2 * e) (page_steps e first kind perm init plain)
    (flat_map (λ n. page_steps e n kind perm init plain) (numbers_from (first + 1) count))
    (page_steps_at e first kind perm init plain) (pages_at e kind perm init plain (first + 1) count)

line_at : (e : ℕ) (line : PageLine) → AllAt (2 * e) (line_steps e line)
line_at e (lines.Tcs page ossa nssa plain) = page_steps_at e page kinds.Tcs no_perm (inits.Tcs ossa nssa) plain
line_at e (lines.Reg first count perm value plain) = pages_at e kinds.Reg perm (inits.Words value) plain first count

lines_are_at : (e : ℕ) (ls : List PageLine) → AllAt (2 * e) (flat_map (line_steps e) ls)
lines_are_at e [] = tt
lines_are_at e (x ∷ xs) = at_append (2 * e) (line_steps e x) (flat_map (line_steps e) xs) (line_at e x) (lines_are_at e xs)

-- steps whose ranks rise from one on
abbrev Rises : ℕ → List BuildStep → Type 0
Rises low [] = Unit {0}
Rises low (x ∷ xs) = (low ≤ rank x) × Rises (rank x) xs

rises_behind : (r : ℕ) (xs ys : List BuildStep) → AllAt r xs → Rises r ys → Rises r (xs ++ ys)
rises_behind r [] ys h k = k
rises_behind r (x ∷ xs) ys h k = (
  (let same = h.0 in omega (arith, same)),
  subst (λ m. Rises m (xs ++ ys)) (sym h.0) (rises_behind r xs ys h.1 k),
)

rises_from : (low r : ℕ) (xs : List BuildStep) → low ≤ r → Rises r xs → Rises low xs
rises_from low r [] few h = tt
rises_from low r (x ∷ xs) few h = ((let more = h.0 in omega (arith, few, more)), h.1)

enclave_rises : (e : ℕ) (xs : List BuildStep) (expect : Option (List ℕ)) (rest : List BuildStep) → AllAt (2 * e) xs
    → Rises (2 * e + 1) rest → Rises (2 * e) ((xs ++ builds.Init e expect ∷ []) ++ rest)
enclave_rises e [] expect rest h k = (omega arith, k)
enclave_rises e (x ∷ xs) expect rest h k = (
  (let same = h.0 in omega (arith, same)),
  subst (λ m. Rises m ((xs ++ builds.Init e expect ∷ []) ++ rest)) (sym h.0) (enclave_rises e xs expect rest h.1 k),
)

enclaves_rise : (e : ℕ) (es : List EnclaveView) → Rises (2 * e) (enclaves_steps e es)
enclaves_rise e [] = tt
enclaves_rise e (x ∷ xs) = (
  omega arith,
  enclave_rises e (flat_map (line_steps e) x.lines) x.expect (enclaves_steps (e + 1) xs) (lines_are_at e x.lines)
      (rises_from (2 * e + 1) (2 * (e + 1)) (enclaves_steps (e + 1) xs) (omega arith) (enclaves_rise (e + 1) xs)),
)

arrays_at : (n : ℕ) → AllAt 0 (replicate n builds.Va)
arrays_at zero = tt
arrays_at (suc n) = (refl, arrays_at n)

build_rises : (j : JobView) → Rises 0 (build_of j)
build_rises j =
    rises_behind 0 (replicate (va_pages j) builds.Va) (enclaves_steps 1 j.enclaves) (arrays_at (va_pages j))
    (rises_from 0 2 (enclaves_steps 1 j.enclaves) (omega arith) (enclaves_rise 1 j.enclaves))

rank_got : (low : ℕ) (xs : List BuildStep) (k : ℕ) (t : BuildStep) → Rises low xs → slice_get xs k ≡ Some t → low ≤ rank t
rank_got low [] k t h is = cc
rank_got low (x ∷ xs) zero t h is = let same : x ≡ t = cc in subst (λ y. low ≤ rank y) same h.0
rank_got low (x ∷ xs) (suc k) t h is =
    let more = h.0 in
    let rest = rank_got (rank x) xs k t h.1 is in omega (arith, more, rest)

ranks_rise : (low : ℕ) (xs : List BuildStep) (i k : ℕ) (s t : BuildStep) → Rises low xs → i ≤ k → slice_get xs i ≡ Some s
    → slice_get xs k ≡ Some t → rank s ≤ rank t
ranks_rise low [] i k s t h few is at = cc
ranks_rise low (x ∷ xs) zero zero s t h few is at =
    let same : s ≡ t = cc in let ranks : rank s ≡ rank t = ap rank same in omega (arith, ranks)
ranks_rise low (x ∷ xs) zero (suc k) s t h few is at =
    let same : x ≡ s = cc in subst (λ y. rank y ≤ rank t) same (rank_got (rank x) xs k t h.1 at)
ranks_rise low (x ∷ xs) (suc i) zero s t h few is at = absurd (omega (arith, few))
ranks_rise low (x ∷ xs) (suc i) (suc k) s t h few is at = ranks_rise (rank x) xs i k s t h.1 (omega (arith, few)) is at

-- ---- an enclave that is initialised

-- its `init` is a step that was made
record HasInit (j : JobView) (past : List Entry) (e : ℕ) : Type 0 where
  at : ℕ
  low : at < built past
  expect : Option (List ℕ)
  there : slice_get (build_of j) at ≡ Some (builds.Init e expect)

built_more : (x : Entry) (past : List Entry) → built past ≤ built (x ∷ past)
built_more x past = by_test (is_builder x.actor)
  where
    by_test : (b : Bool) → built past ≤ (if b then built past + 1 else built past)
    by_test true = omega arith
    by_test false = omega arith

init_made : (j : JobView) (past : List Entry) (x : Entry) (e : ℕ) → is_init_of e x.event ≡ true → Builds j past x.actor x.event
    → HasInit j (x ∷ past) e
init_made j past x e is made = by_event x.event is made
  where
    by_step : (s : BuildStep) (f e' : ℕ) (expect : Option (List ℕ)) → slice_get (build_of j) (built past) ≡ Some s
        → Some (actions.Init e' expect) ≡ Some (step_action s f) → (e' == e) ≡ true → x.actor ≡ actors.Builder → HasInit j (x ∷ past) e
    by_step (builds.Init n exp) f e' expect there told same mine =
        let one : n ≡ e' = cc in
        record {
          at = built past;
          low = subst (λ a. built past < (if is_builder a then built past + 1 else built past)) (sym mine) (omega arith);
          expect = exp;
          there = there ∙ ap (λ m. Some (builds.Init m exp)) (one ∙ eqb-true e' e same);
        }
    by_step builds.Va f e' expect there told same mine = cc
    by_step (builds.Create n base size) f e' expect there told same mine = cc
    by_step (builds.Add n k kind perm init) f e' expect there told same mine = cc
    by_step (builds.Extend n k chunk) f e' expect there told same mine = cc

    by_builds : (e' : ℕ) (expect : Option (List ℕ)) (answer : Answer) → (e' == e) ≡ true
        → Builds j past x.actor (Did (actions.Init e' expect) answer) → HasInit j (x ∷ past) e
    by_builds e' expect answer same (NoStep none builds_none) = absurd (false≢true (sym builds_none))
    by_builds e' expect answer same (ByStep mine s) = by_step s.step s.frame e' expect s.there s.made same mine

    by_event : (ev : Event) → is_init_of e ev ≡ true → Builds j past x.actor ev → HasInit j (x ∷ past) e
    by_event (Did (actions.Init e' expect) answer) same b = by_builds e' expect answer same b
    by_event _ same b = cc

init_before : (j : JobView) (past : List Entry) (e : ℕ) → Along (ScriptRule j) past → Along (KeptAgeRule j) past
    → is_initialised past e ≡ true → HasInit j past e
init_before j [] e script age is = cc
init_before j (x ∷ past) e script age is = by_test (is_init_of e x.event) refl is (init_before j past e script.1 age.1)
  where
    by_test : (b : Bool) → is_init_of e x.event ≡ b → (b || is_initialised past e) ≡ true
        → (is_initialised past e ≡ true → HasInit j past e) → HasInit j (x ∷ past) e
    by_test true now h before = init_made j past x e now (builds_or_none j past (outs_kept j past) x script.0 age.0)
    by_test false now h before =
        let was = before h in
        record {
          at = was.at;
          low = (let low = was.low in let more = built_more x past in omega (arith, low, more));
          expect = was.expect;
          there = was.there;
        }

-- ---- the list has TCS and REG pages alone

abbrev AllOwn : List Page → Type 0
AllOwn [] = Unit {0}
AllOwn (g ∷ gs) = (is_own_page g ≡ true) × AllOwn gs

own_append : (xs ys : List Page) → AllOwn xs → AllOwn ys → AllOwn (xs ++ ys)
own_append [] ys h k = k
own_append (x ∷ xs) ys h k = (h.0, own_append xs ys h.1 k)

own_looked : (look : Look) (xs : List Page) → AllOwn xs → AllOwn (looked_at look xs)
own_looked look [] h = by_look look
  where
    by_look : (l : Look) → AllOwn (looked_at l [])
    by_look looks.Taken = tt
    by_look looks.Held = tt
    by_look looks.Young = tt
    by_look looks.NoRoom = tt
own_looked look (x ∷ xs) h = by_look look
  where
    turned : AllOwn (xs ++ x ∷ [])
    turned = own_append xs (x ∷ []) h.1 (h.0, tt)

    by_look : (l : Look) → AllOwn (looked_at l (x ∷ xs))
    by_look looks.Taken = h.1
    by_look looks.Held = turned
    by_look looks.Young = turned
    by_look looks.NoRoom = turned

active_own : (j : JobView) (past : List Entry) → IsValid j → Along (ScriptRule j) past → Along (KeptAgeRule j) past → AllOwn (active past)
active_own j [] valid script age = tt
active_own j (x ∷ past) valid script age = by_event x.event script.0 age.0 (active_own j past valid script.1 age.1)
  where
    by_page : (page : Page) (b : Bool) → is_own_page page ≡ b → AllOwn (active past)
        → AllOwn (if b then active past ++ page ∷ [] else active past)
    by_page page true own before = own_append (active past) (page ∷ []) before (own, tt)
    by_page page false own before = before

    by_look : (look : Look) (b : Bool) → AllOwn (active past) → AllOwn (if b then looked_at look (active past) else active past)
    by_look look true before = own_looked look (active past) before
    by_look look false before = before

    added : (e n : ℕ) (f : Frame) (kind : Kind) (perm : Perm) (init : PageInit) (answer : Answer) (a : Actor)
        → ScriptRule j past (did_by a (actions.Add e n f kind perm init) answer)
        → Builds j past a (Did (actions.Add e n f kind perm init) answer) → is_own_page (page_at e n) ≡ true
    added e n f kind perm init answer a sc (NoStep none builds_none) = absurd (false≢true (sym builds_none))
    added e n f kind perm init answer a sc (ByStep mine s) =
        adds_own j past a (actions.Add e n f kind perm init) answer (ap is_reclaimer mine) valid sc

    by_event : (ev : Event) → ScriptRule j past (entry_of x.actor ev) → KeptAgeRule j past (entry_of x.actor ev) → AllOwn (active past)
        → AllOwn (active_after ev (active past))
    by_event (Did (actions.Add e n f kind perm init) answer) sc ag before =
        own_append (active past) (page_at e n ∷ []) before (
          added e n f kind perm init answer x.actor sc
              (builds_or_none j past (outs_kept j past) (entry_of x.actor (Did (actions.Add e n f kind perm init) answer)) sc ag),
          tt,
        )
    by_event (Did (actions.Eld f) (Moved page version tag)) sc ag before = by_page page (is_own_page page) refl before
    by_event (Age page look) sc ag before = by_look look (is_own_page page) before
    by_event _ sc ag before = before

first_own : (xs : List Page) (g : Page) → AllOwn xs → head_of xs ≡ Some g → is_own_page g ≡ true
first_own [] g h is = cc
first_own (x ∷ xs) g h is = let same : x ≡ g = cc in subst (λ (y : Page). is_own_page y ≡ true) same h.0

-- ---- a SECS that leaves

taken_init : (j : JobView) (past : List Entry) (page : Page) (a : Aside) (due : Option Page) (e : ℕ) → AllOwn (active past)
    → (due ≡ Some (secs_page e) → is_initialised past e ≡ true) → page ≡ secs_page e
    → IsAhead j past (ahead_by a due) (Age page looks.Taken) → is_initialised past e ≡ true
taken_init j past page NoneAside None e own init same h =
    absurd (false≢true (sym (other_secs e) ∙ ap is_own_page (sym same) ∙ first_own (active past) page own h.look.head))
taken_init j past page NoneAside (Some g) e own init same h = init (ap Some (sym h ∙ same))
taken_init j past page (IsToGo g) due e own init same h = absurd h
taken_init j past page (IsGoing g) due e own init same h = absurd h

leaving_init : (j : JobView) (past : List Entry) (e n : ℕ) → IsValid j → Along (ScriptRule j) past → Along (KeptAgeRule j) past
    → (e == 0) ≡ false → place past (secs_page e) ≡ Leaving n → is_initialised past e ≡ true
leaving_init j [] e n valid script age some out = cc
leaving_init j (x ∷ past) e n valid script age some out =
    ⊎_elim (λ was. or_right (is_init_of e x.event) (is_initialised past e) (leaving_init j past e n valid script.1 age.1 some was))
    (λ is. or_right (is_init_of e x.event) (is_initialised past e) (by_event x.event script.0 age.0 is))
    (left_before past x (secs_page e) n out)
  where
    by_event : (ev : Event) → ScriptRule j past (entry_of x.actor ev) → KeptAgeRule j past (entry_of x.actor ev)
        → takes ev (secs_page e) ≡ true → is_initialised past e ≡ true
    by_event (Age page looks.Taken) sc ag is =
        taken_init j past page (aside past) (due_with j past (outs_kept j past)) e (active_own j past valid script.1 age.1)
        (due_inits j past (outs_kept j past) (last_event past actors.Reclaimer) e some) (same_pages page (secs_page e) is)
        (subst (λ (a : Actor). AgeOf j past (outs_kept j past) a (Age page looks.Taken))
        (script_own j past (entry_of x.actor (Age page looks.Taken)) sc refl) ag)
    by_event _ sc ag is = cc

-- ---- the SECS of a page that is added

secs_of_is : (c : Content) (e : ℕ) → is_secs_of c e ≡ true → stands c (secs_page e) ≡ true
secs_of_is (SecsOf n) e h = ap (λ m. same_page (secs_page m) (secs_page e)) (eqb-true n e h) ∙ same_page-refl (secs_page e)
secs_of_is _ e h = cc

some_enclave : (e : ℕ) (c : Bool) → (not (e == 0) && not c) ≡ true → (e == 0) ≡ false
some_enclave e c h = by_test (e == 0) (both_true (not (e == 0)) (not c) h).0
  where
    by_test : (b : Bool) → not b ≡ true → b ≡ false
    by_test true x = absurd (false≢true x)
    by_test false x = refl

module _ (j : JobView) (past : List Entry) (valid : IsValid j) (script : Along (ScriptRule j) past) (age : Along (KeptAgeRule j) past)
    (sound : IsSound past) (s : State) (columns : HasColumns s past) where
  secs_there : (a : Actor) (e k : ℕ) (f : Frame) (kind : Kind) (perm : Perm) (init : PageInit) (answer : Answer) → is_reclaimer a ≡ false
      → ScriptRule j past (did_by a (actions.Add e k f kind perm init) answer)
      → first_of_row (row_of s a (actions.Add e k f kind perm init)) ≡ None → is_here (place past (secs_page e)) ≡ true
  secs_there a e k f kind perm init answer other sc row =
      let one =
      adds k kind perm init (enclave_sight_of (s.enclaves e)) (secs_sight s e) (is_some (s.added (page_at e k))) (sight s f.0) row in
      by_frame (secs_frame s.frames s.content e) refl one.secs_in
    where
      some : (e == 0) ≡ false
      some = some_enclave e (k == 4294967295) (adds_own j past a (actions.Add e k f kind perm init) answer other valid sc)

      -- behind its `init` no page is added
      early : is_initialised past e ≡ true → ⊥
      early is =
          let made = init_before j past e script age is in
          let step = add_step j past a e k f kind perm init answer other sc in
          let low = made.low in
          let ranks =
          ranks_rise 0 (build_of j) made.at (built past) (builds.Init e made.expect)
          (builds.Add e k step.kind step.perm step.init) (build_rises j) (omega (arith, low)) made.there step.there in
          omega (arith, ranks)

      by_frame : (o : Option ℕ) → secs_frame s.frames s.content e ≡ o → (secs_seen s.is_sealing o).is_away ≡ false
          → is_here (place past (secs_page e)) ≡ true
      by_frame None is away = cc
      by_frame (Some n) is away =
          let held = (is_least (λ m. is_secs_of (s.content m) e) s.frames n is).passes in
          let stood = secs_of_is (content past n) e (ap (λ c. is_secs_of c e) (sym (content_is columns n)) ∙ held) in
          ⊎_elim (λ here. here) (λ out. absurd (early (leaving_init j past e n valid script age some out)))
          (stands_where (place past (secs_page e)) n (sym (sound.places.frames (secs_page e) n) ∙ stood))

  done_here : (a : Actor) (action : Action) (answer : Answer) → is_reclaimer a ≡ false → ScriptRule j past (did_by a action answer)
      → first_of_row (row_of s a action) ≡ None → HasSecsHere past (Did action answer)
  done_here a (actions.Add e k f kind perm init) answer other sc row = secs_there a e k f kind perm init answer other sc row
  done_here a action answer other sc row = tt

  pub added_with_secs : (a : Actor) (action : Action) (e : Entry) (t : State) → is_reclaimer a ≡ false → ScriptRule j past e
      → IsMachineStep s a action e t → HasSecsHere past e.event
  added_with_secs a action e t other sc step = by_entry (entry_by s t a action e step)
    where
      by_entry : IsEntryOf s a action e → HasSecsHere past e.event
      by_entry (inl k) =
          subst (λ (x : Entry). HasSecsHere past x.event) (sym k.is)
          (done_here a action k.answer other (subst (ScriptRule j past) k.is sc) k.row)
      by_entry (inr k) = subst (λ (x : Entry). HasSecsHere past x.event) (sym k.is) tt
