-- What is told of the rule Kick is so.
use Rattle.std.proofs.Common.{◌≡◌, ℕ, ◌&&◌, ◌||◌, refl, sym, ◌∙◌, ap, subst, List, [], ◌∷◌, Some, drop}
use Rattle.std.proofs.Math.Bool.{and-true}
use Rattle.sgx_types.specs.declared.names.Actor.{Actor}
use Rattle.sgx_types.specs.declared.names.Actor.TheVariants as actors
use Rattle.sgx_rules.specs.declared.entries.Entry.{Entry}
use Rattle.sgx_rules.specs.declared.entries.Event.{Event}
use Rattle.sgx_rules.specs.declared.entries.Event.TheVariants.{Age, Kick}
use Rattle.sgx_types.specs.declared.names.Page.{Page}
use Rattle.sgx_types.specs.Making.{Making}
use Rattle.job_grammar.specs.Jobs.{JobView}
use Rattle.sgx_machine.specs.inner.Parts.{Parts}
use Rattle.driver_rules.specs.inner.Decided as decided
use Rattle.driver_rules.specs.inner.Decided.{beside_of, form_of, is_in_form, is_kick_of, keeps_kick}
use Rattle.driver_rules.specs.Passes as passes
use Rattle.driver_rules.specs.Passes.{is_aside, keepers, pass, Tries}
use Rattle.driver_laws.specs.inner.Agrees.{Keeping}
use Rattle.driver_tables.specs.declared.driver.Driver.{Driver}
use Rattle.driver_pass.specs.declared.stages.Aside.{Aside}
use Rattle.driver_pass.specs.declared.stages.Aside.TheVariants as asides
use Rattle.driver_pass.specs.declared.stages.Form.{Form}
use Rattle.driver_pass.specs.declared.stages.Form.TheVariants as forms
use Rattle.driver_pass.specs.declared.stages.Stage.{Stage}
use Rattle.driver_pass.specs.declared.stages.Stage.TheVariants as stages
use Rattle.driver_pass.specs.declared.stages.Taken.{Taken}
use Rattle.driver_pass.specs.inner.Keeping.{first_of, keepers_by}
use Rattle.driver_tables.specs.inner.Tells.{Tells}
use Rattle.driver_pass.specs.inner.Standing.{epoch_told, IsForm, StandsAt, StandsFor}
use Rattle.driver_pass.specs.inner.Viewed.{aside_by, form_in, pages_in, pass_by, PassView, tries_of}
use Rattle.driver_pass.proofs.KeptLaws.{kept_told}
use Rattle.driver_pass.proofs.ListLaws.{get_drop, head}
use Rattle.audit_pass.specs.inner.Told.{by_actor, in_form, is_aside_told, is_beside, is_kick_or_try, kick_by, kick_is, kick_told, with_page}

-- ---- within the tries

kick_told_by : (ps : List ℕ) (event : Event) → kick_is (first_of ps) event ≡ is_kick_of ps event
kick_told_by [] event = refl
kick_told_by (p ∷ ps) (Kick cpu) = refl
kick_told_by (p ∷ ps) event = refl

kick_or_try_told : (ps : List ℕ) (event : Event) → is_kick_or_try (first_of ps) event ≡ decided.is_kick_or_try ps event
kick_or_try_told [] event = refl
kick_or_try_told (p ∷ ps) event = kick_told_by (p ∷ ps) event

first_head : (ps : List ℕ) → head ps ≡ first_of ps
first_head [] = refl
first_head (p ∷ ps) = refl

aside_is_told : (x : Aside) (event : Event) → is_aside_told x event ≡ is_aside (aside_by x) event
aside_is_told asides.None (Age page look) = refl
aside_is_told asides.None event = refl
aside_is_told (asides.ToGo t) event = refl
aside_is_told (asides.Going t) event = refl

module _ (m : Parts) (past : List Entry) (kicks : List ℕ) (t : Taken) where
  -- whom the epoch of the second refusal tells
  abbrev pub Keeps : Form → Type 0
  Keeps form = (e : ℕ) → epoch_told form ≡ Some e → keepers past t.page ≡ keepers_by m t.page.enclave e

  form_told : (form : Form) (event : Event) → Keeps form
      → in_form m kicks t.page.enclave form event ≡ is_in_form past t.page (form_in kicks form) event
  form_told forms.First event k = refl
  form_told forms.Track event k = refl
  form_told forms.Second event k = refl
  form_told (forms.Kick e is_made) event k =
      ap (λ ps. is_kick_or_try (first_of ps) event) (sym (k e refl)) ∙ kick_or_try_told (keepers past t.page) event
  form_told (forms.Kicks e next) event k =
      ap (λ o. kick_is o event) (get_drop kicks next ∙ first_head (drop next kicks)) ∙ kick_told_by (drop next kicks) event
  form_told (forms.Third e) event k = refl
  form_told forms.Sealing event k = refl

  beside_told : (form : Form) → is_beside form ≡ decided.is_beside (form_in kicks form)
  beside_told forms.First = refl
  beside_told forms.Track = refl
  beside_told forms.Second = refl
  beside_told (forms.Kick e is_made) = refl
  beside_told (forms.Kicks e next) = refl
  beside_told (forms.Third e) = refl
  beside_told forms.Sealing = refl

  actor_told : (x : Aside) (rest : List Page) (form : Form) (actor : Actor) (event : Event) → passes.aside past ≡ aside_by x → Keeps form
      → by_actor m kicks x form actor event t
      ≡ (form_of past (Tries t.page rest (form_in kicks form)) actor event && beside_of (Tries t.page rest (form_in kicks form)) actor)
  actor_told x rest form actors.Reclaimer event is k =
      ap (λ b. b || in_form m kicks t.page.enclave form event) (aside_is_told x event ∙ ap (λ y. is_aside y event) (sym is))
      ∙ ap (λ b. is_aside (passes.aside past) event || b) (form_told form event k)
      ∙ sym (and-true (is_aside (passes.aside past) event || is_in_form past t.page (form_in kicks form) event))
  actor_told x rest form actors.Builder event is k = beside_told form
  actor_told x rest form (actors.Cpu p) event is k = beside_told form

-- ---- the rule

-- .. by the pages that have not gone out
abbrev pub KeepsIn : Parts → List Entry → Form → List Taken → Type 0
KeepsIn m past form [] = Unit {0}
KeepsIn m past form (t ∷ ts) = Keeps m past [] t form

pages_told : (m : Parts) (past : List Entry) (kicks : List ℕ) (x : Aside) (ts : List Taken) (form : Form) (actor : Actor) (event : Event)
    → passes.aside past ≡ aside_by x → KeepsIn m past form ts → with_page (head ts) (by_actor m kicks x form actor event)
    ≡ (form_of past (tries_of ts (form_in kicks form)) actor event && beside_of (tries_of ts (form_in kicks form)) actor)
pages_told m past kicks x [] form actors.Reclaimer event is k = refl
pages_told m past kicks x [] form actors.Builder event is k = refl
pages_told m past kicks x [] form (actors.Cpu p) event is k = refl
pages_told m past kicks x (t ∷ ts) form actor event is k = actor_told m past kicks t x (pages_in ts) form actor event is k

module _ (k : Keeping) (made : Making) (j : JobView) (past : List Entry) (d : Driver) (m : Parts) (a : Tells k made j past d m) where
  kept_in : (kicks : List ℕ) (form : Form) (ts : List Taken) → pass j past ≡ tries_of ts (form_in kicks form)
      → IsForm made.first_epoch past form ts → KeepsIn m past form ts
  kept_in kicks form [] same told = tt
  kept_in kicks form (t ∷ ts) same told = λ e known. kept_told k made j past d m a kicks form t ts e same told known

  stage_told : (v : PassView) (stage : Stage) (actor : Actor) (event : Event) → passes.aside past ≡ aside_by v.aside
      → ((next : ℕ) (form : Form) → stage ≡ stages.Tries next form → KeepsIn m past form (drop next v.taken))
      → kick_by m v stage actor event
      ≡ (form_of past (pass_by v.taken v.kicks stage) actor event && beside_of (pass_by v.taken v.kicks stage) actor)
  stage_told v (stages.Tries next form) actor event is keep =
      ap (λ o. with_page o (by_actor m v.kicks v.aside form actor event)) (get_drop v.taken next)
      ∙ pages_told m past v.kicks v.aside (drop next v.taken) form actor event is (keep next form refl)
  stage_told v (stages.Idle works) actors.Reclaimer event is keep = refl
  stage_told v (stages.Idle works) actors.Builder event is keep = refl
  stage_told v (stages.Idle works) (actors.Cpu p) event is keep = refl
  stage_told v (stages.Scan left) actors.Reclaimer event is keep = refl
  stage_told v (stages.Scan left) actors.Builder event is keep = refl
  stage_told v (stages.Scan left) (actors.Cpu p) event is keep = refl
  stage_told v (stages.Block next) actors.Reclaimer event is keep = refl
  stage_told v (stages.Block next) actors.Builder event is keep = refl
  stage_told v (stages.Block next) (actors.Cpu p) event is keep = refl

  pub kick_is_kept : (v : PassView) (e : Entry) → StandsAt made.first_epoch j past v → kick_told m v e.actor e.event ≡ keeps_kick j past e
  kick_is_kept v e stands =
      stage_told v v.stage e.actor e.event stands.aside by_stage
      ∙ ap (λ at. form_of past at e.actor e.event && beside_of at e.actor) (sym stands.same)
    where
      by_stage : (next : ℕ) (form : Form) → v.stage ≡ stages.Tries next form → KeepsIn m past form (drop next v.taken)
      by_stage next form is =
          let here = subst (λ x. StandsFor made.first_epoch past (record v { stage = x }) (pass j past)) is stands in
          kept_in v.kicks form (drop next v.taken) here.same here.stage
