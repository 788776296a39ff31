-- The pages of a pass that have not gone out stay in their frames, and the epoch that a refusal told stays the enclave's.
use Rattle.std.proofs.Common.{◌≡◌, ℕ, ◌+◌, Bool, true, false, if◌then◌else◌, refl, sym, ◌∙◌, ap, List, []}
use Rattle.std.proofs.Common.{◌∷◌, drop}
use Rattle.std.proofs.lemmas.Bool.{eq-eqb, false≢true}
use Rattle.sgx_types.proofs.Pages.{same_page-swap, same_pages}
use Rattle.sgx_rules.specs.declared.entries.Action.TheVariants as actions
use Rattle.sgx_types.specs.declared.names.Actor.TheVariants as actors
use Rattle.sgx_rules.specs.declared.entries.Answer.{Answer}
use Rattle.sgx_rules.specs.declared.entries.Entry.{Entry}
use Rattle.sgx_rules.specs.declared.entries.Event.TheVariants.{Did}
use Rattle.sgx_types.specs.declared.names.Frame.{Frame}
use Rattle.sgx_types.specs.declared.names.Page.{Page}
use Rattle.sgx_rules.specs.Epochs.{epoch, is_track}
use Rattle.sgx_types.specs.Pages.{is_own_page, same_page}
use Rattle.sgx_types.proofs.Truths.{neither}
use Rattle.driver_rules.specs.Holds.{is_among}
use Rattle.driver_rules.specs.Passes as passes
use Rattle.driver_rules.specs.Passes.{Pass}
use Rattle.driver_rules.specs.Places.{Leaving, place}
use Rattle.driver_laws.proofs.MoveLaws.{place-quiet}
use Rattle.driver_laws.proofs.SoundLaws.{entry_of}
use Rattle.driver_laws.proofs.OwnPassLaws.{AllOwn, OwnPass}
use Rattle.driver_laws.proofs.StillLaws.{frames_apart, still}
use Rattle.driver_laws.specs.inner.Kinds.{CanMove, is_quiet}
use Rattle.driver_laws.specs.inner.Sound.{IsSound}
use Rattle.driver_laws.specs.inner.Stages.{touches}
use Rattle.driver_pass.specs.declared.stages.Form.{Form}
use Rattle.driver_pass.specs.declared.stages.Form.TheVariants as forms
use Rattle.driver_pass.specs.declared.stages.Stage.{Stage}
use Rattle.driver_pass.specs.declared.stages.Stage.TheVariants as stages
use Rattle.driver_pass.specs.declared.stages.Taken.{Taken}
use Rattle.driver_pass.specs.inner.Standing.{AreInFrames, IsForm, IsStage}
use Rattle.driver_pass.specs.inner.Viewed.{form_in, pages_in, pass_by, tries_of, waiting_by}

-- ---- a pass, without what goes out beside it

pub record HoldsPass (first : ℕ) (past : List Entry) (taken : List Taken) (kicks : List ℕ) (reached : Stage) (at : Pass) : Type 0 where
  pub same : at ≡ pass_by taken kicks reached
  pub frames : AreInFrames past (waiting_by taken reached)
  pub stage : IsStage first past taken reached

-- the pages of a pass that have not gone out are TCS and REG pages
tries_own : (ts : List Taken) (form : passes.Form) → OwnPass (tries_of ts form) → AllOwn (pages_in ts)
tries_own [] form h = tt
tries_own (t ∷ ts) form h = h

pub waiting_own : (taken : List Taken) (kicks : List ℕ) (stage : Stage) → OwnPass (pass_by taken kicks stage)
    → AllOwn (pages_in (waiting_by taken stage))
waiting_own taken kicks (stages.Idle works) h = tt
waiting_own taken kicks (stages.Scan left) h = h
waiting_own taken kicks (stages.Block next) h = h.1
waiting_own taken kicks (stages.Tries next form) h = tries_own (drop next taken) (form_in kicks form) h

-- ---- frames

-- by an entry that touches none of them
pub frames_stay : (past : List Entry) (e : Entry) (ts : List Taken) → IsSound past → CanMove past e.event
    → ((n : ℕ) → touches e.event n ≡ false) → AreInFrames past ts → AreInFrames (e ∷ past) ts
frames_stay past e [] s can calm h = tt
frames_stay past e (t ∷ ts) s can calm h =
    ((still past e t.page t.frame.0 s can (calm t.frame.0) h.0).leaving, frames_stay past e ts s can calm h.1)

-- by one that moves no page
pub frames_quiet : (past : List Entry) (e : Entry) (ts : List Taken) → is_quiet e.event ≡ true → AreInFrames past ts
    → AreInFrames (e ∷ past) ts
frames_quiet past e [] quiet h = tt
frames_quiet past e (t ∷ ts) quiet h = (place-quiet past e t.page quiet ∙ h.0, frames_quiet past e ts quiet h.1)

-- by the end of the write-out of another one
pub frames_behind : (past : List Entry) (f : Frame) (answer : Answer) (g : Page) (ts : List Taken) → IsSound past
    → CanMove past (Did (actions.Ewb f) answer) → place past g ≡ Leaving f.0 → is_among (pages_in ts) g ≡ false → AreInFrames past ts
    → AreInFrames (entry_of actors.Reclaimer (Did (actions.Ewb f) answer) ∷ past) ts
frames_behind past f answer g [] s can at apart h = tt
frames_behind past f answer g (t ∷ ts) s can at apart h = (
  (still past (entry_of actors.Reclaimer (Did (actions.Ewb f) answer)) t.page t.frame.0 s can
      (frames_apart past g t.page (Leaving f.0) (Leaving t.frame.0) f.0 t.frame.0 s at (eq-eqb f.0 f.0 refl) h.0
      (eq-eqb t.frame.0 t.frame.0 refl)
      (same_page-swap g t.page ∙ (neither (same_page t.page g) (is_among (pages_in ts) g) apart).0)) h.0).leaving,
  frames_behind past f answer g ts s can at (neither (same_page t.page g) (is_among (pages_in ts) g) apart).1 h.1,
)

-- .. of a SECS or a version array page
pub frames_beside : (past : List Entry) (f : Frame) (answer : Answer) (g : Page) (ts : List Taken) → IsSound past
    → CanMove past (Did (actions.Ewb f) answer) → place past g ≡ Leaving f.0 → is_own_page g ≡ false → AllOwn (pages_in ts)
    → AreInFrames past ts → AreInFrames (entry_of actors.Reclaimer (Did (actions.Ewb f) answer) ∷ past) ts
frames_beside past f answer g ts s can at other own h = frames_behind past f answer g ts s can at (none ts own) h
  where
    apart : (t : Taken) → is_own_page t.page ≡ true → (b : Bool) → same_page t.page g ≡ b → b ≡ false
    apart t mine true is = absurd (false≢true (sym other ∙ sym (ap is_own_page (same_pages t.page g is)) ∙ mine))
    apart t mine false is = refl

    none : (xs : List Taken) → AllOwn (pages_in xs) → is_among (pages_in xs) g ≡ false
    none [] k = refl
    none (x ∷ xs) k = rw (apart x k.0 (same_page x.page g) refl) (none xs k.1)

-- ---- epochs

-- by an entry that tracks nothing
pub epoch_stays : (first : ℕ) (past : List Entry) (e : Entry) (enclave told : ℕ) → ((n : ℕ) → is_track e.event n ≡ false)
    → told ≡ epoch first past enclave → told ≡ epoch first (e ∷ past) enclave
epoch_stays first past e enclave told calm h =
    h ∙ sym (ap (λ b. if b then epoch first past enclave + 1 else epoch first past enclave) (calm enclave))

pub form_stays : (first : ℕ) (past : List Entry) (e : Entry) (form : Form) (ts : List Taken) → ((n : ℕ) → is_track e.event n ≡ false)
    → IsForm first past form ts → IsForm first (e ∷ past) form ts
form_stays first past e (forms.Kick told made) (t ∷ ts) calm h = epoch_stays first past e t.page.enclave told calm h
form_stays first past e (forms.Kicks told next) (t ∷ ts) calm h = epoch_stays first past e t.page.enclave told calm h
form_stays first past e (forms.Third told) (t ∷ ts) calm h = epoch_stays first past e t.page.enclave told calm h
form_stays first past e (forms.Kick told made) [] calm h = tt
form_stays first past e (forms.Kicks told next) [] calm h = tt
form_stays first past e (forms.Third told) [] calm h = tt
form_stays first past e forms.First ts calm h = tt
form_stays first past e forms.Track ts calm h = tt
form_stays first past e forms.Second ts calm h = tt
form_stays first past e forms.Sealing ts calm h = tt

stage_stays : (first : ℕ) (past : List Entry) (e : Entry) (taken : List Taken) (stage : Stage) → ((n : ℕ) → is_track e.event n ≡ false)
    → IsStage first past taken stage → IsStage first (e ∷ past) taken stage
stage_stays first past e taken (stages.Idle works) calm h = tt
stage_stays first past e taken (stages.Scan left) calm h = h
stage_stays first past e taken (stages.Block next) calm h = tt
stage_stays first past e taken (stages.Tries next form) calm h =
    form_stays first past e form (waiting_by taken (stages.Tries next form)) calm h

-- ---- an entry that is none of the pass

-- a pass stands as before, where its pages do
pub pass_stays : (first : ℕ) (past : List Entry) (e : Entry) (taken : List Taken) (kicks : List ℕ) (stage : Stage) (at : Pass)
    → ((n : ℕ) → is_track e.event n ≡ false) → AreInFrames (e ∷ past) (waiting_by taken stage)
    → HoldsPass first past taken kicks stage at → HoldsPass first (e ∷ past) taken kicks stage at
pass_stays first past e taken kicks stage at calm frames h =
    record { same = h.same; frames = frames; stage = stage_stays first past e taken stage calm h.stage }
