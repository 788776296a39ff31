-- Behind which turns of a pass the turn of kicks has been made.
use Rattle.std.proofs.Common.{◌≡◌, ◌==◌, ◌-◌, ℕ, zero, suc, Bool, true, false, if◌then◌else◌, refl, sym, ap, subst, ◌∙◌}
use Rattle.std.proofs.Common.{List, length, Option, Some, None, min, slice_get, arith}
use Rattle.std.proofs.lemmas.Bool.{eqb-true, false≢true}
use Rattle.sgx_types.specs.Making.{Making}
use Rattle.sgx_types.specs.Pages.{is_own_page}
use Rattle.sgx_types.specs.declared.names.Page.{Page}
use Rattle.sgx_rules.specs.declared.entries.Action.{Action}
use Rattle.sgx_rules.specs.declared.entries.Action.TheVariants as actions
use Rattle.sgx_rules.specs.declared.entries.Entry.{Entry}
use Rattle.sgx_rules.specs.declared.entries.Event.{Event}
use Rattle.sgx_rules.specs.declared.entries.Event.TheVariants.{Age, Did, Kick, Refused}
use Rattle.sgx_rules.specs.declared.entries.Look.{Look}
use Rattle.sgx_rules.specs.declared.refusals.Refusal.{Refusal}
use Rattle.sgx_rules.specs.declared.refusals.Refusal.TheVariants as why
use Rattle.job_grammar.specs.Jobs.{JobView}
use Rattle.driver_slots.specs.inner.Keeper.{Keeper}
use Rattle.sgx_machine.specs.inner.Parts.{Parts, state_of}
use Rattle.driver_rules.specs.Ages.{ahead_by}
use Rattle.driver_rules.specs.Dues.{Due, KicksAll}
use Rattle.driver_rules.specs.Passes as passes
use Rattle.driver_rules.specs.Spares.{due_with, outs_kept}
use Rattle.driver_rules.specs.inner.Reclaims.{ahead_gives, going_due, pass_due}
use Rattle.driver_tables.specs.declared.driver.Driver.{Driver}
use Rattle.driver_pass.specs.declared.stages.Aside.{Aside}
use Rattle.driver_pass.specs.declared.stages.Aside.TheVariants as asides
use Rattle.driver_pass.specs.declared.stages.Form.{Form}
use Rattle.driver_pass.specs.declared.stages.Form.TheVariants as forms
use Rattle.driver_pass.specs.declared.stages.Stage.{Stage}
use Rattle.driver_pass.specs.declared.stages.Stage.TheVariants as stages
use Rattle.driver_pass.specs.declared.stages.Taken.{Taken}
use Rattle.driver_pass.specs.inner.Dues.{due_in}
use Rattle.driver_pass.specs.inner.Keeping.{keepers_by}
use Rattle.driver_pass.specs.inner.Noted.{after_block, after_done, after_instruction, after_kick, after_look, after_page, after_refused}
use Rattle.driver_pass.specs.inner.Noted.{all_kicked, all_kicked_stage, behind, gone_on, instructed, kicked, kicked_by, kicked_with}
use Rattle.driver_pass.specs.inner.Noted.{looked}
use Rattle.driver_pass.specs.inner.Noted.{not_tracked, occupied, passed_by, passed_own, unless_aside}
use Rattle.driver_pass.specs.inner.Viewed.{aside_by, is_kicked, is_kicked_stage, PassView}
use Rattle.driver_reclaim.specs.declared.turns.PassTurn.{PassTurn}
use Rattle.driver_reclaim.specs.declared.turns.PassTurn.TheVariants as turns
use Rattle.driver_reclaim.specs.inner.Answers.{by_reclaimer, IsTurn}
use Rattle.driver_reclaim.specs.inner.Ready.{Ready}
use Rattle.driver_reclaim.specs.inner.Rests.{IsWait}
use Rattle.driver_reclaim.specs.inner.Turning.{turn_of, TurnSays}
use Rattle.driver_reclaim.proofs.MoveLaws.{Entered, KickedAll, Moves, turn_moves, Waited}
use Rattle.driver_reclaim.proofs.PassLaws.{due_is, keepers_are}
use Rattle.driver_reclaim.proofs.StageLaws.{in_tries, InTries}
use Rattle.run_course.specs.inner.Turns.{KicksBy}

-- ---- no entry is behind the turn of kicks but one that was before it

look_calm : (left taken : ℕ) → is_kicked_stage (after_look left taken) ≡ false
look_calm (suc left) taken = refl
look_calm zero zero = refl
look_calm zero (suc n) = refl

looked_kicks : (d : Driver) (page : Page) (look : Look) (v : PassView) → is_kicked (looked d page look v) ≡ true → is_kicked v ≡ true
looked_kicks d page look v = by_aside v.aside
  where
    by_stage : (stage : Stage) → is_kicked (passed_by d page look v stage) ≡ true → is_kicked v ≡ true
    by_stage (stages.Idle works) h =
        absurd (false≢true (sym (look_calm (min d.marks.scan (length d.active.pages) - 1) _) ∙ h))
    by_stage (stages.Scan left) h = absurd (false≢true (sym (look_calm (left - 1) _) ∙ h))
    by_stage (stages.Block next) h = h
    by_stage (stages.Tries next form) h = h

    by_own : (b : Bool) → is_kicked (if b then passed_by d page look v v.stage else v) ≡ true → is_kicked v ≡ true
    by_own true h = by_stage v.stage h
    by_own false h = h

    by_aside : (x : Aside) → is_kicked (unless_aside x v (passed_own d page look v)) ≡ true → is_kicked v ≡ true
    by_aside asides.None h = by_own (is_own_page page) h
    by_aside (asides.ToGo t) h = h
    by_aside (asides.Going t) h = h

block_calm : (o : Option ℕ) → is_kicked_stage (after_block o) ≡ false
block_calm None = refl
block_calm (Some next) = refl

page_calm : (o : Option ℕ) → is_kicked_stage (after_page o) ≡ false
page_calm None = refl
page_calm (Some next) = refl

done_kicks : (stage : Stage) (taken : ℕ) (action : Action) → is_kicked_stage (after_done stage taken action) ≡ true
    → is_kicked_stage stage ≡ true
done_kicks (stages.Block next) taken (actions.Block f) h = absurd (false≢true (sym (block_calm (behind next taken)) ∙ h))
done_kicks (stages.Tries next form) taken (actions.EwbStart f slot) h = absurd (false≢true h)
done_kicks (stages.Tries next form) taken (actions.Track enclave) h = absurd (false≢true h)
done_kicks (stages.Tries next form) taken (actions.Ewb f) h = absurd (false≢true (sym (page_calm (behind next taken)) ∙ h))
done_kicks stage taken action h = h

refused_kicks : (stage : Stage) (action : Action) (r : Refusal) → is_kicked_stage (after_refused stage action r) ≡ true
    → is_kicked_stage stage ≡ true
refused_kicks (stages.Tries next form) (actions.EwbStart f slot) (why.NotTracked epoch older) h = by_form form h
  where
    by_form : (x : Form) → is_kicked_stage (stages.Tries next (not_tracked x epoch)) ≡ true
        → is_kicked_stage (stages.Tries next x) ≡ true
    by_form forms.First k = absurd (false≢true k)
    by_form forms.Second k = absurd (false≢true k)
    by_form form k = k
refused_kicks (stages.Tries next form) (actions.EwbStart f slot) (why.SlotOccupied version) h = by_form form h
  where
    by_form : (x : Form) → is_kicked_stage (stages.Tries next (occupied x)) ≡ true → is_kicked_stage (stages.Tries next x) ≡ true
    by_form (forms.Kick epoch made) k = absurd (false≢true k)
    by_form form k = k
refused_kicks stage action r h = h

instructed_kicks : (event : Event) (v : PassView) → is_kicked (instructed event v) ≡ true → is_kicked v ≡ true
instructed_kicks event v = by_aside v.aside
  where
    by_event : (ev : Event) → is_kicked_stage (after_instruction v.stage (length v.taken) ev) ≡ true → is_kicked v ≡ true
    by_event (Did action answer) h = done_kicks v.stage (length v.taken) action h
    by_event (Refused action refusal) h = refused_kicks v.stage action refusal h
    by_event ev h = h

    by_aside : (x : Aside) → is_kicked (unless_aside x v (record v { stage = after_instruction v.stage (length v.taken) event })) ≡ true
        → is_kicked v ≡ true
    by_aside asides.None h = by_event event h
    by_aside (asides.ToGo t) h = h
    by_aside (asides.Going t) h = h

kick_calm : (next epoch : ℕ) (o : Option ℕ) → is_kicked_stage (stages.Tries next (after_kick epoch o)) ≡ false
kick_calm next epoch None = refl
kick_calm next epoch (Some place) = refl

kicked_kicks : (m : Parts) (v : PassView) → is_kicked (kicked m v) ≡ true → is_kicked v ≡ true
kicked_kicks m v = by_aside v.aside
  where
    by_form : (next : ℕ) (form : Form) (o : Option Taken) → is_kicked (kicked_with m v next form o) ≡ true → is_kicked v ≡ true
    by_form next form None h = h
    by_form next (forms.Kick epoch made) (Some t) h =
        absurd (false≢true (sym (kick_calm next epoch (behind 0 (length (keepers_by m t.page.enclave epoch)))) ∙ h))
    by_form next (forms.Kicks epoch place) (Some t) h =
        absurd (false≢true (sym (kick_calm next epoch (behind place (length v.kicks))) ∙ h))
    by_form next forms.First (Some t) h = h
    by_form next forms.Track (Some t) h = h
    by_form next forms.Second (Some t) h = h
    by_form next (forms.Third epoch) (Some t) h = h
    by_form next forms.Sealing (Some t) h = h

    by_stage : (stage : Stage) → is_kicked (kicked_by m v stage) ≡ true → is_kicked v ≡ true
    by_stage (stages.Tries next form) h = by_form next form (slice_get v.taken next) h
    by_stage (stages.Idle works) h = h
    by_stage (stages.Scan left) h = h
    by_stage (stages.Block next) h = h

    by_aside : (x : Aside) → is_kicked (unless_aside x v (kicked_by m v v.stage)) ≡ true → is_kicked v ≡ true
    by_aside asides.None h = by_stage v.stage h
    by_aside (asides.ToGo t) h = h
    by_aside (asides.Going t) h = h

gone_kicks : (d : Driver) (m : Parts) (event : Event) (v : PassView) → is_kicked (gone_on d m event v) ≡ true → is_kicked v ≡ true
gone_kicks d m (Age page look) v h = looked_kicks d page look v h
gone_kicks d m (Kick cpu) v h = kicked_kicks m v h
gone_kicks d m event v h = instructed_kicks event v h

-- ---- a turn of kicks is behind it where it found nobody to kick

all_kicks : (v : PassView) (next epoch n : ℕ) → v.stage ≡ stages.Tries next (forms.Kick epoch false)
    → is_kicked (all_kicked n v) ≡ (n == 0)
all_kicks v next epoch n is = ap (λ x. is_kicked_stage (all_kicked_stage n x)) is ∙ by_count n
  where
    by_count : (k : ℕ) → is_kicked_stage (all_kicked_stage k (stages.Tries next (forms.Kick epoch false))) ≡ (k == 0)
    by_count zero = refl
    by_count (suc k) = by_test (suc k == 0) refl
      where
        by_test : (b : Bool) → (suc k == 0) ≡ b → false ≡ b
        by_test false is = refl
        by_test true is = let same = eqb-true (suc k) 0 is in absurd (omega (arith, same))

-- ---- by what is due

-- the turn of an entry is none of kicks
entry_apart : (e : Entry) (ev : Event) (bits : ℕ) → turn_of e ev ≡ turns.Kicks bits → ⊥
entry_apart e (Did (actions.EwbStart f slot) answer) bits is = cc
entry_apart e (Refused action (why.NotTracked epoch older)) bits is = cc
entry_apart e (Refused action (why.SlotOccupied version)) bits is = cc
entry_apart e (Refused action refusal) bits is = cc
entry_apart e ev bits is = cc

-- .. so that no kicks were due
kicks_apart : (made : Making) (j : JobView) (past : List Entry) (slots : Keeper) (due : Due) (turn : PassTurn)
    → IsTurn made j past slots due turn → ((bits : ℕ) → turn ≡ turns.Kicks bits → ⊥) → (before after : Bool)
    → (after ≡ true → before ≡ true) → KicksBy due before after
kicks_apart made j past slots (KicksAll cpus) turn s none before after h = absurd (none _ s)
kicks_apart made j past slots due turn s none before after h = h

module _ (made : Making) (j : JobView) (past : List Entry) (v v' : PassView) (d d' : Driver) (m m' : Parts) (turn : PassTurn)
    (r : Ready made j past v d m) where
  -- whom a turn of kicks is to kick
  kicks_told : (next epoch : ℕ) (one : Taken) → v.aside ≡ asides.None → due_in d (state_of m) v.behind ≡ None
      → v.stage ≡ stages.Tries next (forms.Kick epoch false) → slice_get v.taken next ≡ Some one
      → going_due j past (outs_kept j past) (is_kicked v) ≡ KicksAll (keepers_by m one.page.enclave epoch)
  kicks_told next epoch one alone none is found =
      ap (going_due j past (outs_kept j past)) (ap is_kicked_stage is)
      ∙ ap (λ x. ahead_gives j past false (ahead_by x (due_with j past (outs_kept j past)))) (r.stands.aside ∙ ap aside_by alone)
      ∙ ap (λ o. ahead_gives j past false (ahead_by passes.NoneAside o)) (sym (due_is made j past v d m r) ∙ none)
      ∙ ap (pass_due j past false) t.passed
      ∙ ap KicksAll (keepers_are made j past v d m r next epoch (forms.Kick epoch false) t.one is refl t.found)
      ∙ ap (λ (x : Taken). KicksAll (keepers_by m x.page.enclave epoch)) (same t.one one (sym t.found ∙ found))
    where
      t : InTries made.first_epoch j past v next (forms.Kick epoch false)
      t = in_tries made j past v d m r next (forms.Kick epoch false) is

      same : (a b : Taken) → Some a ≡ Some b → a ≡ b
      same a b h = cc

  pub turn_kicks : TurnSays v d m turn v' d' m' → (IsWait turn → v' ≡ v)
      → IsTurn made j past d.slots (going_due j past (outs_kept j past) (is_kicked v)) turn
      → KicksBy (going_due j past (outs_kept j past) (is_kicked v)) (is_kicked v) (is_kicked v')
  turn_kicks says waits s = by_move (turn_moves v v' d d' m m' turn says)
    where
      apart : ((bits : ℕ) → turn ≡ turns.Kicks bits → ⊥) → (is_kicked v' ≡ true → is_kicked v ≡ true)
          → KicksBy (going_due j past (outs_kept j past) (is_kicked v)) (is_kicked v) (is_kicked v')
      apart none h =
          kicks_apart made j past d.slots (going_due j past (outs_kept j past) (is_kicked v)) turn s none (is_kicked v) (is_kicked v') h

      by_move : Moves d m v turn v' → KicksBy (going_due j past (outs_kept j past) (is_kicked v)) (is_kicked v) (is_kicked v')
      by_move (Waited reason told) =
          apart (λ bits is. let both = sym told ∙ is in cc)
          (λ h. sym (ap is_kicked (waits (subst IsWait (sym told) tt))) ∙ h)
      by_move (KickedAll next epoch one alone none is found told to) =
          subst (λ due. KicksBy due (is_kicked v) (is_kicked v')) (sym (kicks_told next epoch one alone none is found))
          (ap is_kicked to ∙ all_kicks v next epoch (length (keepers_by m one.page.enclave epoch)) is)
      by_move (Entered event told to amid room) =
          apart (λ bits is. entry_apart (by_reclaimer event) event bits (sym told ∙ is))
          (λ h. gone_kicks d m event v (sym (ap is_kicked to) ∙ h))
