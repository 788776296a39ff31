-- What comes of asking a machine for an entry: all stands for the longer list, or the entry breaks a rule.
use Rattle.std.specs.Prelude.{nat_lt, not, ◌&&◌, IfOk}
use Rattle.std.proofs.Common.{◌≡◌, ℕ, ◌<◌, ◌≤◌, ◌^◌, ◌⊎◌, inl, inr, Bool, true, false, refl, sym, ap, subst, ◌∙◌, arith, List, [], ◌∷◌}
use Rattle.std.proofs.Common.{Option, Some, None, Result, Ok, Err, length}
use Rattle.std.proofs.lemmas.Bool.{false≢true}
use Rattle.std.proofs.lemmas.Option.{none-some, same_Some}
use Rattle.sgx_types.specs.declared.names.Actor.{Actor}
use Rattle.sgx_types.specs.declared.names.Actor.TheVariants as actors
use Rattle.sgx_types.specs.declared.names.Frame.{Frame}
use Rattle.sgx_types.specs.declared.names.Memory.{Memory}
use Rattle.sgx_types.specs.declared.names.Page.{Page}
use Rattle.sgx_types.specs.Making.{Making}
use Rattle.sgx_types.proofs.Truths.{both_true, tested}
use Rattle.sgx_rules.specs.declared.entries.Action.{Action}
use Rattle.sgx_rules.specs.declared.entries.Action.TheVariants.{Add, Aex, Block, Create, Eld, EldStart, Enter}
use Rattle.sgx_rules.specs.declared.entries.Action.TheVariants.{Epa, Ewb, EwbStart, Exit, Extend, Fill, Init}
use Rattle.sgx_rules.specs.declared.entries.Action.TheVariants.{Load, OutLoad, OutStore, Pf, Plus, Resume, Set, Store, Track, Xadd}
use Rattle.sgx_rules.specs.declared.entries.Answer.TheVariants.{Moved}
use Rattle.sgx_rules.specs.declared.entries.Entry.{Entry}
use Rattle.sgx_rules.specs.declared.entries.Event.{Event}
use Rattle.sgx_rules.specs.declared.entries.Event.TheVariants.{Age, Bus, Did, Kick, Refused}
use Rattle.seal_record.specs.declared.unseal.UnsealedWork.{UnsealedWork}
use Rattle.seal_record.specs.inner.Sealing.{made_by}
use Rattle.job_grammar.specs.Jobs.{JobView}
use Rattle.script_rules.specs.Script.{action_of}
use Rattle.machine_laws.specs.inner.Histories.{StandsWithAllRules}
use Rattle.machine_laws.specs.inner.Notes.{IsNote}
use Rattle.machine_laws.specs.inner.State.{State}
use Rattle.machine_laws.specs.inner.Steps.{CanApply, CanMove, IsNoProcessor, IsStep, is_of_cpus}
use Rattle.sgx_machine.specs.inner.Parts.{Parts, state_of}
use Rattle.history_rules.specs.declared.rules.Rule.{Rule}
use Rattle.history_rules.specs.inner.Histories.{is_machines}
use Rattle.history_machine.specs.Histories.{FailsAmong}
use Rattle.audit_machine.specs.inner.Asked.{Breaks, GoesOnWith, HasLeft, Takes, is_processor, made_for}
use Rattle.audit_machine.specs.inner.Kept.{KeepsRecords, Records, is_ewb, kept_of, with_record}
use Rattle.audit_machine.proofs.StayLaws.{goes_on, no_action, not_ewb, own_records, record_left, records_stay}
use Rattle.audit_check.specs.inner.Asks.{CanCheck, Checked, IsAnswered, IsTakenWith}
use Rattle.audit_check.specs.inner.Tests.{IsActor, is_commit, is_epa, is_one_too_many, is_outsiders, page_moved}

-- two names of one instruction
same-action : (event : Event) (a b : Action) → action_of event ≡ Some a → action_of event ≡ Some b → a ≡ b
same-action event a b one other = same_Some _ _ (sym one ∙ other)

-- ---- who may be asked for what

-- who is no processor of the machine is none at all
pub nobody : (cpus : ℕ) (a : Actor) (action : Action) → IsActor cpus a → is_outsiders cpus a action ≡ true → IsNoProcessor a
nobody cpus (actors.Cpu p) action known is = by_place known
  where
    outside : not (nat_lt p.0 cpus) ≡ true
    outside = (both_true (is_of_cpus action) (not (nat_lt p.0 cpus)) is).1

    by_place : (p.0 < cpus) ⊎ (16 ≤ p.0) → 16 ≤ p.0
    by_place (inl low) =
        let inside : nat_lt p.0 cpus ≡ true = grind (arith, low) in
        absurd (false≢true (ap not (sym inside) ∙ outside))
    by_place (inr high) = high
nobody cpus actors.Builder action known is = tt
nobody cpus actors.Reclaimer action known is = tt

pub of_cpus : (cpus : ℕ) (a : Actor) (action : Action) → is_outsiders cpus a action ≡ true → is_of_cpus action ≡ true
of_cpus cpus a action is = (both_true (is_of_cpus action) (not (is_processor cpus a)) is).0

-- the machine may be asked for what a processor of it makes, and for what is no processor's alone
inside : (cpus : ℕ) (a : Actor) (action : Action) → is_outsiders cpus a action ≡ false → is_of_cpus action ≡ true
    → is_processor cpus a ≡ true
inside cpus a action none own = by_test (is_processor cpus a) refl (rw own at none)
  where
    by_test : (b : Bool) → is_processor cpus a ≡ b → not b ≡ false → is_processor cpus a ≡ true
    by_test true is none = is
    by_test false is none = cc none

low : (cpus : ℕ) (a : Actor) → is_processor cpus a ≡ true → CanApply cpus a Exit
low cpus (actors.Cpu p) is = by_test (tested (nat_lt p.0 cpus))
  where
    by_test : (nat_lt p.0 cpus ≡ true) ⊎ (nat_lt p.0 cpus ≡ false) → p.0 < cpus
    by_test (inl less) = grind (arith, less)
    by_test (inr more) = absurd (false≢true (sym more ∙ is))
low cpus actors.Builder is = cc is
low cpus actors.Reclaimer is = cc is

pub can_apply : (cpus : ℕ) (a : Actor) (action : Action) → is_commit action ≡ false → is_outsiders cpus a action ≡ false
    → CanApply cpus a action
can_apply cpus a action row none = by_action action a row (λ own. low cpus a (inside cpus a action none own))
  where
    by_action : (action : Action) (a : Actor) → is_commit action ≡ false → (is_of_cpus action ≡ true → CanApply cpus a Exit)
        → CanApply cpus a action
    by_action (Epa f) a row own = tt
    by_action (Create enclave f base size) a row own = tt
    by_action (Add enclave number f kind perm init) a row own = tt
    by_action (Extend f chunk) a row own = tt
    by_action (Init enclave expect) a row own = tt
    by_action (Block f) a row own = tt
    by_action (Track enclave) a row own = tt
    by_action (EwbStart f slot) a row own = tt
    by_action (EldStart f page slot) a row own = tt
    by_action (Ewb f) a row own = absurd (false≢true (sym row))
    by_action (Eld f) a row own = absurd (false≢true (sym row))
    by_action (Enter enclave tcs tf sf) (actors.Cpu p) row own = own refl
    by_action (Resume enclave tcs tf sf) (actors.Cpu p) row own = own refl
    by_action Exit (actors.Cpu p) row own = own refl
    by_action (Aex cause) (actors.Cpu p) row own = own refl
    by_action (Fill number f) (actors.Cpu p) row own = own refl
    by_action (Load off) (actors.Cpu p) row own = own refl
    by_action (Store off value) (actors.Cpu p) row own = own refl
    by_action (Xadd off value) (actors.Cpu p) row own = own refl
    by_action (Set value) (actors.Cpu p) row own = own refl
    by_action (Plus value) (actors.Cpu p) row own = own refl
    by_action (Pf op off) (actors.Cpu p) row own = own refl
    by_action (OutLoad enclave off) (actors.Cpu p) row own = own refl
    by_action (OutStore enclave off value) (actors.Cpu p) row own = own refl
    by_action action actors.Builder row own = absurd (own cc)
    by_action action actors.Reclaimer row own = absurd (own cc)

-- .. while there are numbers for its version array pages
pub can_move : (s : State) (action : Action) → is_one_too_many s.vas_made action ≡ false → CanMove s action
can_move s (Epa f) few = by_test (tested (nat_lt s.vas_made (2 ^ 32)))
  where
    by_test : (nat_lt s.vas_made (2 ^ 32) ≡ true) ⊎ (nat_lt s.vas_made (2 ^ 32) ≡ false) → s.vas_made < 2 ^ 32
    by_test (inl less) = grind (arith, less)
    by_test (inr more) = absurd (false≢true (sym few ∙ ap not more))
can_move s action few = tt

-- ---- entries of no instruction

pub note_of : (event : Event) → action_of event ≡ None → IsNote event
note_of (Did action answer) none = absurd (none-some _ (sym none))
note_of (Refused action reason) none = absurd (none-some _ (sym none))
note_of (Age page look) none = tt
note_of (Kick cpu) none = tt
note_of (Bus page why) none = tt

no-note : (event : Event) → IsNote event → action_of event ≡ None
no-note (Did action answer) h = absurd h
no-note (Refused action reason) h = absurd h
no-note (Age page look) h = refl
no-note (Kick cpu) h = refl
no-note (Bus page why) h = refl

commit-no-row : (action : Action) → is_commit action ≡ true → is_commit action ≡ false → ⊥
commit-no-row action is row = false≢true (sym row ∙ is)

row-no-ewb : (action : Action) → is_commit action ≡ false → is_ewb action ≡ false
row-no-ewb (Ewb f) h = absurd (false≢true (sym h))
row-no-ewb action h = refl

-- ---- what stands for the longer list

-- what is so whatever the trace was
pub out_of : (m : Parts) (e : Entry) (t : Parts) (r : Result (Option Rule) Memory)
    → ((kept : Records) (can : CanCheck m kept) → IfOk r (λ broken. IsAnswered can.j can.cpus can.past m e t kept broken))
    → IfOk r (λ broken. (kept : Records) (can : CanCheck m kept) → IsAnswered can.j can.cpus can.past m e t kept broken)
out_of m e t (Ok broken) told = told
out_of m e t (Err memory) told = tt

module _ (m : Parts) (kept : Records) (e : Entry) (can : CanCheck m kept) where
  abbrev j : JobView
  j = can.j

  abbrev past : List Entry
  past = can.past

  abbrev k : Making
  k = made_for can.j can.cpus

  -- the rule that the entry breaks first
  pub breaks : (rule : Rule) → Breaks (state_of m) e rule → FailsAmong is_machines j past (Some e) rule
  breaks rule told = told j can.cpus past (made_by j.key past) can.checked.stands

  pub noted : IsNote e.event → StandsWithAllRules k (state_of m) (e ∷ past) (made_by j.key past) → IsTakenWith j can.cpus past m e m kept
  noted note stands = record {
    checked = record {
      stands = own_records k (state_of m) (e ∷ past) (made_by j.key past) stands;
      records = records_stay j.key past e kept (no_action e.event (no-note e.event note)) can.checked.records;
    };
    step = λ action own row. absurd (none-some _ (sym (no-note e.event note) ∙ own));
  }

  -- ---- an instruction that its row decides

  module _ (action : Action) (own : action_of e.event ≡ Some action) (row : is_commit action ≡ false) (t : Parts) where
    checked-row : GoesOnWith (state_of m) e [] (state_of t) → Checked j can.cpus (e ∷ past) t kept
    checked-row more = record {
      stands = goes_on k (state_of m) (state_of t) past e [] more can.checked.stands;
      records = records_stay j.key past e kept (not_ewb e.event action own (row-no-ewb action row)) can.checked.records;
    }

    -- .. whatever the machine was answered
    pub answered : (r : Result (Option Rule) Memory) → IfOk r (Takes (state_of m) e (state_of t))
        → IfOk r (λ broken. broken ≡ None → IsStep (state_of m) e.actor action e (state_of t))
        → IfOk r (λ broken. IsAnswered j can.cpus past m e t kept broken)
    answered (Ok None) takes step = record {
      checked = checked-row takes;
      step = λ x named plain other. subst (λ y. IsStep (state_of m) e.actor y e (state_of t)) (same-action e.event action x own named)
          (step refl);
    }
    answered (Ok (Some rule)) takes step = breaks rule takes
    answered (Err memory) takes step = tt

    -- .. and where it is asked from outside
    pub answered_outside : is_outsiders (length m.cpus) e.actor action ≡ true → (broken : Option Rule)
        → Takes (state_of m) e (state_of t) broken → IsAnswered j can.cpus past m e t kept broken
    answered_outside outside None takes = record {
      checked = checked-row takes;
      step = λ x named plain other.
          let which = same-action e.event action x own named in
          absurd (false≢true (sym other ∙ ap (is_outsiders (length m.cpus) e.actor) (sym which) ∙ outside));
    }
    answered_outside outside (Some rule) takes = breaks rule takes

  -- ---- the ends of starts

  -- all stands for the longer list behind a commit
  pub committed : (action : Action) (t : Parts) (after : Records) → action_of e.event ≡ Some action → is_commit action ≡ true
      → StandsWithAllRules k (state_of t) (e ∷ past) (made_by j.key (e ∷ past)) → KeepsRecords j.key (e ∷ past) after
      → IsTakenWith j can.cpus past m e t after
  committed action t after own is stands keeps = record {
    checked = record { stands = stands; records = keeps };
    step = λ x named row. absurd (commit-no-row action is
        (subst (λ y. is_commit y ≡ false) (sym (same-action e.event action x own named)) row));
  }

  module _ (f : Frame) (own : action_of e.event ≡ Some (Ewb f)) (work : UnsealedWork) (t : Parts)
      (left : HasLeft (state_of m) e f work (state_of t)) where
    page-told : page_moved e.event ≡ Some left.page
    page-told = ap page_moved left.told

    pub gone : (after : Records) (page : Page) → Some page ≡ page_moved e.event → after ≡ with_record kept page (kept_of work)
        → IsTakenWith j can.cpus past m e t after
    gone after page moved is =
        committed (Ewb f) t after own refl (goes_on k (state_of m) (state_of t) past e _ left.goes_on can.checked.stands)
        (subst (KeepsRecords j.key (e ∷ past)) (sym is)
        (record_left k (state_of m) (state_of t) past e f work (Ewb f) page work.version work.rec.tag kept left
        (left.told ∙ ap (λ g. Did (Ewb f) (Moved g work.version work.rec.tag)) same) can.checked.stands can.checked.records))
      where
        same : left.page ≡ page
        same = same_Some _ _ (sym page-told ∙ sym moved)

    -- .. which the entry does tell
    pub never_untold : page_moved e.event ≡ None → ⊥
    never_untold none = none-some _ (sym none ∙ page-told)
