-- Small facts of what is recorded.
use Rattle.std.proofs.Common.{◌≡◌, ◌+◌, true, false, if◌then◌else◌, List, [], ◌∷◌, ◌++◌, Some, None, length}
use Rattle.std.proofs.Common.{reverse, refl, sym, ap, subst, ◌∙◌, arith}
use Rattle.std.proofs.lemmas.Bool.{eq-eqb, false≢true}
use Rattle.std.proofs.lemmas.List.{length-append, length-reverse, reverse-append}
use Rattle.sgx_rules.specs.declared.entries.Action.{Action}
use Rattle.sgx_rules.specs.declared.entries.Action.TheVariants.{EldStart, EwbStart}
use Rattle.sgx_types.specs.declared.names.Actor.TheVariants as actors
use Rattle.sgx_rules.specs.declared.entries.Entry.{Entry}
use Rattle.sgx_rules.specs.declared.entries.Event.{Event}
use Rattle.sgx_rules.specs.declared.entries.Event.TheVariants.{Age, Bus, Did, Kick, Refused}
use Rattle.sgx_types.specs.declared.names.Cpu.{Cpu}
use Rattle.sgx_rules.specs.Processors.{is_by}
use Rattle.script_rules.specs.Script.{action_of}
use Rattle.driver_rules.specs.inner.Stops.{frame_started, is_frame, started}
use Rattle.driver_rules.specs.Stops.{last_event}
use Rattle.due_notes.specs.inner.Plain.{is_plain}

-- the newest entry stands first
pub newest : (old new : List Entry) (e : Entry) → new ≡ old ++ e ∷ [] → reverse new ≡ e ∷ reverse old
newest old new e is = ap reverse is ∙ reverse-append old (e ∷ [])

-- a longer list is another one
pub longer_apart : (old new : List Entry) (e : Entry) → new ≡ old ++ e ∷ [] → reverse new ≡ reverse old → ⊥
longer_apart old new e is same =
    let one : length new ≡ length old + 1 = ap length is ∙ length-append old (e ∷ []) in
    let two = length-reverse new in
    let three = length-reverse old in
    let four : length (reverse new) ≡ length (reverse old) = ap length same in
    omega (arith, one, two, three, four)

-- a processor whose newest entry is no start has none open
pub none_started_by : (past : List Entry) (e : Entry) (p : Cpu) → e.actor ≡ actors.Cpu p → frame_started (Some e.event) ≡ None
    → started (e ∷ past) (actors.Cpu p) ≡ false
none_started_by past e p mine none =
    ap (λ b. is_frame (frame_started (if b then Some e.event else last_event past (actors.Cpu p))))
    (ap (is_by p.0) mine ∙ eq-eqb p.0 p.0 refl)
    ∙ ap is_frame none

-- .. nor the builder
pub none_started_built : (past : List Entry) (e : Entry) → e.actor ≡ actors.Builder → frame_started (Some e.event) ≡ None
    → started (e ∷ past) actors.Builder ≡ false
none_started_built past e mine none = rw mine (ap is_frame none)

-- what moves no page out or back is no start
pub plain_is_none : (event : Event) (action : Action) → action_of event ≡ Some action → is_plain action ≡ true
    → frame_started (Some event) ≡ None
plain_is_none (Did act answer) action acts plain = by_act act (subst (λ a. is_plain a ≡ true) (sym (same act acts)) plain)
  where
    same : (a : Action) → Some a ≡ Some action → a ≡ action
    same a is = cc

    by_act : (a : Action) → is_plain a ≡ true → frame_started (Some (Did a answer)) ≡ None
    by_act (EwbStart f slot) h = absurd (false≢true h)
    by_act (EldStart f page slot) h = absurd (false≢true h)
    by_act a h = refl
plain_is_none (Refused act reason) action acts plain = refl
plain_is_none (Age page look) action acts plain = refl
plain_is_none (Kick cpu) action acts plain = refl
plain_is_none (Bus page reason) action acts plain = refl
