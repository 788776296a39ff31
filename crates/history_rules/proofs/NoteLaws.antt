-- An entry of no instruction: a look, a kick, or why a page did not come back. Only Script, Age and Kick say something of it.
use Rattle.std.specs.Prelude.{IfSome}
use Rattle.std.proofs.Common.{◌≡◌, true, List, ◌∷◌, Option, Some, None}
use Rattle.sgx_types.specs.declared.names.Actor.{Actor}
use Rattle.sgx_rules.specs.declared.entries.Entry.{Entry}
use Rattle.sgx_rules.specs.declared.entries.Event.{Event}
use Rattle.sgx_rules.specs.declared.entries.Event.TheVariants.{Did, Refused, Age, Kick, Bus}
use Rattle.sgx_rules.specs.Processors.{stay}
use Rattle.sgx_rules.specs.Rules.{IsUndisturbed, NoneStale}
use Rattle.job_grammar.specs.Jobs.{JobView}
use Rattle.driver_rules.specs.Ages.{AgeRule, KickRule}
use Rattle.driver_rules.specs.Scripts.{ScriptRule}
use Rattle.history_rules.specs.declared.rules.Rule.{Rule}
use Rattle.history_rules.specs.declared.rules.Rule.TheVariants as rules
use Rattle.history_rules.specs.Histories.{RuleSays}
use Rattle.history_rules.specs.inner.Histories.{GoesOn, is_machines, is_note}

-- what a rule of the machine says of the place is all that it says of such an entry
pub note_says : (j : JobView) (past : List Entry) (a : Actor) (ev : Event) (rule : Rule) → is_note ev ≡ true → is_machines rule ≡ true
    → RuleSays j rule past None → RuleSays j rule past (Some (record { actor = a; event = ev }))
note_says j past a (Age page look) rules.Refusal note own h = tt
note_says j past a (Age page look) rules.Flat note own h = tt
note_says j past a (Age page look) rules.Fits note own h = (tt, h.1)
note_says j past a (Age page look) rules.Stale note own h = (tt, h.1)
note_says j past a (Age page look) rules.Evict note own h = tt
note_says j past a (Age page look) rules.Fresh note own h = record { rising = tt; reload = tt }
note_says j past a (Age page look) rules.Sealed note own h = tt
note_says j past a (Age page look) rules.Measure note own h = tt
note_says j past a (Kick cpu) rules.Refusal note own h = tt
note_says j past a (Kick cpu) rules.Flat note own h = tt
note_says j past a (Kick cpu) rules.Fits note own h = (tt, h.1)
note_says j past a (Kick cpu) rules.Stale note own h = (tt, h.1)
note_says j past a (Kick cpu) rules.Evict note own h = tt
note_says j past a (Kick cpu) rules.Fresh note own h = record { rising = tt; reload = tt }
note_says j past a (Kick cpu) rules.Sealed note own h = tt
note_says j past a (Kick cpu) rules.Measure note own h = tt
note_says j past a (Bus page reason) rules.Refusal note own h = tt
note_says j past a (Bus page reason) rules.Flat note own h = tt
note_says j past a (Bus page reason) rules.Fits note own h = (tt, h.1)
note_says j past a (Bus page reason) rules.Stale note own h = (tt, h.1)
note_says j past a (Bus page reason) rules.Evict note own h = tt
note_says j past a (Bus page reason) rules.Fresh note own h = record { rising = tt; reload = tt }
note_says j past a (Bus page reason) rules.Sealed note own h = tt
note_says j past a (Bus page reason) rules.Measure note own h = tt
note_says j past a (Did action answer) rule note own h = cc
note_says j past a (Refused action refusal) rule note own h = cc
note_says j past a ev rules.Script note own h = cc
note_says j past a ev rules.Age note own h = cc
note_says j past a ev rules.Kick note own h = cc

if_some : {X : Type 0} (P Q : X → Type 0) (o : Option X) → ((x : X) → P x → Q x) → IfSome o P → IfSome o Q
if_some P Q None each h = tt
if_some P Q (Some x) each h = each x h

-- .. and no translation becomes stale by it
pub note_stale : (past : List Entry) (a : Actor) (ev : Event) → is_note ev ≡ true → NoneStale past
    → NoneStale (record { actor = a; event = ev } ∷ past)
note_stale past a (Age page look) note h p =
    if_some (IsUndisturbed past p) (IsUndisturbed (record { actor = a; event = Age page look } ∷ past) p) (stay past p)
    (λ t x. record { tcs = x.tcs; ssa = x.ssa; translations = x.translations }) (h p)
note_stale past a (Kick cpu) note h p =
    if_some (IsUndisturbed past p) (IsUndisturbed (record { actor = a; event = Kick cpu } ∷ past) p) (stay past p)
    (λ t x. record { tcs = x.tcs; ssa = x.ssa; translations = x.translations }) (h p)
note_stale past a (Bus page reason) note h p =
    if_some (IsUndisturbed past p) (IsUndisturbed (record { actor = a; event = Bus page reason } ∷ past) p) (stay past p)
    (λ t x. record { tcs = x.tcs; ssa = x.ssa; translations = x.translations }) (h p)
note_stale past a (Did action answer) note h p = cc
note_stale past a (Refused action refusal) note h p = cc

-- so a history goes on with one that keeps these three
pub note_goes_on : (j : JobView) (past : List Entry) (a : Actor) (ev : Event) → is_note ev ≡ true
    → ScriptRule j past (record { actor = a; event = ev }) → AgeRule j past (record { actor = a; event = ev })
    → KickRule j past (record { actor = a; event = ev }) → GoesOn j past → GoesOn j (record { actor = a; event = ev } ∷ past)
note_goes_on j past a (Age page look) note script age kick h = record {
  script = (script, h.script);
  refusal = (tt, (tt, h.refusal.1));
  flat = (tt, (tt, h.flat.1));
  fits = ((tt, h.fits.0.1), ((tt, h.fits.0.1), h.fits.1));
  stale = ((tt, note_stale past a (Age page look) note h.stale.0.1), ((tt, h.stale.0.1), h.stale.1));
  evict = (tt, (tt, h.evict.1));
  fresh = (tt, (record { rising = tt; reload = tt }, h.fresh.1));
  sealed = (tt, (tt, h.sealed.1));
  measure = (tt, (tt, h.measure.1));
  age = (tt, (age, h.age.1));
  kick = (tt, (kick, h.kick.1));
}
note_goes_on j past a (Kick cpu) note script age kick h = record {
  script = (script, h.script);
  refusal = (tt, (tt, h.refusal.1));
  flat = (tt, (tt, h.flat.1));
  fits = ((tt, h.fits.0.1), ((tt, h.fits.0.1), h.fits.1));
  stale = ((tt, note_stale past a (Kick cpu) note h.stale.0.1), ((tt, h.stale.0.1), h.stale.1));
  evict = (tt, (tt, h.evict.1));
  fresh = (tt, (record { rising = tt; reload = tt }, h.fresh.1));
  sealed = (tt, (tt, h.sealed.1));
  measure = (tt, (tt, h.measure.1));
  age = (tt, (age, h.age.1));
  kick = (tt, (kick, h.kick.1));
}
note_goes_on j past a (Bus page reason) note script age kick h = record {
  script = (script, h.script);
  refusal = (tt, (tt, h.refusal.1));
  flat = (tt, (tt, h.flat.1));
  fits = ((tt, h.fits.0.1), ((tt, h.fits.0.1), h.fits.1));
  stale = ((tt, note_stale past a (Bus page reason) note h.stale.0.1), ((tt, h.stale.0.1), h.stale.1));
  evict = (tt, (tt, h.evict.1));
  fresh = (tt, (record { rising = tt; reload = tt }, h.fresh.1));
  sealed = (tt, (tt, h.sealed.1));
  measure = (tt, (tt, h.measure.1));
  age = (tt, (age, h.age.1));
  kick = (tt, (kick, h.kick.1));
}
note_goes_on j past a (Did action answer) note script age kick h = cc
note_goes_on j past a (Refused action refusal) note script age kick h = cc
