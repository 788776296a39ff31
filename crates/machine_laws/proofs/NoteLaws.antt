-- An entry of no instruction leaves a state what it was, and keeps each rule.
use Rattle.std.proofs.Common.{◌≡◌, ℕ, refl, List, ◌∷◌, ◌∙◌, sym}
use Rattle.sgx_types.specs.declared.names.Actor.{Actor}
use Rattle.sgx_rules.specs.declared.entries.Entry.{Entry}
use Rattle.sgx_rules.specs.declared.entries.Event.{Event}
use Rattle.sgx_rules.specs.declared.entries.Event.TheVariants.{Did, Refused}
use Rattle.sgx_rules.specs.Fresh.{ReloadRule}
use Rattle.sgx_types.specs.Making.{Making}
use Rattle.sgx_rules.specs.Rules.{EvictRule, FitsRule, RisingRule, StaleRule}
use Rattle.sgx_rules.specs.Starts.{open_start}
use Rattle.seal_record.specs.Sealing.{SealedRule}
use Rattle.seal_record.specs.inner.Sealing.{made_by}
use Rattle.machine_laws.specs.inner.Guarded.{IsGuarded}
use Rattle.machine_laws.proofs.OutsideLaws.{KeepsOutside}
use Rattle.machine_laws.specs.inner.Notes.{IsNote}
use Rattle.machine_copies.specs.inner.Away.{EndsRight}
use Rattle.machine_laws.specs.inner.Columns.{HasAllVersions, slot_of}
use Rattle.machine_laws.specs.inner.Shape.{FitsApart, ShapeWithRules}
use Rattle.machine_laws.specs.inner.Stands.{IsSound, Stands}
use Rattle.machine_laws.specs.inner.State.{State}
use Rattle.machine_laws.proofs.FitLaws.{fits_same}
use Rattle.machine_laws.proofs.NextEntry.{Brings}
use Rattle.machine_laws.proofs.ShapeColumns.{IsQuiet}
use Rattle.machine_laws.proofs.ShapeLaws.{held_by, shaped_more}
use Rattle.machine_laws.proofs.ShapeRows.{quiet_next}

-- an entry of an actor
abbrev entry_of : Actor → Event → Entry
entry_of actor event = record { actor = actor; event = event }

-- it changes no column
noted_quiet : (first_epoch first_version : ℕ) (past : List Entry) (a : Actor) (event : Event) → IsNote event
    → IsQuiet first_epoch first_version past (entry_of a event)
noted_quiet first_epoch first_version past a (Did action answer) note = absurd note
noted_quiet first_epoch first_version past a (Refused action why) note = absurd note
noted_quiet first_epoch first_version past a _ note =
    record {
      frames = refl;
      cpus = refl;
      draws = refl;
      versions = λ slot. refl;
      back = λ number. refl;
      enclaves = refl;
      stays = λ p. refl;
    }

-- nor any start
noted_opens : (past : List Entry) (a : Actor) (event : Event) → IsNote event → (n : ℕ)
    → open_start (entry_of a event ∷ past) n ≡ open_start past n
noted_opens past a (Did action answer) note n = absurd note
noted_opens past a (Refused action why) note n = absurd note
noted_opens past a _ note n = refl

-- and the rules that ask what was done have nothing to say of it
record SaysNothing (past : List Entry) (e : Entry) : Type 0 where
  frames : (frames : ℕ) → FitsRule frames past e
  access : StaleRule past e
  evict : EvictRule past e
  rising : (first : ℕ) → RisingRule first past e
  right : EndsRight past e.event

noted_nothing : (past : List Entry) (a : Actor) (event : Event) → IsNote event → SaysNothing past (entry_of a event)
noted_nothing past a (Did action answer) note = absurd note
noted_nothing past a (Refused action why) note = absurd note
noted_nothing past a _ note = record { frames = λ frames. tt; access = tt; evict = tt; rising = λ first. tt; right = tt }

pub noted_shaped : (s : State) (made : Making) (past : List Entry) (e : Entry) → IsNote e.event → IsSound s → IsGuarded s
    → ShapeWithRules made s past → ShapeWithRules made s (e ∷ past)
noted_shaped s made past e note sound guarded h =
    let none = noted_nothing past e.actor e.event note in
    shaped_more made s s past e guarded sound guarded h (none.frames s.frames)
    (quiet_next s s past e (noted_quiet s.first_epoch s.first_version past e.actor e.event note) refl h.shape.columns
    (held_by made s past h) none.access none.evict (none.rising s.first_version) none.right (λ all. all))

pub noted_arrays : (s : State) (past : List Entry) (e : Entry) → IsNote e.event → HasAllVersions s past → HasAllVersions s (e ∷ past)
noted_arrays s past e note all n number held index low =
    all n number held index low
    ∙ sym ((noted_quiet 0 0 past e.actor e.event note).versions (slot_of number index))

pub noted_fits : (frames : ℕ) (past : List Entry) (e : Entry) → IsNote e.event → FitsApart frames past → FitsApart frames (e ∷ past)
noted_fits frames past e note h =
    let quiet = noted_quiet 0 0 past e.actor e.event note in
    fits_same frames past e (λ n i. (quiet.frames i).content n) (noted_opens past e.actor e.event note)
    ((noted_nothing past e.actor e.event note).frames frames) h

pub noted_reload : (past : List Entry) (e : Entry) → IsNote e.event → ReloadRule past e
noted_reload past e note = by_event e.event note
  where
    by_event : (event : Event) → IsNote event → ReloadRule past (entry_of e.actor event)
    by_event (Did action answer) k = absurd k
    by_event (Refused action why) k = absurd k
    by_event _ k = tt

pub noted_sealed : (key : List ℕ) (past : List Entry) (e : Entry) → IsNote e.event → SealedRule key past e
noted_sealed key past e note = by_event e.event note
  where
    by_event : (event : Event) → IsNote event → SealedRule key past (entry_of e.actor event)
    by_event (Did action answer) k = absurd k
    by_event (Refused action why) k = absurd k
    by_event _ k = tt

pub noted_made : (key : List ℕ) (past : List Entry) (e : Entry) → IsNote e.event → made_by key (e ∷ past) ≡ made_by key past
noted_made key past e note = by_event e.event note
  where
    by_event : (event : Event) → IsNote event → made_by key (entry_of e.actor event ∷ past) ≡ made_by key past
    by_event (Did action answer) k = absurd k
    by_event (Refused action why) k = absurd k
    by_event _ k = refl

-- the pages outside have their bytes still
pub noted_keeps : (past : List Entry) (e : Entry) → IsNote e.event → KeepsOutside past e
noted_keeps past e note = by_event e.event note
  where
    by_event : (event : Event) → IsNote event → KeepsOutside past (entry_of e.actor event)
    by_event (Did action answer) k = absurd k
    by_event (Refused action why) k = absurd k
    by_event _ k = record { made = λ key. refl; stays = λ g slot v there. there; words = λ g slot v there. refl }

pub noted_brings : (s : State) (past : List Entry) (e : Entry) → IsNote e.event → Stands s past → Brings s s past e
noted_brings s past e note h = by_event e.event note
  where
    by_event : (event : Event) → IsNote event → Brings s s past (entry_of e.actor event)
    by_event (Did action answer) k = absurd k
    by_event (Refused action why) k = absurd k
    by_event _ k = record {
      refusal = tt;
      flat = tt;
      fits = tt;
      measure = tt;
      memory = record { enclaves = h.memory.enclaves; cpus = h.memory.cpus; words = h.memory.words; measure = h.memory.measure };
    }
