-- A machine whose parts a row has written is whole again.
use Rattle.std.proofs.Common.{◌≡◌, ℕ, ◌≤◌, Option, Some, None, List, length, get_or, set, sym, ap, subst, ◌∙◌}
use Rattle.std.proofs.Common.{MatchOption}
use Rattle.std.proofs.lemmas.List.{set-get_or}
use Rattle.sgx_rules.specs.declared.entries.Entry.{Entry}
use Rattle.sgx_types.specs.declared.names.Actor.{Actor}
use Rattle.sgx_rules.specs.declared.entries.Action.{Action}
use Rattle.sgx_rules.specs.declared.refusals.Refusal.{Refusal}
use Rattle.epcm_entry.specs.inner.Epc.{EpcFrame}
use Rattle.secs_state.specs.inner.Secs.{SecsState}
use Rattle.secs_state.specs.inner.Table.{enclave_at, with_enclave}
use Rattle.measure_log.specs.declared.measure.Measure.{Measure}
use Rattle.sgx_machine.specs.declared.machine.Machine.TheInside.{Inside}
use Rattle.machine_laws.specs.inner.State.{State}
use Rattle.cached_translations.specs.declared.processor.Processor.{Processor}
use Rattle.track_epoch.specs.inner.Tracking.{Tracking}
use Rattle.track_epoch.specs.inner.Tracks.{track_of, with_track}
use Rattle.track_epoch.proofs.TracksLaws.{with_track-track_of}
use Rattle.version_array.specs.inner.Slots.{IsVaTable}
use Rattle.machine_laws.specs.inner.Guarded.{IsGuarded}
use Rattle.sgx_machine.specs.inner.Parts.{Parts, idle, cpu_at, state_of}
use Rattle.machine_laws.specs.inner.Stands.{IsSound, IsMeasured, IsFramed}
use Rattle.machine_laws.specs.inner.Steps.{IsStep}
use Rattle.sgx_machine.specs.inner.Whole.{AreHeld, IsTable, IsWithin, IsTracked, IsWhole, parts_of}
use Rattle.sgx_machine.proofs.Columns.{enclave_same, numbered}
use Rattle.sgx_machine.proofs.KeptStates.{IsKept, kept_as}

pub kept_of : (m : Inside) → IsWhole m → IsKept (state_of (parts_of m))
kept_of m h = record { measured = h.measured; framed = h.framed; within = h.within; sound = h.sound; guarded = h.guarded }

-- what a row leaves of the parts, where it is done: the state after it, and what each machine keeps beside its state
pub record Leaves (d : Parts) (s : State) : Type 0 where
  pub state : state_of d ≡ s
  pub kept : IsKept s
  pub processors : length d.cpus ≤ 16
  pub places : length d.measures ≡ 9
  pub table : IsTable d.secs
  pub track_places : length d.tracks ≡ 8
  pub tracked : IsTracked d.tracks d.cpus
  pub slots : IsVaTable d.va.pages
  pub held : AreHeld d.epc d.secs d.va
  pub start_places : length d.starts ≡ length d.epc

pub whole : (m : Inside) (s : State) → Leaves (parts_of m) s → IsWhole m
whole m s h =
    let k = kept_as (state_of (parts_of m)) s h.state h.kept in
    record {
      processors = h.processors;
      places = h.places;
      table = h.table;
      track_places = h.track_places;
      tracked = h.tracked;
      slots = h.slots;
      held = h.held;
      start_places = h.start_places;
      measured = k.measured;
      framed = k.framed;
      within = k.within;
      sound = k.sound;
      guarded = k.guarded;
    }

-- a row that builds changes no track, no slot and no processor
pub builds : (m : Inside) → IsWhole m → (epc : List EpcFrame) (secs : List (Option SecsState)) (measures : List (Option Measure))
    (s : State) → state_of (record (parts_of m) { epc = epc; secs = secs; measures = measures }) ≡ s → IsKept s
    → length measures ≡ 9 → IsTable secs → AreHeld epc secs m.va → length epc ≡ length m.epc
    → Leaves (record (parts_of m) { epc = epc; secs = secs; measures = measures }) s
builds m h epc secs measures s state kept places table held frames = record {
  state = state;
  kept = kept;
  processors = h.processors;
  places = places;
  table = table;
  track_places = h.track_places;
  tracked = h.tracked;
  slots = h.slots;
  held = held;
  start_places = h.start_places ∙ sym frames;
}

-- parts that are written as they were
pub measures_same : (d : Parts) (e : ℕ) (y y' : Measure) → get_or d.measures e None ≡ Some y → y' ≡ y
    → record d { measures = set d.measures e (Some y') } ≡ d
measures_same d e y y' there same =
    let measures : set d.measures e (Some y') ≡ d.measures = ap (λ m. set d.measures e (Some m)) same ∙ ap (set d.measures e) (sym there)
    ∙ set-get_or d.measures e None in
    λ i. record d { measures = measures i }

pub secs_same : (d : Parts) (e : ℕ) (x x' : SecsState) → IsTable d.secs → enclave_at d.secs e ≡ Some x → x' ≡ x
    → record d { secs = with_enclave d.secs e x' } ≡ d
secs_same d e x x' table found same =
    let secs : with_enclave d.secs e x' ≡ d.secs = ap (with_enclave d.secs e) same ∙ enclave_same d.secs e x table.places found in
    λ i. record d { secs = secs i }

pub parts_same : (d : Parts) (epc : List EpcFrame) (e : ℕ) (x x' : SecsState) (y y' : Measure) → IsTable d.secs
    → enclave_at d.secs e ≡ Some x → get_or d.measures e None ≡ Some y → epc ≡ d.epc → x' ≡ x → y' ≡ y
    → record d { epc = epc; secs = with_enclave d.secs e x'; measures = set d.measures e (Some y') } ≡ d
parts_same d epc e x x' y y' table found there same_epc same_secs same_measure =
    let secs : with_enclave d.secs e x' ≡ d.secs = ap (with_enclave d.secs e) same_secs ∙ enclave_same d.secs e x table.places found in
    λ i. record (measures_same d e y y' there same_measure i) { epc = same_epc i; secs = secs i }

-- .. with an enclave's track and a processor
pub seats_same : (d : Parts) (epc : List EpcFrame) (e p : ℕ) (x x' : SecsState) (t t' : Tracking) (v v' : Processor) → IsTable d.secs
    → enclave_at d.secs e ≡ Some x → track_of d.tracks e ≡ Some t → v ≡ cpu_at d p
    → epc ≡ d.epc → x' ≡ x → t' ≡ t → v' ≡ v → record d
    { epc = epc; secs = with_enclave d.secs e x'; tracks = with_track d.tracks e t'; cpus = set d.cpus p v' } ≡ d
seats_same d epc e p x x' t t' v v' table found track there same_epc same_secs same_track same_cpu =
    let secs : with_enclave d.secs e x' ≡ d.secs = ap (with_enclave d.secs e) same_secs ∙ enclave_same d.secs e x table.places found in
    let tracks : with_track d.tracks e t' ≡ d.tracks = ap (with_track d.tracks e) same_track
    ∙ with_track-track_of d.tracks e t (numbered d.secs e x table.places found).0 track in
    let cpus : set d.cpus p v' ≡ d.cpus = ap (set d.cpus p) (same_cpu ∙ there) ∙ set-get_or d.cpus p idle in
    λ i. record d { epc = same_epc i; secs = secs i; tracks = tracks i; cpus = cpus i }

-- .. and a processor alone
pub cpus_same : (d : Parts) (p : ℕ) (v v' : Processor) → v ≡ cpu_at d p → v' ≡ v → record d { cpus = set d.cpus p v' } ≡ d
cpus_same d p v v' there same_cpu =
    let cpus : set d.cpus p v' ≡ d.cpus = ap (set d.cpus p) (same_cpu ∙ there) ∙ set-get_or d.cpus p idle in
    λ i. record d { cpus = cpus i }

pub whole_same : (m m' : Inside) → parts_of m' ≡ parts_of m → IsWhole m → IsWhole m'
whole_same m m' e h = record {
  processors = subst (λ (d : Parts). length d.cpus ≤ 16) (sym e) h.processors;
  places = subst (λ (d : Parts). length d.measures ≡ 9) (sym e) h.places;
  table = subst (λ (d : Parts). IsTable d.secs) (sym e) h.table;
  track_places = subst (λ (d : Parts). length d.tracks ≡ 8) (sym e) h.track_places;
  tracked = subst (λ (d : Parts). IsTracked d.tracks d.cpus) (sym e) h.tracked;
  slots = subst (λ (d : Parts). IsVaTable d.va.pages) (sym e) h.slots;
  held = subst (λ (d : Parts). AreHeld d.epc d.secs d.va) (sym e) h.held;
  start_places = subst (λ (d : Parts). length d.starts ≡ length d.epc) (sym e) h.start_places;
  measured = subst (λ (d : Parts). IsMeasured (state_of d)) (sym e) h.measured;
  framed = subst (λ (d : Parts). IsFramed (state_of d)) (sym e) h.framed;
  within = subst (λ (d : Parts). IsWithin (state_of d)) (sym e) h.within;
  sound = subst (λ (d : Parts). IsSound (state_of d)) (sym e) h.sound;
  guarded = subst (λ (d : Parts). IsGuarded (state_of d)) (sym e) h.guarded;
}

-- ---- an instruction that its row allows, and one that it refuses

pub done_step : (o : Option Refusal) (Done : Type 0) (Refused : Refusal → Type 0) → o ≡ None → Done → MatchOption o Done Refused
done_step None Done Refused e h = h
done_step (Some r) Done Refused e h = cc e

pub refused_step : (o : Option Refusal) (Done : Type 0) (Refused : Refusal → Type 0) (r : Refusal) → o ≡ Some r → Refused r
    → MatchOption o Done Refused
refused_step None Done Refused r e h = cc e
refused_step (Some q) Done Refused r e h = let same : q ≡ r = cc e in rw same h

-- a step of the machine's parts is one of what its contracts show
pub by_view : (m : Inside) (now : Parts) (a : Actor) (action : Action) (e : Entry) (t : State) → parts_of m ≡ now
    → IsStep (state_of (parts_of m)) a action e t → IsStep (state_of now) a action e t
by_view m now a action e t is h = subst (λ (d : Parts). IsStep (state_of d) a action e t) is h
