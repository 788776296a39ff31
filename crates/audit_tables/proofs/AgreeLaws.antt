-- What the rules of a trace give.
use Rattle.std.proofs.Common.{◌≡◌, ◌≤◌, ℕ, true, refl, sym, ap, subst, ◌∙◌, List, [], ◌∷◌, Option, Some, None}
use Rattle.std.proofs.lemmas.Bool.{false≢true}
use Rattle.sgx_rules.specs.declared.entries.Entry.{Entry}
use Rattle.sgx_types.specs.declared.names.Page.{Page}
use Rattle.sgx_types.specs.declared.names.VaSlot.{VaSlot}
use Rattle.sgx_types.specs.Making.{Making}
use Rattle.sgx_rules.specs.inner.Rules.{KeepsRules}
use Rattle.sgx_rules.specs.Starts.{Start, open_start}
use Rattle.sgx_rules.specs.inner.Starts.{LoadsAreApart, is_load_of}
use Rattle.job_grammar.specs.Jobs.{JobView}
use Rattle.job_grammar.specs.inner.Valid.{AreValidMarks}
use Rattle.script_rules.specs.Machines.{machine_of}
use Rattle.sgx_machine.specs.inner.Parts.{Parts}
use Rattle.driver_rules.specs.Places.{Loading, Place, place}
use Rattle.driver_laws.specs.inner.Agrees.{auditors, Keeping}
use Rattle.driver_laws.specs.inner.Driven.{IsDriven}
use Rattle.driver_laws.specs.inner.Inits.{InitsAreReady}
use Rattle.driver_laws.specs.inner.Kinds.{CanMove}
use Rattle.driver_laws.specs.inner.Sound.{IsSound, load_slot, slot_if, stands_in}
use Rattle.driver_laws.specs.inner.Used.{StartTells, VersionsStand}
use Rattle.driver_laws.proofs.AloneLaws.{loading_is}
use Rattle.driver_laws.proofs.BuiltLaws.{driven_built}
use Rattle.driver_laws.proofs.HistoryLaws.{driven_before, driven_can, driven_pages, driven_sound}
use Rattle.driver_laws.proofs.InitLaws.{first_inits, more_inits, row_inits}
use Rattle.driver_laws.proofs.LoadLaws.{driven_theirs}
use Rattle.driver_laws.proofs.ReadyLaws.{driven_used, start_tells}
use Rattle.driver_laws.proofs.VersionLaws.{none_stand, stays_standing}
use Rattle.driver_tables.specs.declared.driver.Driver.{Driver}
use Rattle.driver_tables.specs.inner.Tells.{Tells}
use Rattle.history_rules.specs.inner.Histories.{GoesOn}
use Rattle.history_rules.proofs.HistoryLaws.{driven, shorter}
use Rattle.due_tables.specs.inner.Due.{IsShown}
use Rattle.due_tables.specs.declared.turns.Turns.{Turns}
use Rattle.audit_tables.specs.inner.Shown.{ShowsTrace}

-- ---- loads

-- the page of an open start of a load is loading
is-loading : (past : List Entry) (m : ℕ) (g : Page) → IsSound past → is_load_of (open_start past m) g ≡ true
    → (slot : VaSlot) × (place past g ≡ Loading m slot)
is-loading past m g sound is = by_start (open_start past m) refl is
  where
    by_start : (o : Option Start) → open_start past m ≡ o → is_load_of o g ≡ true → (slot : VaSlot) × (place past g ≡ Loading m slot)
    by_start None opened loads = absurd (false≢true loads)
    by_start (Some x) opened loads =
        let named : load_slot (open_start past m) g ≡ Some x.slot = ap (λ o. load_slot o g) opened ∙ ap (λ b. slot_if b x.slot) loads in
        (x.slot, loading_is (place past g) m x.slot (sym (sound.places.loads g m) ∙ named))

loading-frame : {m n : ℕ} {s t : VaSlot} → Loading m s ≡ Loading n t → m ≡ n
loading-frame e = cc

pub loads_apart : (past : List Entry) → IsSound past → LoadsAreApart past
loads_apart past sound = record {
  frames = λ m n g loads.
      let at = is-loading past m g sound loads in
      sound.places.frames g n ∙ ap (λ (p : Place). stands_in p n) at.1;
  loads = λ m n g one other.
      let at = is-loading past m g sound one in
      let too = is-loading past n g sound other in
      loading-frame (sym at.1 ∙ too.1);
}

-- ---- one entry of a history

module _ (j : JobView) (past : List Entry) (e : Entry) (positive : 1 ≤ j.start_version) (h : GoesOn j (e ∷ past)) where
  all : IsDriven (machine_of j) j (e ∷ past)
  all = driven j (e ∷ past) h

  before : IsDriven (machine_of j) j past
  before = driven_before (machine_of j) j e past all

  sound : IsSound past
  sound = (driven_sound (machine_of j) j past positive before).0

  pub lawful_can : CanMove past e.event
  lawful_can = driven_can (machine_of j) j e past positive all

  pub lawful_starts : StartTells past e.event
  lawful_starts =
      start_tells (machine_of j) past e positive sound (driven_pages (machine_of j) j past positive before).sealing all.moves.refusal.0
      all.moves.evict.0 all.moves.fresh.0.rising

-- ---- all along

-- each version in a slot stands for a page
stands_along : (j : JobView) (past : List Entry) → 1 ≤ j.start_version → GoesOn j past → VersionsStand past
stands_along j [] positive h = none_stand
stands_along j (e ∷ past) positive h =
    stays_standing past e (sound j past e positive h) (lawful_can j past e positive h) (lawful_starts j past e positive h)
    (stands_along j past positive (shorter j e past h))

-- what was initialised was created
inits_along : (j : JobView) (past : List Entry) → 1 ≤ j.start_version → GoesOn j past → InitsAreReady past
inits_along j [] positive h = first_inits
inits_along j (e ∷ past) positive h =
    more_inits past e (sound j past e positive h) (lawful_can j past e positive h)
    (row_inits (machine_of j) past e (all j past e positive h).moves.refusal.1 (all j past e positive h).moves.refusal.0)
    (inits_along j past positive (shorter j e past h))

-- ---- all of it

pub tells_by_rules : (j : JobView) (past : List Entry) (d : Driver) (m : Parts) (t : Turns) → ShowsTrace j past d m t
    → Tells auditors (machine_of j) j past d m
tells_by_rules j past d m t h = record {
  follows = h.stands.shaped;
  fits = record { fits = own-rules.fits; apart = loads_apart past its_sound };
  sound = its_sound;
  used = driven_used (machine_of j) j past positive its_driven;
  stand = stands_along j past positive h.goes_on;
  built = driven_built (machine_of j) j past its_driven;
  inits = inits_along j past positive h.goes_on;
  theirs = driven_theirs (machine_of j) j past positive its_driven;
  tracks = (driven_sound (machine_of j) j past positive its_driven).1;
  pages = driven_pages (machine_of j) j past positive its_driven;
  shows = h.shows;
  frames = refl;
  cpus = h.cpus;
  short = few_looks h.turns.valid.marks;
}
  where
    positive : 1 ≤ j.start_version
    positive = h.stands.positive

    few_looks : AreValidMarks j.marks → j.marks.scan ≤ 64
    few_looks marks = marks.4

    its_driven : IsDriven (machine_of j) j past
    its_driven = driven j past h.goes_on

    its_sound : IsSound past
    its_sound = (driven_sound (machine_of j) j past positive its_driven).0

    own-rules : KeepsRules (machine_of j) past
    own-rules = subst (λ k. KeepsRules k past) h.stands.shaped.shape.making h.stands.standing.rules

-- ---- what is shown to the tables of what is due

pub tells_shown : (k : Keeping) (made : Making) (j : JobView) (past : List Entry) (d : Driver) (m : Parts) → Tells k made j past d m
    → IsShown k j past d m
tells_shown k made j past d m t = record {
  columns = t.follows.shape.columns;
  frames = ap (λ (x : Making). x.frames) t.follows.shape.making ∙ t.frames;
  cpus = t.cpus;
  sound = t.sound;
  built = t.built;
  shows = t.shows;
}
