-- Which slots are out by the entries, and as a driver keeps them: the same, where no try found its slot in use.
use Rattle.std.proofs.Common.{◌≡◌, ℕ, ◌^◌, ◌==◌, ◌&&◌, ◌||◌, not, Bool, true, false, if◌then◌else◌}
use Rattle.std.proofs.Common.{refl, sym, ◌∙◌, ap, subst, List, [], ◌∷◌, Option, Some, None}
use Rattle.std.proofs.lemmas.Bool.{false≢true}
use Rattle.sgx_types.specs.declared.names.Actor.{Actor}
use Rattle.sgx_rules.specs.declared.entries.Action.TheVariants.{EwbStart}
use Rattle.sgx_rules.specs.declared.entries.Entry.{Entry}
use Rattle.sgx_rules.specs.declared.entries.Event.{Event}
use Rattle.sgx_rules.specs.declared.entries.Event.TheVariants.{Age, Bus, Did, Kick, Refused}
use Rattle.sgx_types.specs.declared.names.Frame.{Frame}
use Rattle.sgx_types.specs.declared.names.SlotAt.{SlotAt}
use Rattle.sgx_types.specs.declared.names.VaSlot.{VaSlot}
use Rattle.sgx_rules.specs.declared.refusals.Refusal.{Refusal}
use Rattle.sgx_rules.specs.Frames.{is_free}
use Rattle.sgx_types.specs.Making.{Making}
use Rattle.sgx_rules.specs.Rules.{Along, RefusalRule}
use Rattle.sgx_rules.specs.Sights.{drain_sight_at, row_at, sight_at, slot_sight_at, use_sight_at}
use Rattle.sgx_rules.specs.Slots.{is_slot_busy, next_version, version_at, version_in, version_of}
use Rattle.sgx_types.specs.Cases.{allowed, first_of_row}
use Rattle.sgx_rules.specs.Table.{DrainSight, FrameSight, Row, ewbstart_row, is_busy, is_out_of_range, is_own}
use Rattle.sgx_types.specs.Cases.{when, ◌otherwise◌}
use Rattle.sgx_types.proofs.Truths.{neither}
use Rattle.sgx_rules.specs.Table.{is_va, SlotSight, UseSight}
use Rattle.job_grammar.specs.Jobs.{JobView}
use Rattle.driver_rules.specs.Ages.{AgeRule, AgeRuleBy, KeptAgeRule}
use Rattle.driver_rules.specs.inner.Slotted.{has_occupied, is_occupied, NamesFree, SlotRule, SlotTells}
use Rattle.driver_rules.specs.Spares.{Outs, outs, outs_kept, was_occupied, was_occupied_by}
use Rattle.sgx_rules.specs.declared.refusals.Refusal.TheVariants as why

-- ---- a slot that is in use has a version

next_case : (b : Bool) (first refusal : Refusal) (rest : Row) → (first ≡ refusal → ⊥)
    → first_of_row ((when b first) otherwise rest) ≡ Some refusal → first_of_row rest ≡ Some refusal
next_case true first refusal rest other is = absurd (other (told is))
  where
    told : Some first ≡ Some refusal → first ≡ refusal
    told h = cc
next_case false first refusal rest other is = is

-- what is left of the row of EWB's start behind each case
version_there : (s : FrameSight) (uses : UseSight) (slot : SlotSight) (drain : DrainSight) (spent : Bool) (version : ℕ)
    → first_of_row (ewbstart_row s uses slot drain spent) ≡ Some (why.SlotOccupied version) → (slot.version == 0) ≡ false
version_there s uses slot drain spent version is =
    by_version (slot.version == 0) refl
    (next_case (is_own s.content && not drain.is_drained) (why.NotTracked drain.epoch drain.kept_back) refusal behind_track (λ h. cc)
    (next_case (is_own s.content && not s.is_blocked) why.PageNotBlocked refusal behind_block (λ h. cc)
    (next_case (not (uses.children == 0)) (why.ChildPresent uses.children) refusal behind_children (λ h. cc)
    (next_case (not (is_va slot.frame.content) || uses.is_its_own) why.BadKind refusal behind_kind (λ h. cc)
    (next_case (is_free s.content) why.PgInvld refusal behind_free (λ h. cc)
    (next_case (is_busy s || slot.is_busy || uses.is_in_use) why.Conflict refusal behind_busy (λ h. cc)
    (next_case (is_out_of_range s slot) why.BadRange refusal behind_range (λ h. cc) is)))))))
  where
    refusal : Refusal
    refusal = why.SlotOccupied version

    behind_track : Row
    behind_track = (when (not (slot.version == 0)) (why.SlotOccupied slot.version)) otherwise
        (when spent why.VersionSpent) otherwise allowed

    behind_block : Row
    behind_block = (when (is_own s.content && not drain.is_drained) (why.NotTracked drain.epoch drain.kept_back)) otherwise behind_track

    behind_children : Row
    behind_children = (when (is_own s.content && not s.is_blocked) why.PageNotBlocked) otherwise behind_block

    behind_kind : Row
    behind_kind = (when (not (uses.children == 0)) (why.ChildPresent uses.children)) otherwise behind_children

    behind_free : Row
    behind_free = (when (not (is_va slot.frame.content) || uses.is_its_own) why.BadKind) otherwise behind_kind

    behind_busy : Row
    behind_busy = (when (is_free s.content) why.PgInvld) otherwise behind_free

    behind_range : Row
    behind_range = (when (is_busy s || slot.is_busy || uses.is_in_use) why.Conflict) otherwise behind_busy

    by_version : (b : Bool) → (slot.version == 0) ≡ b → first_of_row ((when (not b) (why.SlotOccupied slot.version)) otherwise
        (when spent why.VersionSpent) otherwise allowed) ≡ Some (why.SlotOccupied version) → (slot.version == 0) ≡ false
    by_version false at h = at
    by_version true at h = by_spent spent h
      where
        by_spent : (b : Bool) → first_of_row ((when b why.VersionSpent) otherwise allowed) ≡ Some (why.SlotOccupied version)
            → (slot.version == 0) ≡ false
        by_spent true k = cc
        by_spent false k = cc

-- ---- a slot that is kept as free has none

kept_free : (j : JobView) (past : List Entry) (s : VaSlot) → outs_kept j past s ≡ false → (version_in past s == 0) ≡ true
kept_free j past s free = by_occupied (was_occupied past s) free
  where
    by_busy : (b c : Bool) → (b || not c) ≡ false → c ≡ true
    by_busy true c h = absurd (false≢true (sym h))
    by_busy false true h = refl
    by_busy false false h = absurd (false≢true (sym h))

    by_occupied : (b : Bool) → (if b then true else outs j past s) ≡ false → (version_in past s == 0) ≡ true
    by_occupied true h = absurd (false≢true (sym h))
    by_occupied false h = by_busy (is_slot_busy j.epc past s) (version_in past s == 0) h

never_there : (k : Making) (j : JobView) (past : List Entry) (actor : Actor) (f : Frame) (at : SlotAt) (version : ℕ)
    → first_of_row (row_at k past actor (EwbStart f at)) ≡ Some (why.SlotOccupied version) → NamesFree j past at → ⊥
never_there k j past actor f at version row names =
    let some : (version_at past at == 0) ≡ false = version_there (sight_at k.frames past f.0)
    (use_sight_at k.frames past f.0 at) (slot_sight_at k.frames past at) (drain_sight_at k.first_epoch past f.0)
    (next_version k.first_version past == 2 ^ 64) version row in
    let none : (version_at past at == 0) ≡ true =
    ap (λ o. version_of past o == 0) names.found ∙ kept_free j past names.slot names.free in
    false≢true (sym some ∙ none)

-- ---- no try finds its slot in use

no_event : (k : Making) (j : JobView) (past : List Entry) (e : Entry) → RefusalRule k past e → SlotRule j past e
    → is_occupied e.event ≡ false
no_event k j past e rule names = by_event e.actor e.event rule names
  where
    by_event : (a : Actor) (ev : Event) → RefusalRule k past (record { actor = a; event = ev }) → SlotTells j past ev
        → is_occupied ev ≡ false
    by_event a (Refused (EwbStart f at) (why.SlotOccupied version)) row free =
        absurd (never_there k j past a f at version row free)
    by_event a _ row free = refl

pub none_occupied : (k : Making) (j : JobView) (past : List Entry) → Along (RefusalRule k) past → Along (SlotRule j) past
    → has_occupied past ≡ false
none_occupied k j [] rows names = refl
none_occupied k j (e ∷ past) rows names = rw (no_event k j past e rows.0 names.0) (none_occupied k j past rows.1 names.1)

-- ---- then the slots that are kept as out are out

not_occupied : (past : List Entry) (s : VaSlot) → has_occupied past ≡ false → was_occupied past s ≡ false
not_occupied [] s none = refl
not_occupied (e ∷ past) s none =
    let k = neither (is_occupied e.event) (has_occupied past) none in
    by_event e.event k.0 (not_occupied past s k.1)
  where
    by_event : (ev : Event) → is_occupied ev ≡ false → was_occupied past s ≡ false → was_occupied_by past ev s (was_occupied past s) ≡ false
    by_event (Refused (EwbStart f at) (why.SlotOccupied version)) h before = cc
    by_event _ h before = before

outs_at : (j : JobView) (past : List Entry) → has_occupied past ≡ false → (s : VaSlot) → outs_kept j past s ≡ outs j past s
outs_at j past none s = ap (λ b. if b then true else outs j past s) (not_occupied past s none)

pub outs_same : (j : JobView) (past : List Entry) → has_occupied past ≡ false → outs_kept j past ≡ outs j past
outs_same j past none = λ i s. outs_at j past none s i

pub ages_kept : (j : JobView) (past : List Entry) → has_occupied past ≡ false → Along (KeptAgeRule j) past → Along (AgeRule j) past
ages_kept j [] none ages = tt
ages_kept j (e ∷ past) none ages =
    let k = neither (is_occupied e.event) (has_occupied past) none in
    (subst (λ (out : Outs). AgeRuleBy j past out e) (outs_same j past k.1) ages.0, ages_kept j past k.1 ages.1)
