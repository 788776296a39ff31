-- What the rules say of a write-out; the slot of a page that is away is not busy; slots are used in a history.
use Rattle.std.proofs.Common.{◌≡◌, ℕ, ◌<◌, ◌≤◌, ◌||◌, not, nat_le, nat_lt, true, false, refl, sym}
use Rattle.std.proofs.Common.{◌∙◌, ap, subst, List, [], ◌∷◌, Option, Some, None, is_some, arith}
use Rattle.sgx_rules.proofs.Rows.{none_holds}
use Rattle.sgx_types.proofs.Truths.{neither}
use Rattle.sgx_rules.specs.declared.entries.Action.TheVariants.{Ewb, EwbStart}
use Rattle.sgx_rules.specs.declared.entries.Answer.{Answer}
use Rattle.sgx_rules.specs.declared.entries.Answer.TheVariants.{Moved}
use Rattle.sgx_rules.specs.declared.entries.Entry.{Entry}
use Rattle.sgx_rules.specs.declared.entries.Event.{Event}
use Rattle.sgx_rules.specs.declared.entries.Event.TheVariants.{Did}
use Rattle.sgx_types.specs.declared.names.Page.{Page}
use Rattle.sgx_types.specs.declared.names.VaSlot.{VaSlot}
use Rattle.sgx_rules.specs.Frames.{content, is_sealing}
use Rattle.sgx_types.specs.Making.{Making}
use Rattle.sgx_rules.specs.Rules.{EvictRule, RefusalRule, RisingRule}
use Rattle.sgx_rules.specs.Table.{is_busy, is_loading}
use Rattle.sgx_rules.specs.Sights.{row_at, sight_at}
use Rattle.sgx_rules.specs.Slots.{is_busy_at}
use Rattle.sgx_rules.specs.inner.Slots.{IsIdle}
use Rattle.sgx_rules.specs.Starts.{open_start, Start, version_told}
use Rattle.sgx_rules.proofs.Busy.{idle_by}
use Rattle.job_grammar.specs.Jobs.{JobView}
use Rattle.driver_rules.specs.Places.{Away, place}
use Rattle.driver_laws.specs.inner.Driven.{IsDriven}
use Rattle.driver_laws.specs.inner.Sound.{is_load_start, is_write_start, IsSound}
use Rattle.driver_laws.specs.inner.Used.{SealingAreOpen, SlotsAreUsed, StartTells}
use Rattle.driver_laws.proofs.HistoryLaws.{driven_before, driven_can, driven_pages, driven_sound}
use Rattle.driver_laws.proofs.SoundLaws.{entry_of}
use Rattle.driver_laws.proofs.AloneLaws.{alone}
use Rattle.driver_laws.proofs.UsedLaws.{first_used, stays_used}
use Rattle.machine_copies.proofs.DrawnLaws.{first_below}

-- ---- what the rules say of a write-out

-- no start of a frame is open that is not busy
idle_none : (past : List Entry) (n : ℕ) → IsSound past → SealingAreOpen past → is_sealing past n ≡ false
    → is_loading (content past n) ≡ false → open_start past n ≡ None
idle_none past n s sealing no_write no_load = by_start (open_start past n) (sym (sealing n) ∙ no_write) (s.places.loading n ∙ no_load)
  where
    by_loads : (o : Option Page) → not (is_some o) ≡ false → is_some o ≡ false → ⊥
    by_loads None h k = cc
    by_loads (Some g) h k = cc

    by_start : (o : Option Start) → is_write_start o ≡ false → is_load_start o ≡ false → o ≡ None
    by_start None h k = refl
    by_start (Some x) h k = absurd (by_loads x.loads h k)

-- an index that is not beyond the last one
below : (n : ℕ) → nat_lt 511 n ≡ false → nat_lt n 512 ≡ true
below n h = grind (arith, h)

-- by the rules what a write-out tells is so
pub start_tells : (k : Making) (past : List Entry) (e : Entry) → 1 ≤ k.first_version → IsSound past → SealingAreOpen past
    → RefusalRule k past e → EvictRule past e → RisingRule k.first_version past e → StartTells past e.event
start_tells k past e positive s sealing = by_event e.event
  where
    by_event : (ev : Event) → RefusalRule k past (entry_of e.actor ev) → EvictRule past (entry_of e.actor ev)
        → RisingRule k.first_version past (entry_of e.actor ev) → StartTells past ev
    by_event (Did (EwbStart f slot) answer) refusal evict rising =
        let row = none_holds (row_at k past e.actor (EwbStart f slot)) refusal.0 in
        let unused = neither (is_busy (sight_at k.frames past f.0) || is_busy_at k.frames past slot) _ row.1.0 in
        let idle = neither (is_busy (sight_at k.frames past f.0)) (is_busy_at k.frames past slot) unused.0 in
        let two = neither (is_sealing past f.0) (is_loading (content past f.0)) idle.0 in
        let low = first_below k.first_version past in (
          idle_none past f.0 s sealing two.0 two.1,
          subst (λ (x : Answer). 0 < version_told x) (sym rising) (omega (arith, low, positive)),
          below slot.index (neither (nat_le k.frames f.0 || nat_le k.frames slot.frame.0) (nat_lt 511 slot.index) row.0).1,
        )
    by_event (Did (Ewb f) (Moved page version tag)) refusal evict rising =
        (evict.start, evict.opened, evict.writes, sym evict.told)
    by_event _ refusal evict rising = tt

-- ---- what it is for

-- no open start names the slot of a page that is away
pub away_idle : (past : List Entry) (g : Page) (slot : VaSlot) → IsSound past → place past g ≡ Away slot → IsIdle past slot
away_idle past g slot s at =
    idle_by past slot (λ n x is_open same. (alone past s).away n x g is_open (at ∙ ap Away (sym same)))

-- ---- all along

pub driven_used : (k : Making) (j : JobView) (past : List Entry) → 1 ≤ k.first_version → IsDriven k j past → SlotsAreUsed past
driven_used k j [] positive d = first_used
driven_used k j (e ∷ past) positive d =
    let before = driven_before k j e past d in
    let s = (driven_sound k j past positive before).0 in
    let can = driven_can k j e past positive d in
    let told = start_tells k past e positive s (driven_pages k j past positive before).sealing d.moves.refusal.0 d.moves.evict.0
    d.moves.fresh.0.rising in
    stays_used past e s can told (driven_used k j past positive before)
