-- What rows see of slots where driver and machine agree: what the entries say, but for the versions, which a record may have brought back.
use Rattle.std.proofs.Common.{◌≡◌, ℕ, ◌<◌, ◌&&◌, ◌||◌, false, if◌then◌else◌, refl, sym, ap, ◌∙◌, List}
use Rattle.sgx_rules.specs.declared.entries.Entry.{Entry}
use Rattle.sgx_types.specs.declared.names.SlotAt.{SlotAt}
use Rattle.sgx_types.specs.Making.{Making}
use Rattle.sgx_rules.specs.Frames.{Content, content, Free, Holds, IsLoading, IsVa, SecsOf}
use Rattle.sgx_rules.specs.Slots.{is_busy_at, is_busy_of, version_in}
use Rattle.sgx_rules.specs.Starts.{slot_in}
use Rattle.sgx_rules.specs.Table.{is_va}
use Rattle.driver_slots.specs.inner.Keeper.{va_slot}
use Rattle.job_grammar.specs.Jobs.{JobView}
use Rattle.machine_laws.specs.inner.State.{slot_sight, State, version_at}
use Rattle.machine_laws.specs.inner.State.{is_busy_at as is_slot_busy}
use Rattle.machine_laws.proofs.ColumnLaws.{content_is, sight_is}
use Rattle.sgx_machine.specs.inner.Parts.{Parts, state_of}
use Rattle.driver_laws.specs.inner.Used.{slot_with}
use Rattle.driver_tables.specs.declared.driver.Driver.{Driver}
use Rattle.driver_tables.specs.inner.Agrees.{Agrees}

module _ (made : Making) (j : JobView) (past : List Entry) (d : Driver) (m : Parts) (r : Agrees made j past d m) where
  busy_is : (slot : SlotAt) → slot.index < 512 → is_slot_busy (state_of m) slot ≡ is_busy_at (state_of m).frames past slot
  busy_is slot low =
      by_kind (s.content slot.frame.0) refl
      ∙ ap (λ c. is_busy_of s.frames past (slot_in c slot.index)) (content_is r.follows.shape.columns slot.frame.0)
    where
      s : State
      s = state_of m

      none : (c : Content) → s.content slot.frame.0 ≡ c → is_va c ≡ false
          → is_slot_busy s slot ≡ false
      none c held no_array =
          ap (λ b. b && (s.is_slot_named slot || s.is_sealing slot.frame.0)) (ap is_va held ∙ no_array)

      unseen : (c : Content) → s.content slot.frame.0 ≡ c → is_busy_of s.frames past (slot_in c slot.index) ≡ false
          → is_busy_of s.frames past (slot_in (s.content slot.frame.0) slot.index) ≡ false
      unseen c held no_slot = ap (λ x. is_busy_of s.frames past (slot_in x slot.index)) held ∙ no_slot

      by_kind : (c : Content) → s.content slot.frame.0 ≡ c
          → is_slot_busy s slot ≡ is_busy_of s.frames past (slot_in (s.content slot.frame.0) slot.index)
      by_kind (IsVa number) held =
          r.follows.shape.slots_busy slot.frame.0 number slot.index held low
          ∙ ap (λ c. is_busy_of s.frames past (slot_in c slot.index)) (sym held)
      by_kind Free held = none Free held refl ∙ sym (unseen Free held refl)
      by_kind (SecsOf enclave) held = none (SecsOf enclave) held refl ∙ sym (unseen (SecsOf enclave) held refl)
      by_kind (Holds page kind perm) held = none (Holds page kind perm) held refl ∙ sym (unseen (Holds page kind perm) held refl)
      by_kind (IsLoading page) held = none (IsLoading page) held refl ∙ sym (unseen (IsLoading page) held refl)

  pub slot_is : (slot : SlotAt) → slot.index < 512
      → slot_sight (state_of m) slot ≡ slot_with (state_of m).frames past slot (version_at (state_of m) slot)
  slot_is slot low = rw (sight_is r.follows.shape.columns slot.frame.0, busy_is slot low) refl

  -- the first version array page never came back, so its slots have the versions that the entries say
  pub first_version : (slot : SlotAt) → slot.index < 512 → content past slot.frame.0 ≡ IsVa 0
      → version_at (state_of m) slot ≡ version_in past (va_slot 0 slot.index)
  first_version slot low held =
      ap (λ b. if b then s.version_in slot else 0) (ap is_va there)
      ∙ r.follows.shape.columns.versions slot.frame.0 0 there r.home slot.index low
    where
      s : State
      s = state_of m

      there : s.content slot.frame.0 ≡ IsVa 0
      there = content_is r.follows.shape.columns slot.frame.0 ∙ held
