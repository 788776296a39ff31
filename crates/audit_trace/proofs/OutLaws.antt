-- The slots of an auditor's keeper are out exactly where the rules count them so.
use Rattle.std.proofs.Common.{◌≡◌, ℕ, ◌<◌, ◌≤◌, ◌==◌, ◌||◌, not, nat_le, nat_lt, Bool, true, false, refl, sym, ◌∙◌, ap, List, Option, Some}
use Rattle.std.proofs.Common.{None, arith, inl, inr, ◌⊎◌}
use Rattle.std.proofs.lemmas.Bool.{eqb-true, false≢true, leb-false, leb-true}
use Rattle.std.proofs.lemmas.Option.{none-some, same_Some}
use Rattle.sgx_rules.specs.declared.entries.Entry.{Entry}
use Rattle.sgx_types.specs.declared.names.Page.{Page}
use Rattle.sgx_types.specs.declared.names.VaSlot.{VaSlot}
use Rattle.sgx_types.specs.Making.{Making}
use Rattle.sgx_rules.specs.Frames.{Free, content, is_free, vas_made}
use Rattle.sgx_rules.proofs.Contents.{free_is}
use Rattle.sgx_rules.specs.Slots.{is_slot_busy, slot_of as slot_of_start, version_in}
use Rattle.sgx_rules.specs.Starts.{Start, open_start}
use Rattle.sgx_rules.proofs.Busy.{idle_free, open_busy}
use Rattle.driver_slots.specs.inner.Keeper.{is_ours, is_out}
use Rattle.job_grammar.specs.Jobs.{JobView}
use Rattle.machine_laws.proofs.ColumnLaws.{content_is}
use Rattle.sgx_machine.specs.inner.Parts.{Parts, state_of}
use Rattle.driver_rules.specs.Places.{Absent, Away, Here, Leaving, Loading, Place, place}
use Rattle.driver_rules.specs.Spares.{outs}
use Rattle.driver_laws.specs.inner.Agrees.{auditors, stays}
use Rattle.driver_laws.specs.inner.Sound.{slot_at, slot_of, slot_outside}
use Rattle.driver_laws.proofs.AloneLaws.{free_none}
use Rattle.driver_laws.proofs.OutLaws.{page_out as slot_out}
use Rattle.driver_laws.proofs.RowLaws.{array_stays}
use Rattle.driver_tables.specs.declared.driver.Driver.{Driver}
use Rattle.driver_tables.specs.inner.Tells.{Tells}
use Rattle.driver_tables.proofs.PartLaws.{held_within}
use Rattle.driver_pass.specs.inner.Dues.{HasAllSlots, ShowsOuts}

pub all_slots : HasAllSlots auditors
all_slots va other = refl

zero_le : (n : ℕ) → nat_le 0 n ≡ true
zero_le n = grind arith

less : (a b : ℕ) → a < b → nat_lt a b ≡ true
less a b low = grind (arith, low)

module _ (made : Making) (j : JobView) (past : List Entry) (d : Driver) (m : Parts) (a : Tells auditors made j past d m) where
  -- past the frames of the EPC nothing is held, and no start is open
  none_past : (n : ℕ) → j.epc ≤ n → content past n ≡ Free
  none_past n beyond = by_test (is_free (content past n)) refl
    where
      frames_are : (state_of m).frames ≡ j.epc
      frames_are = ap (λ (x : Making). x.frames) a.follows.shape.making ∙ a.frames

      by_test : (b : Bool) → is_free (content past n) ≡ b → content past n ≡ Free
      by_test true is = free_is (content past n) is
      by_test false is =
          let held = held_within m n (ap is_free (content_is a.follows.shape.columns n) ∙ is) in
          let low : n < (state_of m).frames = leb-false (state_of m).frames n held in
          absurd (omega (arith, low, beyond, frames_are))

  starts_within : (n : ℕ) (x : Start) → open_start past n ≡ Some x → n < j.epc
  starts_within n x opened = by_test (nat_le j.epc n) refl
    where
      by_test : (b : Bool) → nat_le j.epc n ≡ b → n < j.epc
      by_test false is = leb-false j.epc n is
      by_test true is = absurd (none-some x (sym (free_none past n a.sound (none_past n (leb-true j.epc n is))) ∙ opened))

  -- a slot that a page has is out by the entries: it holds a version, or an open start names it
  page_out : (g : Page) (s : VaSlot) → slot_of past g ≡ Some s → outs j past s ≡ true
  page_out g s = slot_out j past g s a.used starts_within

  pub outs_shown : ShowsOuts d.slots past (outs j past)
  outs_shown s other low within = by_keeper (is_out d.slots s) refl
    where
      ours : is_ours d.slots s ≡ true
      ours = a.shows.slots.ours s ∙ rw (less s.va (vas_made past) low, zero_le s.index, less s.index 512 within) refl

      whose : ((g : Page) × (slot_of past g ≡ Some s)) ⊎ (stays auditors past s ≡ true) → outs j past s ≡ true
      whose (inl has) = page_out has.0 s has.1
      whose (inr stayed) = absurd (false≢true stayed)

      by_keeper : (b : Bool) → is_out d.slots s ≡ b → b ≡ outs j past s
      by_keeper true out = sym (whose (a.shows.slots.out s out))
      by_keeper false out =
          let none = a.shows.slots.empty s ours out in
          sym (rw (idle_free j.epc past s none.1 (array_stays past s.va a.sound a.pages.sealing (a.shows.slots.here s ours out)), none.0)
          refl)
