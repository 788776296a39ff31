-- What the pass that is kept tells of the entries, by the laws of its crate.
use Rattle.std.proofs.Common.{◌≡◌, ℕ, ◌<◌, ◌&&◌, nat_le, nat_lt, Bool, true, false, List, ◌∷◌, Some, refl, ◌∙◌, ap, slice_get, arith}
use Rattle.sgx_types.specs.Making.{Making}
use Rattle.sgx_types.specs.Pages.{is_own_page}
use Rattle.sgx_types.specs.declared.names.Actor.TheVariants as actors
use Rattle.sgx_types.specs.declared.names.Page.{Page}
use Rattle.sgx_types.specs.declared.names.VaSlot.{VaSlot}
use Rattle.sgx_rules.specs.declared.entries.Entry.{Entry}
use Rattle.sgx_rules.specs.declared.entries.Event.{Event}
use Rattle.sgx_rules.specs.Frames.{vas_made}
use Rattle.job_grammar.specs.Jobs.{JobView}
use Rattle.driver_slots.specs.inner.Keeper.{is_ours, is_out}
use Rattle.sgx_machine.specs.inner.Parts.{Parts, state_of}
use Rattle.driver_rules.specs.Stops.{last_event}
use Rattle.driver_rules.specs.Passes.{keepers, pass, pass_after}
use Rattle.driver_rules.specs.Spares.{due_with, outs_kept}
use Rattle.driver_rules.proofs.ReclaimLaws.{due_is_other}
use Rattle.driver_laws.proofs.DueLaws.{due_leaves}
use Rattle.driver_laws.proofs.OutLaws.{keeper_out}
use Rattle.driver_laws.specs.inner.Agrees.{drivers, first_kept}
use Rattle.driver_laws.specs.inner.Kinds.{CanLeave}
use Rattle.driver_tables.specs.declared.driver.Driver.{Driver}
use Rattle.driver_tables.specs.inner.Tells.{Tells}
use Rattle.driver_tables.proofs.TellsLaws.{agrees_tell}
use Rattle.driver_pass.specs.declared.stages.Form.{Form}
use Rattle.driver_pass.specs.declared.stages.Stage.TheVariants as stages
use Rattle.driver_pass.specs.declared.stages.Taken.{Taken}
use Rattle.driver_pass.specs.inner.Dues.{CanBeDue, due_in, HasAllSlots, ShowsOuts}
use Rattle.driver_pass.specs.inner.Keeping.{keepers_by}
use Rattle.driver_pass.specs.inner.Noted.{gone_on}
use Rattle.driver_pass.specs.inner.Standing.{epoch_told, StandsFor}
use Rattle.driver_pass.specs.inner.Viewed.{PassView}
use Rattle.driver_pass.proofs.DueLaws.{can_be_due as able, dues_are}
use Rattle.driver_pass.proofs.GoLaws.{entry_goes}
use Rattle.driver_pass.proofs.KeptLaws.{told_keepers}
use Rattle.driver_reclaim.specs.inner.Answers.{by_reclaimer}
use Rattle.driver_reclaim.specs.inner.Kept.{KeepsReclaim}
use Rattle.driver_reclaim.specs.inner.Ready.{Ready}
use Rattle.driver_reclaim.proofs.SeenLaws.{starts_within, within}

-- ---- where the reclaimer is ready

all_slots : (j : JobView) → HasAllSlots (drivers j)
all_slots j va other = rw other refl

module _ (made : Making) (j : JobView) (past : List Entry) (v : PassView) (d : Driver) (m : Parts) (r : Ready made j past v d m) where
  pub tells : Tells (drivers j) made j past d m
  tells = agrees_tell made j past d m r.agrees r.short

  -- the keeper's slots are out exactly where the rules count them so
  pub out_is : (s : VaSlot) → is_ours d.slots s ≡ true → is_out d.slots s ≡ outs_kept j past s
  out_is s ours =
      keeper_out j d.slots past s r.agrees.sound r.agrees.pages.sealing r.agrees.used (starts_within made j past d m r.agrees)
      r.agrees.shows.slots ours

  shows_outs : ShowsOuts d.slots past (outs_kept j past)
  shows_outs s other low within512 =
      out_is s (r.agrees.shows.slots.ours s
      ∙ all (nat_lt s.va (vas_made past)) (nat_le (first_kept j s.va) s.index) (nat_lt s.index 512) (less s.va (vas_made past) low)
      (ap (λ n. nat_le n s.index) (all_slots j s.va other) ∙ zero_le s.index) (less s.index 512 within512))
    where
      all : (a b c : Bool) → a ≡ true → b ≡ true → c ≡ true → (a && (b && c)) ≡ true
      all a b c p q o = rw (p, q, o) refl

      zero_le : (n : ℕ) → nat_le 0 n ≡ true
      zero_le n = grind arith

      less : (a b : ℕ) → a < b → nat_lt a b ≡ true
      less a b low = grind (arith, low)

  pub can_be_due : CanBeDue d (state_of m) v.behind
  can_be_due = able (drivers j) made j past d m tells v r.stands

  pub due_is : due_in d (state_of m) v.behind ≡ due_with j past (outs_kept j past)
  due_is = dues_are (drivers j) made j past d m tells (outs_kept j past) (all_slots j) shows_outs r.held v r.stands

  -- what is due can leave, and is no TCS or REG page
  pub due_leaving : (g : Page) → due_with j past (outs_kept j past) ≡ Some g → CanLeave past g
  due_leaving g is = due_leaves j past (outs_kept j past) (last_event past actors.Reclaimer) g (within made j past d m r.agrees) is

  pub due_aside : (g : Page) → due_with j past (outs_kept j past) ≡ Some g → is_own_page g ≡ false
  due_aside g is = due_is_other j past (outs_kept j past) (last_event past actors.Reclaimer) g is

  pub keepers_are : (next epoch : ℕ) (form : Form) (t : Taken) → v.stage ≡ stages.Tries next form → epoch_told form ≡ Some epoch
      → slice_get v.taken next ≡ Some t → keepers past t.page ≡ keepers_by m t.page.enclave epoch
  keepers_are next epoch form t is known found = told_keepers (drivers j) made j past d m tells v next epoch form t r.stands is known found

  -- behind an entry of the reclaimer by the rules the pass that went on with it stands for the longer list
  pub goes : (event : Event) → KeepsReclaim made.first_epoch j past event
      → StandsFor made.first_epoch (by_reclaimer event ∷ past) (gone_on d m event v) (pass_after j past actors.Reclaimer event
      (pass j past))
  goes event keeps =
      entry_goes (drivers j) made j past d m tells v (outs_kept j past) (by_reclaimer event) keeps.age keeps.epoch (λ own. refl) keeps.can
      r.stands
