-- An entry of the reclaimer's turn can be taken in.
use Rattle.std.proofs.Common.{◌≡◌, ℕ, false, ◌+◌, ◌*◌, ◌≤◌, if◌then◌else◌, ◌∷◌, List, Option, IfSome, count_by, vec_len, vec_capacity}
use Rattle.std.proofs.Common.{refl, sym}
use Rattle.std.proofs.Common.{subst, arith}
use Rattle.sgx_types.specs.declared.names.Actor.{Actor}
use Rattle.sgx_rules.specs.declared.entries.Entry.{Entry}
use Rattle.sgx_rules.specs.inner.Enclaves.{EnclavesAreFlat}
use Rattle.backing_store.specs.Calls.{Call}
use Rattle.cached_translations.specs.declared.processor.Mode.TheVariants.{Outside}
use Rattle.script_rules.specs.Machines.{machine_of}
use Rattle.sgx_machine.specs.inner.Parts.{Parts}
use Rattle.driver_rules.specs.Ages.{KeptAgeRule}
use Rattle.driver_rules.specs.Passes.{pass, pass_after}
use Rattle.driver_rules.specs.Spares.{outs_kept}
use Rattle.driver_tables.specs.declared.driver.Driver.{Driver}
use Rattle.driver_tables.specs.inner.Asked.{IsNextOf}
use Rattle.driver_pass.specs.inner.Standing.{StandsFor}
use Rattle.driver_reclaim.specs.inner.After.{StandsBehind}
use Rattle.driver_pass.specs.inner.Viewed.{is_amid, is_sealing, PassView, still_out}
use Rattle.run_laws.specs.inner.Books.{AreTold, CarriesBytes}
use Rattle.run_records.specs.inner.Honest.{StaysHonest}
use Rattle.due_notes.specs.inner.Arrays.{HasAsMany, KeepsKeeper}
use Rattle.due_notes.proofs.ArrayLaws.{arrays_in_pass}
use Rattle.due_tables.specs.inner.Holding.{mode_of}
use Rattle.due_tables.specs.inner.Noting.{with_kick}
use Rattle.driver_rules.specs.Spent.{IsUsedUp}
use Rattle.run_course.specs.declared.course.Course.{Course}
use Rattle.run_course.specs.inner.Courses.{KeepsCourse, has_open_load, past_of}
use Rattle.run_course.specs.inner.Passing.{IsOwnEntry}
use Rattle.run_course.proofs.KeepLaws.{first_behind}
use Rattle.run_course.proofs.OwnLaws.{own_ends, own_none}
use Rattle.run_course.proofs.PassTurnLaws.{IsTurnEntry}

-- what is known of the entry, and of the pass, the driver and the machine behind it
pub record IsTurnMade (c : Course) (told longer : Option (List Call)) (spare : ℕ) (e : Entry) (p : PassView) (d : Driver) (m : Parts)
    : Type 0 where
  pub next : IsNextOf (machine_of c.job) c.job (past_of c) c.driver c.machine e d m
  pub own : d.active.own ≡ c.driver.active.own
  pub mine : IsTurnEntry e
  pub used : IsUsedUp c.job (past_of c) e.event
  pub flat : EnclavesAreFlat (e ∷ past_of c)
  pub store : AreTold c.job (past_of c) e told longer c.driver d
  pub bytes : IfSome longer (λ calls. CarriesBytes (machine_of c.job) c.job (past_of c) c.machine e m calls)
  pub honest : StaysHonest (machine_of c.job) (past_of c) c.machine e m longer
  pub stands : StandsBehind c.job.start_epoch c.job (past_of c) e p
  pub whole : is_amid p ≡ false
  -- the keeper of the slots has as many pages
  pub many : HasAsMany c.driver.slots d.slots
  pub places : still_out p ≤ spare
  -- the entry, and the ends of the starts that are open behind it
  pub room : vec_len c.entries + 1 + 2 * (count_by has_open_load (with_kick e.event c.turns.cpus) + (if is_sealing p then 1 else 0))
      ≤ vec_capacity c.entries

pub own_entry : (c : Course) (told longer : Option (List Call)) (before spare : ℕ) (e : Entry) (p : PassView) (d : Driver) (m : Parts)
    → KeepsCourse c told before → IsTurnMade c told longer spare e p d m
    → IsOwnEntry (record c { pass = p; driver = d; machine = m }) e longer spare
own_entry c told longer before spare e p d m k made = record {
  take = record {
    can = record {
      told = told;
      longer = longer;
      d = c.driver;
      m = c.machine;
      tcs = k.tcs;
      book = k.book;
      made = record {
        next = made.next;
        own = made.own;
        enters = made.mine.enters;
        flat = made.flat;
        store = made.store;
        bytes = made.bytes;
        honest = made.honest;
      };
      stood = subst (λ (a : Actor). Outside ≡ mode_of c.machine a) (sym made.mine.actor) refl;
      place = let enough = made.room in omega (arith, enough);
    };
    stands = subst (λ (a : Actor). StandsFor c.job.start_epoch (e ∷ past_of c) p
        (pass_after c.job (past_of c) a e.event (pass c.job (past_of c)))) (sym made.mine.actor) made.stands;
    whole = made.whole;
  };
  same = refl;
  actor = made.mine.actor;
  first = first_behind c told before e k made.next.age;
  places = made.places;
  arrays = subst (λ (a : Actor). KeepsKeeper c.job d.slots (record { actor = a; event = e.event } ∷ past_of c)) (sym made.mine.actor)
      (arrays_in_pass c.job (outs_kept c.job (past_of c)) c.driver.slots d.slots (past_of c) e.event k.book.agrees.sound
      k.book.agrees.pages
      (subst (λ (a : Actor). KeptAgeRule c.job (past_of c) (record { actor = a; event = e.event })) made.mine.actor made.next.age)
      (λ beside. made.many) k.arrays);
  ends = own_ends (past_of c) e made.mine.actor k.ends;
  clear = record { none = own_none (past_of c) e made.mine.actor k.clear.none; spent = (made.used, k.clear.spent) };
  room = made.room;
}
