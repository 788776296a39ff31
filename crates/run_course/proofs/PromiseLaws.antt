-- What a course keeps gives all that is so of every book.
use Rattle.std.specs.Prelude.{IfSome}
use Rattle.std.proofs.Common.{◌≡◌, ℕ, Bool, List, [], ◌∷◌, Option, Some, None, subst, false}
use Rattle.sgx_rules.specs.declared.entries.Entry.{Entry}
use Rattle.sgx_rules.specs.Rules.{Along, AtEachPlace, EvictRule, NoPageTwice, NoneStale, RefusalRule}
use Rattle.sgx_rules.specs.inner.Rules.{KeepsRules}
use Rattle.io_edges.specs.declared.plans.PlanLine.{PlanLine}
use Rattle.sgx_types.specs.Making.{Making}
use Rattle.job_grammar.specs.Jobs.{JobView}
use Rattle.script_rules.specs.Machines.{machine_of}
use Rattle.seal_record.specs.Records.{Made}
use Rattle.backing_store.specs.Calls.{Call}
use Rattle.machine_laws.specs.inner.Histories.{StandsWithAllRules}
use Rattle.machine_laws.specs.inner.State.{State}
use Rattle.sgx_machine.specs.inner.Parts.{Parts, state_of}
use Rattle.driver_rules.specs.Ages.{AgeRule, KeptAgeRule, KickRule}
use Rattle.driver_rules.specs.inner.Slotted.{SlotRule}
use Rattle.driver_rules.proofs.OutLaws.{ages_kept, none_occupied}
use Rattle.driver_rules.specs.Scripts.{ScriptRule}
use Rattle.driver_tables.specs.declared.driver.Driver.{Driver}
use Rattle.history_rules.specs.declared.rules.Rule.TheVariants as rules
use Rattle.history_rules.specs.Given.{UnforgedRun}
use Rattle.history_rules.specs.Histories.{AtEntry, Before, RuleSays}
use Rattle.history_rules.specs.inner.Histories.{GoesOn}
use Rattle.history_rules.specs.Stored.{PutsAreFlat, StoreTrue}
use Rattle.run_calls.specs.inner.Stores.{TellsStore}
use Rattle.due_tables.proofs.EndLaws.{run_ended}
use Rattle.run_laws.specs.inner.Books.{KeepsBytes}
use Rattle.run_course.specs.declared.course.Course.{Course}
use Rattle.run_course.specs.inner.Courses.{past_of}
use Rattle.run_course.specs.inner.Kept.{IsKept, view_of}
use Rattle.run_course.proofs.PutLaws.{puts_are_flat}
use Rattle.run_course.specs.inner.Views.{HoldsUnforged, Holds, HoldsAnyhow}
use Rattle.history_rules.specs.Honest.{IsHonest}
use Rattle.driver_rules.specs.Stops.{has_loss}
use Rattle.run_laws.specs.inner.Books.{KeepsHonest}

-- ---- from a rule along the entries to what is said before each of them

-- a rule along the entries is said before each of them
said : (rule : List Entry → Entry → Type 0) (past : List Entry) → Along rule past → Before (AtEntry rule) past
said rule [] h = tt
said rule (e ∷ past) h = (h.0, said rule past h.1)

-- what holds at each place holds at the end
at_end : (P : List Entry → Type 0) (past : List Entry) → AtEachPlace P past → P past
at_end P [] h = h
at_end P (e ∷ past) h = h.0

-- a rule along the entries and what holds at each place are said together
said_placed : (rule : List Entry → Entry → Type 0) (P : List Entry → Type 0) (past : List Entry) → Along rule past → AtEachPlace P past
    → Before (λ p next. AtEntry rule p next × P p) past
said_placed rule P [] h each = tt
said_placed rule P (e ∷ past) h each = ((h.0, at_end P past each.1), said_placed rule P past h.1 each.1)

-- who makes which entry next is said before each entry
said_script : (j : JobView) (past : List Entry) → Along (ScriptRule j) past → Before (RuleSays j rules.Script) past
said_script j [] h = tt
said_script j (e ∷ past) h = (h.0, said_script j past h.1)

-- ---- where no record was forged

-- the rules of the driver, and a machine that stands for the entries with all its rules, make them a history that goes on
goes_on : (j : JobView) (past : List Entry) (s : State) (records : List Made) → Along (ScriptRule j) past
    → Along (KeptAgeRule j) past → Along (KickRule j) past → Along (SlotRule j) past → StandsWithAllRules (machine_of j) s past records
    → GoesOn j past
goes_on j past s records script age kick slots all =
    let keeps : KeepsRules (machine_of j) past = subst (λ k. KeepsRules k past) all.shaped.shape.making all.standing.rules in
    record {
      script = said_script j past script;
      refusal = (tt, said (RefusalRule (machine_of j)) past keeps.refusal);
      flat = (tt, said _ past keeps.flat);
      fits = ((tt, at_end NoPageTwice past keeps.fits.pages), said_placed _ NoPageTwice past keeps.fits.entries keeps.fits.pages);
      stale = ((tt, at_end NoneStale past keeps.stale.places), said_placed _ NoneStale past keeps.stale.entries keeps.stale.places);
      evict = (tt, said EvictRule past all.shaped.evict);
      fresh = (tt, said _ past all.fresh);
      sealed = (tt, said _ past all.sealed);
      measure = (tt, said _ past all.standing.measure);
      age = (tt, said (AgeRule j) past (ages_kept j past (none_occupied (machine_of j) j past keeps.refusal slots) age));
      kick = (tt, said (KickRule j) past kick);
    }

-- .. so they are one where a store tells its calls and none of its records was forged
goes_unforged : (j : JobView) (past : List Entry) (told : Option (List Call)) (m : Parts) → Along (ScriptRule j) past
    → Along (KeptAgeRule j) past → Along (KickRule j) past → Along (SlotRule j) past → IfSome told (KeepsBytes (machine_of j) j past m)
    → IfSome told (λ calls. UnforgedRun j.key past calls → GoesOn j past)
goes_unforged j past None m script age kick slots bytes = tt
goes_unforged j past (Some calls) m script age kick slots bytes =
    λ unforged. goes_on j past (state_of m) _ script age kick slots (bytes unforged)

-- ---- whatever the store gave

-- a store that was handed the job's plan lines and tells the calls of the entries has told the truth
store_true : (j : JobView) (past : List Entry) (plans : List PlanLine) (told : Option (List Call)) (d : Driver)
    → IfSome told (λ calls. TellsStore j.key past calls d) → IfSome told (λ calls. plans ≡ j.plans) → StoreTrue j past plans told
store_true j past plans None d tells plans_are = tt
store_true j past plans (Some calls) d tells plans_are = (plans_are, tells.store)

-- over an honest store all pages came back
all_back : (made : Making) (past : List Entry) (m : Parts) (told : Option (List Call)) → IfSome told (KeepsHonest made past m)
    → IfSome told (λ calls. IsHonest calls → has_loss past ≡ false)
all_back made past m None keeps = tt
all_back made past m (Some calls) keeps = λ honest. (keeps honest).back

-- the rules that no page's bytes decide, the driver's, and the store's calls
holds_anyhow : (c : Course) (told : Option (List Call)) (plans : List PlanLine) (spare : ℕ) (out_of_memory : Bool)
    → IsKept c told plans spare
    → HoldsAnyhow (view_of c told plans out_of_memory)
holds_anyhow c told plans spare out_of_memory kept =
    let book = kept.keeps.book in
    record {
      script = book.script;
      age = book.age;
      kick = book.kick;
      tracking = book.tracking;
      fits = book.agrees.fits.fits;
      stale = book.agrees.follows.stale;
      evict = book.agrees.follows.evict;
      rising = book.agrees.follows.rising;
      spent = kept.keeps.clear.spent;
      store = store_true c.job (past_of c) plans told c.driver book.store kept.plans_are;
      ended = run_ended c.job (past_of c) book.script kept.keeps.ends kept.keeps.clear.none;
      honest = all_back (machine_of c.job) (past_of c) c.machine told book.honest;
    }

-- ---- together

-- what a course keeps gives all that is so of every book
pub promises : (c : Course) (told : Option (List Call)) (plans : List PlanLine) (spare : ℕ) (out_of_memory : Bool)
    → IsKept c told plans spare
    → Holds (view_of c told plans out_of_memory)
promises c told plans spare out_of_memory kept =
    let book = kept.keeps.book in
    record {
      anyhow = holds_anyhow c told plans spare out_of_memory kept;
      unforged = both told (goes_unforged c.job (past_of c) told c.machine book.script book.age book.kick book.slots book.bytes)
          (puts_are_flat c told plans spare kept);
    }
  where
    both : (o : Option (List Call)) → IfSome o (λ calls. UnforgedRun c.job.key (past_of c) calls → GoesOn c.job (past_of c))
        → IfSome o (λ calls. UnforgedRun c.job.key (past_of c) calls → PutsAreFlat c.job.key (past_of c) calls)
        → IfSome o (HoldsUnforged (view_of c told plans out_of_memory))
    both None goes flat = tt
    both (Some calls) goes flat = λ unforged. (goes unforged, flat unforged)
