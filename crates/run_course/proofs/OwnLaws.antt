-- What holds behind one entry of the reclaimer.
use Rattle.std.proofs.Common.{◌≡◌, ℕ, ◌+◌, ◌*◌, ◌≤◌, if◌then◌else◌, List, [], ◌∷◌, ◌++◌, Bool, Option}
use Rattle.std.proofs.Common.{length, count_by, vec_len, vec_capacity, refl, sym, ap, subst, ◌∙◌, arith, length-append}
use Rattle.std.proofs.lemmas.List.Elements.{All-cons, All-nil}
use Rattle.sgx_types.specs.declared.names.Actor.{Actor}
use Rattle.sgx_types.specs.declared.names.Actor.TheVariants as actors
use Rattle.sgx_rules.specs.declared.entries.Entry.{Entry}
use Rattle.sgx_rules.specs.declared.entries.Event.{Event}
use Rattle.cached_translations.specs.declared.processor.Mode.TheVariants.{Outside}
use Rattle.job_grammar.specs.Jobs.{JobView}
use Rattle.backing_store.specs.Calls.{Call}
use Rattle.driver_tables.specs.declared.driver.Driver.{Driver}
use Rattle.driver_pass.specs.inner.Viewed.{is_sealing, still_out}
use Rattle.run_laws.specs.inner.Books.{with_own}
use Rattle.due_notes.specs.inner.Arrays.{KeepsKeeper}
use Rattle.due_tables.specs.declared.cpu_turns.CpuTurn.{CpuTurn}
use Rattle.due_tables.specs.declared.turns.Turns.{Turns}
use Rattle.due_tables.specs.inner.Ending.{EndsAreTold, NoneFails}
use Rattle.due_tables.specs.inner.Noting.{IsNoted, with_kick}
use Rattle.due_tables.specs.inner.Noting as noting
use Rattle.run_course.specs.declared.course.Course.{Course}
use Rattle.run_course.specs.inner.Courses.{Grows, has_open_load, open_starts, past_of}
use Rattle.run_course.specs.inner.Passing.{IsOwnEntry}
use Rattle.run_course.specs.inner.Recording.{IsRecorded, IsTaken}
use Rattle.run_course.proofs.KeepLaws.{taken_keeps}
use Rattle.run_course.proofs.RecordLaws.{newest}

-- ---- an entry of the reclaimer ends no processor's script

ends_quiet : (past : List Entry) (event : Event) → EndsAreTold past
    → EndsAreTold (record { actor = actors.Reclaimer; event = event } ∷ past)
ends_quiet past event told p h = told p h

none_quiet : (past : List Entry) (event : Event) → NoneFails past → NoneFails (record { actor = actors.Reclaimer; event = event } ∷ past)
none_quiet past event none p page reason h = none p page reason h

pub own_ends : (past : List Entry) (e : Entry) → e.actor ≡ actors.Reclaimer → EndsAreTold past → EndsAreTold (e ∷ past)
own_ends past e own told =
    subst (λ (a : Actor). EndsAreTold (record { actor = a; event = e.event } ∷ past)) (sym own) (ends_quiet past e.event told)

pub own_none : (past : List Entry) (e : Entry) → e.actor ≡ actors.Reclaimer → NoneFails past → NoneFails (e ∷ past)
own_none past e own none =
    subst (λ (a : Actor). NoneFails (record { actor = a; event = e.event } ∷ past)) (sym own) (none_quiet past e.event none)

-- ---- the tables of what is due

-- an entry of the reclaimer changes those of the processors by kicks alone
own_noted : (j : JobView) (old new : Turns) (e : Entry) → e.actor ≡ actors.Reclaimer → IsNoted j old Outside e new
    → new.cpus ≡ with_kick e.event old.cpus
own_noted j old new e own noted =
    noted.cpus ∙ ap (λ (a : Actor). with_kick e.event (noting.with_own a e.event Outside old.cpus)) own

-- ---- the course behind it

-- one entry more
pub own_grows : (c c' : Course) (e : Entry) (longer : Option (List Call)) (spare : ℕ) (own : IsOwnEntry c e longer spare)
    → IsRecorded c e own.take.can.longer c' → IsTaken c e c' → c'.entries.items ≡ c.entries.items ++ e ∷ []
    → vec_capacity c'.entries ≡ vec_capacity c.entries → IsNoted c.job c.turns Outside e c'.turns
    → c'.driver ≡ with_own c.driver c'.driver.active.own
    → still_out c'.pass ≡ still_out c.pass
    → is_sealing c'.pass ≡ is_sealing c.pass → c'.job ≡ c.job → Grows c actors.Reclaimer 1 c' longer spare
own_grows c c' e longer spare own book stands kept capacity noted driver places sealing job =
    record {
      entries = e ∷ [];
      count = refl;
      actors = All-cons (λ (x : Entry). x.actor ≡ actors.Reclaimer) e [] own.actor (All-nil (λ (x : Entry). x.actor ≡ actors.Reclaimer));
      past = newest c.entries.items c'.entries.items e kept;
      job = job;
      kicks = tt;
      keeps = taken_keeps c c' e longer spare own.take.can.tcs job kept
          (subst (λ told. IsRecorded c e told c') own.same book) stands own.first
          (subst (λ n. n ≤ spare) (sym places) own.places)
          (subst (λ (d : Driver). KeepsKeeper c.job d.slots (e ∷ past_of c)) (sym driver) own.arrays)
          own.ends own.clear room;
    }
  where
    starts : open_starts c' ≡ count_by has_open_load (with_kick e.event c.turns.cpus) + (if is_sealing c.pass then 1 else 0)
    starts =
        ap (λ (turns : List CpuTurn). count_by has_open_load turns + (if is_sealing c'.pass then 1 else 0))
        (own_noted c.job c.turns c'.turns e own.actor noted)
        ∙ ap (λ (b : Bool). count_by has_open_load (with_kick e.event c.turns.cpus) + (if b then 1 else 0)) sealing

    long : vec_len c'.entries ≡ vec_len c.entries + 1
    long =
        let one : length c'.entries.items ≡ length c.entries.items + 1 = ap length kept ∙ length-append c.entries.items (e ∷ []) in
        let old = c.entries.ok.0 in
        let new = c'.entries.ok.0 in
        omega (arith, one, old, new)

    room : vec_len c'.entries + 2 * open_starts c' ≤ vec_capacity c'.entries
    room = let enough = own.room in omega (arith, starts, long, enough, capacity)
