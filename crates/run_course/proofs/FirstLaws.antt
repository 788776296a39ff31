-- What holds before the first entry.
use Rattle.std.proofs.Common.{◌≡◌, ℕ, suc, ◌≤◌, ◌<◌, false, cond, List, [], ◌∷◌, Option, Some, None, IfSome, length}
use Rattle.std.proofs.Common.{reverse, count_by, vec_len, if◌then◌else◌, refl, sym, ap, subst, ◌∙◌, arith}
use Rattle.std.proofs.lemmas.Bool.{false≢true}
use Rattle.std.proofs.lemmas.List.Sums.{sum_by-cons}
use Rattle.sgx_types.specs.Making.{Making}
use Rattle.job_grammar.specs.Jobs.{JobView, va_pages}
use Rattle.job_grammar.specs.inner.Valid.{IsValid}
use Rattle.backing_store.specs.Calls.{Call}
use Rattle.machine_laws.specs.inner.Histories.{StandsWithAllRules}
use Rattle.machine_laws.specs.inner.Shape.{FitsApart, ShapeWithRules}
use Rattle.sgx_machine.specs.inner.Parts.{Parts, state_of}
use Rattle.script_rules.specs.Machines.{machine_of}
use Rattle.driver_rules.specs.Turns as dues
use Rattle.driver_laws.specs.inner.Counted.{CountsSlots}
use Rattle.driver_laws.proofs.BuiltLaws.{first_built}
use Rattle.driver_laws.proofs.CountLaws.{first_counts}
use Rattle.driver_laws.proofs.FixedLaws.{first_theirs as first_fixed}
use Rattle.driver_laws.proofs.InitLaws.{first_inits}
use Rattle.driver_laws.proofs.LoadLaws.{first_theirs}
use Rattle.driver_laws.proofs.SoundLaws.{first_sound}
use Rattle.driver_laws.proofs.StageLaws.{first_pages}
use Rattle.driver_laws.proofs.TcsLaws.{apart_first}
use Rattle.driver_laws.proofs.UsedLaws.{first_used}
use Rattle.driver_laws.proofs.VersionLaws.{none_stand}
use Rattle.driver_laws.specs.inner.Agrees.{drivers}
use Rattle.driver_tables.specs.declared.driver.Driver.{Driver}
use Rattle.driver_tables.specs.inner.Tables.{IsNew}
use Rattle.driver_tables.proofs.FirstLaws.{shows_first}
use Rattle.driver_tables.specs.inner.Agrees.{Agrees}
use Rattle.driver_pass.specs.inner.Standing.{StandsAt}
use Rattle.driver_pass.specs.inner.Viewed.{is_amid, is_sealing, new_view, PassView, still_out}
use Rattle.driver_pass.proofs.GoLaws.{first_stands}
use Rattle.driver_reclaim.specs.inner.Ready.{HasFirst}
use Rattle.driver_reclaim.proofs.FirstLaws.{none_first as first_array}
use Rattle.due_tables.specs.declared.cpu_turns.CpuTurn.{CpuTurn}
use Rattle.due_tables.specs.declared.cpu_turns.Last.{Last}
use Rattle.due_tables.specs.declared.cpu_turns.Last.TheVariants as ways
use Rattle.due_tables.specs.declared.turns.Turns.{Turns}
use Rattle.due_tables.specs.inner.CpuTurns.{last_told, turn_at}
use Rattle.due_tables.specs.inner.Ending.{EndsAreTold, NoneFails}
use Rattle.due_tables.specs.inner.Holding.{KeepsHolds}
use Rattle.due_tables.specs.inner.Shown.{ShowsTurns}
use Rattle.due_tables.proofs.EndLaws.{ends_first}
use Rattle.due_tables.proofs.FirstLaws.{holds_first}
use Rattle.due_tables.proofs.OrderLaws.{orderly_first}
use Rattle.due_notes.specs.inner.Arrays.{KeepsKeeper}
use Rattle.due_notes.proofs.ArrayLaws.{arrays_begin}
use Rattle.run_calls.specs.inner.Stores.{TellsStore}
use Rattle.run_calls.proofs.StoreLaws.{tells_first}
use Rattle.run_laws.specs.inner.Books.{KeepsBook, KeepsBytes, KeepsHonest}
use Rattle.run_laws.specs.inner.Honest.{IsHonestBook}
use Rattle.run_records.proofs.FlatSteps.{flat_first}
use Rattle.run_records.proofs.QuietLaws.{first_honest}
use Rattle.run_laws.proofs.FreshLaws.{IsFresh, fresh_cpus, fresh_making}
use Rattle.run_laws.proofs.TcsLaws.{tcs_apart}
use Rattle.run_course.specs.declared.course.Course.{Course}
use Rattle.run_course.specs.inner.Courses.{IsClear, KeepsCourse, is_load, has_open_load, open_starts, past_of}

-- ---- the machine

-- no frame holds a page, and none is loading one
fits_first : (frames : ℕ) → FitsApart frames []
fits_first frames = record {
  fits = record { entries = tt; pages = λ m n g one other. absurd (false≢true one) };
  apart = record { frames = λ m n g h. absurd (false≢true h); loads = λ m n g one other. absurd (false≢true one) };
}

-- ---- driver and machine

-- they agree on no entry
agrees_first : (j : JobView) (d : Driver) (m : Parts) → IsValid j → IsNew j d → IsFresh j m → Agrees (machine_of j) j [] d m
agrees_first j d m valid new fresh = record {
  follows = subst (λ (x : Making). ShapeWithRules x (state_of m) []) (fresh_making j m fresh) fresh.shape;
  fits = fits_first j.epc;
  sound = first_sound;
  home = refl;
  used = first_used;
  stand = none_stand;
  fixed = first_fixed j;
  counted = subst (λ k. CountsSlots k []) (sym new.slots) (first_counts (va_pages j));
  built = first_built j;
  inits = first_inits;
  theirs = first_theirs;
  tracks = λ n p low. refl;
  pages = first_pages j;
  shows = shows_first (drivers j) j d valid new;
  frames = refl;
  cpus = fresh_cpus j m fresh ∙ sym new.cpus;
}

-- a store that tells its calls has told none
store_first : (j : JobView) (d : Driver) (told : Option (List Call)) → IsNew j d → IfSome told (λ calls. calls ≡ [])
    → IfSome told (λ calls. TellsStore j.key [] calls d)
store_first j d None new none = tt
store_first j d (Some calls) new none = subst (λ x. TellsStore j.key [] x d) (sym none) (tells_first j.key j d new)

-- .. and the machine stands for no entry with all the rules
bytes_first : (j : JobView) (m : Parts) (told : Option (List Call)) → IsFresh j m → IfSome told (KeepsBytes (machine_of j) j [] m)
bytes_first j m None fresh = tt
bytes_first j m (Some calls) fresh =
    λ unforged. subst (λ (x : Making). StandsWithAllRules x (state_of m) [] []) (fresh_making j m fresh) fresh.history

-- no page was put yet
honest_first : (j : JobView) (m : Parts) (told : Option (List Call)) → IsFresh j m → IfSome told (λ calls. calls ≡ [])
    → IfSome told (KeepsHonest (machine_of j) [] m)
honest_first j m None fresh none = tt
honest_first j m (Some calls) fresh none = λ honest.
    subst (IsHonestBook (machine_of j) [] m) (sym none)
    (first_honest (machine_of j) m (subst (λ (x : Making). ShapeWithRules x (state_of m) []) (fresh_making j m fresh) fresh.shape))

-- all that the book keeps
book_first : (j : JobView) (d : Driver) (m : Parts) (t : Turns) (told : Option (List Call)) → IsNew j d → IsFresh j m
    → ShowsTurns j [] t → IfSome told (λ calls. calls ≡ []) → KeepsBook (machine_of j) j [] told d m t
book_first j d m t told new fresh shows none = record {
  agrees = agrees_first j d m shows.valid new fresh;
  turns = shows;
  orderly = orderly_first j;
  holds = subst (λ a. KeepsHolds j a.own []) (sym new.active) (holds_first j);
  apart = apart_first j;
  flat = flat_first;
  script = tt;
  age = tt;
  kick = tt;
  slots = tt;
  tracking = tt;
  store = store_first j d told new none;
  bytes = bytes_first j m told fresh;
  honest = honest_first j m told fresh none;
}

-- ---- the pass

-- no page has still to go out
places_first : (v : PassView) (spare : ℕ) → v ≡ new_view → still_out v ≤ spare
places_first v spare new = let out : still_out v ≡ 0 = ap still_out new in omega (arith, out)

-- ---- open starts

-- by how its last entry left it, a processor has started no load
not_loading : (last : Last) → last_told last ≡ dues.Other → is_load last ≡ false
not_loading (ways.Loads f page) is = cc
not_loading (ways.Fails page why) is = refl
not_loading ways.WasEnded is = refl
not_loading ways.Other is = refl

-- .. so that none of the processors counts
none_loads : (cpus : List CpuTurn) → ((p : ℕ) → p < length cpus → has_open_load (turn_at cpus p) ≡ false) → count_by has_open_load cpus ≡ 0
none_loads [] none = refl
none_loads (x ∷ xs) none =
    let count = sum_by-cons (λ (y : CpuTurn). cond (has_open_load y) 1 0) x xs in
    let first : ◌≡◌ {A = ℕ} (cond (has_open_load x) 1 0) 0 = ap (λ b. cond b 1 0) (none 0 (omega arith)) in
    let rest = none_loads xs (λ p low. none (suc p) (omega (arith, low))) in
    omega (arith, count, first, rest)

-- .. nor the pass
no_starts : (c : Course) → ShowsTurns c.job [] c.turns → c.pass ≡ new_view → open_starts c ≡ 0
no_starts c shows new =
    let loads : count_by has_open_load c.turns.cpus ≡ 0 = none_loads c.turns.cpus (λ p low. not_loading (turn_at c.turns.cpus p).last
    ((shows.cpus p (let each = shows.each in omega (arith, low, each))).last)) in
    let seals : ◌≡◌ {A = ℕ} (if is_sealing c.pass then 1 else 0) 0 = ap (λ (v : PassView). if is_sealing v then 1 else 0) new in
    omega (arith, loads, seals)

-- ---- no entry

none_first : NoneFails []
none_first p page why h = cc

clear_first : (j : JobView) → IsClear j []
clear_first j = record { none = none_first; spent = tt }

-- ---- the course

-- of machine, driver, tables and pass each is new, and there is no entry
pub record Begins (c : Course) : Type 0 where
  pub machine : IsFresh c.job c.machine
  pub driver : IsNew c.job c.driver
  pub turns : ShowsTurns c.job [] c.turns
  pub pass : c.pass ≡ new_view
  pub entries : c.entries.items ≡ []

-- so it keeps all that a course has to
pub course_first : (c : Course) (told : Option (List Call)) (spare : ℕ) → Begins c → IfSome told (λ calls. calls ≡ [])
    → KeepsCourse c told spare
course_first c told spare first none =
    let past : past_of c ≡ [] = ap reverse first.entries in
    record {
      tcs = tcs_apart c.job first.turns.valid;
      book = subst (λ h. KeepsBook (machine_of c.job) c.job h told c.driver c.machine c.turns) (sym past)
          (book_first c.job c.driver c.machine c.turns told first.driver first.machine first.turns none);
      stands = subst (λ h. StandsAt c.job.start_epoch c.job h c.pass) (sym past)
          (subst (StandsAt c.job.start_epoch c.job []) (sym first.pass) (first_stands c.job.start_epoch c.job));
      whole = ap is_amid first.pass;
      first = subst HasFirst (sym past) first_array;
      places = places_first c.pass spare first.pass;
      arrays = subst (KeepsKeeper c.job c.driver.slots) (sym past) (arrays_begin c.job c.driver first.driver);
      ends = subst EndsAreTold (sym past) ends_first;
      clear = subst (IsClear c.job) (sym past) (clear_first c.job);
      room =
          let few : vec_len c.entries ≡ 0 = c.entries.ok.0 ∙ ap length first.entries in
          let starts = no_starts c first.turns first.pass in
          omega (arith, few, starts);
    }
