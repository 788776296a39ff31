-- What a turn of the pass made can be taken in.
use Rattle.std.proofs.Common.{◌≡◌, ℕ, ◌+◌, ◌*◌, ◌≤◌, Bool, true, false, if◌then◌else◌, List}
use Rattle.std.proofs.Common.{◌∷◌, Option, Some, None, IfSome, length, count_by, is_some, vec_len, vec_capacity, sym, ap}
use Rattle.std.proofs.Common.{subst}
use Rattle.std.proofs.Common.{◌∙◌, arith}
use Rattle.std.proofs.lemmas.List.Sums.{count_by-le-length}
use Rattle.sgx_rules.specs.declared.entries.Entry.{Entry}
use Rattle.sgx_types.specs.Making.{Making}
use Rattle.sgx_rules.specs.inner.Enclaves.{EnclavesAreFlat}
use Rattle.backing_store.specs.Calls.{Call}
use Rattle.script_rules.specs.Machines.{machine_of}
use Rattle.machine_laws.specs.inner.State.{State}
use Rattle.sgx_machine.specs.inner.Parts.{Parts, state_of}
use Rattle.driver_rules.specs.Dues.{Due, KicksAll}
use Rattle.driver_rules.specs.inner.Reclaims.{going_due}
use Rattle.driver_rules.specs.Spares.{outs_kept}
use Rattle.driver_rules.specs.Stops.{is_spent}
use Rattle.driver_tables.specs.declared.driver.Driver.{Driver}
use Rattle.driver_tables.specs.inner.Asked.{IsNextOf}
use Rattle.driver_reclaim.specs.declared.turns.PassTurn.{PassTurn}
use Rattle.driver_reclaim.specs.declared.turns.PassTurn.TheVariants as turns
use Rattle.driver_reclaim.specs.inner.After.{StandsAfter, StandsBehind}
use Rattle.driver_reclaim.specs.inner.Answers.{IsTurn}
use Rattle.driver_reclaim.specs.inner.Asked.{look_told, places_by, told_by}
use Rattle.driver_reclaim.specs.inner.Going.{TurnGoes}
use Rattle.driver_reclaim.specs.inner.Kept.{TurnKeeps}
use Rattle.driver_reclaim.specs.inner.Ready.{Ready}
use Rattle.driver_reclaim.specs.inner.Rests.{IsWait}
use Rattle.driver_reclaim.specs.inner.Shown.{ShowsAfter}
use Rattle.driver_pass.specs.inner.Viewed.{is_amid, is_kicked, is_sealing, PassView, still_out}
use Rattle.driver_reclaim.specs.inner.Turning.{TurnSays}
use Rattle.driver_reclaim.proofs.DueLaws.{turn_is_due}
use Rattle.driver_reclaim.proofs.KeptLaws.{turn_keeps}
use Rattle.driver_reclaim.proofs.MoveLaws.{places_kept}
use Rattle.driver_reclaim.proofs.ShownLaws.{turn_shown}
use Rattle.driver_reclaim.proofs.StandLaws.{turn_stands}
use Rattle.run_laws.specs.inner.Books.{AreTold, CarriesBytes, KeepsBook}
use Rattle.run_laws.specs.inner.Turns.{OfEntry}
use Rattle.run_laws.proofs.TurnLaws.{turn_next}
use Rattle.run_records.proofs.TurnBytes.{turn_bytes}
use Rattle.run_records.proofs.PassRecords.{turn_flat, turn_honest, turn_stays, turn_told}
use Rattle.run_records.specs.inner.Honest.{StaysHonest}
use Rattle.driver_reclaim.proofs.ReadyLaws.{can_step}
use Rattle.due_tables.specs.inner.Noting.{with_kick}
use Rattle.due_tables.proofs.NoteLaws.{kick_length}
use Rattle.driver_rules.specs.Spent.{IsUsedUp}
use Rattle.run_course.specs.declared.course.Course.{Course}
use Rattle.run_course.specs.inner.Courses.{KeepsCourse, has_open_load, past_of}
use Rattle.run_course.specs.inner.Passing.{FollowsBy, IsOwnEntry, IsOwnKicks}
use Rattle.run_course.proofs.KeepLaws.{course_ready, few_cpus}
use Rattle.run_course.proofs.PassTurnLaws.{IsTurnEntry, Leaves, LeavesDriver, TellsDue, turn_leaves, turn_tells}
use Rattle.driver_reclaim.specs.inner.Answers.{bits_of}
use Rattle.due_notes.specs.inner.Arrays.{KeepsKeeper}
use Rattle.run_course.proofs.RestLaws.{book_of_state}
use Rattle.run_course.proofs.SpentLaws.{turn_used}
use Rattle.run_course.proofs.TakeLaws.{own_entry}

-- ---- small facts

every : (P : List Call → Type 0) (told : Option (List Call)) → ((calls : List Call) → P calls) → IfSome told P
every P None all = tt
every P (Some calls) all = all calls

-- a turn of a pass changes no number of processors
goes_cpus : (m m' : Parts) (turn : PassTurn) → TurnGoes (state_of m) turn (state_of m') → length m'.cpus ≡ length m.cpus
goes_cpus m m' (turns.One e) goes = ap (λ (x : Making). x.cpus) goes.making
goes_cpus m m' (turns.Seal e) goes = ap (λ (x : Making). x.cpus) goes.making
goes_cpus m m' (turns.Spent e) goes = ap (λ (x : Making). x.cpus) goes.making
goes_cpus m m' (turns.Kicks bits) goes = ap (λ (s : State). s.cpus) goes
goes_cpus m m' (turns.Again reason) goes = ap (λ (s : State). s.cpus) goes

-- ---- a turn that was made

-- what the pass and the pages beside it give
abbrev pub going_of : Course → Bool → Due
going_of c kicked = going_due c.job (past_of c) (outs_kept c.job (past_of c)) kicked

-- what is known of it. Where it waits the driver's tables are as before
pub record IsStepped (c : Course) (told : Option (List Call)) (turn : PassTurn) (p : PassView) (d : Driver) (m : Parts)
    (longer : Option (List Call)) (spare : ℕ) : Type 0 where
  pub says : TurnSays c.pass c.driver c.machine turn p d m
  pub due : IsTurn (machine_of c.job) c.job (past_of c) c.driver.slots (going_of c (is_kicked c.pass)) turn
  pub kept : TurnKeeps c.job.start_epoch c.job (past_of c) turn
  pub stands : StandsAfter c.job.start_epoch c.job (past_of c) turn p
  pub whole : is_amid p ≡ false
  pub shows : ShowsAfter c.job (past_of c) c.driver turn d
  pub calls : longer ≡ told_by (look_told turn) told
  pub waits : IsWait turn → d ≡ c.driver
  pub places : still_out p ≤ spare
  pub goes : TurnGoes (state_of c.machine) turn (state_of m)

-- by what the turn did, and by the laws on that
pub stepped_by : (c : Course) (told longer : Option (List Call)) (before spare : ℕ) (p : PassView) (d : Driver) (m : Parts)
    (turn : PassTurn) → KeepsCourse c told before → TurnSays c.pass c.driver c.machine turn p d m
    → longer ≡ told_by (look_told turn) told → spare ≡ places_by (look_told turn) before
    → (IsWait turn → (d ≡ c.driver) × (p ≡ c.pass)) → TurnGoes (state_of c.machine) turn (state_of m)
    → IsStepped c told turn p d m longer spare
stepped_by c told longer before spare p d m turn k says calls places waits goes = record {
  says = says;
  due = turn_is_due (machine_of c.job) c.job (past_of c) c.pass p c.driver d c.machine m turn ready says;
  kept = turn_keeps (machine_of c.job) c.job (past_of c) c.pass p c.driver d c.machine m turn ready says;
  stands = stands.0;
  whole = stands.1;
  shows = turn_shown (machine_of c.job) c.job (past_of c) c.pass p c.driver d c.machine m turn ready says (λ w. (waits w).0);
  calls = calls;
  waits = λ w. (waits w).0;
  places = subst (λ n. still_out p ≤ n) (sym places)
      (places_kept c.pass p c.driver d c.machine m turn before says (λ w. (waits w).1) k.places);
  goes = goes;
}
  where
    ready : Ready (machine_of c.job) c.job (past_of c) c.pass c.driver c.machine
    ready = course_ready c told before k

    stands : StandsAfter c.job.start_epoch c.job (past_of c) turn p × (is_amid p ≡ false)
    stands = turn_stands (machine_of c.job) c.job (past_of c) c.pass p c.driver d c.machine m turn ready says (λ w. (waits w).1)

module _ (c : Course) (told longer : Option (List Call)) (before spare : ℕ) (p : PassView) (d : Driver) (m : Parts)
    (k : KeepsCourse c told before) (going : is_spent (past_of c) ≡ false) (idle : is_sealing c.pass ≡ false)
    (room : vec_len c.entries + 64 ≤ vec_capacity c.entries) where
  -- the course behind the turn, before what it made is taken in
  abbrev behind : Course
  behind = record c { pass = p; driver = d; machine = m }

  next_of : (turn : PassTurn) → IsStepped c told turn p d m longer spare
      → OfEntry turn (λ e. IsNextOf (machine_of c.job) c.job (past_of c) c.driver c.machine e d m)
  next_of turn s =
      turn_next (machine_of c.job) c.job (past_of c) c.driver d c.machine m (is_kicked c.pass) turn k.book.turns.valid.some_version
      k.book.agrees going s.due s.kept s.goes (goes_cpus c.machine m turn s.goes) s.shows

  leaves_of : (turn : PassTurn) → IsStepped c told turn p d m longer spare → Leaves c.pass p c.driver d turn
  leaves_of turn s = turn_leaves c.pass p c.driver d c.machine m turn s.says

  pub tells_of : (turn : PassTurn) → IsStepped c told turn p d m longer spare
      → TellsDue c.driver.slots (going_of c (is_kicked c.pass)) turn
  tells_of turn s =
      turn_tells (machine_of c.job) c.job (past_of c) c.driver.slots turn (going_of c (is_kicked c.pass)) s.due

  -- an entry can be taken in
  by_entry : (turn : PassTurn) (e : Entry) → IsStepped c told turn p d m longer spare
      → IsNextOf (machine_of c.job) c.job (past_of c) c.driver c.machine e d m → LeavesDriver c.driver d → IsTurnEntry e
      → IsUsedUp c.job (past_of c) e.event → EnclavesAreFlat (e ∷ past_of c) → AreTold c.job (past_of c) e told longer c.driver d
      → ((calls : List Call) → CarriesBytes (machine_of c.job) c.job (past_of c) c.machine e m calls)
      → StaysHonest (machine_of c.job) (past_of c) c.machine e m longer → StandsBehind c.job.start_epoch c.job (past_of c) e p
      → IsOwnEntry behind e longer spare
  by_entry turn e s next leaves mine used flat store bytes honest stands = own_entry c told longer before spare e p d m k record {
    next = next;
    own = leaves.own;
    mine = mine;
    used = used;
    flat = flat;
    store = store;
    bytes = every (CarriesBytes (machine_of c.job) c.job (past_of c) c.machine e m) longer bytes;
    honest = honest;
    stands = stands;
    whole = s.whole;
    many = leaves.many;
    places = s.places;
    room = enough (is_sealing p);
  }
    where
      enough : (b : Bool) → vec_len c.entries + 1 + 2 * (count_by has_open_load (with_kick e.event c.turns.cpus) + (if b then 1 else 0))
          ≤ vec_capacity c.entries
      enough true =
          let most = count_by-le-length has_open_load (with_kick e.event c.turns.cpus) in
          let each = kick_length e.event c.turns.cpus in
          let few = few_cpus (machine_of c.job) c.job (past_of c) told c.driver c.machine c.turns k.book in
          omega (arith, most, each, few, room)
      enough false =
          let most = count_by-le-length has_open_load (with_kick e.event c.turns.cpus) in
          let each = kick_length e.event c.turns.cpus in
          let few = few_cpus (machine_of c.job) c.job (past_of c) told c.driver c.machine c.turns k.book in
          omega (arith, most, each, few, room)

  -- kicks that are due whether or not a turn of kicks was made before: none was
  pub record KicksDue (bits : ℕ) : Type 0 where
    pub cpus : List ℕ
    pub due : going_of c (is_kicked c.pass) ≡ KicksAll cpus
    pub first : going_of c false ≡ KicksAll cpus
    pub same : bits ≡ bits_of cpus

  pub kicks_due : (bits : ℕ) → IsStepped c told (turns.Kicks bits) p d m longer spare → KicksDue bits
  kicks_due bits s =
      let none = (leaves_of (turns.Kicks bits) s).0 in
      let are = tells_of (turns.Kicks bits) s in
      record {
        cpus = are.cpus;
        due = are.due_is;
        first = subst (λ b. going_of c b ≡ KicksAll are.cpus) none are.due_is;
        same = are.same;
      }

  -- kicks can be made
  by_kicks : (bits : ℕ) → IsStepped c told (turns.Kicks bits) p d m longer spare → IsOwnKicks behind bits longer spare
  by_kicks bits s =
      let same : d ≡ c.driver = (leaves_of (turns.Kicks bits) s).1 in
      let are = kicks_due bits s in
      record {
        kick = record {
          told = told;
          tcs = k.tcs;
          book = subst (λ x. KeepsBook (machine_of c.job) c.job (past_of c) told x m c.turns) (sym same)
              (book_of_state (machine_of c.job) c.job (past_of c) told c.driver c.machine m c.turns s.goes k.book);
          before = c.pass;
          stands = k.stands;
          whole = k.whole;
          going = going;
          cpus = are.cpus;
          due = are.first;
          same = are.same;
          place = omega (arith, room);
        };
        same = sym (s.calls ∙ turn_stays told (turns.Kicks bits) tt);
        stands = s.stands are.cpus are.first;
        whole = s.whole;
        first = k.first;
        places = s.places;
        arrays = subst (λ (x : Driver). KeepsKeeper c.job x.slots (past_of c)) (sym same) k.arrays;
        ends = k.ends;
        clear = k.clear;
        room = room;
      }

  used_of : (turn : PassTurn) → IsStepped c told turn p d m longer spare → OfEntry turn (λ e. IsUsedUp c.job (past_of c) e.event)
  used_of turn s = turn_used c.job (past_of c) c.driver.slots turn (going_of c (is_kicked c.pass)) s.due

  flat_of : (turn : PassTurn) → IsStepped c told turn p d m longer spare → OfEntry turn (λ e. EnclavesAreFlat (e ∷ past_of c))
  flat_of turn s = turn_flat (past_of c) c.pass p c.driver d c.machine m turn s.says k.book.flat

  told_of : (turn : PassTurn) → IsStepped c told turn p d m longer spare
      → OfEntry turn (λ e. AreTold c.job (past_of c) e told longer c.driver d)
  told_of turn s =
      turn_told c.job (past_of c) told longer c.pass p c.driver d c.machine m turn k.book.agrees.shows.counts k.book.agrees.shows.sized
      (can_step (machine_of c.job) c.job (past_of c) c.pass c.driver c.machine (course_ready c told before k) idle) s.says s.waits s.calls

  bytes_of : (turn : PassTurn) → IsStepped c told turn p d m longer spare
      → OfEntry turn (λ e. (calls : List Call) → CarriesBytes (machine_of c.job) c.job (past_of c) c.machine e m calls)
  bytes_of turn s =
      turn_bytes (machine_of c.job) c.job (past_of c) c.machine m c.driver.slots (going_of c (is_kicked c.pass)) turn s.due s.goes

  honest_of : (turn : PassTurn) → IsStepped c told turn p d m longer spare
      → OfEntry turn (λ e. StaysHonest (machine_of c.job) (past_of c) c.machine e m longer)
  honest_of turn s =
      turn_honest (machine_of c.job) (past_of c) longer c.pass p c.driver d c.machine m turn k.book.agrees.follows s.says s.goes

  -- whatever the turn made
  pub follows_by : is_some c.room ≡ true → (turn : PassTurn) → IsStepped c told turn p d m longer spare → FollowsBy behind turn longer spare
  follows_by some (turns.One e) s =
      by_entry (turns.One e) e s (next_of (turns.One e) s) (leaves_of (turns.One e) s) (tells_of (turns.One e) s).0
      (used_of (turns.One e) s) (flat_of (turns.One e) s) (told_of (turns.One e) s) (bytes_of (turns.One e) s) (honest_of (turns.One e) s)
      s.stands
  follows_by some (turns.Spent e) s =
      by_entry (turns.Spent e) e s (next_of (turns.Spent e) s) (leaves_of (turns.Spent e) s) (tells_of (turns.Spent e) s).0
      (used_of (turns.Spent e) s) (flat_of (turns.Spent e) s) (told_of (turns.Spent e) s) (bytes_of (turns.Spent e) s)
      (honest_of (turns.Spent e) s) s.stands
  follows_by some (turns.Seal e) s = (
    by_entry (turns.Seal e) e s (next_of (turns.Seal e) s) (leaves_of (turns.Seal e) s).0 (tells_of (turns.Seal e) s)
        (used_of (turns.Seal e) s) (flat_of (turns.Seal e) s) (told_of (turns.Seal e) s) (bytes_of (turns.Seal e) s)
        (honest_of (turns.Seal e) s) s.stands,
    ((leaves_of (turns.Seal e) s).1, some),
  )
  follows_by some (turns.Kicks bits) s = by_kicks bits s
  follows_by some (turns.Again reason) s = tt
