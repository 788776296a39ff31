-- A turn of kicks, one after another.
use Rattle.std.proofs.Common.{◌≡◌, ℕ, ◌+◌, ◌≤◌, ◌<◌, Bool, true, false, if◌then◌else◌, List, [], ◌∷◌}
use Rattle.std.proofs.Common.{◌++◌, All, Option, IfSome, Some, None, length, nat_lt, vec_len, vec_capacity, refl, sym, ap, subst}
use Rattle.std.proofs.Common.{◌∙◌, arith, append_assoc, length-append}
use Rattle.std.proofs.lemmas.List.{length-reverse}
use Rattle.std.proofs.lemmas.List.Elements.{All-append, All-cons, All-nil}
use Rattle.sgx_types.specs.declared.names.Actor.TheVariants as actors
use Rattle.sgx_rules.specs.declared.entries.Entry.{Entry}
use Rattle.sgx_rules.specs.declared.entries.Event.TheVariants.{Kick}
use Rattle.sgx_types.specs.Making.{Making}
use Rattle.job_grammar.specs.Jobs.{JobView}
use Rattle.backing_store.specs.Calls.{Call}
use Rattle.cached_translations.specs.declared.processor.Mode.TheVariants.{Outside}
use Rattle.script_rules.specs.Machines.{machine_of}
use Rattle.driver_slots.specs.inner.Keeper.{Keeper}
use Rattle.machine_laws.specs.inner.Shape.{FitsApart, ShapeWithRules}
use Rattle.sgx_machine.specs.inner.Parts.{state_of}
use Rattle.driver_laws.specs.inner.Three.{TcsAreApart}
use Rattle.driver_tables.specs.declared.driver.Driver.{Driver}
use Rattle.driver_tables.specs.inner.Asked.{IsNextOf}
use Rattle.driver_reclaim.specs.inner.Ready.{HasFirst}
use Rattle.driver_reclaim.specs.inner.After.{cpu_of, kicked_past}
use Rattle.driver_reclaim.specs.inner.Answers.{by_reclaimer}
use Rattle.driver_pass.specs.inner.Standing.{StandsAt}
use Rattle.driver_pass.specs.inner.Viewed.{is_amid, PassView, still_out}
use Rattle.run_laws.specs.inner.Books.{KeepsBook, with_own}
use Rattle.run_laws.specs.inner.Loads.{GoesOnWith}
use Rattle.run_records.specs.inner.Records.{StaysWith}
use Rattle.run_records.proofs.StepBytes.{note_bytes}
use Rattle.run_records.proofs.FlatSteps.{flat_other}
use Rattle.run_records.proofs.ToldLaws.{kick_told}
use Rattle.run_laws.specs.inner.Bits.{AllBelow, GoesOnBy, RisesFrom, below, has_bit}
use Rattle.run_laws.proofs.BitLaws.{below_all, below_more, bit_is, goes_on}
use Rattle.run_laws.proofs.KickLaws.{kick_next, kicked_more, kicks_in_order}
use Rattle.due_notes.specs.inner.Arrays.{KeepsKeeper}
use Rattle.due_notes.proofs.ArrayLaws.{arrays_stay}
use Rattle.due_tables.specs.inner.Ending.{EndsAreTold}
use Rattle.run_course.specs.declared.course.Course.{Course}
use Rattle.run_course.specs.inner.Courses.{Grows, IsClear, past_of}
use Rattle.run_course.specs.inner.Kicking.{CanKick, CanKickOne, HasKicked}
use Rattle.run_course.specs.inner.Passing.{IsOwnKicks}
use Rattle.run_course.specs.inner.Recording.{CanRecord, IsRecorded}
use Rattle.run_course.proofs.KeepLaws.{few_cpus, room_behind}
use Rattle.run_course.proofs.OwnLaws.{own_ends, own_none}
use Rattle.run_course.proofs.RecordLaws.{newest}
use Rattle.run_records.proofs.QuietLaws.{kick_honest}

abbrev kick : ℕ → Entry
kick p = by_reclaimer (Kick (cpu_of p))

-- ---- one kick

every : (P : List Call → Type 0) (told : Option (List Call)) → ((calls : List Call) → P calls) → IfSome told P
every P None all = tt
every P (Some calls) all = all calls

-- the machine goes on with its note
pub kick_goes : (c : Course) (p : ℕ) (can : CanKickOne c p)
    → ((making : Making) (past : List Entry) → ShapeWithRules making (state_of c.machine) past
    → ShapeWithRules making (state_of c.machine) (kick p ∷ past))
    → ((frames : ℕ) (past : List Entry) → FitsApart frames past → FitsApart frames (kick p ∷ past))
    → GoesOnWith (machine_of c.job) (past_of c) (kick p) c.machine
kick_goes c p can shape fits = record {
  shape = shape (machine_of c.job) (past_of c) can.book.agrees.follows;
  fits = fits (machine_of c.job).frames (past_of c) can.book.agrees.fits;
}

-- it can be recorded
pub kick_records : (c : Course) (p : ℕ) (can : CanKickOne c p) → GoesOnWith (machine_of c.job) (past_of c) (kick p) c.machine
    → StaysWith (state_of c.machine) (kick p) → CanRecord c Outside (kick p)
kick_records c p can goes stays = record {
  told = can.told;
  longer = can.told;
  d = c.driver;
  m = c.machine;
  tcs = can.tcs;
  book = can.book;
  made = record {
    next = can.next goes;
    own = refl;
    enters = tt;
    flat = flat_other (past_of c) (kick p) refl can.book.flat;
    store = kick_told c.job (past_of c) (kick p) (cpu_of p) can.told c.driver refl;
    bytes = every _ can.told (λ calls. note_bytes (machine_of c.job) c.job (past_of c) c.machine (kick p) calls tt stays);
    honest = kick_honest (machine_of c.job) (past_of c) (kick p) (cpu_of p) can.told c.machine refl;
  };
  stood = refl;
  place = can.place;
}

-- the course behind it
pub kicked_one : (c c' : Course) (p : ℕ) (can : CanKickOne c p) → GoesOnWith (machine_of c.job) (past_of c) (kick p) c.machine
    → StaysWith (state_of c.machine) (kick p)
    → ((take : CanRecord c Outside (kick p)) → IsRecorded c (kick p) take.longer c') → c'.entries.items ≡ c.entries.items ++ kick p ∷ []
    → vec_capacity c'.entries ≡ vec_capacity c.entries → c'.driver ≡ with_own c.driver c'.driver.active.own
    → c' ≡ record c { driver = c'.driver; turns = c'.turns; entries = c'.entries } → HasKicked c (p ∷ []) can.told c'
unfolding kick_records
kicked_one c c' p can goes stays book kept room driver others = record {
  book = book (kick_records c p can goes stays);
  past = newest c.entries.items c'.entries.items (kick p) kept;
  room = room;
  driver = driver;
  others = others;
}

-- ---- before the first one

pub none_kicked : (c : Course) (bits : ℕ) (can : CanKick c bits) → HasKicked c [] can.told c
none_kicked c bits can = record { book = can.book; past = refl; room = refl; driver = refl; others = refl }

-- ---- one more

pub kicked_twice : (a b c : Course) (cpus : List ℕ) (p : ℕ) (told : Option (List Call)) → HasKicked a cpus told b
    → HasKicked b (p ∷ []) told c → HasKicked a (cpus ++ (p ∷ [])) told c
kicked_twice a b c cpus p told one two =
    let job : b.job ≡ a.job = ap (λ (x : Course). x.job) one.others in
    let past : kick p ∷ past_of b ≡ kicked_past (cpus ++ (p ∷ [])) (past_of a) =
    ap (λ h. kick p ∷ h) one.past ∙ sym (kicked_more cpus p (past_of a)) in
    record {
      book = subst (λ h. KeepsBook (machine_of a.job) a.job h told c.driver c.machine c.turns) past
          (subst (λ (j : JobView). KeepsBook (machine_of j) j (kick p ∷ past_of b) told c.driver c.machine c.turns) job two.book);
      past = two.past ∙ past;
      room = two.room ∙ one.room;
      driver = two.driver ∙ ap (λ (d : Driver). with_own d c.driver.active.own) one.driver;
      others = two.others
          ∙ ap (λ (x : Course). record x { driver = c.driver; turns = c.turns; entries = c.entries }) one.others;
    }

-- ---- the next one

-- so many numbers rise below another one
rises_few : (from to : ℕ) (ps : List ℕ) → from ≤ to → RisesFrom from ps → AllBelow to ps → length ps + from ≤ to
rises_few from to [] low rises less = omega (arith, low)
rises_few from to (q ∷ qs) low rises less =
    let first = rises.0 in
    let top = less.0 in
    let rest = rises_few (q + 1) to qs (omega (arith, top)) rises.1 less.1 in
    omega (arith, rest, first)

kicked_length : (ps : List ℕ) (past : List Entry) → length (kicked_past ps past) ≡ length ps + length past
kicked_length [] past = omega arith
kicked_length (p ∷ ps) past = let more = kicked_length ps (kick p ∷ past) in omega (arith, more)

module _ (old : Course) (bits : ℕ) (can : CanKick old bits) where
  order : RisesFrom 0 can.cpus × AllBelow 16 can.cpus
  order = kicks_in_order old.job.start_epoch old.job (past_of old) can.before can.cpus can.stands can.whole can.due

  pub few_kicks : length can.cpus ≤ 16
  few_kicks = let few = rises_few 0 16 can.cpus (omega arith) order.0 order.1 in omega (arith, few)

  -- a processor whose bit is set can be kicked behind those below it
  pub next_kick : (c : Course) (p : ℕ) → p < 16 → has_bit bits p ≡ true → HasKicked old (below p can.cpus) can.told c → CanKickOne c p
  next_kick c p low set k =
      let on = goes_on p 0 can.cpus order.0 (sym (bit_is can.cpus p low) ∙ ap (λ n. has_bit n p) (sym can.same) ∙ set) in
      let job : c.job ≡ old.job = ap (λ (x : Course). x.job) k.others in
      record {
        told = can.told;
        tcs = subst TcsAreApart (sym job) can.tcs;
        book = subst (λ (j : JobView). KeepsBook (machine_of j) j (past_of c) can.told c.driver c.machine c.turns) (sym job)
            (subst (λ h. KeepsBook (machine_of old.job) old.job h can.told c.driver c.machine c.turns) (sym k.past) k.book);
        next = subst (λ (j : JobView). GoesOnWith (machine_of j) (past_of c) (kick p) c.machine
            → IsNextOf (machine_of j) j (past_of c) c.driver c.machine (kick p) c.driver c.machine) (sym job)
            (subst (λ h. GoesOnWith (machine_of old.job) h (kick p) c.machine
            → IsNextOf (machine_of old.job) old.job h c.driver c.machine (kick p) c.driver c.machine) (sym k.past)
            (kick_next old.job.start_epoch old.job (past_of old) can.before can.cpus can.stands can.whole can.due
            (machine_of old.job) c.driver c.machine (below p can.cpus) p on.rest can.going on.splits k.book.agrees));
        place = room c p on k;
      }
    where
      room : (c : Course) (p : ℕ) → GoesOnBy p can.cpus → HasKicked old (below p can.cpus) can.told c
          → vec_len c.entries + 1 ≤ vec_capacity c.entries
      room c p on k =
          let all = ap length on.splits ∙ length-append (below p can.cpus) (p ∷ on.rest) in
          let long = ap length k.past ∙ kicked_length (below p can.cpus) (past_of old) in
          let new = c.entries.ok.0 ∙ sym (length-reverse c.entries.items) in
          let before = old.entries.ok.0 ∙ sym (length-reverse old.entries.items) in
          let few = few_kicks in
          let place = can.place in
          let same = k.room in
          omega (arith, all, long, new, before, few, place, same)

  -- behind a number more, whether its bit is set or not
  bits_more : (p : ℕ) → p < 16 → below (p + 1) can.cpus ≡ (if has_bit bits p then below p can.cpus ++ (p ∷ []) else below p can.cpus)
  bits_more p low =
      below_more p 0 can.cpus order.0
      ∙ ap (λ b. if b then below p can.cpus ++ (p ∷ []) else below p can.cpus)
      (sym (bit_is can.cpus p low) ∙ ap (λ n. has_bit n p) (sym can.same))

  pub more_with : (p : ℕ) → p < 16 → has_bit bits p ≡ true → below (p + 1) can.cpus ≡ below p can.cpus ++ (p ∷ [])
  more_with p low set = bits_more p low ∙ ap (λ b. if b then below p can.cpus ++ (p ∷ []) else below p can.cpus) set

  pub more_without : (p : ℕ) → p < 16 → has_bit bits p ≡ false → below (p + 1) can.cpus ≡ below p can.cpus
  more_without p low set = bits_more p low ∙ ap (λ b. if b then below p can.cpus ++ (p ∷ []) else below p can.cpus) set

  -- behind the last number all are kicked
  pub all_kicked : below 16 can.cpus ≡ can.cpus
  all_kicked = below_all 16 can.cpus order.1

-- those below a number are no more than all
below_short : (p : ℕ) (ps : List ℕ) → length (below p ps) ≤ length ps
below_short p [] = omega arith
below_short p (q ∷ qs) = by_test (nat_lt q p) (below_short p qs)
  where
    by_test : (b : Bool) → length (below p qs) ≤ length qs → length (if b then q ∷ below p qs else below p qs) ≤ length (q ∷ qs)
    by_test true h = omega (arith, h)
    by_test false h = omega (arith, h)

pub few_below : (old : Course) (bits : ℕ) (can : CanKick old bits) (p : ℕ) → length (below p can.cpus) ≤ 16
few_below old bits can p = let short = below_short p can.cpus in let few = few_kicks old bits can in omega (arith, short, few)

-- one number more, by whether its bit is set
pub kicked_next : (old c c' : Course) (bits : ℕ) (can : CanKick old bits) (p n more : ℕ) → p < 16
    → HasKicked old (below p can.cpus) can.told c → n ≡ length (below p can.cpus) → (sets : Bool) → has_bit bits p ≡ sets
    → (sets ≡ true → (one : CanKickOne c p) → HasKicked c (p ∷ []) one.told c' × (more ≡ 1))
    → (sets ≡ false → (c' ≡ c) × (more ≡ 0))
    → HasKicked old (below (p + 1) can.cpus) can.told c' × (n + more ≡ length (below (p + 1) can.cpus))
unfolding next_kick
kicked_next old c c' bits can p n more low k count true set one none =
    let behind = one refl (next_kick old bits can c p low set k) in
    let all = more_with old bits can p low set in
    let long = ap length all ∙ length-append (below p can.cpus) (p ∷ []) in
    let step = behind.1 in (
      subst (λ ps. HasKicked old ps can.told c') (sym all) (kicked_twice old c c' (below p can.cpus) p can.told k behind.0),
      omega (arith, long, count, step),
    )
kicked_next old c c' bits can p n more low k count false set one none =
    let same = none refl in
    let all = more_without old bits can p low set in
    let long = ap length all in
    let step = same.1 in (
      subst (λ ps. HasKicked old ps can.told c') (sym all) (subst (HasKicked old (below p can.cpus) can.told) (sym same.0) k),
      omega (arith, long, count, step),
    )

-- ---- the course behind all

-- the entries of kicks, the newest first
abbrev entries_of : List ℕ → List Entry
entries_of [] = []
entries_of (p ∷ ps) = entries_of ps ++ (kick p ∷ [])

entries_are : (ps : List ℕ) (past : List Entry) → kicked_past ps past ≡ entries_of ps ++ past
entries_are [] past = refl
entries_are (p ∷ ps) past = entries_are ps (kick p ∷ past) ∙ sym (append_assoc (entries_of ps) (kick p ∷ []) past)

entries_many : (ps : List ℕ) → length (entries_of ps) ≡ length ps
entries_many [] = refl
entries_many (p ∷ ps) =
    let long = length-append (entries_of ps) (kick p ∷ []) in let more = entries_many ps in omega (arith, long, more)

entries_own : (ps : List ℕ) → All (λ (e : Entry). e.actor ≡ actors.Reclaimer) (entries_of ps)
entries_own [] = All-nil (λ (e : Entry). e.actor ≡ actors.Reclaimer)
entries_own (p ∷ ps) =
    All-append (λ (e : Entry). e.actor ≡ actors.Reclaimer) (entries_of ps) (kick p ∷ []) (entries_own ps)
    (All-cons (λ (e : Entry). e.actor ≡ actors.Reclaimer) (kick p) [] refl (All-nil (λ (e : Entry). e.actor ≡ actors.Reclaimer)))

arrays_kicked : (j : JobView) (keeper : Keeper) (ps : List ℕ) (past : List Entry) → KeepsKeeper j keeper past
    → KeepsKeeper j keeper (kicked_past ps past)
arrays_kicked j keeper [] past k = k
arrays_kicked j keeper (p ∷ ps) past k =
    arrays_kicked j keeper ps (kick p ∷ past) (arrays_stay j keeper keeper past (kick p) refl refl refl refl k)

ends_kicked : (ps : List ℕ) (past : List Entry) → EndsAreTold past → EndsAreTold (kicked_past ps past)
ends_kicked [] past k = k
ends_kicked (p ∷ ps) past k = ends_kicked ps (kick p ∷ past) (own_ends past (kick p) refl k)

clear_kicked : (j : JobView) (ps : List ℕ) (past : List Entry) → IsClear j past → IsClear j (kicked_past ps past)
clear_kicked j [] past k = k
clear_kicked j (p ∷ ps) past k =
    clear_kicked j ps (kick p ∷ past) (record { none = own_none past (kick p) refl k.none; spent = (refl, k.spent) })

first_kicked : (ps : List ℕ) (past : List Entry) → HasFirst past → HasFirst (kicked_past ps past)
first_kicked [] past k = k
first_kicked (p ∷ ps) past k = first_kicked ps (kick p ∷ past) (one_more past p k)
  where
    one_more : (past : List Entry) (p : ℕ) → HasFirst past → HasFirst (kick p ∷ past)
    one_more past p h g is = h g is

-- so many entries more
pub kicks_grow : (c c' : Course) (bits : ℕ) (longer : Option (List Call)) (spare n : ℕ) (own : IsOwnKicks c bits longer spare)
    → HasKicked c own.kick.cpus own.kick.told c' → n ≡ length own.kick.cpus → Grows c actors.Reclaimer n c' longer spare
kicks_grow c c' bits longer spare n own k count =
    record {
      entries = entries_of own.kick.cpus;
      count = entries_many own.kick.cpus ∙ sym count;
      actors = entries_own own.kick.cpus;
      past = k.past ∙ entries_are own.kick.cpus (past_of c);
      job = job;
      kicks = tt;
      keeps = record {
        tcs = subst TcsAreApart (sym job) own.kick.tcs;
        book = book;
        stands =
            subst (λ (j : JobView). StandsAt j.start_epoch j (past_of c') c'.pass) (sym job)
            (subst (λ h. StandsAt c.job.start_epoch c.job h c'.pass) (sym k.past)
            (subst (StandsAt c.job.start_epoch c.job (kicked_past own.kick.cpus (past_of c))) (sym passes) own.stands));
        whole = ap is_amid passes ∙ own.whole;
        first = subst HasFirst (sym k.past) (first_kicked own.kick.cpus (past_of c) own.first);
        places = subst (λ (x : PassView). still_out x ≤ spare) (sym passes) own.places;
        arrays =
            subst (λ (j : JobView). KeepsKeeper j c'.driver.slots (past_of c')) (sym job)
            (subst (KeepsKeeper c.job c'.driver.slots) (sym k.past)
            (arrays_kicked c.job c'.driver.slots own.kick.cpus (past_of c)
            (subst (λ (d : Driver). KeepsKeeper c.job d.slots (past_of c)) (sym k.driver) own.arrays)));
        ends = subst EndsAreTold (sym k.past) (ends_kicked own.kick.cpus (past_of c) own.ends);
        clear = subst (λ (j : JobView). IsClear j (past_of c')) (sym job)
            (subst (IsClear c.job) (sym k.past) (clear_kicked c.job own.kick.cpus (past_of c) own.clear));
        room = room_behind c' (few_cpus (machine_of c'.job) c'.job (past_of c') longer c'.driver c'.machine c'.turns book) room;
      };
    }
  where
    job : c'.job ≡ c.job
    job = ap (λ (x : Course). x.job) k.others

    passes : c'.pass ≡ c.pass
    passes = ap (λ (x : Course). x.pass) k.others

    book : KeepsBook (machine_of c'.job) c'.job (past_of c') longer c'.driver c'.machine c'.turns
    book =
        subst (λ (j : JobView). KeepsBook (machine_of j) j (past_of c') longer c'.driver c'.machine c'.turns) (sym job)
        (subst (λ h. KeepsBook (machine_of c.job) c.job h longer c'.driver c'.machine c'.turns) (sym k.past)
        (subst (λ told. KeepsBook (machine_of c.job) c.job (kicked_past own.kick.cpus (past_of c)) told c'.driver c'.machine c'.turns)
        own.same k.book))

    room : vec_len c'.entries + 34 ≤ vec_capacity c'.entries
    room =
        let long = ap length k.past ∙ kicked_length own.kick.cpus (past_of c) in
        let new = c'.entries.ok.0 ∙ sym (length-reverse c'.entries.items) in
        let before = c.entries.ok.0 ∙ sym (length-reverse c.entries.items) in
        let few = few_kicks c bits own.kick in
        let place = own.room in
        let same = k.room in
        omega (arith, long, new, before, few, place, same)
