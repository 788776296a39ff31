-- What a turn of the reclaimer answers.
use Rattle.std.proofs.Common.{◌≡◌, ℕ, ◌≤◌, ◌+◌, ◌⊎◌, inl, inr, zero, suc, Bool, true, false, if◌then◌else◌, List, [], ◌∷◌}
use Rattle.std.proofs.Common.{Option, None, Some}
use Rattle.std.proofs.Common.{vec_len, vec_capacity, refl, sym, ap, subst, ◌∙◌, arith}
use Rattle.sgx_types.specs.declared.names.Actor.{Actor}
use Rattle.sgx_types.specs.declared.names.Actor.TheVariants as actors
use Rattle.sgx_rules.specs.declared.entries.Entry.{Entry}
use Rattle.sgx_types.specs.Making.{Making}
use Rattle.driver_slots.specs.inner.Keeper.{Keeper}
use Rattle.driver_reclaim.specs.inner.Answers.{IsTurn, by_reclaimer}
use Rattle.std.specs.Global.{Box}
use Rattle.seal_record.specs.declared.seal.SealWork.{SealWork}
use Rattle.job_grammar.specs.Jobs.{JobView}
use Rattle.backing_store.specs.Calls.{Call}
use Rattle.script_rules.specs.Machines.{machine_of}
use Rattle.sgx_machine.specs.inner.Parts.{Parts}
use Rattle.driver_rules.specs.Dues.{Due, Ends, Fetches, Finished, KicksAll, LooksAt, Makes, Reports, Stopped, TriesOut}
use Rattle.driver_rules.specs.Dues as dues
use Rattle.driver_rules.specs.declared.waits.Why.{Why}
use Rattle.driver_rules.specs.declared.waits.Why.TheVariants as waits
use Rattle.sgx_types.specs.declared.names.Page.{Page}
use Rattle.driver_tables.specs.inner.Agrees.{Agrees}
use Rattle.driver_rules.specs.Ages.{Ahead, ahead, EndsNext, GoesOn, head_of, Looks, TriesNext}
use Rattle.driver_rules.specs.Passes as passes
use Rattle.driver_rules.specs.Passes.{keepers, pass}
use Rattle.driver_rules.specs.Places.{active, frame_leaving, Leaving, Place, place}
use Rattle.driver_rules.specs.Spares.{Outs, outs_kept}
use Rattle.driver_rules.specs.inner.Reclaims.{ahead_gives, all_finished, are_held, form_due, going_due, in_frame, leaving_due}
use Rattle.driver_rules.specs.inner.Reclaims.{look_at, pass_due}
use Rattle.driver_rules.specs.inner.Reclaims.{reclaimer_due_by, third_due, tries_out}
use Rattle.driver_rules.specs.inner.Slotted.{occupied}
use Rattle.driver_laws.specs.inner.Sound.{is_absent}
use Rattle.driver_laws.proofs.BuiltLaws.{not_all_out}
use Rattle.driver_rules.specs.Stops.{is_spent}
use Rattle.driver_rules.specs.inner.Stops.{frame_started, is_frame, started}
use Rattle.driver_tables.specs.declared.driver.Driver.{Driver}
use Rattle.driver_reclaim.specs.declared.turns.PassTurn.{PassTurn}
use Rattle.driver_reclaim.specs.declared.turns.PassTurn.TheVariants as passed
use Rattle.driver_reclaim.specs.inner.Rests.{IsWait}
use Rattle.driver_pass.specs.inner.Viewed.{is_kicked, is_sealing, PassView}
use Rattle.driver_reclaim.proofs.NextLaws.{next_is_pass}
use Rattle.run_course.specs.declared.course.Course.{Course}
use Rattle.run_course.specs.declared.turn.Turn.{Turn}
use Rattle.run_course.specs.declared.turn.Turn.TheVariants as turns
use Rattle.run_course.specs.inner.Courses.{Grows, IsSame, KeepsCourse, past_of}
use Rattle.run_course.specs.inner.Passing.{FollowsBy, HasKicks, HasOne, HasSealed, IsFollowed, IsOwnEntry, IsSealOf}
use Rattle.run_course.specs.inner.Turns.{IsAtRest, IsReclaimerTurn, IsReclaimerWait, KicksBy, MakesMany, due_of}
use Rattle.driver_reclaim.specs.inner.After.{cpu_of, kicked_past}
use Rattle.sgx_rules.specs.declared.entries.Event.TheVariants.{Kick}
use Rattle.run_course.proofs.PassTurnLaws.{IsSlotless, IsTurnEntry, TellsDue}
use Rattle.run_course.proofs.StartLaws.{none_started}
use Rattle.run_course.proofs.FollowLaws.{going_of, IsStepped, kicks_due, tells_of}
use Rattle.run_course.proofs.KeepLaws.{course_ready, same_self}
use Rattle.run_course.proofs.KickedLaws.{turn_kicks}
use Rattle.run_course.proofs.RestLaws.{rest_behind, rest_keeps, same_grows, same_past, same_twice}

-- ---- what is taken in

-- an entry of a turn that goes on, or that found nothing left
pub own_by : (c : Course) (turn : PassTurn) (e : Entry) (longer : Option (List Call)) (spare : ℕ)
    → (turn ≡ passed.One e) ⊎ (turn ≡ passed.Spent e) → FollowsBy c turn longer spare → IsOwnEntry c e longer spare
own_by c turn e longer spare (inl is) by = subst (λ t. FollowsBy c t longer spare) is by
own_by c turn e longer spare (inr is) by = subst (λ t. FollowsBy c t longer spare) is by

pub did_by : (old : Course) (turn : PassTurn) (e : Entry) (result : Turn) (new : Course) (told : Option (List Call)) (spare : ℕ)
    → (turn ≡ passed.One e) ⊎ (turn ≡ passed.Spent e) → HasOne e old result new told spare → IsFollowed old turn result new told spare
did_by old turn e result new told spare (inl is) h = subst (λ t. IsFollowed old t result new told spare) (sym is) h
did_by old turn e result new told spare (inr is) h = subst (λ t. IsFollowed old t result new told spare) (sym is) h

-- the room for the work of a page is no part of what a course keeps
room_grows : (old mid : Course) (by : Actor) (n : ℕ) (told : Option (List Call)) (spare : ℕ) (room : Option (Box SealWork))
    → Grows old by n mid told spare → Grows old by n (record mid { room = room }) told spare
room_grows old mid by n told spare room g = record {
  entries = g.entries;
  count = g.count;
  actors = g.actors;
  past = g.past;
  job = g.job;
  kicks = g.kicks;
  keeps = rest_keeps mid (record mid { room = room }) told spare (record {
    job = refl;
    state = refl;
    driver = refl;
    turns = refl;
    pass = refl;
    entries = refl;
    room = omega arith;
  }) g.keeps;
}

-- the work of a write-out that has started behind its entry
pub sealed_by : (old mid new : Course) (result : Turn) (told : Option (List Call)) (spare : ℕ) → IsSealOf mid result
    → new ≡ record mid { room = new.room } → Grows old actors.Reclaimer 1 mid told spare → HasSealed old result new told spare
sealed_by old mid new (turns.Seal work) told spare seals others grows =
    subst (λ c. HasSealed old (turns.Seal work) c told spare) (sym others)
    (seals, room_grows old mid actors.Reclaimer 1 told spare new.room grows)
sealed_by old mid new (turns.Did n) told spare seals others grows = absurd seals
sealed_by old mid new (turns.Unseal work) told spare seals others grows = absurd seals
sealed_by old mid new (turns.Again reason) told spare seals others grows = absurd seals
sealed_by old mid new turns.Finished told spare seals others grows = absurd seals
sealed_by old mid new turns.Stopped told spare seals others grows = absurd seals

-- .. or that was open before
pub seal_again : (c : Course) (result : Turn) (told : Option (List Call)) (spare : ℕ) → IsSealOf c result
    → IsReclaimerTurn c result c told spare
seal_again c (turns.Seal work) told spare seals = (seals, inr (same_self c))
seal_again c (turns.Did n) told spare seals = absurd seals
seal_again c (turns.Unseal work) told spare seals = absurd seals
seal_again c (turns.Again reason) told spare seals = absurd seals
seal_again c turns.Finished told spare seals = absurd seals
seal_again c turns.Stopped told spare seals = absurd seals

-- ---- a page that is tried leaves its frame

out_leaves : (past : List Entry) (g h : Page) (f : ℕ) → tries_out past h ≡ TriesOut g f → place past g ≡ Leaving f
out_leaves past g h f is = by_place (place past h) refl is
  where
    its_page : (a b : Page) (m n : ℕ) → TriesOut a m ≡ TriesOut b n → a ≡ b
    its_page a b m n k = cc

    its_frame : (a b : Page) (m n : ℕ) → TriesOut a m ≡ TriesOut b n → m ≡ n
    its_frame a b m n k = cc

    by_place : (at : Place) → place past h ≡ at → in_frame h (frame_leaving at) (TriesOut h) ≡ TriesOut g f → place past g ≡ Leaving f
    by_place (Leaving n) at k = subst (λ x. place past x ≡ Leaving f) (its_page h g n f k) (at ∙ ap Leaving (its_frame h g n f k))
    by_place _ at k = cc

none_leaves : (past : List Entry) (g h : Page) (f : ℕ) (to : ℕ → Due) → ((n : ℕ) → to n ≡ TriesOut g f → ⊥)
    → leaving_due past h to ≡ TriesOut g f → ⊥
none_leaves past g h f to none is = by_frame (frame_leaving (place past h)) is
  where
    by_frame : (o : Option ℕ) → in_frame h o to ≡ TriesOut g f → ⊥
    by_frame None k = cc
    by_frame (Some n) k = none n k

third_leaves : (past : List Entry) (g h : Page) (f : ℕ) (ps : List ℕ) → third_due past h ps ≡ TriesOut g f → place past g ≡ Leaving f
third_leaves past g h f [] is = out_leaves past g h f is
third_leaves past g h f (p ∷ ps) is = cc

form_leaves : (past : List Entry) (g h : Page) (f : ℕ) (kicked : Bool) (form : passes.Form) → form_due past h kicked form ≡ TriesOut g f
    → place past g ≡ Leaving f
form_leaves past g h f kicked passes.First is = out_leaves past g h f is
form_leaves past g h f kicked passes.ToTrack is = cc
form_leaves past g h f kicked passes.Second is = out_leaves past g h f is
form_leaves past g h f true passes.ToKick is = third_leaves past g h f (keepers past h) is
form_leaves past g h f false passes.ToKick is = cc
form_leaves past g h f kicked (passes.Kicks rest) is = cc
form_leaves past g h f kicked passes.Third is = third_leaves past g h f (keepers past h) is
form_leaves past g h f kicked passes.Sealing is = absurd (none_leaves past g h f _ (λ n k. cc) is)

look_leaves : (j : JobView) (past : List Entry) (g : Page) (f : ℕ) (o : Option Page) → look_at j past o ≡ TriesOut g f → ⊥
look_leaves j past g f None is = cc
look_leaves j past g f (Some h) is = cc

pass_leaves : (j : JobView) (past : List Entry) (g : Page) (f : ℕ) (kicked : Bool) (at : passes.Pass)
    → pass_due j past kicked at ≡ TriesOut g f → place past g ≡ Leaving f
pass_leaves j past g f kicked (passes.Between false) is = cc
pass_leaves j past g f kicked (passes.Between true) is = absurd (by_held (are_held j past) is)
  where
    by_held : (b : Bool) → (if b then dues.Waits waits.AllHeld else look_at j past (head_of (active past))) ≡ TriesOut g f → ⊥
    by_held true k = cc
    by_held false k = look_leaves j past g f (head_of (active past)) k
pass_leaves j past g f kicked (passes.Scan left taken) is = absurd (look_leaves j past g f (head_of (active past)) is)
pass_leaves j past g f kicked (passes.Blocking [] taken) is = cc
pass_leaves j past g f kicked (passes.Blocking (h ∷ hs) taken) is = absurd (none_leaves past g h f _ (λ n k. cc) is)
pass_leaves j past g f kicked (passes.Tries h rest form) is = form_leaves past g h f kicked form is

going_leaves : (j : JobView) (past : List Entry) (out : Outs) (kicked : Bool) (g : Page) (f : ℕ)
    → going_due j past out kicked ≡ TriesOut g f → place past g ≡ Leaving f
going_leaves j past out kicked g f is = by_ahead (ahead j past out) is
  where
    by_ahead : (x : Ahead) → ahead_gives j past kicked x ≡ TriesOut g f → place past g ≡ Leaving f
    by_ahead GoesOn k = pass_leaves j past g f kicked (pass j past) k
    by_ahead (Looks h) k = cc
    by_ahead (TriesNext h) k = out_leaves past g h f k
    by_ahead (EndsNext h) k = absurd (none_leaves past g h f _ (λ n l. cc) k)

-- ---- a turn of the pass

-- an entry of it starts nothing, but in a turn that says so
own_of : (slots : Keeper) (due : Due) (turn : PassTurn) (e : Entry) → (turn ≡ passed.One e) ⊎ (turn ≡ passed.Spent e)
    → TellsDue slots due turn → IsTurnEntry e × (frame_started (Some e.event) ≡ None)
own_of slots due turn e (inl is) tells = subst (TellsDue slots due) is tells
own_of slots due turn e (inr is) tells = subst (TellsDue slots due) is tells

none_own : (past : List Entry) (e : Entry) → e.actor ≡ actors.Reclaimer → frame_started (Some e.event) ≡ None
    → started (e ∷ past) actors.Reclaimer ≡ false
none_own past e mine none = rw mine (ap is_frame none)

none_kicked : (ps : List ℕ) (past : List Entry) → started past actors.Reclaimer ≡ false
    → started (kicked_past ps past) actors.Reclaimer ≡ false
none_kicked [] past h = h
none_kicked (p ∷ ps) past h = none_kicked ps (by_reclaimer (Kick (cpu_of p)) ∷ past) refl

-- a turn of one entry
makes_one : (made : Making) (j : JobView) (past : List Entry) (slots : Keeper) (due : Due) (turn : PassTurn) (e : Entry)
    → (turn ≡ passed.One e) ⊎ (turn ≡ passed.Spent e) → IsTurn made j past slots due turn → MakesMany due 1
makes_one made j past slots (LooksAt page held young) turn e is s = refl
makes_one made j past slots (Makes action) turn e is s = refl
makes_one made j past slots (TriesOut g f) turn e is s = refl
makes_one made j past slots (dues.Waits reason) turn e (inl is) s = absurd (let both = sym is ∙ s in cc)
makes_one made j past slots (dues.Waits reason) turn e (inr is) s = absurd (let both = sym is ∙ s in cc)
makes_one made j past slots (KicksAll cpus) turn e (inl is) s = absurd (let both = sym is ∙ s in cc)
makes_one made j past slots (KicksAll cpus) turn e (inr is) s = absurd (let both = sym is ∙ s in cc)
makes_one made j past slots Stopped turn e is s = absurd s
makes_one made j past slots Finished turn e is s = absurd s
makes_one made j past slots (Ends action) turn e is s = absurd s
makes_one made j past slots (Reports page reason) turn e is s = absurd s
makes_one made j past slots (Fetches page fetch) turn e is s = absurd s

module _ (c : Course) (told longer : Option (List Call)) (before spare : ℕ) (p : PassView) (d : Driver) (m : Parts) (c' : Course)
    (k : KeepsCourse c told before) (going : is_spent (past_of c) ≡ false) (room : vec_len c.entries + 64 ≤ vec_capacity c.entries)
    (idle : is_sealing c.pass ≡ false) (some : all_finished c.job (past_of c) ≡ false) where
  abbrev after : Course
  after = record c { pass = p; driver = d; machine = m }

  -- nothing that a course keeps has changed where it waits
  abbrev Waits : PassTurn → Type 0
  Waits turn = IsWait turn → (d ≡ c.driver) × (p ≡ c.pass)

  rests : (reason : _) → IsStepped c told (passed.Again reason) p d m longer spare → Waits (passed.Again reason) → IsAtRest c after
  rests reason s waits = record {
    job = refl;
    state = s.goes;
    driver = (waits tt).0;
    turns = refl;
    pass = (waits tt).1;
    entries = refl;
    room = omega arith;
  }

  due_is : due_of c ≡ going_of c (is_kicked c.pass)
  due_is = next_is_pass (machine_of c.job) c.job (past_of c) c.pass c.driver c.machine (is_kicked c.pass)
      (course_ready c told before k) k.book.age idle going some

  -- no write-out is open before it
  calm : started (past_of c) actors.Reclaimer ≡ false
  calm = ap is_frame
      (none_started c.job.start_epoch c.job (past_of c) c.pass k.stands k.book.age idle)

  -- whether the pass is behind the turn of kicks
  kicked_by : (turn : PassTurn) → IsStepped c told turn p d m longer spare → Waits turn → (behind : Bool) → behind ≡ is_kicked p
      → KicksBy (due_of c) (is_kicked c.pass) behind
  kicked_by turn s waits behind same =
      subst (λ due. KicksBy due (is_kicked c.pass) behind) (sym due_is)
      (subst (KicksBy (going_of c (is_kicked c.pass)) (is_kicked c.pass)) (sym same)
      (turn_kicks (machine_of c.job) c.job (past_of c) c.pass p c.driver d c.machine m turn (course_ready c told before k) s.says
      (λ w. (waits w).1) s.due))

  one : (turn : PassTurn) (e : Entry) (result : Turn) → (turn ≡ passed.One e) ⊎ (turn ≡ passed.Spent e)
      → IsStepped c told turn p d m longer spare → Waits turn → HasOne e after result c' longer spare
      → IsReclaimerTurn c result c' longer spare
  one turn e (turns.Did n) is s waits g =
      let own = own_of c.driver.slots (going_of c (is_kicked c.pass)) turn e is
      (tells_of c told longer before spare p d m k going idle room turn s) in
      subst (λ n. MakesMany (due_of c) n × KicksBy (due_of c) (is_kicked c.pass) (is_kicked c'.pass)
      × (started (past_of c') actors.Reclaimer ≡ false) × Grows c actors.Reclaimer n c' longer spare)
      (sym g.0) (
        subst (λ due. MakesMany due 1) (sym due_is)
            (makes_one (machine_of c.job) c.job (past_of c) c.driver.slots (going_of c (is_kicked c.pass)) turn e is s.due),
        kicked_by turn s waits (is_kicked c'.pass) g.2,
        subst (λ h. started h actors.Reclaimer ≡ false) (sym g.1) (none_own (past_of c) e own.0.actor own.1),
        same_grows c after c' actors.Reclaimer 1 longer spare refl refl tt g.3,
      )
  one turn e (turns.Seal work) is s waits g = absurd g
  one turn e (turns.Unseal work) is s waits g = absurd g
  one turn e (turns.Again reason) is s waits g = absurd g
  one turn e turns.Finished is s waits g = absurd g
  one turn e turns.Stopped is s waits g = absurd g

  kicks : (bits : ℕ) (result : Turn) → IsStepped c told (passed.Kicks bits) p d m longer spare → HasKicks after result c' longer spare
      → IsReclaimerTurn c result c' longer spare
  kicks bits (turns.Did n) s g =
      let are = kicks_due c told longer before spare p d m k going idle room bits s in
      let both = g.0 are.cpus are.first in (
        subst (λ due. MakesMany due n) (sym (due_is ∙ are.due)) both.0,
        kicked_by (passed.Kicks bits) s (λ w. absurd w) (is_kicked c'.pass) g.1,
        subst (λ h. started h actors.Reclaimer ≡ false) (sym both.1) (none_kicked are.cpus (past_of c) calm),
        same_grows c after c' actors.Reclaimer n longer spare refl refl tt g.2,
      )
  kicks bits (turns.Seal work) s g = absurd g
  kicks bits (turns.Unseal work) s g = absurd g
  kicks bits (turns.Again reason) s g = absurd g
  kicks bits turns.Finished s g = absurd g
  kicks bits turns.Stopped s g = absurd g

  sealed : (result : Turn) → HasSealed after result c' longer spare → IsReclaimerTurn c result c' longer spare
  sealed (turns.Seal work) g = (g.0, inl (same_grows c after c' actors.Reclaimer 1 longer spare refl refl tt g.1))
  sealed (turns.Did n) g = absurd g
  sealed (turns.Unseal work) g = absurd g
  sealed (turns.Again reason) g = absurd g
  sealed turns.Finished g = absurd g
  sealed turns.Stopped g = absurd g

  -- where it waits for a slot, a try found its slot in use
  waits_for : (reason : Why)
      → (going_of c (is_kicked c.pass) ≡ dues.Waits reason) ⊎ IsSlotless c.driver.slots (going_of c (is_kicked c.pass)) reason
      → IsReclaimerWait c.job (past_of c) (due_of c) reason
  waits_for reason (inl is) = subst (λ due. IsReclaimerWait c.job (past_of c) due reason) (sym (due_is ∙ is)) refl
  waits_for reason (inr none) =
      subst (λ due. IsReclaimerWait c.job (past_of c) due reason) (sym (due_is ∙ none.due_is))
      (none.same, none.own, by_count (occupied (past_of c)) refl)
    where
      a : Agrees (machine_of c.job) c.job (past_of c) c.driver c.machine
      a = k.book.agrees

      by_count : (n : ℕ) → occupied (past_of c) ≡ n → 1 ≤ n
      by_count zero is =
          absurd (not_all_out c.job c.driver.slots (past_of c) none.page a.sound a.shows.slots a.counted a.built is none.own
          (ap is_absent (going_leaves c.job (past_of c) (outs_kept c.job (past_of c)) (is_kicked c.pass) none.page none.frame none.due_is))
          none.out)
      by_count (suc n) is = omega arith

  -- what it answers
  pub turn_answers : (turn : PassTurn) (result : Turn) → IsStepped c told turn p d m longer spare → Waits turn
      → IsFollowed after turn result c' longer spare → IsReclaimerTurn c result c' longer spare
  turn_answers (passed.One e) result s waits h = one (passed.One e) e result (inl refl) s waits h
  turn_answers (passed.Spent e) result s waits h = one (passed.Spent e) e result (inr refl) s waits h
  turn_answers (passed.Kicks bits) result s waits h = kicks bits result s h
  turn_answers (passed.Seal e) result s waits h = sealed result h
  turn_answers (passed.Again reason) result s waits h =
      let told_due = tells_of c told longer before spare p d m k going idle room (passed.Again reason) s in
      subst (λ r. IsReclaimerTurn c r c' longer spare) (sym h.0)
      (waits_for reason told_due, subst (IsAtRest c) (sym h.1) (rests reason s waits))

  one_keeps : (e : Entry) (result : Turn) → HasOne e after result c' longer spare → KeepsCourse c' longer spare
  one_keeps e (turns.Did n) g = g.3.keeps
  one_keeps e (turns.Seal work) g = absurd g
  one_keeps e (turns.Unseal work) g = absurd g
  one_keeps e (turns.Again reason) g = absurd g
  one_keeps e turns.Finished g = absurd g
  one_keeps e turns.Stopped g = absurd g

  kicks_keep : (result : Turn) → HasKicks after result c' longer spare → KeepsCourse c' longer spare
  kicks_keep (turns.Did n) g = g.2.keeps
  kicks_keep (turns.Seal work) g = absurd g
  kicks_keep (turns.Unseal work) g = absurd g
  kicks_keep (turns.Again reason) g = absurd g
  kicks_keep turns.Finished g = absurd g
  kicks_keep turns.Stopped g = absurd g

  sealed_keeps : (result : Turn) → HasSealed after result c' longer spare → KeepsCourse c' longer spare
  sealed_keeps (turns.Seal work) g = g.1.keeps
  sealed_keeps (turns.Did n) g = absurd g
  sealed_keeps (turns.Unseal work) g = absurd g
  sealed_keeps (turns.Again reason) g = absurd g
  sealed_keeps turns.Finished g = absurd g
  sealed_keeps turns.Stopped g = absurd g

  -- .. and what stands behind it
  pub turn_keeps : (turn : PassTurn) (result : Turn) → IsStepped c told turn p d m longer spare → Waits turn
      → (IsWait turn → KeepsCourse c longer spare) → IsFollowed after turn result c' longer spare → KeepsCourse c' longer spare
  turn_keeps (passed.One e) result s waits still h = one_keeps e result h
  turn_keeps (passed.Spent e) result s waits still h = one_keeps e result h
  turn_keeps (passed.Kicks bits) result s waits still h = kicks_keep result h
  turn_keeps (passed.Seal e) result s waits still h = sealed_keeps result h
  turn_keeps (passed.Again reason) result s waits still h =
      subst (λ x. KeepsCourse x longer spare) (sym h.1) (rest_keeps c after longer spare (rests reason s waits) (still tt))

-- ---- behind room for it

same_due : (a b : Course) → IsSame a b → due_of b ≡ due_of a
same_due a b same =
    ap (λ (j : JobView). reclaimer_due_by j (past_of b) (outs_kept j (past_of b)) (is_kicked b.pass)) same.job
    ∙ ap (λ past. reclaimer_due_by a.job past (outs_kept a.job past) (is_kicked b.pass)) (same_past a b same.entries)
    ∙ ap (λ (v : PassView). reclaimer_due_by a.job (past_of a) (outs_kept a.job (past_of a)) (is_kicked v)) same.pass

-- a course that is the same answers the same
pub same_answers : (a b c : Course) (result : Turn) (told : Option (List Call)) (spare : ℕ) → IsSame a b
    → IsReclaimerTurn b result c told spare → IsReclaimerTurn a result c told spare
same_answers a b c (turns.Did n) told spare same g = (
  subst (λ due. MakesMany due n) (same_due a b same) g.0,
  subst (λ (v : PassView). KicksBy (due_of a) (is_kicked v) (is_kicked c.pass)) same.pass
      (subst (λ due. KicksBy due (is_kicked b.pass) (is_kicked c.pass)) (same_due a b same) g.1),
  g.2,
  same_grows a b c actors.Reclaimer n told spare same.job (same_past a b same.entries) tt g.3,
)
same_answers a b c (turns.Seal work) told spare same (seals, inl g) =
    (seals, inl (same_grows a b c actors.Reclaimer 1 told spare same.job (same_past a b same.entries) tt g))
same_answers a b c (turns.Seal work) told spare same (seals, inr h) = (seals, inr (same_twice a b c same h))
same_answers a b c (turns.Again reason) told spare same h = (
  subst (λ (j : JobView). IsReclaimerWait j (past_of a) (due_of a) reason) same.job
      (subst (λ past. IsReclaimerWait b.job past (due_of a) reason) (same_past a b same.entries)
      (subst (λ due. IsReclaimerWait b.job (past_of b) due reason) (same_due a b same) h.0)),
  rest_behind a b c same h.1,
)
same_answers a b c turns.Finished told spare same h = (sym (same_due a b same) ∙ h.0, same_twice a b c same h.1)
same_answers a b c turns.Stopped told spare same h =
    (ap is_spent (sym (same_past a b same.entries)) ∙ h.0, same_twice a b c same h.1)
same_answers a b c (turns.Unseal work) told spare same h = absurd h
