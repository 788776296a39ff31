-- The tables that show some entries show one more.
use Rattle.std.proofs.Common.{◌≡◌, ℕ, ◌+◌, ◌-◌, ◌==◌, ◌<◌, ◌≤◌, ◌||◌, Bool, true, false}
use Rattle.std.proofs.Common.{if◌then◌else◌, List, ◌∷◌, Option, Some, None, is_some, length, map, drop, get_or, set, refl, sym}
use Rattle.std.proofs.Common.{ap, subst, ◌∙◌, arith}
use Rattle.std.specs.Option.{option_map}
use Rattle.std.proofs.lemmas.Bool.{eqb-false, eqb-true}
use Rattle.std.proofs.lemmas.List.{drop-drop, get_or-set_other, get_or-set_same, length-set}
use Rattle.sgx_rules.specs.declared.entries.Action.TheVariants as actions
use Rattle.sgx_types.specs.declared.names.Actor.{Actor}
use Rattle.sgx_types.specs.declared.names.Actor.TheVariants as actors
use Rattle.sgx_rules.specs.declared.entries.Cause.{Cause}
use Rattle.sgx_rules.specs.declared.entries.Cause.TheVariants as causes
use Rattle.sgx_rules.specs.declared.entries.Entry.{Entry}
use Rattle.sgx_rules.specs.declared.entries.Event.{Event}
use Rattle.sgx_rules.specs.declared.entries.Event.TheVariants.{Did, Refused, Age, Kick, Bus}
use Rattle.sgx_types.specs.declared.names.Cpu.{Cpu}
use Rattle.sgx_types.specs.declared.names.Frame.{Frame}
use Rattle.sgx_types.specs.declared.names.Page.{Page}
use Rattle.sgx_rules.specs.declared.refusals.Refusal.{Refusal}
use Rattle.sgx_rules.specs.declared.refusals.Refusal.TheVariants as why
use Rattle.sgx_types.specs.Pages.{page_at, same_page}
use Rattle.sgx_rules.specs.Processors.{Seat, Stay, is_by, stay}
use Rattle.sgx_rules.specs.Starts.{open_start}
use Rattle.sgx_types.proofs.Pages.{same_pages}
use Rattle.sgx_types.proofs.Truths.{eqb-refl}
use Rattle.sgx_types.proofs.Lists.{get_or-set_if}
use Rattle.cached_translations.specs.declared.processor.Mode.{Mode}
use Rattle.cached_translations.specs.declared.processor.Mode.TheVariants.{Inside, Outside}
use Rattle.job_grammar.specs.declared.jobs.PageLine.{PageLine}
use Rattle.job_grammar.specs.declared.jobs.PageLine.TheVariants as lines
use Rattle.job_grammar.specs.Jobs.{JobView, lines_at, tcs_line}
use Rattle.script_rules.specs.declared.cursor.BuildCursor.{BuildCursor}
use Rattle.script_rules.specs.inner.Cursor.{IsCursor, left}
use Rattle.script_rules.specs.Script.{build_of, built, is_initialised, is_interrupted, is_seated_at, replied, saved_frames}
use Rattle.machine_laws.specs.inner.Columns.{seat_of_stay}
use Rattle.sgx_machine.specs.inner.Parts.{seat_of_mode}
use Rattle.driver_rules.specs.Needs.{Interruption, interrupted_by, interrupted_in, interruption, interruption_after}
use Rattle.driver_rules.specs.Stops.{is_bus, spends}
use Rattle.driver_rules.specs.Turns.{start_fails}
use Rattle.driver_rules.specs.Turns.{fails_with, is_kicked, kicked_after, last_by, last_of, load_of}
use Rattle.driver_laws.specs.inner.Loads.{EndsOwn, LoadsAreTheirs}
use Rattle.driver_laws.proofs.EndLaws.{their_rule}
use Rattle.driver_laws.proofs.SoundLaws.{entry_of}
use Rattle.due_tables.specs.declared.cpu_turns.CpuTurn.{CpuTurn}
use Rattle.due_tables.specs.declared.cpu_turns.Interruption as kept
use Rattle.due_tables.specs.declared.cpu_turns.Last as lasts
use Rattle.due_tables.specs.declared.cpu_turns.Last.TheVariants as ways
use Rattle.due_tables.specs.declared.tcs_turns.TcsTurn.{TcsTurn}
use Rattle.due_tables.specs.declared.turns.Turns.{Turns}
use Rattle.due_tables.specs.inner.CpuTurns.{first_turn, interruption_told, last_told, turn_at}
use Rattle.due_tables.specs.inner.TcsTurns.{changed, one_less, one_more, tcs_at, tcs_by}
use Rattle.due_tables.specs.inner.Entries.{CanNote, StoodSo}
use Rattle.due_tables.specs.inner.Noting.{start_failed}
use Rattle.due_tables.specs.inner.Noting.{IsBuilt, IsNoted, broken_after, broken_by, broken_in, failed_by, inits_after, kicked}
use Rattle.due_tables.specs.inner.Noting.{last_after}
use Rattle.due_tables.specs.inner.Noting.{more_if, page_inside, page_left, page_loaded, saves_after, turn_after, with_kick}
use Rattle.due_tables.specs.inner.Noting.{with_own}
use Rattle.due_tables.specs.inner.Shown.{ShowsCpu, ShowsTurns}
use Rattle.due_tables.proofs.TableLaws.{changed_at, lengths_changed}

-- ---- the builder

record Stands (j : JobView) (past : List Entry) (c : BuildCursor) : Type 0 where
  within : IsCursor j c
  steps : left j c ≡ drop (built past) (build_of j)

stands_on : (j : JobView) (past : List Entry) (a : Actor) (ev : Event) (old new : BuildCursor) → IsBuilt j a old new → Stands j past old
    → Stands j (entry_of a ev ∷ past) new
stands_on j past actors.Builder ev old new is s = record {
  within = is.within;
  steps = is.steps ∙ ap (drop 1) s.steps ∙ drop-drop 1 (built past) (build_of j);
}
stands_on j past (actors.Cpu p) ev old new is s = record { within = subst (IsCursor j) (sym is) s.within; steps = ap (left j) is ∙ s.steps }
stands_on j past actors.Reclaimer ev old new is s = record {
  within = subst (IsCursor j) (sym is) s.within;
  steps = ap (left j) is
      ∙ s.steps;
}

-- ---- kicks

abbrev kick_if : Event → ℕ → CpuTurn → CpuTurn
kick_if (Kick cpu) p x = if cpu.0 == p then kicked x else x
kick_if _ p x = x

kick_at : (ev : Event) (turns : List CpuTurn) (p : ℕ) → p < length turns
    → turn_at (with_kick ev turns) p ≡ kick_if ev p (turn_at turns p)
kick_at (Kick cpu) turns p low = by_test (cpu.0 == p) refl
  where
    by_test : (b : Bool) → (cpu.0 == p) ≡ b
        → turn_at (set turns cpu.0 (kicked (turn_at turns cpu.0))) p ≡ (if b then kicked (turn_at turns p) else turn_at turns p)
    by_test true is =
        let same : cpu.0 ≡ p = eqb-true cpu.0 p is in
        get_or-set_if turns cpu.0 p (kicked (turn_at turns cpu.0)) first_turn (omega (arith, same, low))
        ∙ rw (is, same) refl
    by_test false is = get_or-set_other turns cpu.0 p (kicked (turn_at turns cpu.0)) first_turn (λ same. eqb-false cpu.0 p is (sym same))
kick_at (Did action answer) turns p low = refl
kick_at (Refused action refusal) turns p low = refl
kick_at (Age page look) turns p low = refl
kick_at (Bus page reason) turns p low = refl

-- a kick leaves all else as it is
record IsAsBefore (x y : CpuTurn) : Type 0 where
  replied : y.replied ≡ x.replied
  interruption : y.interruption ≡ x.interruption
  last : y.last ≡ x.last

kick_leaves : (ev : Event) (p : ℕ) (x : CpuTurn) → IsAsBefore x (kick_if ev p x)
kick_leaves (Kick cpu) p x = by_test (cpu.0 == p)
  where
    by_test : (b : Bool) → IsAsBefore x (if b then kicked x else x)
    by_test true = record { replied = refl; interruption = refl; last = refl }
    by_test false = record { replied = refl; interruption = refl; last = refl }
kick_leaves (Did action answer) p x = record { replied = refl; interruption = refl; last = refl }
kick_leaves (Refused action refusal) p x = record { replied = refl; interruption = refl; last = refl }
kick_leaves (Age page look) p x = record { replied = refl; interruption = refl; last = refl }
kick_leaves (Bus page reason) p x = record { replied = refl; interruption = refl; last = refl }

-- whether a kick is pending then
kick_is : (ev : Event) (p : ℕ) (x : CpuTurn) (k : Bool) → x.is_kicked ≡ k → (kick_if ev p x).is_kicked ≡ kicked_after ev p false k
kick_is (Kick cpu) p x k is = by_test (cpu.0 == p)
  where
    by_test : (b : Bool) → (if b then kicked x else x).is_kicked ≡ (if b then true else k)
    by_test true = refl
    by_test false = is
kick_is (Did actions.Exit answer) p x k is = is
kick_is (Did (actions.Aex cause) answer) p x k is = is
kick_is (Did action answer) p x k is = is
kick_is (Refused action refusal) p x k is = is
kick_is (Age page look) p x k is = is
kick_is (Bus page reason) p x k is = is

own_kick_is : (ev : Event) (p : ℕ) (before : Mode) (x : CpuTurn) (k : Bool) → x.is_kicked ≡ k
    → (kick_if ev p (turn_after ev before x)).is_kicked ≡ kicked_after ev p true k
own_kick_is (Kick cpu) p before x k is = by_test (cpu.0 == p)
  where
    by_test : (b : Bool)
        → (if b then kicked (turn_after (Kick cpu) before x) else turn_after (Kick cpu) before x).is_kicked ≡ (if b then true else k)
    by_test true = refl
    by_test false = is
own_kick_is (Did actions.Exit answer) p before x k is = refl
own_kick_is (Did (actions.Aex cause) answer) p before x k is = refl
own_kick_is (Did action answer) p before x k is = is
own_kick_is (Refused action refusal) p before x k is = is
own_kick_is (Age page look) p before x k is = is
own_kick_is (Bus page reason) p before x k is = is

-- ---- interruptions

broken_told : (before : Mode) (s : Option Stay) (b : Bool) → seat_of_mode before ≡ seat_of_stay s
    → interruption_told (broken_in before b) ≡ interrupted_in s b
broken_told Outside None b is = refl
broken_told Outside (Some s) b is = cc
broken_told (Inside e t tf sf epoch) None b is = cc
broken_told (Inside e t tf sf epoch) (Some s) b is = ap (λ seat. interruption_of seat) same
  where
    interruption_of : Seat → Option Interruption
    interruption_of seat = Some (record { enclave = seat.enclave; tcs = seat.tcs; for_page = b })

    same : record { enclave = e; tcs = t; tcs_frame = tf.0; ssa_frame = sf.0 } ≡ s.seat
    same = cc

cause_told : (cause : Cause) (before : Mode) (s : Option Stay) → seat_of_mode before ≡ seat_of_stay s
    → interruption_told (broken_by cause before) ≡ interrupted_by cause s
cause_told causes.Timer before s is = refl
cause_told causes.Fault before s is = broken_told before s true is
cause_told causes.Kick before s is = broken_told before s false is
cause_told causes.End before s is = refl

after_told : (ev : Event) (before : Mode) (s : Option Stay) (i : Option kept.Interruption) (o : Option Interruption)
    → seat_of_mode before ≡ seat_of_stay s → interruption_told i ≡ o
    → interruption_told (broken_after ev before i) ≡ interruption_after ev s o
after_told (Did (actions.Enter e t tf sf) answer) before s i o is h = refl
after_told (Did (actions.Resume e t tf sf) answer) before s i o is h = refl
after_told (Did actions.Exit answer) before s i o is h = refl
after_told (Did (actions.Aex cause) answer) before s i o is h = cause_told cause before s is
after_told (Did action answer) before s i o is h = h
after_told (Refused action refusal) before s i o is h = h
after_told (Age page look) before s i o is h = h
after_told (Kick cpu) before s i o is h = h
after_told (Bus page reason) before s i o is h = h

told_some : (i : Option kept.Interruption) → is_some (interruption_told i) ≡ is_some i
told_some None = refl
told_some (Some i) = refl

-- ---- how its last entry left it

fails_told : (o : Option Page) (refusal : Refusal) → last_told (failed_by o refusal) ≡ fails_with o refusal
fails_told (Some page) (why.MacFail given computed) = refl
fails_told (Some page) (why.BadHeader enclave address flags) = refl
fails_told (Some page) refusal = refl
fails_told None refusal = refl

-- the load that it ends is its own
loaded_told : (past : List Entry) (p n : ℕ) (x : lasts.Last) → LoadsAreTheirs past → last_told x ≡ last_of past p
    → (refusal : Refusal) (f : Frame) → EndsOwn (last_of past p) (Refused (actions.Eld f) refusal)
    → page_loaded x ≡ load_of (open_start past f.0)
loaded_told past p n x theirs is refusal f ends = by_last x is (subst (λ l. EndsOwn l (Refused (actions.Eld f) refusal)) (sym is) ends)
  where
    by_last : (y : lasts.Last) → last_told y ≡ last_of past p → EndsOwn (last_told y) (Refused (actions.Eld f) refusal)
        → page_loaded y ≡ load_of (open_start past f.0)
    by_last (ways.Loads m page) k e =
        let same : f.0 ≡ m.0 = cc in
        sym (ap (λ n. load_of (open_start past n)) same ∙ theirs.started p m.0 page (sym k))
    by_last (ways.Fails page reason) k e = cc
    by_last ways.WasEnded k e = cc
    by_last ways.Other k e = cc

start_told : (page : Page) (refusal : Refusal) → last_told (start_failed page refusal) ≡ start_fails page refusal
start_told page why.SlotEmpty = refl
start_told page refusal = refl

last_is : (past : List Entry) (p : ℕ) (ev : Event) (x : lasts.Last) → LoadsAreTheirs past → last_told x ≡ last_of past p
    → EndsOwn (last_of past p) ev → last_told (last_after ev x) ≡ last_by ev (open_start past)
last_is past p (Did (actions.EldStart f page slot) answer) x theirs is ends = refl
last_is past p (Refused (actions.Eld f) refusal) x theirs is ends =
    fails_told (page_loaded x) refusal ∙ ap (λ o. fails_with o refusal) (loaded_told past p 0 x theirs is refusal f ends)
last_is past p (Refused (actions.EldStart f page slot) refusal) x theirs is ends = start_told page refusal
last_is past p (Bus page reason) x theirs is ends = refl
last_is past p (Did action answer) x theirs is ends = refl
last_is past p (Refused action refusal) x theirs is ends = refl
last_is past p (Age page look) x theirs is ends = refl
last_is past p (Kick cpu) x theirs is ends = refl

-- ---- a processor

-- another actor's entry leaves it, but for a kick
other_shown : (past : List Entry) (a : Actor) (ev : Event) (p : ℕ) (x : CpuTurn) → is_by p a ≡ false → ShowsCpu past p x
    → ShowsCpu (entry_of a ev ∷ past) p (kick_if ev p x)
other_shown past a ev p x other s = record {
  replied = (kick_leaves ev p x).replied ∙ s.replied ∙ rw other refl;
  kicked = kick_is ev p x (is_kicked past p) s.kicked ∙ ap (λ b. kicked_after ev p b (is_kicked past p)) (sym other);
  interruption = ap interruption_told (kick_leaves ev p x).interruption ∙ s.interruption ∙ rw other refl;
  last = ap last_told (kick_leaves ev p x).last ∙ s.last ∙ rw other refl;
}

-- its own entry
own_shown : (j : JobView) (past : List Entry) (c : Cpu) (ev : Event) (before : Mode) (x : CpuTurn)
    → CanNote j past before (entry_of (actors.Cpu c) ev) → ShowsCpu past c.0 x
    → ShowsCpu (entry_of (actors.Cpu c) ev ∷ past) c.0 (kick_if ev c.0 (turn_after ev before x))
own_shown j past c ev before x can s = record {
  replied = (kick_leaves ev c.0 (turn_after ev before x)).replied ∙ counted;
  kicked = own_kick_is ev c.0 before x (is_kicked past c.0) s.kicked
      ∙ ap (λ b. kicked_after ev c.0 b (is_kicked past c.0)) (sym (eqb-refl c.0));
  interruption = ap interruption_told (kick_leaves ev c.0 (turn_after ev before x)).interruption
      ∙ after_told ev before (stay past c.0) x.interruption (interruption past c.0) can.stood s.interruption ∙ rw (eqb-refl c.0) refl;
  last = ap last_told (kick_leaves ev c.0 (turn_after ev before x)).last
      ∙ last_is past c.0 ev x.last can.theirs s.last (their_rule j past (entry_of (actors.Cpu c) ev) can.script) ∙ rw (eqb-refl c.0) refl;
}
  where
    broken : is_some x.interruption ≡ is_interrupted past c.0
    broken = sym (told_some x.interruption) ∙ ap is_some s.interruption ∙ sym (can.three c.0).interrupted

    counted : (turn_after ev before x).replied ≡ replied (entry_of (actors.Cpu c) ev ∷ past) c.0
    counted = rw (broken, s.replied, eqb-refl c.0) refl

own_length : (a : Actor) (ev : Event) (before : Mode) (turns : List CpuTurn) → length (with_own a ev before turns) ≡ length turns
own_length actors.Builder ev before turns = refl
own_length (actors.Cpu c) ev before turns = length-set turns c.0 (turn_after ev before (turn_at turns c.0))
own_length actors.Reclaimer ev before turns = refl

-- each processor
cpus_shown : (j : JobView) (past : List Entry) (a : Actor) (ev : Event) (before : Mode) (turns : List CpuTurn) (p : ℕ)
    → p < length turns → CanNote j past before (entry_of a ev) → ShowsCpu past p (turn_at turns p)
    → ShowsCpu (entry_of a ev ∷ past) p (turn_at (with_kick ev (with_own a ev before turns)) p)
cpus_shown j past a ev before turns p low can s =
    subst (ShowsCpu (entry_of a ev ∷ past) p)
    (sym (kick_at ev (with_own a ev before turns) p (let len = own_length a ev before turns in omega (arith, low, len)))) (by_actor a can)
  where
    by_actor : (b : Actor) → CanNote j past before (entry_of b ev)
        → ShowsCpu (entry_of b ev ∷ past) p (kick_if ev p (turn_at (with_own b ev before turns) p))
    by_actor actors.Builder k = other_shown past actors.Builder ev p (turn_at turns p) refl s
    by_actor actors.Reclaimer k = other_shown past actors.Reclaimer ev p (turn_at turns p) refl s
    by_actor (actors.Cpu c) k = by_test (c.0 == p) refl
      where
        by_test : (b : Bool) → (c.0 == p) ≡ b
            → ShowsCpu (entry_of (actors.Cpu c) ev ∷ past) p (kick_if ev p (turn_at (with_own (actors.Cpu c) ev before turns) p))
        by_test false other =
            subst (λ x. ShowsCpu (entry_of (actors.Cpu c) ev ∷ past) p (kick_if ev p x))
            (sym (get_or-set_other turns c.0 p (turn_after ev before (turn_at turns c.0)) first_turn
            (λ same. eqb-false c.0 p other (sym same))))
            (other_shown past (actors.Cpu c) ev p (turn_at turns p) other s)
        by_test true is =
            let same : c.0 ≡ p = eqb-true c.0 p is in
            subst (λ q. ShowsCpu (entry_of (actors.Cpu c) ev ∷ past) q (kick_if ev q (turn_at (with_own (actors.Cpu c) ev before turns) q)))
            same
            (subst (λ x. ShowsCpu (entry_of (actors.Cpu c) ev ∷ past) c.0 (kick_if ev c.0 x))
            (sym (get_or-set_same turns c.0 (turn_after ev before (turn_at turns c.0)) first_turn (omega (arith, same, low))))
            (own_shown j past c ev before (turn_at turns c.0) k (subst (λ q. ShowsCpu past q (turn_at turns q)) (sym same) s)))

-- ---- state save pages

more_by : (line : Option PageLine) (n : ℕ) → option_map one_more (tcs_by line n) ≡ tcs_by line (n + 1)
more_by (Some (lines.Tcs page ossa nssa plain)) n = refl
more_by (Some (lines.Reg first count perm value plain)) n = refl
more_by None n = refl

less_by : (line : Option PageLine) (n : ℕ) → option_map one_less (tcs_by line n) ≡ tcs_by line (n - 1)
less_by (Some (lines.Tcs page ossa nssa plain)) n = refl
less_by (Some (lines.Reg first count perm value plain)) n = refl
less_by None n = refl

abbrev Shows : List (List (Option TcsTurn)) → (Page → Option PageLine) → (Page → ℕ) → Type 0
Shows t line count = (g : Page) → tcs_at t g ≡ tcs_by (line g) (count g)

-- a page's count changed
changed_shown : (t : List (List (Option TcsTurn))) (line : Page → Option PageLine) (count : Page → ℕ) (page g : Page)
    (f : TcsTurn → TcsTurn) (to : ℕ → ℕ) → ((l : Option PageLine) (n : ℕ) → option_map f (tcs_by l n) ≡ tcs_by l (to n))
    → Shows t line count → tcs_at (changed t page f (tcs_at t page)) g ≡ tcs_by (line g) (if same_page page g then to
    (count g) else count g)
changed_shown t line count page g f to same s = changed_at t page g f ∙ by_test (same_page page g) refl
  where
    by_test : (b : Bool) → same_page page g ≡ b
        → (if b then option_map f (tcs_at t page) else tcs_at t g) ≡ tcs_by (line g) (if b then to (count g) else count g)
    by_test true is = ap (option_map f) (ap (tcs_at t) (same_pages page g is) ∙ s g) ∙ same (line g) (count g)
    by_test false is = s g

-- an asynchronous exit
left_shown : (t : List (List (Option TcsTurn))) (line : Page → Option PageLine) (count : Page → ℕ) (g : Page) (m : Mode)
    (s : Option Stay) → seat_of_mode m ≡ seat_of_stay s → Shows t line count
    → tcs_at (more_if (page_inside m) t) g ≡ tcs_by (line g) (if is_seated_at g s then count g + 1 else count g)
left_shown t line count g Outside None is h = h g
left_shown t line count g Outside (Some s) is h = cc
left_shown t line count g (Inside e n tf sf epoch) None is h = cc
left_shown t line count g (Inside e n tf sf epoch) (Some s) is h =
    changed_shown t line count (page_at e n) g one_more (λ k. k + 1) more_by h
    ∙ ap (λ (seat : Seat). tcs_by (line g) (if same_page (page_at seat.enclave seat.tcs) g then count g + 1 else count g)) same
  where
    same : record { enclave = e; tcs = n; tcs_frame = tf.0; ssa_frame = sf.0 } ≡ s.seat
    same = cc

saves_shown : (past : List Entry) (a : Actor) (ev : Event) (before : Mode) (t : List (List (Option TcsTurn)))
    (line : Page → Option PageLine) → StoodSo past a before → Shows t line (saved_frames past)
    → Shows (saves_after ev (page_left a before) t) line (saved_frames (entry_of a ev ∷ past))
saves_shown past actors.Builder (Did (actions.Aex cause) answer) before t line stood h g = h g
saves_shown past actors.Reclaimer (Did (actions.Aex cause) answer) before t line stood h g = h g
saves_shown past (actors.Cpu c) (Did (actions.Aex cause) answer) before t line stood h g =
    left_shown t line (saved_frames past) g before (stay past c.0) stood h
saves_shown past a (Did (actions.Resume e n tf sf) answer) before t line stood h g =
    changed_shown t line (saved_frames past) (page_at e n) g one_less (λ k. k - 1) less_by h
saves_shown past a (Did action answer) before t line stood h g = h g
saves_shown past a (Refused action refusal) before t line stood h g = h g
saves_shown past a (Age page look) before t line stood h g = h g
saves_shown past a (Kick cpu) before t line stood h g = h g
saves_shown past a (Bus page reason) before t line stood h g = h g

places_stay : (ev : Event) (left : Option Page) (t : List (List (Option TcsTurn))) → map length (saves_after ev left t) ≡ map length t
places_stay (Did (actions.Aex cause) answer) None t = refl
places_stay (Did (actions.Aex cause) answer) (Some g) t = lengths_changed t g one_more (tcs_at t g)
places_stay (Did (actions.Resume e n tf sf) answer) left t = lengths_changed t (page_at e n) one_less (tcs_at t (page_at e n))
places_stay (Did action answer) left t = refl
places_stay (Refused action refusal) left t = refl
places_stay (Age page look) left t = refl
places_stay (Kick cpu) left t = refl
places_stay (Bus page reason) left t = refl

-- ---- enclaves

inits_shown : (past : List Entry) (a : Actor) (ev : Event) (inits : List Bool) (e : ℕ) → e ≤ 8 → length inits ≡ 9
    → get_or inits e false ≡ is_initialised past e → get_or (inits_after ev inits) e false ≡ is_initialised (entry_of a ev ∷ past) e
inits_shown past a (Did (actions.Init enclave expect) answer) inits e low size is = by_test (enclave == e) refl
  where
    by_test : (b : Bool) → (enclave == e) ≡ b → get_or (set inits enclave true) e false ≡ (b || is_initialised past e)
    by_test true same =
        let at : enclave ≡ e = eqb-true enclave e same in
        ap (λ n. get_or (set inits enclave true) n false) (sym at)
        ∙ get_or-set_same inits enclave true false (omega (arith, low, size, at))
    by_test false other = get_or-set_other inits enclave e true false (λ same. eqb-false enclave e other (sym same)) ∙ is
inits_shown past a (Did action answer) inits e low size is = is
inits_shown past a (Refused action refusal) inits e low size is = is
inits_shown past a (Age page look) inits e low size is = is
inits_shown past a (Kick cpu) inits e low size is = is
inits_shown past a (Bus page reason) inits e low size is = is

inits_length : (ev : Event) (inits : List Bool) → length (inits_after ev inits) ≡ length inits
inits_length (Did (actions.Init enclave expect) answer) inits = length-set inits enclave true
inits_length (Did action answer) inits = refl
inits_length (Refused action refusal) inits = refl
inits_length (Age page look) inits = refl
inits_length (Kick cpu) inits = refl
inits_length (Bus page reason) inits = refl

-- ---- all of it

pub kick_length : (ev : Event) (turns : List CpuTurn) → length (with_kick ev turns) ≡ length turns
kick_length (Kick cpu) turns = length-set turns cpu.0 (kicked (turn_at turns cpu.0))
kick_length (Did action answer) turns = refl
kick_length (Refused action refusal) turns = refl
kick_length (Age page look) turns = refl
kick_length (Bus page reason) turns = refl

pub noted_shown : (j : JobView) (past : List Entry) (old new : Turns) (before : Mode) (e : Entry) → IsNoted j old before e new
    → ShowsTurns j past old → CanNote j past before e → ShowsTurns j (e ∷ past) new
noted_shown j past old new before e is s can = record {
  valid = s.valid;
  within = stands.within;
  steps = stands.steps;
  inits = λ e' low. ap (λ xs. get_or xs e' false) is.inits ∙ inits_shown past e.actor e.event old.inits e' low s.numbered (s.inits e' low);
  numbered = ap length is.inits ∙ inits_length e.event old.inits ∙ s.numbered;
  cpus = λ p low. subst (λ turns. ShowsCpu (e ∷ past) p (turn_at turns p)) (sym is.cpus)
      (cpus_shown j past e.actor e.event before old.cpus p (let each = s.each in omega (arith, each, low)) can (s.cpus p low));
  each = ap length is.cpus ∙ kick_length e.event (with_own e.actor e.event before old.cpus)
      ∙ own_length e.actor e.event before old.cpus ∙ s.each;
  saves = λ g. ap (λ t. tcs_at t g) is.tcs
      ∙ saves_shown past e.actor e.event before old.tcs (λ h. tcs_line (lines_at j.enclaves h.enclave) h.number) can.stood s.saves g;
  places = ap (map length) is.tcs ∙ places_stay e.event (page_left e.actor before) old.tcs ∙ s.places;
  last = is.last;
  spent = is.spent ∙ ap (λ b. if spends e.event then true else b) s.spent;
  loss = is.loss ∙ ap (λ b. is_bus e.event || b) s.loss;
}
  where
    stands : Stands j (e ∷ past) new.cursor
    stands =
        stands_on j past e.actor e.event old.cursor new.cursor is.cursor (record { within = s.within; steps = s.steps })
