-- The rules evaluated along a trace whose enclave leaves with its SECS, and comes back with it.
use Rattle.std.proofs.Common.{◌≡◌, ◌==◌, not, ℕ, Bool, true, false, List, [], ◌∷◌, Option, Some, None, refl, replicate}
use Rattle.sgx_rules.specs.declared.entries.Action.{Action}
use Rattle.sgx_types.specs.declared.names.Actor.{Actor}
use Rattle.sgx_rules.specs.declared.entries.Answer.{Answer}
use Rattle.sgx_rules.specs.declared.entries.Entry.{Entry}
use Rattle.sgx_rules.specs.declared.entries.Event.{Event}
use Rattle.sgx_rules.specs.declared.entries.Event.TheVariants.{Age, Bus, Did, Refused}
use Rattle.sgx_types.specs.declared.names.Frame.{Frame}
use Rattle.sgx_types.specs.declared.names.Page.{Page}
use Rattle.sgx_types.specs.declared.names.Perm.{Perm}
use Rattle.sgx_types.specs.declared.names.SlotAt.{SlotAt}
use Rattle.sgx_types.specs.Counts.{any_below, count_below}
use Rattle.sgx_types.specs.Pages.{no_perm, page_at, secs_page, va_page}
use Rattle.job_grammar.specs.Jobs.{JobView}
use Rattle.sgx_types.specs.Pages.{frame_at}
use Rattle.driver_rules.specs.inner.Decided.{keeps_age, keeps_kick, keeps_script}
use Rattle.driver_rules.specs.Dues.{Asks, Fetches, LooksAt, TriesOut}
use Rattle.driver_rules.specs.Places.{place}
use Rattle.driver_rules.specs.inner.Reclaims.{reclaimer_due}
use Rattle.driver_rules.specs.Spares.{due_with, is_full, Outs, outs}
use Rattle.driver_rules.specs.inner.Targets.{target}
use Rattle.driver_rules.specs.Turns.{cpu_due}
use Rattle.sgx_rules.specs.declared.entries.Action.TheVariants as actions
use Rattle.sgx_types.specs.declared.names.Actor.TheVariants as actors
use Rattle.sgx_rules.specs.declared.entries.Answer.TheVariants as answers
use Rattle.sgx_rules.specs.declared.entries.BusWhy.TheVariants as reasons
use Rattle.sgx_rules.specs.declared.entries.Look.TheVariants as looks
use Rattle.sgx_types.specs.declared.lawful.PageInit.TheVariants as inits
use Rattle.sgx_types.specs.declared.names.Kind.TheVariants as kinds
use Rattle.sgx_rules.specs.declared.refusals.Refusal.TheVariants as why
use Rattle.job_grammar.specs.declared.jobs.Op.TheVariants as ops
use Rattle.job_grammar.specs.declared.jobs.PageLine.TheVariants as lines

abbrev rw_perm : Perm
rw_perm = record { r = true; w = true; x = false }

abbrev job : JobView
job = record {
  epc = 12;
  marks = record { low = 20; high = 20; scan = 16 };
  key = [];
  start_epoch = 1;
  start_version = 1;
  enclaves = record { base = 8388608; size = 8388608; lines = lines.Tcs 0 1 1 true ∷ lines.Reg 1 1 rw_perm 0 true ∷ []; expect = None }
      ∷ [];
  plans = [];
  scripts = (ops.Enter 1 0 ∷ []) ∷ [];
}

abbrev by : Actor → Action → Answer → Entry
by actor action answer = record { actor = actor; event = Did action answer }

abbrev look : Page → Entry
look page = record { actor = actors.Reclaimer; event = Age page looks.Taken }

abbrev r : Action → Answer → Entry
r action answer = by actors.Reclaimer action answer

abbrev b : Action → Answer → Entry
b action answer = by actors.Builder action answer

abbrev p0 : Action → Answer → Entry
p0 action answer = by (actors.Cpu (record { 0 = 0 })) action answer

abbrev slot : ℕ → SlotAt
slot index = record { frame = frame_at 0; index = index }

abbrev gone : Page → ℕ → Answer
gone page version = answers.Moved page version []

abbrev built : List Entry
built =
    b (actions.Init 1 None) (answers.Hash []) ∷ b (actions.Add 1 1 (frame_at 3) kinds.Reg rw_perm (inits.Words 0)) answers.Plain ∷ b
    (actions.Add 1 0 (frame_at 2) kinds.Tcs no_perm (inits.Tcs 1 1)) answers.Plain ∷ b
    (actions.Create 1 (frame_at 1) 8388608 8388608) answers.Plain ∷ b (actions.Epa (frame_at 0)) (answers.Va 0) ∷ []

abbrev blocked : List Entry
blocked =
    r (actions.Block (frame_at 3)) answers.Plain ∷ r (actions.Block (frame_at 2)) answers.Plain ∷ look (page_at 1 1) ∷ look
    (page_at 1 0) ∷ built

abbrev tracked : List Entry
tracked =
    r (actions.Track 1) answers.Plain ∷ record {
      actor = actors.Reclaimer;
      event = Refused (actions.EwbStart (frame_at 2) (slot 2)) (why.NotTracked 1 0);
    } ∷ blocked

abbrev last_going : List Entry
last_going =
    r (actions.EwbStart (frame_at 3) (slot 3)) (answers.Version 2) ∷ r (actions.Ewb (frame_at 2)) (gone (page_at 1 0) 1) ∷ r
    (actions.EwbStart (frame_at 2) (slot 2)) (answers.Version 1) ∷ tracked

abbrev last_gone : List Entry
last_gone = r (actions.Ewb (frame_at 3)) (gone (page_at 1 1) 2) ∷ last_going

abbrev secs_taken : List Entry
secs_taken = look (secs_page 1) ∷ last_gone

abbrev secs_gone : List Entry
secs_gone =
    r (actions.Ewb (frame_at 1)) (gone (secs_page 1) 3) ∷ r (actions.EwbStart (frame_at 1) (slot 0)) (answers.Version 3) ∷ secs_taken

abbrev secs_back : List Entry
secs_back =
    p0 (actions.Eld (frame_at 1)) (gone (secs_page 1) 3) ∷ p0 (actions.EldStart (frame_at 1) (secs_page 1) (slot 0))
    (answers.Version 3) ∷ secs_gone

-- ---- the SECS is due directly behind the last page, and not before

abbrev due : List Entry → Option Page
due past = due_with job past (outs job past)

not_before : due last_going ≡ None
unfolding any_below count_below
not_before = refl

behind_the_last : due last_gone ≡ Some (secs_page 1)
unfolding any_below count_below
behind_the_last = refl

is_looked_at : reclaimer_due job last_gone false ≡ LooksAt (secs_page 1) false false
unfolding any_below count_below
is_looked_at = refl

taken_is_right : keeps_age job last_gone (look (secs_page 1)) ≡ true
unfolding any_below count_below
taken_is_right = refl

-- no pass goes on before it
no_other_entry : keeps_age job last_gone (r (actions.Track 1) answers.Plain) ≡ false
unfolding any_below count_below
no_other_entry = refl

-- without room for its record it stays, and nothing else is due
stays_without_room : due (record { actor = actors.Reclaimer; event = Age (secs_page 1) looks.NoRoom } ∷ last_gone) ≡ None
unfolding any_below count_below
stays_without_room = refl

goes_out_next : reclaimer_due job secs_taken false ≡ TriesOut (secs_page 1) 1
unfolding any_below count_below
goes_out_next = refl

-- ---- it comes back before a page of its enclave

secs_first : target secs_gone (page_at 1 0) ≡ secs_page 1
secs_first = refl

is_fetched : cpu_due job secs_gone 0 ≡ Fetches (page_at 1 0) (Asks (secs_page 1) (Some (slot 0)) (Some 1))
unfolding any_below count_below
is_fetched = refl

load_is_right : keeps_script job secs_gone (p0 (actions.EldStart (frame_at 1) (secs_page 1) (slot 0)) (answers.Version 3)) ≡ true
unfolding any_below count_below
load_is_right = refl

page_is_too_early : keeps_script job secs_gone (p0 (actions.EldStart (frame_at 1) (page_at 1 0) (slot 2)) (answers.Version 1)) ≡ false
unfolding any_below count_below
page_is_too_early = refl

-- the page itself may be lost, and so may its SECS
page_is_lost : keeps_script job secs_gone (record { actor = actors.Cpu (record { 0 = 0 }); event = Bus (page_at 1 0) reasons.PutFailed })
    ≡ true
unfolding any_below count_below
page_is_lost = refl

then_the_page : cpu_due job secs_back 0 ≡ Fetches (page_at 1 0) (Asks (page_at 1 0) (Some (slot 2)) (Some 2))
unfolding any_below count_below
then_the_page = refl

-- ---- beside the rule Kick

kick_is_kept : keeps_kick job secs_taken (r (actions.EwbStart (frame_at 1) (slot 0)) (answers.Version 3)) ≡ true
unfolding any_below count_below
kick_is_kept = refl

-- ---- a spare version array page, by a test of which slots are out

abbrev second_array : Entry
second_array = b (actions.Epa (frame_at 4)) (answers.Va 1)

-- it is made behind the first
abbrev behind : Entry → List Entry → List Entry
behind e [] = []
behind e (x ∷ []) = e ∷ x ∷ []
behind e (x ∷ y ∷ ys) = x ∷ behind e (y ∷ ys)

abbrev two_arrays : List Entry → List Entry
two_arrays past = behind second_array past

abbrev all_out : Outs
all_out s = true

abbrev all_but_one : Outs
all_but_one s = not (s.index == 511)

abbrev no_room : Page → Entry
no_room page = record { actor = actors.Reclaimer; event = Age page looks.NoRoom }

-- the SECS comes first, and the page behind it; the first page never leaves
secs_before_a_spare : due_with job (two_arrays last_gone) all_out ≡ Some (secs_page 1)
unfolding any_below count_below is_full
secs_before_a_spare = refl

spare_behind_a_secs : due_with job (two_arrays secs_gone) all_out ≡ Some (va_page 1)
unfolding any_below count_below is_full
spare_behind_a_secs = refl

spare_behind_no_room : due_with job (no_room (secs_page 1) ∷ two_arrays last_gone) all_out ≡ Some (va_page 1)
unfolding any_below count_below is_full
spare_behind_no_room = refl

-- behind one that has to stay nothing is due till the next write-out
none_behind_no_room : due_with job (no_room (va_page 1) ∷ two_arrays secs_gone) all_out ≡ None
unfolding any_below count_below is_full
none_behind_no_room = refl

none_with_a_free_slot : due_with job (two_arrays secs_gone) all_but_one ≡ None
unfolding any_below count_below is_full
none_with_a_free_slot = refl

-- while its write-out is on the way a page's version array page stays
named_by_a_start : due_with job (r (actions.EwbStart (frame_at 1) (record { frame = frame_at 4; index = 0 })) (answers.Version 3)
    ∷ two_arrays
    secs_taken) all_out ≡ None
unfolding any_below count_below is_full
named_by_a_start = refl
