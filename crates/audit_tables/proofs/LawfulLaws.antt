-- What is known of an entry that keeps each rule, by who made it.
use Rattle.std.proofs.Common.{◌≡◌, true, false, List, ◌∷◌, Option, Some, refl, sym, ◌∙◌}
use Rattle.std.proofs.lemmas.Bool.{false≢true}
use Rattle.sgx_rules.specs.declared.entries.Action.{Action}
use Rattle.sgx_rules.specs.declared.entries.Action.TheVariants as actions
use Rattle.sgx_types.specs.declared.names.Actor.{Actor}
use Rattle.sgx_types.specs.declared.names.Actor.TheVariants as actors
use Rattle.sgx_rules.specs.declared.entries.Entry.{Entry}
use Rattle.sgx_rules.specs.declared.entries.Event.{Event}
use Rattle.sgx_rules.specs.declared.entries.Event.TheVariants.{Did, Refused, Age, Kick, Bus}
use Rattle.sgx_types.specs.declared.names.Cpu.{Cpu}
use Rattle.sgx_types.specs.declared.names.Frame.{Frame}
use Rattle.sgx_rules.specs.Rules.{RefusalRule}
use Rattle.sgx_rules.specs.Starts.{open_start}
use Rattle.sgx_rules.specs.inner.Starts.{bare_start}
use Rattle.cached_translations.specs.declared.processor.Mode.{Mode}
use Rattle.job_grammar.specs.Jobs.{JobView}
use Rattle.script_rules.specs.Machines.{machine_of}
use Rattle.script_rules.specs.Script.{action_of}
use Rattle.sgx_machine.specs.declared.starts.Start as starts
use Rattle.sgx_machine.specs.inner.Parts.{start_of}
use Rattle.driver_rules.specs.Ages.{AgeRule, Ahead, EndsNext, GoesOn, InPass, IsAhead, Looks, TriesNext, ahead}
use Rattle.driver_rules.specs.Passes.{Between, Blocking, Pass, Scan, Tries, pass}
use Rattle.driver_rules.specs.Spares.{outs}
use Rattle.driver_rules.specs.Scripts.{ScriptRule, is_load}
use Rattle.driver_laws.specs.inner.Agrees.{auditors}
use Rattle.driver_laws.specs.inner.Kinds.{CanMove}
use Rattle.driver_laws.specs.inner.Used.{StartTells}
use Rattle.driver_laws.specs.inner.Tracks.{is_reclaimers}
use Rattle.driver_laws.proofs.EndLaws.{their_rule}
use Rattle.driver_laws.proofs.OwnLaws.{script_own}
use Rattle.driver_tables.specs.declared.driver.Driver.{Driver}
use Rattle.due_tables.specs.declared.turns.Turns.{Turns}
use Rattle.due_notes.specs.inner.Noted.{AreNoted, CanNoteTables, HasSecsHere}
use Rattle.due_notes.proofs.FromLaws.{auditors_keep}
use Rattle.due_notes.specs.inner.Plain.{is_plain, is_reclaimer}
use Rattle.audit_tables.proofs.AgreeLaws.{lawful_can, lawful_starts, tells_by_rules, tells_shown}
use Rattle.audit_tables.specs.inner.Followed.{TablesCanFollow, IsFollowed, frame_begun, frame_ended}
use Rattle.audit_tables.specs.inner.Following.{is_plain_event}

-- ---- what the rules say of it

pub record IsLawful (j : JobView) (past : List Entry) (start : Option starts.Start) (e : Entry) : Type 0 where
  pub script : ScriptRule j past e
  pub age : AgeRule j past e
  pub refusal : RefusalRule (machine_of j) past e
  pub can : CanMove past e.event
  pub starts : StartTells past e.event
  pub ended : (f : Frame) → frame_ended e.event ≡ Some f → start_of start ≡ bare_start (open_start past f.0)
  pub begun : (f : Frame) → frame_begun e.event ≡ Some f → start_of start ≡ bare_start (open_start (e ∷ past) f.0)

pub lawful : (t : Turns) (d : Driver) (before : Mode) (start : Option starts.Start) (e : Entry) (can : TablesCanFollow t d before start e)
    → IsLawful can.j can.past start e
lawful t d before start e can = record {
  script = can.goes_on.script.0;
  age = can.goes_on.age.1.0;
  refusal = can.goes_on.refusal.1.0;
  can = lawful_can can.j can.past e can.trace.stands.positive can.goes_on;
  starts = lawful_starts can.j can.past e can.trace.stands.positive can.goes_on;
  ended = can.ended;
  begun = can.begun;
}

-- ---- who makes it

-- a look, a kick, a block, a track or a write-out is the reclaimer's
pub not_builders : (j : JobView) (past : List Entry) (ev : Event) → ScriptRule j past (record { actor = actors.Builder; event = ev })
    → is_reclaimers ev ≡ true → ⊥
not_builders j past ev script own =
    let bad : actors.Builder ≡ actors.Reclaimer = script_own j past (record { actor = actors.Builder; event = ev }) script own in absurd cc

pub not_cpus : (j : JobView) (past : List Entry) (c : Cpu) (ev : Event) → ScriptRule j past (record { actor = actors.Cpu c; event = ev })
    → is_reclaimers ev ≡ true → ⊥
not_cpus j past c ev script own =
    let bad : actors.Cpu c ≡ actors.Reclaimer = script_own j past (record { actor = actors.Cpu c; event = ev }) script own in absurd cc

-- a load, its end, or why a page did not come back, is a processor's
pub no_builders_load : (j : JobView) (past : List Entry) (ev : Event) → ScriptRule j past (record { actor = actors.Builder; event = ev })
    → is_load ev ≡ true → ⊥
no_builders_load j past ev script load =
    false≢true (sym (their_rule j past (record { actor = actors.Builder; event = ev }) script) ∙ load)

-- no pass has a plain instruction
no_pass : (past : List Entry) (at : Pass) (ev : Event) → is_plain_event ev ≡ true → InPass past at ev → ⊥
no_pass past at (Age page look) plain h = false≢true plain
no_pass past at (Kick cpu) plain h = false≢true plain
no_pass past at (Bus page why) plain h = false≢true plain
no_pass past (Between works) (Did action answer) plain h = h
no_pass past (Scan left taken) (Did action answer) plain h = h
no_pass past (Blocking due taken) (Did (actions.Block f) answer) plain h = false≢true plain
no_pass past (Blocking due taken) (Did action answer) plain h = h
no_pass past (Tries g rest form) (Did (actions.EwbStart f slot) answer) plain h = false≢true plain
no_pass past (Tries g rest form) (Did (actions.Ewb f) answer) plain h = false≢true plain
no_pass past (Tries g rest form) (Did (actions.Track enclave) answer) plain h = false≢true plain
no_pass past (Tries g rest form) (Did action answer) plain h = h
no_pass past (Between works) (Refused action refusal) plain h = h
no_pass past (Scan left taken) (Refused action refusal) plain h = h
no_pass past (Blocking due taken) (Refused action refusal) plain h = h
no_pass past (Tries g rest form) (Refused (actions.EwbStart f slot) refusal) plain h = false≢true plain
no_pass past (Tries g rest form) (Refused (actions.Ewb f) refusal) plain h = false≢true plain
no_pass past (Tries g rest form) (Refused (actions.Track enclave) refusal) plain h = false≢true plain
no_pass past (Tries g rest form) (Refused action refusal) plain h = h

-- .. nor what comes before it goes on
no_ahead : (j : JobView) (past : List Entry) (at : Ahead) (ev : Event) → is_plain_event ev ≡ true → IsAhead j past at ev → ⊥
no_ahead j past GoesOn ev plain h = no_pass past (pass j past) ev plain h.in_pass
no_ahead j past (Looks g) (Age page look) plain h = false≢true plain
no_ahead j past (Looks g) ev plain h = h
no_ahead j past (TriesNext g) (Did (actions.EwbStart f slot) answer) plain h = false≢true plain
no_ahead j past (TriesNext g) (Refused (actions.EwbStart f slot) refusal) plain h = false≢true plain
no_ahead j past (TriesNext g) ev plain h = h
no_ahead j past (EndsNext g) (Did (actions.Ewb f) answer) plain h = false≢true plain
no_ahead j past (EndsNext g) ev plain h = h

no_reclaimers : (j : JobView) (past : List Entry) (a : Actor) (ev : Event) → is_plain_event ev ≡ true
    → AgeRule j past (record { actor = a; event = ev }) → is_reclaimer a ≡ false
no_reclaimers j past actors.Builder ev plain h = refl
no_reclaimers j past (actors.Cpu c) ev plain h = refl
no_reclaimers j past actors.Reclaimer ev plain h = absurd (no_ahead j past (ahead j past (outs j past)) ev plain h)

-- a page is added while its SECS is here
secs_here : (past : List Entry) (ev : Event) → CanMove past ev → HasSecsHere past ev
secs_here past (Did (actions.Add enclave number f kind perm init) answer) can = can.3
secs_here past (Did action answer) can = tt
secs_here past ev can = tt

-- ---- a plain instruction can be noted

record IsPlain (ev : Event) : Type 0 where
  action : Action
  is : action_of ev ≡ Some action
  plain : is_plain action ≡ true

plain_of : (ev : Event) → is_plain_event ev ≡ true → IsPlain ev
plain_of (Did action answer) plain = record { action = action; is = refl; plain = plain }
plain_of (Refused action refusal) plain = record { action = action; is = refl; plain = plain }
plain_of (Age page look) plain = absurd (false≢true plain)
plain_of (Kick cpu) plain = absurd (false≢true plain)
plain_of (Bus page why) plain = absurd (false≢true plain)

pub can_note : (t : Turns) (d : Driver) (before : Mode) (start : Option starts.Start) (e : Entry) (can : TablesCanFollow t d before start e)
    → is_plain_event e.event ≡ true → CanNoteTables t d 0 before e
can_note t d before start e can is =
    let x = plain_of e.event is in
    let law = lawful t d before start e can in
    let tells = tells_by_rules can.j can.past d can.m t can.trace in
    record {
      keeping = auditors;
      keeps = auditors_keep;
      j = can.j;
      past = can.past;
      m = can.m;
      m' = can.m';
      actor = e.actor;
      action = x.action;
      plain = x.plain;
      other = no_reclaimers can.j can.past e.actor e.event is law.age;
      step = can.step x.action x.is x.plain;
      script = law.script;
      secs = secs_here can.past e.event law.can;
      stood = can.stood;
      shown = tells_shown auditors (machine_of can.j) can.j can.past d can.m tells;
      stand = tells.stand;
      shows = can.trace.turns;
      orderly = can.trace.orderly;
      arrays = can.arrays;
    }

-- .. and the tables have followed it then
pub noted_followed : (t : Turns) (d new : Driver) (before : Mode) (start : Option starts.Start) (e : Entry)
    (can : TablesCanFollow t d before start e) (plain : is_plain_event e.event ≡ true)
    → ((note : CanNoteTables t d 0 before e) → AreNoted note.keeping note.j note.past d e new) → IsFollowed can.j can.past d e new
unfolding can_note
noted_followed t d new before start e can plain notes =
    let k = notes (can_note t d before start e can plain) in
    record { shows = k.shows; own = k.own; arrays = k.arrays }
