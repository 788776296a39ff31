-- All stands for the trace with an entry that keeps each rule.
use Rattle.std.proofs.Common.{◌≡◌, ℕ, ◌≤◌, refl, sym, ap, subst, ◌∙◌, List, ◌∷◌, Option, length, count_by}
use Rattle.sgx_rules.specs.declared.entries.Entry.{Entry}
use Rattle.sgx_types.specs.declared.names.Page.{Page}
use Rattle.sgx_rules.specs.Frames.{vas_made}
use Rattle.sgx_rules.specs.Slots.{open_slot}
use Rattle.cached_translations.specs.declared.processor.Mode.{Mode}
use Rattle.job_grammar.specs.declared.jobs.Marks.{Marks}
use Rattle.job_grammar.specs.Jobs.{JobView}
use Rattle.script_rules.specs.Machines.{machine_of}
use Rattle.sgx_machine.specs.declared.starts.Start as starts
use Rattle.epcm_entry.specs.inner.Epc.{is_free_frame}
use Rattle.driver_rules.specs.Passes.{free_count, pass, pass_after}
use Rattle.driver_rules.specs.Places.{is_here, place}
use Rattle.driver_rules.specs.Spares.{outs}
use Rattle.driver_rules.specs.Scripts.{ScriptRule}
use Rattle.driver_laws.specs.inner.Agrees.{auditors}
use Rattle.driver_laws.specs.inner.Kinds.{CanMove}
use Rattle.driver_laws.specs.inner.Three.{IsApart}
use Rattle.driver_laws.proofs.OwnLaws.{script_own}
use Rattle.driver_tables.specs.declared.driver.Driver.{Driver}
use Rattle.driver_tables.specs.inner.Tells.{Tells}
use Rattle.driver_list.specs.inner.Active.{ActiveList}
use Rattle.history_rules.proofs.HistoryLaws.{three}
use Rattle.due_tables.specs.declared.turns.Turns.{Turns}
use Rattle.due_tables.specs.inner.Entries.{CanNote}
use Rattle.due_tables.specs.inner.Holding.{CanHold, KeepsHolds}
use Rattle.due_tables.specs.inner.Noting.{AreFew, IsAmong}
use Rattle.due_tables.specs.inner.Shown.{ShowsTurns}
use Rattle.due_tables.proofs.FirstLaws.{counts_few}
use Rattle.due_tables.proofs.OrderLaws.{orderly_more}
use Rattle.run_laws.specs.inner.Books.{with_own}
use Rattle.run_laws.proofs.BookLaws.{shows_with}
use Rattle.run_laws.proofs.EntryLaws.{free_told, is_among, start_rests, stood_so}
use Rattle.audit_tables.specs.inner.Shown.{ShowsTrace}
use Rattle.audit_tables.proofs.AgreeLaws.{lawful_can, tells_by_rules, tells_shown}
use Rattle.audit_tables.proofs.EndLaws.{ends_told}
use Rattle.driver_pass.specs.inner.Noted.{decided, gone_by}
use Rattle.driver_pass.specs.inner.Standing.{StandsAt, StandsFor}
use Rattle.driver_pass.specs.inner.Viewed.{PassView}
use Rattle.driver_pass.proofs.GoLaws.{entry_goes, pass_settles, row_tells}
use Rattle.audit_tables.specs.inner.Followed as followed
use Rattle.audit_tables.specs.inner.Followed.{IsFollowed}
use Rattle.audit_trace.specs.declared.auditing.Auditing.{Auditing}
use Rattle.audit_trace.specs.inner.Audits.{CanFollow, KeepsAudit}

module _ (j : JobView) (a : Auditing) (before : Mode) (start : Option starts.Start) (e : Entry) (can : CanFollow j a before start e) where
  abbrev past : List Entry
  past = can.past

  positive : 1 ≤ j.start_version
  positive = can.trace.stands.positive

  tells : Tells auditors (machine_of j) j past a.driver can.m
  tells = tells_by_rules j past a.driver can.m a.turns can.trace

  script : ScriptRule j past e
  script = can.goes_on.script.0

  apart : (p : ℕ) → IsApart j past p
  apart = three j past positive can.trace.tcs can.trace.goes_on

  apart_behind : (p : ℕ) → IsApart j (e ∷ past) p
  apart_behind = three j (e ∷ past) positive can.trace.tcs can.goes_on

  moves : CanMove past e.event
  moves = lawful_can j past e positive can.goes_on

  -- ---- the tables

  pub can_follow : followed.TablesCanFollow a.turns a.driver before start e
  can_follow = record {
    j = j;
    past = past;
    m = can.m;
    m' = a.machine;
    trace = can.trace;
    arrays = can.arrays;
    goes_on = can.goes_on;
    step = can.taken.step;
    stood = can.stood;
    ended = can.ended;
    begun = can.begun;
  }

  pub among : IsAmong (length a.turns.cpus) e.actor
  among = is_among j past a.turns e.actor e.event can.trace.turns.each script.next

  pub few : AreFew a.turns
  few = counts_few j past a.turns can.trace.turns can.few

  pub can_note : CanNote j past before e
  can_note = record {
    script = script;
    stood = stood_so past can.m e.actor before tells.follows.shape.columns can.stood;
    theirs = tells.theirs;
    three = λ p. (apart p).three;
  }

  -- what the tables were told is so of them
  pub followed_by : (d : Driver) → ((c : followed.TablesCanFollow a.turns a.driver before start e) → IsFollowed c.j c.past a.driver e d)
      → IsFollowed j past a.driver e d
  unfolding can_follow
  followed_by d told = told can_follow

  module _ (d : Driver) (f : IsFollowed j past a.driver e d) where
    pub can_hold : CanHold j d.states d.active before a.turns e
    can_hold = record {
      keeping = auditors;
      past = past;
      d = a.driver;
      m = can.m;
      shown = tells_shown auditors (machine_of j) j past a.driver can.m tells;
      own = f.own;
      counts = f.shows.of_job ∙ sym can.trace.shows.of_job;
      places = f.shows.counts ∙ f.shows.of_job ∙ sym (can.trace.shows.counts ∙ can.trace.shows.of_job);
      here = λ n page slot is g placed.
          ap is_here (f.shows.states g placed)
          ∙ start_rests (vas_made past) (open_slot past) e.event g (place past g) n page slot is;
      stood = can.stood;
      shows = can.trace.turns;
      orderly = can.trace.orderly;
      script = script;
      holds = subst (λ own. KeepsHolds j own past) (sym f.own) can.trace.holds;
      three = λ p. (apart p).three;
      after = λ p. (apart_behind p).three;
    }

    pub holds_by : (own : List (List Page)) → ((c : CanHold j d.states d.active before a.turns e) → KeepsHolds j own (e ∷ c.past))
        → KeepsHolds j own (e ∷ past)
    unfolding can_hold
    holds_by own told = told can_hold

    -- ---- the whole

    behind : (own : List (List Page)) (t : Turns) → KeepsHolds j own (e ∷ past) → ShowsTurns j (e ∷ past) t
        → ShowsTrace j (e ∷ past) (with_own d own) a.machine t
    behind own t holds shows = record {
      tcs = can.trace.tcs;
      goes_on = can.goes_on;
      stands = can.taken.stands;
      cpus = can.taken.cpus ∙ can.trace.cpus ∙ can.trace.shows.cpus ∙ sym f.shows.cpus;
      shows = shows_with auditors j d (e ∷ past) own f.shows;
      holds = holds;
      turns = shows;
      orderly = orderly_more j past e can.trace.turns.valid can.trace.tcs (λ p. (apart p).own) moves script
          can.taken.enters can.trace.orderly;
      ends = ends_told (machine_of j) j past e can.goes_on.refusal.1.0 script can.trace.ends;
    }

    -- as many frames are free as the entries say
    free : count_by is_free_frame a.machine.epc ≡ free_count j.epc (e ∷ past)
    free = free_told (machine_of j) j (e ∷ past) a.machine can.taken.stands.shaped refl

    stands : StandsAt j.start_epoch j (e ∷ past) (decided j.marks (count_by is_free_frame a.machine.epc) a.pass)
    stands =
        pass_settles j.start_epoch j (e ∷ past) a.pass (count_by is_free_frame a.machine.epc) (free_count j.epc (e ∷ past))
        (pass_after j past e.actor e.event (pass j past)) free
        (subst (λ v. StandsFor j.start_epoch (e ∷ past) v (pass_after j past e.actor e.event (pass j past))) (sym can.gone)
        (entry_goes auditors (machine_of j) j past a.driver can.m tells can.v (outs j past) e can.goes_on.age.1.0
        (row_tells (machine_of j) past e can.goes_on.refusal.1.0) (script_own j past e script) moves can.pass))

    pub all_follows : (own : List (List Page)) (t : Turns) (v : PassView) (new : Auditing) → KeepsHolds j own (e ∷ past)
        → ShowsTurns j (e ∷ past) t → v ≡ decided j.marks (count_by is_free_frame a.machine.epc) a.pass
        → new ≡ record a { driver = with_own d own; turns = t; pass = v } → KeepsAudit j (e ∷ past) new
    all_follows own t v new holds shows settled is = subst (KeepsAudit j (e ∷ past)) (sym is) (record {
      trace = behind own t holds shows;
      arrays = f.arrays;
      pass = subst (StandsAt j.start_epoch j (e ∷ past)) (sym settled) stands;
      records = can.records;
    })

-- ---- what the calls leave

pub settled_with : {marks marks' : Marks} {free free' : ℕ} (v : PassView) → marks ≡ marks' → free ≡ free'
    → decided marks free v ≡ decided marks' free' v
settled_with v one other = λ i. decided (one i) (other i) v

pub with_list : (a : Auditing) (d : Driver) (list : ActiveList) (t : Turns) (v : PassView)
    → list ≡ record d.active { own = list.own }
    → record a { driver = record d { active = list }; turns = t; pass = v } ≡ record a { driver = with_own d list.own; turns = t; pass = v }
with_list a d list t v only = λ i. record a { driver = record d { active = only i }; turns = t; pass = v }
