-- An entry that was made can be noted, and its holds kept.
use Rattle.std.proofs.Common.{◌≡◌, ℕ, Bool, true, false, if◌then◌else◌, refl, sym, ◌∙◌}
use Rattle.std.proofs.Common.{ap, subst, List, Option, Some, length, count_by, arith}
use Rattle.sgx_types.specs.declared.names.Actor.{Actor}
use Rattle.sgx_types.specs.declared.names.Actor.TheVariants as actors
use Rattle.sgx_rules.specs.declared.entries.Entry.{Entry}
use Rattle.sgx_rules.specs.declared.entries.Action.TheVariants.{EldStart}
use Rattle.sgx_rules.specs.declared.entries.Event.{Event}
use Rattle.sgx_rules.specs.declared.entries.Event.TheVariants.{Did, Refused}
use Rattle.sgx_types.specs.declared.names.Frame.{Frame}
use Rattle.sgx_types.specs.declared.names.Page.{Page}
use Rattle.sgx_types.specs.declared.names.SlotAt.{SlotAt}
use Rattle.sgx_types.specs.Pages.{same_page}
use Rattle.sgx_rules.specs.Frames.{vas_made}
use Rattle.sgx_rules.specs.Slots.{open_slot}
use Rattle.sgx_types.specs.declared.names.VaSlot.{VaSlot}
use Rattle.script_rules.specs.Script.{action_of}
use Rattle.driver_laws.specs.inner.Agrees.{drivers}
use Rattle.sgx_types.specs.Making.{Making}
use Rattle.backing_store.specs.Calls.{Call}
use Rattle.cached_translations.specs.declared.processor.Mode.{Mode}
use Rattle.epcm_entry.specs.inner.Epc.{is_free_frame}
use Rattle.job_grammar.specs.Jobs.{JobView}
use Rattle.machine_laws.specs.inner.Columns.{HasColumns}
use Rattle.machine_laws.specs.inner.Shape.{ShapeWithRules}
use Rattle.machine_laws.proofs.ColumnLaws.{inside_is}
use Rattle.sgx_machine.specs.inner.Parts.{Parts, seat_of_mode, state_of}
use Rattle.driver_rules.specs.Passes.{free_count}
use Rattle.driver_rules.specs.Places.{Absent, Away, comes_into, Here, is_here, Leaving, Loading, Place, place, place_after}
use Rattle.driver_rules.specs.Scripts.{IsActors}
use Rattle.driver_laws.specs.inner.Three.{TcsAreApart}
use Rattle.driver_rules.specs.Spares.{outs_kept}
use Rattle.driver_laws.proofs.TcsLaws.{apart_stay}
use Rattle.driver_tables.specs.declared.driver.Driver.{Driver}
use Rattle.due_tables.specs.declared.turns.Turns.{Turns}
use Rattle.due_tables.proofs.FirstLaws.{agrees_shown}
use Rattle.due_tables.specs.inner.Entries.{CanNote, StoodSo}
use Rattle.due_tables.specs.inner.Holding.{KeepsHolds, mode_of}
use Rattle.due_tables.specs.inner.Noting.{IsAmong}
use Rattle.driver_reclaim.proofs.DueLaws.{free_is}
use Rattle.run_laws.specs.inner.Books.{IsMade, KeepsBook}
use Rattle.run_laws.specs.inner.Behind.{CanHoldBehind}

-- ---- how the processor stood

pub stood_so : (past : List Entry) (m : Parts) (a : Actor) (before : Mode) → HasColumns (state_of m) past → before ≡ mode_of m a
    → StoodSo past a before
stood_so past m (actors.Cpu p) before columns is = ap seat_of_mode is ∙ inside_is columns p.0
stood_so past m actors.Builder before columns is = tt
stood_so past m actors.Reclaimer before columns is = tt

pub is_among : (j : JobView) (past : List Entry) (t : Turns) (a : Actor) (event : Event) → length t.cpus ≡ length j.scripts
    → IsActors j past a event → IsAmong (length t.cpus) a
is_among j past t (actors.Cpu p) event each next = let low = next.0 in omega (arith, each, low)
is_among j past t actors.Builder event each next = tt
is_among j past t actors.Reclaimer event each next = tt

-- ---- an entry that was made

-- the start of a load brings no page here, and takes none away
pub start_rests : (made : ℕ) (at : ℕ → Option VaSlot) (ev : Event) (g : Page) (before : Place) (f : Frame) (page : Page) (slot : SlotAt)
    → action_of ev ≡ Some (EldStart f page slot) → is_here (place_after ev made at g before) ≡ is_here before
start_rests made at (Did (EldStart n other slot) answer) g before f page to is = by_page (same_page other g) before
  where
    by_page : (b : Bool) (p : Place) → is_here (if b then comes_into n.0 p else p) ≡ is_here p
    by_page false p = refl
    by_page true Absent = refl
    by_page true (Here m) = refl
    by_page true (Leaving m) = refl
    by_page true (Away s) = refl
    by_page true (Loading m s) = refl
start_rests made at (Refused (EldStart n other slot) refusal) g before f page to is = refl
start_rests made at _ g before f page to is = cc

module _ (made : Making) (j : JobView) (past : List Entry) (told told' : Option (List Call)) (d d' : Driver) (m m' : Parts) (t : Turns)
    (e : Entry) (before : Mode) (k : KeepsBook made j past told d m t) (n : IsMade made j past told d m e told' d' m')
    (is : before ≡ mode_of m e.actor) where
  pub can_note : CanNote j past before e
  can_note = record {
    script = n.next.script;
    stood = stood_so past m e.actor before k.agrees.follows.shape.columns is;
    theirs = k.agrees.theirs;
    three = λ p. (k.apart p).three;
  }

  pub can_hold : TcsAreApart j → CanHoldBehind j past d' before t e
  can_hold tcs = record {
    can = record {
      keeping = drivers j;
      past = past;
      d = d;
      m = m;
      shown = agrees_shown made j past d m k.agrees;
      own = n.own;
      counts = n.next.shows.of_job ∙ sym k.agrees.shows.of_job;
      places = n.next.shows.counts ∙ n.next.shows.of_job ∙ sym (k.agrees.shows.counts ∙ k.agrees.shows.of_job);
      here = λ f page slot is g placed.
          ap is_here (n.next.shows.states g placed)
          ∙ start_rests (vas_made past) (open_slot past) e.event g (place past g) f page slot is;
      stood = is;
      shows = k.turns;
      orderly = k.orderly;
      script = n.next.script;
      holds = subst (λ own. KeepsHolds j own past) (sym n.own) k.holds;
      three = λ p. (k.apart p).three;
      after = λ p. (apart_stay j past (outs_kept j past) e tcs k.agrees.sound n.next.script n.next.age k.apart p).three;
    };
    same = refl;
  }

  pub among : IsAmong (length t.cpus) e.actor
  among = is_among j past t e.actor e.event k.turns.each n.next.script.next

-- ---- free frames

-- as many frames are free as the entries say
pub free_told : (made : Making) (j : JobView) (past : List Entry) (m : Parts) → ShapeWithRules made (state_of m) past → made.frames ≡ j.epc
    → count_by is_free_frame m.epc ≡ free_count j.epc past
free_told made j past m follows frames =
    let all : length m.epc ≡ j.epc = ap (λ (x : Making). x.frames) follows.shape.making ∙ frames in
    free_is m past follows.shape.columns ∙ ap (λ n. free_count n past) all
