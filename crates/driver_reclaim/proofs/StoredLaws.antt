-- The end of a write-out is the one that is due, and behind it pass and tables say what the longer list says.
use Rattle.std.proofs.Common.{◌≡◌, ℕ, ◌+◌, ◌≤◌, Bool, true, false, refl, sym, ◌∙◌, ap, subst, List, Option, Some, None}
use Rattle.std.proofs.lemmas.Bool.{eq-eqb}
use Rattle.std.proofs.lemmas.Option.{same_Some}
use Rattle.std.specs.Option.{IsSomeAnd}
use Rattle.sgx_types.specs.Making.{Making}
use Rattle.sgx_rules.proofs.Busy.{IsBareOf}
use Rattle.sgx_rules.specs.declared.entries.Action.TheVariants.{Ewb}
use Rattle.sgx_rules.specs.declared.entries.Answer.TheVariants.{Moved}
use Rattle.sgx_rules.specs.declared.entries.Entry.{Entry}
use Rattle.sgx_rules.specs.declared.entries.Event.{Event}
use Rattle.sgx_rules.specs.declared.entries.Event.TheVariants.{Did}
use Rattle.sgx_rules.specs.Frames.{content, page_there}
use Rattle.sgx_rules.specs.inner.Starts.{BareStart}
use Rattle.sgx_rules.specs.Rules.{Along}
use Rattle.sgx_rules.specs.Starts.{open_start}
use Rattle.backing_store.specs.Calls.{Call}
use Rattle.job_grammar.specs.Jobs.{JobView}
use Rattle.sgx_types.specs.Pages.{frame_at}
use Rattle.driver_slots.specs.inner.Keeper.{count_out}
use Rattle.machine_laws.proofs.ColumnLaws.{content_is}
use Rattle.machine_laws.proofs.SlotLaws.{started_as}
use Rattle.sgx_machine.specs.inner.Parts.{Parts, state_of}
use Rattle.driver_rules.specs.Ages as ages
use Rattle.driver_rules.specs.Ages.{ahead_by, ahead_due, IsAhead, KeptAgeRule, KickRule}
use Rattle.driver_rules.specs.Dues.{Ends, IsNext}
use Rattle.driver_rules.specs.inner.Reclaims.{ahead_gives, going_due, leaving_due, pass_due}
use Rattle.driver_rules.specs.Passes as passes
use Rattle.driver_rules.specs.Passes.{aside, pass, Tries}
use Rattle.driver_rules.specs.Places.{Away, Leaving}
use Rattle.driver_rules.specs.Spares.{due_with, outs_kept}
use Rattle.driver_rules.proofs.ReclaimLaws.{aside_kept}
use Rattle.driver_laws.proofs.StillLaws.{holds_here}
use Rattle.driver_laws.specs.inner.Agrees.{drivers}
use Rattle.driver_laws.specs.inner.Kinds.{CanMove}
use Rattle.driver_laws.specs.inner.Sound.{is_absent}
use Rattle.driver_tables.proofs.ShowLaws.{shows_gone}
use Rattle.driver_tables.specs.declared.driver.Driver.{Driver}
use Rattle.driver_tables.specs.inner.Moves.{gone}
use Rattle.driver_tables.specs.inner.Tables.{place_in}
use Rattle.driver_pass.specs.declared.stages.Form.TheVariants as forms
use Rattle.driver_pass.specs.declared.stages.Taken.{Taken}
use Rattle.driver_pass.specs.inner.Noted.{instructed}
use Rattle.driver_pass.specs.inner.Viewed.{aside_by, pages_in, PassView, sealing_in, still_out}
use Rattle.driver_reclaim.specs.inner.Answers.{by_reclaimer}
use Rattle.driver_reclaim.specs.inner.Ended.{IsEndedOut}
use Rattle.driver_reclaim.specs.inner.Kept.{KeepsReclaim}
use Rattle.driver_reclaim.specs.inner.Ready.{Ready}
use Rattle.driver_reclaim.specs.inner.Shown.{ShowsEntry}
use Rattle.driver_reclaim.specs.inner.Stored.{IsStored, StoredSays}
use Rattle.driver_reclaim.proofs.PassLaws as tells
use Rattle.driver_reclaim.proofs.KeptLaws.{pass_event, there_page}
use Rattle.driver_reclaim.proofs.NextLaws.{IsOut, sealing_alone}
use Rattle.driver_reclaim.proofs.OpenLaws.{Besides, goes_out, IsGoingOut, IsSealingOf, OfPass, sealing_of}
use Rattle.driver_reclaim.proofs.PlaceLaws.{ended_room}
use Rattle.driver_reclaim.proofs.SeenLaws.{columns}
use Rattle.driver_reclaim.proofs.ShownLaws.{with_held}
use Rattle.driver_reclaim.proofs.StageLaws.{in_tries, InTries}

module _ (made : Making) (j : JobView) (past : List Entry) (v : PassView) (d d' : Driver) (m m' : Parts)
    (told told' : Option (List Call)) (before after : ℕ) (e : Entry) (r : Ready made j past v d m) (one : Taken)
    (seals : IsSealingOf v one) (k : IsStored one (state_of m) d told before e (state_of m') d' told' after)
    (age : Along (KeptAgeRule j) past) (kick : Along (KickRule j) past)
  where
    out : IsGoingOut past one
    out = goes_out made j past v d m r one seals

    its : IsBareOf (open_start past one.frame.0) k.start
    its = started_as (state_of m) past (columns made j past d m r.agrees) one.frame.0 k.start k.opened

    page_is : k.out.leaving.page ≡ one.page
    page_is =
        same_Some k.out.leaving.page one.page
        (sym k.out.leaving.held ∙ ap page_there (content_is (columns made j past d m r.agrees) one.frame.0)
        ∙ there_page (page_there (content past one.frame.0)) one.page
        (holds_here past one.page (Leaving one.frame.0) one.frame.0 r.agrees.sound out.at (eq-eqb one.frame.0 one.frame.0 refl)))

    abbrev version : ℕ
    version = k.out.leaving.start.version

    abbrev event : Event
    event = Did (Ewb one.frame) (Moved one.page version k.rec.tag)

    entry_is : e ≡ by_reclaimer event
    entry_is = k.out.entry ∙ ap (λ g. by_reclaimer (Did (Ewb one.frame) (Moved g version k.rec.tag))) page_is

    can : CanMove past event
    can = (out.at, (its.start, its.opened))

    slot_is : its.start.slot ≡ k.start.slot
    slot_is = ap (λ (b : BareStart). b.slot) its.same

    away : (failed : Bool) → place_in (gone k.start.slot failed) ≡ Away its.start.slot
    away true = ap Away (sym slot_is)
    away false = ap Away (sym slot_is)

    shown : ShowsEntry j past (by_reclaimer event) d d'
    shown = record {
      shows = with_held j past d d' event (ap (λ (x : Driver). x.active.own) k.tables) r.held
          (shows_gone (drivers j) j d d' past one.frame one.page version k.rec.tag its.start (gone k.start.slot k.failed) can its.opened
          (away k.failed) r.agrees.sound (r.agrees.shows.placed one.page (ap is_absent out.at)) k.tables r.agrees.shows);
      counts = ap (λ (x : Driver). count_out x.slots) k.tables;
    }

    -- it is due, and keeps the rules
    abbrev Given : Type 0
    Given = IsNext (going_due j past (outs_kept j past) false) event × KeepsReclaim made.first_epoch j past event

    ends : IsNext (leaving_due past one.page (λ f. Ends (Ewb (frame_at f)))) event
    ends = rw out.at refl

    given : IsSealingOf v one → Given
    given (Besides is) = (
      subst (λ x. IsNext (ahead_gives j past false (ahead_by x (due_with j past (outs_kept j past)))) event) (sym going) ends,
      record {
        age = subst (λ x. IsAhead j past (ahead_by x (due_with j past (outs_kept j past))) event) (sym going) out.at;
        form = aside_kept past (pass j past) event (ap (λ x. passes.is_aside x event) going);
        can = can;
        tells = tt;
        epoch = tt;
        slot = tt;
      },
    )
      where
        going : aside past ≡ passes.IsGoing one.page
        going = r.stands.aside ∙ ap aside_by is
    given (OfPass next is found) = (
      subst (λ x. IsNext (ahead_gives j past false x) event) (sym goes)
          (subst (λ p. IsNext (pass_due j past false p) event) (sym passed) ends),
      pass_event made.first_epoch j past (Tries one.page (pages_in t.rest) passes.Sealing) event passed goes (record {
        look = tt;
        in_pass = out.at;
        form = tt;
        can = can;
        tells = tt;
        epoch = tt;
        slot = tt;
      }),
    )
      where
        t : InTries made.first_epoch j past v next forms.Sealing
        t = in_tries made j past v d m r next forms.Sealing is

        its_one : t.one ≡ one
        its_one = same_Some t.one one (sym t.found ∙ found)

        passed : pass j past ≡ Tries one.page (pages_in t.rest) passes.Sealing
        passed = t.passed ∙ ap (λ (x : Taken). Tries x.page (pages_in t.rest) passes.Sealing) its_one

        calm : (aside past ≡ passes.NoneAside) × (due_with j past (outs_kept j past) ≡ None)
        calm = sealing_alone j past age kick (subst IsOut (sym passed) tt)

        goes : ages.ahead j past (outs_kept j past) ≡ ages.GoesOn
        goes = ap (λ x. ahead_by x (due_with j past (outs_kept j past))) calm.0 ∙ ap ahead_due calm.1

    ended : IsEndedOut made.first_epoch j past d e (instructed e.event v) d'
    ended = subst (λ (x : Entry). IsEndedOut made.first_epoch j past d x (instructed x.event v) d') (sym entry_is) (record {
      due = (given seals).0;
      kept = (given seals).1;
      stands = tells.goes made j past v d m r event (given seals).1;
      shows = shown;
    })

pub stored_ends : (made : Making) (j : JobView) (past : List Entry) (v : PassView) (d d' : Driver) (m m' : Parts)
    (told told' : Option (List Call)) (before after : ℕ) (e : Entry) → Ready made j past v d m → Along (KeptAgeRule j) past
    → Along (KickRule j) past → StoredSays v (state_of m) d told before e (state_of m') d' told' after
    → IsEndedOut made.first_epoch j past d e (instructed e.event v) d'
stored_ends made j past v d d' m m' told told' before after e r age kick says = by_one (sealing_in v) refl says
  where
    by_one : (o : Option Taken) → sealing_in v ≡ o
        → IsSomeAnd o (λ one. IsStored one (state_of m) d told before e (state_of m') d' told' after)
        → IsEndedOut made.first_epoch j past d e (instructed e.event v) d'
    by_one None is k = absurd k
    by_one (Some one) is k = ended made j past v d d' m m' told told' before after e r one (sealing_of v one is) k age kick

pub place_used : (v : PassView) (d d' : Driver) (m m' : Parts) (told told' : Option (List Call)) (before after : ℕ) (e : Entry) (n n' : ℕ)
    → StoredSays v (state_of m) d told before e (state_of m') d' told' after → n' + 1 ≡ n → still_out v ≤ n
    → still_out (instructed e.event v) ≤ n'
place_used v d d' m m' told told' before after e n n' says used low = by_one (sealing_in v) refl says
  where
    by_one : (o : Option Taken) → sealing_in v ≡ o
        → IsSomeAnd o (λ one. IsStored one (state_of m) d told before e (state_of m') d' told' after)
        → still_out (instructed e.event v) ≤ n'
    by_one None is k = absurd k
    by_one (Some one) is k =
        subst (λ (x : Entry). still_out (instructed x.event v) ≤ n') (sym k.out.entry)
        (ended_room one.frame (Moved k.out.leaving.page k.out.leaving.start.version k.rec.tag) one v n n' is used low)
