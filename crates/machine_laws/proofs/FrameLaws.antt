-- The frames that a done instruction names are of the EPC, and what takes a frame takes a free one, whatever a driver loads.
use Rattle.std.proofs.Common.{◌≡◌, ℕ, ◌<◌, ◌==◌, inl, inr, true, cond, refl, ap, Option, Some, None, MatchOption, is_some}
use Rattle.std.proofs.Common.{List, [], ◌∷◌, length}
use Rattle.std.proofs.lemmas.Bool.{cond_both, false≢true, eqb-true}
use Rattle.sgx_rules.specs.declared.entries.Entry.{Entry}
use Rattle.sgx_rules.specs.declared.entries.Event.{Event}
use Rattle.sgx_rules.specs.declared.entries.Event.TheVariants.{Did, Refused}
use Rattle.sgx_types.specs.declared.names.Actor.{Actor}
use Rattle.sgx_rules.specs.declared.entries.Action.{Action}
use Rattle.sgx_rules.specs.declared.entries.Action.TheVariants.{EwbStart, Ewb, EldStart, Eld}
use Rattle.sgx_rules.specs.declared.entries.Answer.TheVariants as answers
use Rattle.sgx_types.specs.declared.names.Frame.{Frame}
use Rattle.sgx_rules.specs.declared.refusals.Refusal.{Refusal}
use Rattle.sgx_rules.specs.Frames.{content, reloaded}
use Rattle.sgx_rules.specs.Rules.{Along, FitsRule}
use Rattle.sgx_types.specs.Sealed.{Sealed}
use Rattle.sgx_rules.specs.Starts.{Start, open_start, opened_by}
use Rattle.sgx_rules.specs.inner.Starts.{BareStart}
use Rattle.sgx_types.specs.Cases.{first_of_row}
use Rattle.seal_record.specs.Cipher.{cipher}
use Rattle.machine_laws.specs.inner.Columns.{HasColumns}
use Rattle.machine_laws.specs.inner.State.{State, row_of, after_eld, after_failed_eld}
use Rattle.machine_laws.specs.inner.Steps.{CanApply, IsDone, IsReloaded, IsStep, IsWrittenOut, commit_row, did_by, refused_by}
use Rattle.machine_laws.proofs.SlotLaws.{started_as}
use Rattle.machine_laws.proofs.RowLaws.{row_fits, step_entry, IsEntryOf}

-- an instruction
pub step_frames : (s t : State) (past : List Entry) (cpus : ℕ) (a : Actor) (action : Action) (e : Entry) → CanApply cpus a action
    → HasColumns s past → IsStep s a action e t → FitsRule s.frames past e
step_frames s t past cpus a action e can columns k = by_row (first_of_row (row_of s a action)) refl k
  where
    by_entry : first_of_row (row_of s a action) ≡ None → IsEntryOf a action e → FitsRule s.frames past e
    by_entry allowed (inl (answer, is)) = rw is (row_fits s past cpus a action can columns allowed)
    by_entry allowed (inr (r, is)) = rw is tt

    by_row : (o : Option Refusal) → first_of_row (row_of s a action) ≡ o
        → MatchOption o (IsDone s a action e t) (λ r. (e ≡ refused_by a action r) × (t ≡ s)) → FitsRule s.frames past e
    by_row None allowed now = by_entry allowed (step_entry s t a action e k)
    by_row (Some r) refused is = rw is.0 tt

-- ---- the commits

-- an open start is one of a frame of the EPC
pub open_below : (frames : ℕ) (past : List Entry) (n : ℕ) → Along (FitsRule frames) past → is_some (open_start past n) ≡ true → n < frames
open_below frames [] n rules is = absurd (false≢true is)
open_below frames (e ∷ past) n rules is = by_event e.event rules.0 (open_below frames past n rules.1) is
  where
    by_start : (f : ℕ) (o : Option Start) → f < frames → (is_some (open_start past n) ≡ true → n < frames)
        → is_some (cond (f == n) o (open_start past n)) ≡ true → n < frames
    by_start f o below before = cond_both (f == n) o (open_start past n) (λ v. is_some v ≡ true → n < frames)
        (λ here is. rw (← eqb-true f n here) below) (λ _ is. before is)

    by_event : (v : Event) → FitsRule frames past (record { actor = e.actor; event = v })
        → (is_some (open_start past n) ≡ true → n < frames)
        → is_some (opened_by e.actor (length past) (content past) v n (open_start past n)) ≡ true
        → n < frames
    by_event (Did (EwbStart f slot) answer) rule before is = by_start f.0 _ rule.0.0 before is
    by_event (Did (EldStart f page slot) answer) rule before is = by_start f.0 _ rule.0.0 before is
    by_event (Did (Ewb f) answer) rule before is = by_start f.0 _ rule.0 before is
    by_event (Did (Eld f) answer) rule before is = by_start f.0 _ rule.0 before is
    by_event (Refused (Eld f) refusal) rule before is =
        cond_both (f.0 == n) None (open_start past n) (λ v. is_some v ≡ true → n < frames) (λ _ there. absurd (false≢true there))
        (λ _ there. before there) is
    by_event _ rule before is = before is

-- a frame whose start is open is one of the EPC
below : (s : State) (past : List Entry) (f : ℕ) (start : BareStart) → Along (FitsRule s.frames) past → HasColumns s past
    → s.start f ≡ Some start → f < s.frames
below s past f start rules columns opened =
    open_below s.frames past f rules (ap is_some (started_as s past columns f start opened).opened)

-- a write-out that ends
pub written_frames : (s t : State) (past : List Entry) (a : Actor) (f : Frame) (e : Entry) (rec : Sealed) → Along (FitsRule s.frames) past
    → HasColumns s past → IsWrittenOut s a f e rec t → FitsRule s.frames past e
written_frames s t past a f e rec rules columns out =
    rw out.entry (below s past f.0 out.leaving.start rules columns out.leaving.opened, tt)

-- a load that ends
pub reloaded_frames : (s t : State) (past : List Entry) (a : Actor) (f : Frame) (e : Entry) (rec : Sealed) → Along (FitsRule s.frames) past
    → HasColumns s past → IsReloaded s a f rec e t → FitsRule s.frames past e
reloaded_frames s t past a f e rec rules columns back = by_row (first_of_row (commit_row s f.0 back.coming rec)) back.row
  where
    by_row : (o : Option Refusal)
        → MatchOption o
        ((e ≡ did_by a (Eld f) (answers.Moved back.coming.page back.coming.start.version rec.tag))
        × (t ≡ after_eld s f.0 back.coming.start (reloaded back.coming.page (s.added back.coming.page))
        (cipher s.key back.coming.start.version rec.cipher)))
        (λ r. (e ≡ refused_by a (Eld f) r) × (t ≡ after_failed_eld s f.0 back.coming.start))
        → FitsRule s.frames past e
    by_row None done = rw done.0 (below s past f.0 back.coming.start rules columns back.coming.opened, tt)
    by_row (Some r) refused = rw refused.0 tt
