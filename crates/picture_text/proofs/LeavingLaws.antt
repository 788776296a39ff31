-- How far what is in each frame is on its way out, behind an event that was pushed.
use Rattle.std.proofs.Common.{◌≡◌, ℕ, ◌==◌, Bool, true, cond, nat_eq, Option, Some, None, sym, ap, ◌∙◌, inl, inr}
use Rattle.std.proofs.lemmas.Bool.{eqb-true}
use Rattle.sgx_rules.specs.declared.entries.Event.{Event}
use Rattle.sgx_types.specs.declared.names.Frame.{Frame}
use Rattle.sgx_types.proofs.Truths.{tested}
use Rattle.picture_text.specs.declared.leaving.Leaving.{Leaving}
use Rattle.picture_text.specs.Events.{frame_in}
use Rattle.picture_text.specs.inner.Following.{is_on, leaving_or_none, leaving_after}
use Rattle.picture_text.proofs.FrameLaws.{leaving_stays}

-- the frame of the event was written
pub pushed : (event : Event) (f : Frame) (v : Leaving) (was is : ℕ → Option Leaving) (n : ℕ) → frame_in event ≡ Some f
    → ((q : ℕ) → is q ≡ cond (nat_eq f.0 q) (Some v) (was q))
    → ((m : ℕ) → is_on (frame_in event) m ≡ true → v ≡ leaving_after event m (leaving_or_none (was f.0)))
    → leaving_or_none (is n) ≡ leaving_after event n (leaving_or_none (was n))
pushed event f v was is n on reads here =
    let there : is_on (frame_in event) n ≡ (f.0 == n) = ap (λ (o : Option Frame). is_on o n) on in
    elim (tested (f.0 == n)) [
      | inl same ↦
          ap leaving_or_none (reads n ∙ ap (λ (b : Bool). cond b (Some v) (was n)) same)
          ∙ here n (there ∙ same)
          ∙ ap (λ (m : ℕ). leaving_after event n (leaving_or_none (was m))) (eqb-true f.0 n same)
      | inr differ ↦
          ap leaving_or_none (reads n ∙ ap (λ (b : Bool). cond b (Some v) (was n)) differ)
          ∙ sym (leaving_stays event n (leaving_or_none (was n)) (there ∙ differ))
    ]

-- no frame was
pub not_pushed : (event : Event) (n : ℕ) (before : Leaving) → frame_in event ≡ None → before ≡ leaving_after event n before
not_pushed event n before on = sym (leaving_stays event n before (ap (λ (o : Option Frame). is_on o n) on))
