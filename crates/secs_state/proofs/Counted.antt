-- What an enclave counts of the frames once one of them holds something else.
use Rattle.std.proofs.Common.{◌≡◌, ℕ, ◌+◌, ◌<◌, ◌==◌, Bool, true, false, cond, refl, sym, ap, ◌∙◌, arith, option_map}
use Rattle.std.proofs.lemmas.Bool.{cond_both, eqb-true}
use Rattle.sgx_types.specs.declared.names.Frame.{Frame}
use Rattle.sgx_types.proofs.CountLaws.{count_below-agrees, count_below-put, one_if}
use Rattle.sgx_types.proofs.LeastLaws.{least_agrees}
use Rattle.sgx_rules.specs.Frames.{Content, children, is_child, is_secs_of}
use Rattle.secs_state.specs.inner.Resident.{IsCountedIn}
use Rattle.secs_state.specs.inner.Secs.{SecsState}

-- a frame comes to hold something else, where no SECS comes or goes
pub counted_put : (frames : ℕ) (old new : ℕ → Content) (f : ℕ) (c : Content) (e : ℕ) (x y : SecsState) → f < frames
    → ((n : ℕ) → new n ≡ cond (f == n) c (old n)) → is_secs_of (old f) e ≡ false → is_secs_of c e ≡ false
    → y.frame ≡ x.frame → y.children + one_if (is_child (old f) e) ≡ x.children + one_if (is_child c e)
    → IsCountedIn frames old e x → IsCountedIn frames new e y
counted_put frames old new f c e x y low put none no_secs frame children_are h = record {
  children =
      let now : children frames new e ≡ _ = count_below-agrees (λ n. is_child (new n) e)
      (λ n. cond (f == n) (is_child c e) (is_child (old n) e))
      (λ n. ap (λ v. is_child v e) (put n) ∙ moved (λ v. is_child v e) (f == n) (old n)) frames in
      let one = count_below-put (λ n. is_child (old n) e) frames f (is_child c e) low in
      omega (arith, now, one, h.children, children_are);
  frame = ap (option_map (λ (f : Frame). f.0)) frame ∙ h.frame
      ∙ sym (least_agrees (λ n. is_secs_of (new n) e) (λ n. is_secs_of (old n) e) frames
      (λ n less. ap (λ v. is_secs_of v e) (put n) ∙ same n));
}
  where
    moved : (test : Content → Bool) (b : Bool) (v : Content) → test (cond b c v) ≡ cond b (test c) (test v)
    moved test true v = refl
    moved test false v = refl

    same : (n : ℕ) → is_secs_of (cond (f == n) c (old n)) e ≡ is_secs_of (old n) e
    same n = cond_both (f == n) c (old n) (λ v. is_secs_of v e ≡ is_secs_of (old n) e)
        (λ here. no_secs ∙ sym none ∙ ap (λ m. is_secs_of (old m) e) (eqb-true f n here)) (λ _. refl)
