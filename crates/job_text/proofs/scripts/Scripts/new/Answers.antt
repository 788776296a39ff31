use Rattle.std.proofs.Common.{◌≡◌, ℕ, ◌+◌, ◌*◌, Option, None, Some, replicate, refl, arith}
use Rattle.std.proofs.lemmas.List.{get_or-replicate}
use Rattle.job_text.proofs.scripts.Scripts.new.Goals as goal

-- a clone of None is None
only-none : {X : Type 0} (is_clone : Option X → Type 0) → ((x : X) → is_clone (Some x) → ⊥) → (y : Option X) → is_clone y → y ≡ None
only-none is_clone never None e = refl
only-none is_clone never (Some x) e = absurd (never x e)

pub invariant_of-result : goal.invariant_of-result
invariant_of-result c =
    let free : Option ℕ = None in
    let items : c.in_ok-owners.owners.items ≡ replicate (9 * 4096) free =
    c.in_ok-owners.ensures.items_if_clones_equal (only-none _ (λ x e. e)) in
    record {
      sized = c.in_ok-owners.ensures.len;
      few = rw c.new.ensures.items (omega arith);
      tells = λ enclave number low small. rw (c.new.ensures.items, items)
          (get_or-replicate (9 * 4096) (enclave * 4096 + number) free free (omega (arith, low, small)));
    }
