-- What the machine's parts tell of frames and enclaves.
use Rattle.std.proofs.Common.{◌≡◌, ℕ, Bool, true, false, sym, ap, refl, ◌∙◌, length, Option, Some, None, is_some, nat_le, leb}
use Rattle.std.proofs.lemmas.Bool.{false≢true, leb-true}
use Rattle.std.proofs.lemmas.List.{get_or_past}
use Rattle.sgx_types.specs.declared.names.Page.{Page}
use Rattle.sgx_rules.specs.Flat.{FlatEnclave, enclave_sight_of}
use Rattle.sgx_rules.specs.Frames.{is_free}
use Rattle.sgx_rules.specs.Table as table
use Rattle.epcm_entry.specs.inner.Epc.{free_frame}
use Rattle.epcm_entry.specs.inner.Sights.{held}
use Rattle.secs_state.specs.inner.Secs.{SecsState}
use Rattle.secs_state.specs.inner.Table.{enclave_at}
use Rattle.sgx_machine.specs.inner.Parts.{Parts, added_in, enclave_of, state_of}

-- a frame that is not free is one of the EPC's
pub held_within : (d : Parts) (n : ℕ) → is_free ((state_of d).content n) ≡ false → nat_le (length d.epc) n ≡ false
held_within d n used = by_test (leb (length d.epc) n) refl
  where
    by_test : (b : Bool) → leb (length d.epc) n ≡ b → b ≡ false
    by_test true is =
        absurd
        (false≢true (sym used ∙ ap (λ x. is_free (held x.entry)) (get_or_past d.epc n free_frame (leb-true (length d.epc) n is))))
    by_test false is = refl

-- an added page's enclave was created
pub added_created : (d : Parts) (g : Page) → is_some ((state_of d).added g) ≡ true → is_some ((state_of d).enclaves g.enclave) ≡ true
added_created d g = by_enclave (enclave_at d.secs g.enclave)
  where
    by_enclave : (o : Option SecsState) → is_some (added_in o g.number) ≡ true → is_some (enclave_of o) ≡ true
    by_enclave None h = cc
    by_enclave (Some x) h = refl

-- an enclave that was created is seen
pub seen_made : (o : Option FlatEnclave) → is_some o ≡ true → table.is_made (enclave_sight_of o) ≡ true
seen_made None h = cc
seen_made (Some x) h = refl
