-- Facts on the tests of pages and of slots.
use Rattle.std.proofs.Common.{◌≡◌, ◌==◌, ℕ, true, refl}
use Rattle.std.proofs.lemmas.Bool.{eqb-true, eq-eqb}
use Rattle.sgx_types.specs.declared.names.Page.{Page}
use Rattle.sgx_types.specs.declared.names.SlotAt.{SlotAt}
use Rattle.sgx_types.specs.declared.names.VaSlot.{VaSlot}
use Rattle.sgx_types.specs.Pages.{page_at, same_page}
use Rattle.sgx_types.specs.Pages.{same_slot}
use Rattle.sgx_types.specs.inner.Places.{same_place}
use Rattle.sgx_types.proofs.Truths.{both_true, eqb-swap}

-- pages that the test finds the same are equal
pub same_pages : (a b : Page) → same_page a b ≡ true → a ≡ b
same_pages a b h =
    let k = both_true (a.enclave == b.enclave) (a.number == b.number) h in
    λ i. record { enclave = eqb-true a.enclave b.enclave k.0 i; number = eqb-true a.number b.number k.1 i }

-- a page is the same as itself
pub same_page-refl : (a : Page) → same_page a a ≡ true
same_page-refl a = rw (eq-eqb a.enclave a.enclave refl, eq-eqb a.number a.number refl) refl

pub same_page-at : (enclave number : ℕ) → same_page (page_at enclave number) (page_at enclave number) ≡ true
same_page-at enclave number = same_page-refl (page_at enclave number)

-- the test of two pages goes either way round
pub same_page-swap : (a b : Page) → same_page a b ≡ same_page b a
same_page-swap a b = rw (eqb-swap a.enclave b.enclave, eqb-swap a.number b.number) refl

-- slots that the test finds the same are equal
pub same_slots : (a b : VaSlot) → same_slot a b ≡ true → a ≡ b
same_slots a b h =
    let k = both_true (a.va == b.va) (a.index == b.index) h in
    λ i. record { va = eqb-true a.va b.va k.0 i; index = eqb-true a.index b.index k.1 i }

-- a slot is the same as itself
pub same_slot-refl : (s : VaSlot) → same_slot s s ≡ true
same_slot-refl s = rw (eq-eqb s.va s.va refl, eq-eqb s.index s.index refl) refl

-- places that the test finds the same are equal
pub same_places : (a b : SlotAt) → same_place a b ≡ true → a ≡ b
same_places a b h =
    let k = both_true (a.frame.0 == b.frame.0) (a.index == b.index) h in
    λ i. record { frame = record a.frame { 0 = eqb-true a.frame.0 b.frame.0 k.0 i }; index = eqb-true a.index b.index k.1 i }

-- a place is the same as itself
pub same_place-refl : (s : SlotAt) → same_place s s ≡ true
same_place-refl s = rw (eq-eqb s.frame.0 s.frame.0 refl, eq-eqb s.index s.index refl) refl
