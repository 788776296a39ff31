-- Facts on the cases of a row of the instruction table.
use Rattle.std.proofs.Common.{◌≡◌, ℕ, ◌<◌, leb, ◌||◌, Bool, true, false, cond, refl, Option, Some, None, [], ◌∷◌}
use Rattle.std.proofs.Common.{◌++◌}
use Rattle.std.proofs.lemmas.Bool.{leb-false}
use Rattle.sgx_types.specs.Cases.{first_of_row}
use Rattle.sgx_rules.specs.declared.refusals.Refusal.{Refusal}
use Rattle.sgx_rules.specs.Flat.{settled}
use Rattle.sgx_rules.specs.Table.{EnclaveSight, init_row, Row, SecsSight}
use Rattle.sgx_types.proofs.Truths.{neither}

-- no case of a row holds
abbrev pub NoneHolds : Row → Type 0
NoneHolds [] = Unit {0}
NoneHolds (c ∷ cases) = (c.holds ≡ false) × NoneHolds cases

-- a row that refuses nothing has no case that holds
pub none_holds : (cases : Row) → first_of_row cases ≡ None → NoneHolds cases
none_holds [] h = tt
none_holds (c ∷ cases) h = by_test c.holds h (none_holds cases)
  where
    by_test : (b : Bool) → cond b (Some c.why) (first_of_row cases) ≡ None → (first_of_row cases ≡ None → NoneHolds cases)
        → (b ≡ false) × NoneHolds cases
    by_test true e more = cc
    by_test false e more = (refl, more e)

-- .. and a row of which no case holds refuses nothing
pub none_refused : (cases : Row) → NoneHolds cases → first_of_row cases ≡ None
none_refused [] h = refl
none_refused (c ∷ cases) h = rw h.0 (none_refused cases h.1)

-- a case of the first rows is one of a longer row
pub first_longer : (cases rest : Row) (r : Refusal) → first_of_row cases ≡ Some r → first_of_row (cases ++ rest) ≡ Some r
first_longer [] rest r is = cc is
first_longer (c ∷ cases) rest r is = by_test c.holds is (first_longer cases rest r)
  where
    by_test : (b : Bool) → cond b (Some c.why) (first_of_row cases) ≡ Some r
        → (first_of_row cases ≡ Some r → first_of_row (cases ++ rest) ≡ Some r)
        → cond b (Some c.why) (first_of_row (cases ++ rest)) ≡ Some r
    by_test true k more = k
    by_test false k more = more k

-- an `init` that is allowed is so in flat memory, where each SECS is in
pub init_open : (o : Option EnclaveSight) (secs : SecsSight) → first_of_row (init_row o secs) ≡ None
    → first_of_row (init_row o settled) ≡ None
init_open None secs allowed = cc allowed
init_open (Some enclave) secs allowed =
    let none = none_holds (init_row (Some enclave) secs) allowed in
    none_refused (init_row (Some enclave) settled) (refl, (refl, (none.1.1.0, tt)))

-- a start that finds its two frames names two of the EPC
pub start_names : (frames f slot : ℕ) (other : Bool) → ((leb frames f || leb frames slot) || other) ≡ false → (f < frames) × (slot < frames)
start_names frames f slot other within =
    let both = neither (leb frames f) (leb frames slot) (neither (leb frames f || leb frames slot) other within).0 in
    (leb-false _ _ both.0, leb-false _ _ both.1)
