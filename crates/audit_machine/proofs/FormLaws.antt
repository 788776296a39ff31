-- The test of a form holds exactly where the row's form is.
use Rattle.std.proofs.Common.{◌≡◌, ℕ, Bool, true, false, refl, List}
use Rattle.sgx_rules.specs.declared.entries.Entry.{Entry}
use Rattle.sgx_rules.specs.declared.entries.Action.{Action}
use Rattle.sgx_rules.specs.declared.entries.Action.TheVariants.{Epa, Create, Add, Extend, Init, Enter, Resume, Exit, Aex, Fill}
use Rattle.sgx_rules.specs.declared.entries.Action.TheVariants.{Load, Store}
use Rattle.sgx_rules.specs.declared.entries.Action.TheVariants.{Xadd, Set, Plus, Pf, OutLoad, OutStore, Block, Track, EwbStart}
use Rattle.sgx_rules.specs.declared.entries.Action.TheVariants.{Ewb}
use Rattle.sgx_rules.specs.declared.entries.Action.TheVariants.{EldStart, Eld}
use Rattle.sgx_rules.specs.declared.entries.Answer.{Answer}
use Rattle.sgx_rules.specs.declared.entries.Answer.TheVariants as answers
use Rattle.sgx_rules.specs.declared.entries.PfWhy.{PfWhy}
use Rattle.sgx_rules.specs.Rules.{HasForm}
use Rattle.audit_machine.specs.inner.Forms.{has_form, is_cssa, is_fault, is_hash, is_plain, is_value, is_version}

-- ---- one answer

plain-is : (a : Answer) → is_plain a ≡ true → a ≡ answers.Plain
plain-is answers.Plain h = refl
plain-is a h = absurd cc

pub value_is : (a : Answer) → is_value a ≡ true → (v : ℕ) × (a ≡ answers.Value v)
value_is (answers.Value v) h = (v, refl)
value_is a h = absurd cc

pub cssa_is : (a : Answer) → is_cssa a ≡ true → (v : ℕ) × (a ≡ answers.Cssa v)
cssa_is (answers.Cssa v) h = (v, refl)
cssa_is a h = absurd cc

pub hash_is : (a : Answer) → is_hash a ≡ true → (digest : List ℕ) × (a ≡ answers.Hash digest)
hash_is (answers.Hash digest) h = (digest, refl)
hash_is a h = absurd cc

pub version_is : (a : Answer) → is_version a ≡ true → (v : ℕ) × (a ≡ answers.Version v)
version_is (answers.Version v) h = (v, refl)
version_is a h = absurd cc

pub fault_is : (a : Answer) → is_fault a ≡ true → (fault : PfWhy) × (a ≡ answers.Pf fault)
fault_is (answers.Pf fault) h = (fault, refl)
fault_is a h = absurd cc

-- ---- by the instruction

pub has_its_form : (past : List Entry) (action : Action) (answer : Answer) → has_form action answer ≡ true → HasForm past action answer
has_its_form past (Epa f) answer h = absurd cc
has_its_form past (Create enclave f base size) answer h = plain-is answer h
has_its_form past (Add enclave number f kind perm init) answer h = plain-is answer h
has_its_form past (Extend f chunk) answer h = plain-is answer h
has_its_form past (Init enclave expect) answer h = hash_is answer h
has_its_form past (Enter enclave tcs tf sf) answer h = cssa_is answer h
has_its_form past (Resume enclave tcs tf sf) answer h = value_is answer h
has_its_form past Exit answer h = plain-is answer h
has_its_form past (Aex cause) answer h = plain-is answer h
has_its_form past (Fill number f) answer h = plain-is answer h
has_its_form past (Load off) answer h = value_is answer h
has_its_form past (Store off value) answer h = plain-is answer h
has_its_form past (Xadd off value) answer h = value_is answer h
has_its_form past (Set value) answer h = plain-is answer h
has_its_form past (Plus value) answer h = value_is answer h
has_its_form past (Pf op off) answer h = fault_is answer h
has_its_form past (OutLoad enclave off) answer h = value_is answer h
has_its_form past (OutStore enclave off value) answer h = plain-is answer h
has_its_form past (Block f) answer h = plain-is answer h
has_its_form past (Track enclave) answer h = plain-is answer h
has_its_form past (EwbStart f slot) answer h = version_is answer h
has_its_form past (Ewb f) answer h = absurd cc
has_its_form past (EldStart f page slot) answer h = absurd cc
has_its_form past (Eld f) answer h = absurd cc

-- the instructions of which the test says nothing
abbrev pub is_apart : Action → Bool
is_apart (Epa f) = true
is_apart (Ewb f) = true
is_apart (EldStart f page slot) = true
is_apart (Eld f) = true
is_apart _ = false

pub is_of_its_form : (past : List Entry) (action : Action) (answer : Answer) → is_apart action ≡ false → HasForm past action answer
    → has_form action answer ≡ true
is_of_its_form past (Epa f) answer apart h = absurd cc
is_of_its_form past (Init enclave expect) answer apart h = rw h.1 refl
is_of_its_form past (Enter enclave tcs tf sf) answer apart h = rw h.1 refl
is_of_its_form past (Resume enclave tcs tf sf) answer apart h = rw h.1 refl
is_of_its_form past (Load off) answer apart h = rw h.1 refl
is_of_its_form past (Xadd off value) answer apart h = rw h.1 refl
is_of_its_form past (Plus value) answer apart h = rw h.1 refl
is_of_its_form past (Pf op off) answer apart h = rw h.1 refl
is_of_its_form past (OutLoad enclave off) answer apart h = rw h.1 refl
is_of_its_form past (EwbStart f slot) answer apart h = rw h.1 refl
is_of_its_form past (Ewb f) answer apart h = absurd cc
is_of_its_form past (EldStart f page slot) answer apart h = absurd cc
is_of_its_form past (Eld f) answer apart h = absurd cc
is_of_its_form past action answer apart h = rw h refl
