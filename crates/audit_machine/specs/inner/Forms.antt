-- Whether an answer has the form that its row gives, as a test. Of EPA, of the ends of starts, and of the start of ELDU, the form says
-- more, and is tested apart.
use Rattle.std.specs.Prelude.{Bool, true, false}
use Rattle.sgx_rules.specs.declared.entries.Action.{Action}
use Rattle.sgx_rules.specs.declared.entries.Action.TheVariants.{Epa, Create, Add, Extend, Init, Enter, Resume, Exit, Aex, Fill}
use Rattle.sgx_rules.specs.declared.entries.Action.TheVariants.{Load, Store}
use Rattle.sgx_rules.specs.declared.entries.Action.TheVariants.{Xadd, Set, Plus, Pf, OutLoad, OutStore, Block, Track, EwbStart}
use Rattle.sgx_rules.specs.declared.entries.Action.TheVariants.{Ewb}
use Rattle.sgx_rules.specs.declared.entries.Action.TheVariants.{EldStart, Eld}
use Rattle.sgx_rules.specs.declared.entries.Answer.{Answer}
use Rattle.sgx_rules.specs.declared.entries.Answer.TheVariants as answers

abbrev pub is_plain : Answer → Bool
is_plain answers.Plain = true
is_plain _ = false

abbrev pub is_value : Answer → Bool
is_value (answers.Value word) = true
is_value _ = false

abbrev pub is_cssa : Answer → Bool
is_cssa (answers.Cssa cssa) = true
is_cssa _ = false

abbrev pub is_hash : Answer → Bool
is_hash (answers.Hash digest) = true
is_hash _ = false

abbrev pub is_version : Answer → Bool
is_version (answers.Version version) = true
is_version _ = false

abbrev pub is_fault : Answer → Bool
is_fault (answers.Pf fault) = true
is_fault _ = false

-- the instructions whose rows decide them: all but the two commits. EPA and the start of ELDU have their answers by their rows too
abbrev pub has_form : Action → Answer → Bool
has_form (Epa f) answer = false
has_form (Create enclave f base size) answer = is_plain answer
has_form (Add enclave number f kind perm init) answer = is_plain answer
has_form (Extend f chunk) answer = is_plain answer
has_form (Init enclave expect) answer = is_hash answer
has_form (Enter enclave tcs tf sf) answer = is_cssa answer
has_form (Resume enclave tcs tf sf) answer = is_value answer
has_form Exit answer = is_plain answer
has_form (Aex cause) answer = is_plain answer
has_form (Fill number f) answer = is_plain answer
has_form (Load off) answer = is_value answer
has_form (Store off value) answer = is_plain answer
has_form (Xadd off value) answer = is_value answer
has_form (Set value) answer = is_plain answer
has_form (Plus value) answer = is_value answer
has_form (Pf op off) answer = is_fault answer
has_form (OutLoad enclave off) answer = is_value answer
has_form (OutStore enclave off value) answer = is_plain answer
has_form (Block f) answer = is_plain answer
has_form (Track enclave) answer = is_plain answer
has_form (EwbStart f slot) answer = is_version answer
has_form (Ewb f) answer = false
has_form (EldStart f page slot) answer = false
has_form (Eld f) answer = false
