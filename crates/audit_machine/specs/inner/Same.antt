-- Whether two answers, and two refusals, are the same, as tests.
use Rattle.std.specs.Prelude.{◌==◌, ◌&&◌, Bool, true, false, if◌then◌else◌, bytes_eq}
use Rattle.sgx_rules.specs.declared.entries.Answer.{Answer}
use Rattle.sgx_rules.specs.declared.entries.Answer.TheVariants as answers
use Rattle.sgx_rules.specs.declared.entries.PfWhy.{PfWhy}
use Rattle.sgx_rules.specs.declared.entries.PfWhy.TheVariants as faults
use Rattle.sgx_rules.specs.declared.refusals.Refusal.{Refusal}
use Rattle.sgx_rules.specs.declared.refusals.Refusal.TheVariants as why
use Rattle.sgx_rules.specs.declared.entries.Event.{Event}
use Rattle.sgx_rules.specs.declared.entries.Event.TheVariants.{Did, Refused}
use Rattle.sgx_types.specs.Pages.{same_page}
use Rattle.sgx_rules.specs.inner.Refusal.{code_of}

abbrev pub same_fault : PfWhy → PfWhy → Bool
same_fault faults.Absent faults.Absent = true
same_fault faults.WrongType faults.WrongType = true
same_fault faults.NoPerm faults.NoPerm = true
same_fault _ _ = false

abbrev pub same_answer : Answer → Answer → Bool
same_answer answers.Plain answers.Plain = true
same_answer (answers.Cssa m) (answers.Cssa n) = m == n
same_answer (answers.Value m) (answers.Value n) = m == n
same_answer (answers.Hash one) (answers.Hash other) = bytes_eq one other
same_answer (answers.Version m) (answers.Version n) = m == n
same_answer (answers.Moved page m one) (answers.Moved next n other) = same_page page next && ((m == n) && bytes_eq one other)
same_answer (answers.Pf m) (answers.Pf n) = same_fault m n
same_answer (answers.Va m) (answers.Va n) = m == n
same_answer _ _ = false

-- a refusal without numbers
abbrev pub is_bare : Refusal → Bool
is_bare (why.PrevTrk older) = false
is_bare (why.NotTracked epoch older) = false
is_bare (why.SlotOccupied version) = false
is_bare (why.MacFail given computed) = false
is_bare (why.BadHeader enclave address flags) = false
is_bare (why.ChildPresent count) = false
is_bare (why.BadMeasure made) = false
is_bare _ = true

abbrev pub same_numbers : Refusal → Refusal → Bool
same_numbers (why.PrevTrk m) (why.PrevTrk n) = m == n
same_numbers (why.NotTracked e m) (why.NotTracked f n) = (e == f) && (m == n)
same_numbers (why.SlotOccupied m) (why.SlotOccupied n) = m == n
same_numbers (why.MacFail g c) (why.MacFail h d) = bytes_eq g h && bytes_eq c d
same_numbers (why.BadHeader e a f) (why.BadHeader d b g) = (e == d) && ((a == b) && (f == g))
same_numbers (why.ChildPresent m) (why.ChildPresent n) = m == n
same_numbers (why.BadMeasure one) (why.BadMeasure other) = bytes_eq one other
same_numbers _ _ = false

-- refusals without numbers are told apart by their places in the list
abbrev pub same_refusal : Refusal → Refusal → Bool
same_refusal a b = if is_bare a then is_bare b && (code_of a == code_of b) else same_numbers a b

-- two events of one instruction that end alike
abbrev pub same_end : Event → Event → Bool
same_end (Did action answer) (Did same right) = same_answer answer right
same_end (Refused action refusal) (Refused same found) = same_refusal refusal found
same_end _ _ = false
