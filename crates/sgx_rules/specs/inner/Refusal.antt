-- The number of each refusal.
use Rattle.std.specs.Prelude.{ℕ}
use Rattle.sgx_rules.specs.declared.refusals.Refusal.{Refusal}
use Rattle.sgx_rules.specs.declared.refusals.Refusal.TheVariants as why

-- the place of a refusal in their list, from 1
abbrev pub code_of : Refusal → ℕ
code_of why.PgInvld = 1
code_of why.PgIsSecs = 2
code_of why.NotBlockable = 3
code_of why.BlkState = 4
code_of why.Conflict = 5
code_of (why.PrevTrk older) = 6
code_of why.EpochSpent = 7
code_of why.PageNotBlocked = 8
code_of (why.NotTracked epoch older) = 9
code_of (why.SlotOccupied version) = 10
code_of why.SlotEmpty = 11
code_of why.VersionSpent = 12
code_of (why.MacFail given computed) = 13
code_of (why.BadHeader enclave address flags) = 14
code_of (why.ChildPresent count) = 15
code_of why.PageExists = 16
code_of why.BadRange = 17
code_of why.BadPerm = 18
code_of why.BadKind = 19
code_of why.NotInit = 20
code_of why.IsInit = 21
code_of (why.BadMeasure made) = 22
code_of why.TcsBusy = 23
code_of why.NoFrame = 24
code_of why.NoSaved = 25
code_of why.FrameBusy = 26
code_of why.Absent = 27
code_of why.Blocked = 28
code_of why.NoPerm = 29
code_of why.Miss = 30
code_of why.NoFault = 31
code_of why.WrongMode = 32
