-- The names that a trace has for what stands in its entries.
use Rattle.std.specs.Prelude.{ℕ, List, [], ◌∷◌, codes}
use Rattle.sgx_rules.specs.declared.entries.Cause.{Cause}
use Rattle.sgx_rules.specs.declared.entries.Cause.TheVariants as causes
use Rattle.sgx_rules.specs.declared.entries.AccessOp.{AccessOp}
use Rattle.sgx_rules.specs.declared.entries.AccessOp.TheVariants as accesses
use Rattle.sgx_rules.specs.declared.entries.PfWhy.{PfWhy}
use Rattle.sgx_rules.specs.declared.entries.PfWhy.TheVariants as faults
use Rattle.sgx_rules.specs.declared.entries.Look.{Look}
use Rattle.sgx_rules.specs.declared.entries.Look.TheVariants as looks
use Rattle.sgx_rules.specs.declared.entries.BusWhy.{BusWhy}
use Rattle.sgx_rules.specs.declared.entries.BusWhy.TheVariants as stops
use Rattle.sgx_types.specs.declared.names.Kind.{Kind}
use Rattle.sgx_types.specs.declared.names.Kind.TheVariants as kinds
use Rattle.sgx_types.specs.declared.names.Perm.{Perm}
use Rattle.text_words.specs.Words.{perm_word}
use Rattle.trace_text.specs.declared.edition.Edition.{Edition}
use Rattle.trace_text.specs.declared.edition.Edition.TheVariants as editions

abbrev pub kind_word : Kind → List ℕ
kind_word kinds.Secs = codes "secs"
kind_word kinds.Tcs = codes "tcs"
kind_word kinds.Reg = codes "reg"
kind_word kinds.Va = codes "va"

-- the permissions' letters, or a dash for none
abbrev pub perms_word : Perm → List ℕ
perms_word p = dash_or (perm_word p)
  where
    dash_or : List ℕ → List ℕ
    dash_or [] = codes "-"
    dash_or (c ∷ cs) = c ∷ cs

abbrev pub cause_word : Cause → List ℕ
cause_word causes.Timer = codes "timer"
cause_word causes.Fault = codes "fault"
cause_word causes.Kick = codes "kick"
cause_word causes.End = codes "end"

abbrev pub access_word : AccessOp → List ℕ
access_word accesses.Load = codes "load"
access_word accesses.Store = codes "store"
access_word accesses.Xadd = codes "xadd"

abbrev pub fault_word : PfWhy → List ℕ
fault_word faults.Absent = codes "absent"
fault_word faults.WrongType = codes "type"
fault_word faults.NoPerm = codes "perm"

abbrev pub look_word : Look → List ℕ
look_word looks.Young = codes "young"
look_word looks.Held = codes "held"
look_word looks.NoRoom = codes "noroom"
look_word looks.Taken = codes "taken"

abbrev pub stop_word : BusWhy → List ℕ
stop_word stops.GetFailed = codes "get"
stop_word stops.NoRecord = codes "none"
stop_word stops.PutFailed = codes "put"
stop_word stops.Mac = codes "mac"
stop_word stops.Header = codes "header"
stop_word stops.Slot = codes "slot"

-- the number on a text's first line
abbrev pub edition_word : Edition → List ℕ
edition_word editions.One = codes "1"
edition_word editions.Two = codes "2"
