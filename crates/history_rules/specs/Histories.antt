-- The rules of a trace together: what each says of a place, and when a trace keeps them, goes on, or fails. Entries stand newest first.
use Rattle.std.specs.Prelude.{ℕ, ◌≡◌, ◌<◌, List, [], ◌∷◌, ◌++◌, Option, Some, None, length}
use Rattle.sgx_rules.specs.declared.entries.Entry.{Entry}
use Rattle.sgx_rules.specs.Rules.{EvictRule, FitsRule, FlatRule, NoneStale, NoPageTwice, RefusalRule, StaleRule}
use Rattle.sgx_rules.specs.Fresh.{FreshRule}
use Rattle.seal_record.specs.Sealing.{SealedRule}
use Rattle.measure_log.specs.Rule.{MeasureRule}
use Rattle.job_grammar.specs.Jobs.{JobView}
use Rattle.script_rules.specs.Machines.{machine_of}
use Rattle.driver_rules.specs.Ages.{AgeRule, KickRule}
use Rattle.driver_rules.specs.Scripts.{IsEnded, ScriptRule}
use Rattle.history_rules.specs.declared.rules.Rule.{Rule}
use Rattle.history_rules.specs.declared.rules.Rule.TheVariants as rules

-- the order in which the rules are named
abbrev pub rank : Rule → ℕ
rank rules.Script = 0
rank rules.Refusal = 1
rank rules.Flat = 2
rank rules.Fits = 3
rank rules.Stale = 4
rank rules.Evict = 5
rank rules.Fresh = 6
rank rules.Sealed = 7
rank rules.Measure = 8
rank rules.Age = 9
rank rules.Kick = 10

-- ---- what a rule says of a place: of the entries before it, and of the next one, None at the end

-- a rule on entries says nothing of the end
abbrev pub AtEntry : (List Entry → Entry → Type 0) → List Entry → Option Entry → Type 0
AtEntry rule past None = Unit {0}
AtEntry rule past (Some e) = rule past e

-- who makes which entry next, and at the end that all is done
abbrev pub SaysScript : JobView → List Entry → Option Entry → Type 0
SaysScript j past None = IsEnded j past
SaysScript j past (Some e) = ScriptRule j past e

abbrev pub RuleSays : JobView → Rule → List Entry → Option Entry → Type 0
RuleSays j rules.Script past next = SaysScript j past next
RuleSays j rules.Refusal past next = AtEntry (RefusalRule (machine_of j)) past next
RuleSays j rules.Flat past next = AtEntry FlatRule past next
RuleSays j rules.Fits past next = AtEntry (FitsRule j.epc) past next × NoPageTwice past
RuleSays j rules.Stale past next = AtEntry StaleRule past next × NoneStale past
RuleSays j rules.Evict past next = AtEntry EvictRule past next
RuleSays j rules.Fresh past next = AtEntry (FreshRule j.start_version) past next
RuleSays j rules.Sealed past next = AtEntry (SealedRule j.key) past next
RuleSays j rules.Measure past next = AtEntry MeasureRule past next
RuleSays j rules.Age past next = AtEntry (AgeRule j) past next
RuleSays j rules.Kick past next = AtEntry (KickRule j) past next

-- ---- along a trace

-- what is said holds at each entry
abbrev pub Before : (List Entry → Option Entry → Type 0) → List Entry → Type 0
Before says [] = Unit {0}
Before says (e ∷ past) = says past (Some e) × Before says past

-- .. and at the end
abbrev pub Throughout : (List Entry → Option Entry → Type 0) → List Entry → Type 0
Throughout says past = says past None × Before says past

-- a trace keeps a rule
abbrev pub Keeps : JobView → Rule → List Entry → Type 0
Keeps j rule past = Throughout (RuleSays j rule) past

-- a trace is a history of the job
pub record History (j : JobView) (past : List Entry) : Type 0 where
  pub script : Keeps j rules.Script past
  pub refusal : Keeps j rules.Refusal past
  pub flat : Keeps j rules.Flat past
  pub fits : Keeps j rules.Fits past
  pub stale : Keeps j rules.Stale past
  pub evict : Keeps j rules.Evict past
  pub fresh : Keeps j rules.Fresh past
  pub sealed : Keeps j rules.Sealed past
  pub measure : Keeps j rules.Measure past
  pub age : Keeps j rules.Age past
  pub kick : Keeps j rules.Kick past

-- ---- where a trace fails

-- a place of a trace: these entries stand before it, and this one is next
abbrev pub IsPlace : List Entry → List Entry → Option Entry → Type 0
IsPlace whole past None = whole ≡ past
IsPlace whole past (Some e) = (later : List Entry) × (whole ≡ later ++ e ∷ past)

-- at a place this rule fails, and none that is named before it
pub record FailsHere (j : JobView) (past : List Entry) (next : Option Entry) (rule : Rule) : Type 0 where
  pub earlier : (r : Rule) → rank r < rank rule → RuleSays j r past next
  pub fails : RuleSays j rule past next → ⊥

-- .. and at no earlier place any rule fails
pub record FailsFirst (j : JobView) (whole : List Entry) (place : ℕ) (rule : Rule) : Type 0 where
  pub past : List Entry
  pub next : Option Entry
  pub is_place : IsPlace whole past next
  pub placed : length past ≡ place
  pub before : (r : Rule) → Before (RuleSays j r) past
  pub here : FailsHere j past next rule
