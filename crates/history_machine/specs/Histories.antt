-- Some of the rules of a trace: when it keeps those that say nothing of a driver, and where it fails first among some. Entries stand newest
-- first.
use Rattle.std.specs.Prelude.{ℕ, ◌≡◌, ◌<◌, Bool, true, List, Option, length}
use Rattle.sgx_rules.specs.declared.entries.Entry.{Entry}
use Rattle.job_grammar.specs.Jobs.{JobView}
use Rattle.history_rules.specs.declared.rules.Rule.{Rule}
use Rattle.history_rules.specs.declared.rules.Rule.TheVariants as rules
use Rattle.history_rules.specs.Histories.{Before, IsPlace, Keeps, RuleSays, rank}

-- a trace keeps the processor's rules, whoever made it
pub record MachineHistory (j : JobView) (past : List Entry) : Type 0 where
  pub refusal : Keeps j rules.Refusal past
  pub flat : Keeps j rules.Flat past
  pub fits : Keeps j rules.Fits past
  pub stale : Keeps j rules.Stale past
  pub evict : Keeps j rules.Evict past
  pub fresh : Keeps j rules.Fresh past
  pub sealed : Keeps j rules.Sealed past
  pub measure : Keeps j rules.Measure past

-- ---- where a trace fails

-- at a place this one of some rules fails, and none of them that is named before it
pub record FailsAmong (among : Rule → Bool) (j : JobView) (past : List Entry) (next : Option Entry) (rule : Rule) : Type 0 where
  pub own : among rule ≡ true
  pub earlier : (r : Rule) → among r ≡ true → rank r < rank rule → RuleSays j r past next
  pub fails : RuleSays j rule past next → ⊥

-- .. and at no earlier place any of them fails
pub record FailsFirstAmong (among : Rule → Bool) (j : JobView) (whole : List Entry) (place : ℕ) (rule : Rule) : Type 0 where
  pub past : List Entry
  pub next : Option Entry
  pub is_place : IsPlace whole past next
  pub placed : length past ≡ place
  pub before : (r : Rule) → among r ≡ true → Before (RuleSays j r) past
  pub here : FailsAmong among j past next rule
