-- What a driver keeps so that no page stands in two frames, and the rules of the machine together.
use Rattle.std.specs.Prelude.{ℕ, ◌≡◌, false, List}
use Rattle.sgx_rules.specs.declared.entries.Entry.{Entry}
use Rattle.sgx_rules.specs.declared.entries.Event.{Event}
use Rattle.sgx_rules.specs.declared.entries.Event.TheVariants.{Did}
use Rattle.sgx_rules.specs.declared.entries.Action.TheVariants.{EldStart}
use Rattle.sgx_rules.specs.Frames.{content, stands}
use Rattle.sgx_types.specs.Making.{Making}
use Rattle.sgx_rules.specs.Starts.{open_start}
use Rattle.sgx_rules.specs.inner.Starts.{is_load_of}
use Rattle.sgx_rules.specs.Rules.{Along, RefusalRule, FlatRule, Fits, Stale}

-- ---- what a driver keeps so that no page stands in two frames

-- an ELDU that starts loads a page that no frame holds and that no other loads
abbrev pub LoadsAwayRule : List Entry → Entry → Type 0
LoadsAwayRule past e = by_event e.event
  where
    by_event : Event → Type 0
    by_event (Did (EldStart f page slot) answer) =
        (n : ℕ) → (stands (content past n) page ≡ false) × (is_load_of (open_start past n) page ≡ false)
    by_event _ = Unit {0}

-- ---- the rules of the machine together

pub record KeepsRules (k : Making) (past : List Entry) : Type 0 where
  pub refusal : Along (RefusalRule k) past
  pub flat : Along FlatRule past
  pub fits : Fits k.frames past
  pub stale : Stale past
