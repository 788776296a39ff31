-- What an entry carries on from a machine's state before it to the one behind it.
use Rattle.std.specs.Prelude.{◌≡◌, List, ◌∷◌}
use Rattle.sgx_rules.specs.declared.entries.Entry.{Entry}
use Rattle.sgx_types.specs.Making.{Making}
use Rattle.sgx_rules.specs.inner.Rules.{LoadsAwayRule}
use Rattle.seal_record.specs.Records.{Made}
use Rattle.machine_laws.specs.inner.Columns.{HasAllVersions}
use Rattle.machine_laws.specs.inner.Histories.{StandsWithAllRules}
use Rattle.machine_laws.specs.inner.Shape.{FitsApart, ShapeWithRules}
use Rattle.machine_laws.specs.inner.State.{State, making_of}

-- whatever entries the state stood for and they kept the rules, with this one in front they keep them
pub record Carries (s : State) (e : Entry) (t : State) : Type 0 where
  pub shape : (making : Making) (past : List Entry) → ShapeWithRules making s past → ShapeWithRules making t (e ∷ past)
  pub fits : (making : Making) (past : List Entry) → ShapeWithRules making s past → LoadsAwayRule past e → FitsApart making.frames past
      → FitsApart making.frames (e ∷ past)
  -- the slots of version array pages go on to have the versions that the entries say, whatever records were brought
  pub arrays : (making : Making) (past : List Entry) → ShapeWithRules making s past → HasAllVersions s past → HasAllVersions t (e ∷ past)
  pub history : (making : Making) (past : List Entry) (records : List Made) → StandsWithAllRules making s past records
      → StandsWithAllRules making t (e ∷ past) records
  pub making : making_of t ≡ making_of s
