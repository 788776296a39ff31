-- Whether two instructions are the same, as a test.
use Rattle.std.specs.Prelude.{ℕ, ◌==◌, ◌&&◌, not, Bool, true, false, List, [], ◌∷◌, Option, Some, None}
use Rattle.sgx_rules.specs.declared.entries.AccessOp.{AccessOp}
use Rattle.sgx_rules.specs.declared.entries.AccessOp.TheVariants as accesses
use Rattle.sgx_rules.specs.declared.entries.Action.{Action}
use Rattle.sgx_rules.specs.declared.entries.Action.TheVariants.{Epa, Create, Add, Extend, Init, Enter, Resume, Exit, Aex, Fill}
use Rattle.sgx_rules.specs.declared.entries.Action.TheVariants.{Load, Store}
use Rattle.sgx_rules.specs.declared.entries.Action.TheVariants.{Xadd, Set, Plus, Pf, OutLoad, OutStore, Block, Track, EwbStart}
use Rattle.sgx_rules.specs.declared.entries.Action.TheVariants.{Ewb}
use Rattle.sgx_rules.specs.declared.entries.Action.TheVariants.{EldStart, Eld}
use Rattle.sgx_rules.specs.declared.entries.Cause.{Cause}
use Rattle.sgx_rules.specs.declared.entries.Cause.TheVariants as causes
use Rattle.sgx_types.specs.declared.lawful.PageInit.{PageInit}
use Rattle.sgx_types.specs.declared.lawful.PageInit.TheVariants as inits
use Rattle.sgx_types.specs.declared.names.Kind.{Kind}
use Rattle.sgx_types.specs.declared.names.Kind.TheVariants as kinds
use Rattle.sgx_types.specs.declared.names.Perm.{Perm}
use Rattle.sgx_types.specs.Pages.{same_page}
use Rattle.sgx_types.specs.inner.Places.{same_place}

abbrev pub same_bool : Bool → Bool → Bool
same_bool true b = b
same_bool false b = not b

abbrev pub same_numbers : List ℕ → List ℕ → Bool
same_numbers [] [] = true
same_numbers (x ∷ xs) (y ∷ ys) = (x == y) && same_numbers xs ys
same_numbers _ _ = false

abbrev pub same_digest : Option (List ℕ) → Option (List ℕ) → Bool
same_digest None None = true
same_digest (Some a) (Some b) = same_numbers a b
same_digest _ _ = false

abbrev pub same_perm : Perm → Perm → Bool
same_perm a b = same_bool a.r b.r && (same_bool a.w b.w && same_bool a.x b.x)

abbrev pub same_kind : Kind → Kind → Bool
same_kind kinds.Secs kinds.Secs = true
same_kind kinds.Tcs kinds.Tcs = true
same_kind kinds.Reg kinds.Reg = true
same_kind kinds.Va kinds.Va = true
same_kind _ _ = false

abbrev pub same_init : PageInit → PageInit → Bool
same_init (inits.Words v) (inits.Words w) = v == w
same_init (inits.Tcs ossa nssa) (inits.Tcs o n) = (ossa == o) && (nssa == n)
same_init _ _ = false

abbrev pub same_cause : Cause → Cause → Bool
same_cause causes.Timer causes.Timer = true
same_cause causes.Fault causes.Fault = true
same_cause causes.Kick causes.Kick = true
same_cause causes.End causes.End = true
same_cause _ _ = false

abbrev pub same_access : AccessOp → AccessOp → Bool
same_access accesses.Load accesses.Load = true
same_access accesses.Store accesses.Store = true
same_access accesses.Xadd accesses.Xadd = true
same_access _ _ = false

abbrev pub same_action : Action → Action → Bool
same_action (Epa f) (Epa g) = f.0 == g.0
same_action (Create e f base size) (Create e' f' base' size') = (e == e') && ((f.0 == f'.0) && ((base == base') && (size == size')))
same_action (Add e n f kind perm init) (Add e' n' f' kind' perm' init') =
    (e == e') && ((n == n') && ((f.0 == f'.0) && (same_kind kind kind' && (same_perm perm perm' && same_init init init'))))
same_action (Extend f c) (Extend f' c') = (f.0 == f'.0) && (c == c')
same_action (Init e expect) (Init e' expect') = (e == e') && same_digest expect expect'
same_action (Enter e t tf sf) (Enter e' t' tf' sf') = (e == e') && ((t == t') && ((tf.0 == tf'.0) && (sf.0 == sf'.0)))
same_action (Resume e t tf sf) (Resume e' t' tf' sf') = (e == e') && ((t == t') && ((tf.0 == tf'.0) && (sf.0 == sf'.0)))
same_action Exit Exit = true
same_action (Aex cause) (Aex cause') = same_cause cause cause'
same_action (Fill n f) (Fill n' f') = (n == n') && (f.0 == f'.0)
same_action (Load off) (Load off') = off == off'
same_action (Store off v) (Store off' v') = (off == off') && (v == v')
same_action (Xadd off v) (Xadd off' v') = (off == off') && (v == v')
same_action (Set v) (Set v') = v == v'
same_action (Plus v) (Plus v') = v == v'
same_action (Pf op off) (Pf op' off') = same_access op op' && (off == off')
same_action (OutLoad e off) (OutLoad e' off') = (e == e') && (off == off')
same_action (OutStore e off v) (OutStore e' off' v') = (e == e') && ((off == off') && (v == v'))
same_action (Block f) (Block f') = f.0 == f'.0
same_action (Track e) (Track e') = e == e'
same_action (EwbStart f slot) (EwbStart f' slot') = (f.0 == f'.0) && same_place slot slot'
same_action (Ewb f) (Ewb f') = f.0 == f'.0
same_action (EldStart f page slot) (EldStart f' page' slot') = (f.0 == f'.0) && (same_page page page' && same_place slot slot')
same_action (Eld f) (Eld f') = f.0 == f'.0
same_action _ _ = false
