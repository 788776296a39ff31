-- Where no instruction moves a page, each is refused by a case of its row, and none of these cases ends a run.
use Rattle.std.proofs.Common.{◌≡◌, ℕ, ◌&&◌, not, Bool, true, false, if◌then◌else◌, refl, sym, ◌∙◌, ap, List, []}
use Rattle.std.proofs.Common.{◌∷◌, Option, Some, None}
use Rattle.sgx_rules.specs.declared.entries.Action.{Action}
use Rattle.sgx_types.specs.declared.names.Actor.{Actor}
use Rattle.sgx_rules.specs.declared.entries.Entry.{Entry}
use Rattle.sgx_types.specs.declared.lawful.PageInit.{PageInit}
use Rattle.sgx_types.specs.declared.names.Kind.{Kind}
use Rattle.sgx_types.specs.declared.names.Perm.{Perm}
use Rattle.sgx_rules.specs.declared.refusals.Refusal.{Refusal}
use Rattle.sgx_rules.specs.Flat.{enclave_sight, flat}
use Rattle.sgx_types.specs.Making.{Making}
use Rattle.sgx_rules.specs.Sights.{enclave_of_stay, row_at, secs_sight_at, sight_at, stay_of}
use Rattle.sgx_types.specs.Cases.{first_of_row}
use Rattle.sgx_rules.specs.Table.{EnclaveSight, FrameSight, Row, SecsSight, add_row, fill_row, init_row}
use Rattle.driver_rules.specs.Stops.{is_last_refusal}
use Rattle.sgx_rules.specs.declared.entries.Action.TheVariants as actions
use Rattle.sgx_rules.specs.declared.entries.Cause.TheVariants as causes

-- no case of a row ends a run
spares : Row → Bool
spares [] = true
spares (c ∷ cases) = not (is_last_refusal c.why) && spares cases

never_last : (cases : Row) (r : Refusal) → spares cases ≡ true → first_of_row cases ≡ Some r → is_last_refusal r ≡ false
unfolding spares
never_last [] r h is = cc
never_last (c ∷ cases) r h is = by_last (is_last_refusal c.why) refl h (never_last cases r)
  where
    by_holds : (b : Bool) → (if b then Some c.why else first_of_row cases) ≡ Some r → is_last_refusal c.why ≡ false
        → (first_of_row cases ≡ Some r → is_last_refusal r ≡ false) → is_last_refusal r ≡ false
    by_holds true k fine rest = let same : c.why ≡ r = cc in ap is_last_refusal (sym same) ∙ fine
    by_holds false k fine rest = rest k

    by_last : (b : Bool) → is_last_refusal c.why ≡ b → (not b && spares cases) ≡ true
        → (spares cases ≡ true → first_of_row cases ≡ Some r → is_last_refusal r ≡ false) → is_last_refusal r ≡ false
    by_last true fine k rest = cc
    by_last false fine k rest = by_holds c.holds is fine (rest k)

add_spares : (n : ℕ) (kind : Kind) (perm : Perm) (init : PageInit) (o : Option EnclaveSight) (secs : SecsSight) (is_added : Bool)
    (s : FrameSight) → spares (add_row n kind perm init o secs is_added s) ≡ true
unfolding spares
add_spares n kind perm init None secs is_added s = refl
add_spares n kind perm init (Some enclave) secs is_added s = refl

init_spares : (o : Option EnclaveSight) (secs : SecsSight) → spares (init_row o secs) ≡ true
unfolding spares
init_spares None secs = refl
init_spares (Some enclave) secs = refl

fill_spares : (n : ℕ) (o : Option ℕ) (s : FrameSight) → spares (fill_row n o s) ≡ true
unfolding spares
fill_spares n None s = refl
fill_spares n (Some enclave) s = refl

-- an instruction that moves no page out or back, and is no exit for a page or a kick
abbrev pub is_tame : Action → Bool
is_tame (actions.Block f) = false
is_tame (actions.Track enclave) = false
is_tame (actions.EwbStart f slot) = false
is_tame (actions.Ewb f) = false
is_tame (actions.EldStart f page slot) = false
is_tame (actions.Eld f) = false
is_tame (actions.Aex causes.Fault) = false
is_tame (actions.Aex causes.Kick) = false
is_tame _ = true

row_spares : (k : Making) (past : List Entry) (a : Actor) (action : Action) → is_tame action ≡ true → spares (row_at k past a action) ≡ true
unfolding spares
row_spares k past a (actions.Add e n f kind perm init) tame =
    add_spares n kind perm init (enclave_sight (flat past) e) (secs_sight_at k.frames past e) _ (sight_at k.frames past f.0)
row_spares k past a (actions.Init e expect) tame = init_spares (enclave_sight (flat past) e) (secs_sight_at k.frames past e)
row_spares k past a (actions.Fill n f) tame = fill_spares n (enclave_of_stay (stay_of past a)) (sight_at k.frames past f.0)
row_spares k past a (actions.Block f) tame = cc
row_spares k past a (actions.Track e) tame = cc
row_spares k past a (actions.EwbStart f slot) tame = cc
row_spares k past a (actions.Ewb f) tame = cc
row_spares k past a (actions.EldStart f page slot) tame = cc
row_spares k past a (actions.Eld f) tame = cc
row_spares k past a _ tame = refl

pub refused_fine : (k : Making) (past : List Entry) (a : Actor) (action : Action) (r : Refusal) → is_tame action ≡ true
    → first_of_row (row_at k past a action) ≡ Some r
    → is_last_refusal r ≡ false
refused_fine k past a action r tame is = never_last (row_at k past a action) r (row_spares k past a action tame) is
