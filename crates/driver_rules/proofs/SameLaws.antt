-- Instructions that the test finds the same are equal, and the other way round.
use Rattle.std.proofs.Common.{◌≡◌, ℕ, ◌==◌, ◌&&◌, Bool, true, false, refl, sym, ap, List, [], ◌∷◌, Option, Some, None}
use Rattle.std.proofs.lemmas.Bool.{eqb-true, false≢true}
use Rattle.sgx_types.proofs.Truths.{both_true, eqb-refl}
use Rattle.sgx_types.proofs.Pages.{same_pages, same_places}
use Rattle.sgx_rules.specs.declared.entries.AccessOp.{AccessOp}
use Rattle.sgx_rules.specs.declared.entries.AccessOp.TheVariants as accesses
use Rattle.sgx_rules.specs.declared.entries.Action.{Action}
use Rattle.sgx_rules.specs.declared.entries.Action.TheVariants.{Epa, Create, Add, Extend, Init, Enter, Resume, Exit, Aex, Fill}
use Rattle.sgx_rules.specs.declared.entries.Action.TheVariants.{Load, Store}
use Rattle.sgx_rules.specs.declared.entries.Action.TheVariants.{Xadd, Set, Plus, Pf, OutLoad, OutStore, Block, Track, EwbStart}
use Rattle.sgx_rules.specs.declared.entries.Action.TheVariants.{Ewb}
use Rattle.sgx_rules.specs.declared.entries.Action.TheVariants.{EldStart, Eld}
use Rattle.sgx_rules.specs.declared.entries.Cause.{Cause}
use Rattle.sgx_rules.specs.declared.entries.Cause.TheVariants as causes
use Rattle.sgx_types.specs.declared.lawful.PageInit.{PageInit}
use Rattle.sgx_types.specs.declared.lawful.PageInit.TheVariants as inits
use Rattle.sgx_types.specs.declared.names.Frame.{Frame}
use Rattle.sgx_types.specs.declared.names.Kind.{Kind}
use Rattle.sgx_types.specs.declared.names.Kind.TheVariants as kinds
use Rattle.sgx_types.specs.declared.names.Perm.{Perm}
use Rattle.sgx_types.specs.declared.names.SlotAt.{SlotAt}
use Rattle.sgx_types.specs.Pages.{same_page}
use Rattle.sgx_types.specs.inner.Places.{same_place}
use Rattle.driver_rules.specs.inner.Same.{same_access, same_action, same_bool, same_cause, same_digest, same_init, same_kind}
use Rattle.driver_rules.specs.inner.Same.{same_numbers}
use Rattle.driver_rules.specs.inner.Same.{same_perm}
use Rattle.sgx_types.proofs.Pages.{same_page-refl}

-- ---- what is equal is found the same

bool-refl : (b : Bool) → same_bool b b ≡ true
bool-refl true = refl
bool-refl false = refl

numbers-refl : (xs : List ℕ) → same_numbers xs xs ≡ true
numbers-refl [] = refl
numbers-refl (x ∷ xs) = rw (eqb-refl x, numbers-refl xs) refl

digest-refl : (d : Option (List ℕ)) → same_digest d d ≡ true
digest-refl None = refl
digest-refl (Some d) = numbers-refl d

perm-refl : (p : Perm) → same_perm p p ≡ true
perm-refl p = rw (bool-refl p.r, bool-refl p.w, bool-refl p.x) refl

kind-refl : (k : Kind) → same_kind k k ≡ true
kind-refl kinds.Secs = refl
kind-refl kinds.Tcs = refl
kind-refl kinds.Reg = refl
kind-refl kinds.Va = refl

init-refl : (i : PageInit) → same_init i i ≡ true
init-refl (inits.Words v) = eqb-refl v
init-refl (inits.Tcs o n) = rw (eqb-refl o, eqb-refl n) refl

cause-refl : (c : Cause) → same_cause c c ≡ true
cause-refl causes.Timer = refl
cause-refl causes.Fault = refl
cause-refl causes.Kick = refl
cause-refl causes.End = refl

access-refl : (o : AccessOp) → same_access o o ≡ true
access-refl accesses.Load = refl
access-refl accesses.Store = refl
access-refl accesses.Xadd = refl

slot-refl : (s : SlotAt) → same_place s s ≡ true
slot-refl s = rw (eqb-refl s.frame.0, eqb-refl s.index) refl

pub action-refl : (a : Action) → same_action a a ≡ true
action-refl (Epa f) = eqb-refl f.0
action-refl (Create e f base size) = rw (eqb-refl e, eqb-refl f.0, eqb-refl base, eqb-refl size) refl
action-refl (Add e n f kind perm init) = rw (eqb-refl e, eqb-refl n, eqb-refl f.0, kind-refl kind, perm-refl perm, init-refl init) refl
action-refl (Extend f c) = rw (eqb-refl f.0, eqb-refl c) refl
action-refl (Init e expect) = rw (eqb-refl e, digest-refl expect) refl
action-refl (Enter e t tf sf) = rw (eqb-refl e, eqb-refl t, eqb-refl tf.0, eqb-refl sf.0) refl
action-refl (Resume e t tf sf) = rw (eqb-refl e, eqb-refl t, eqb-refl tf.0, eqb-refl sf.0) refl
action-refl Exit = refl
action-refl (Aex cause) = cause-refl cause
action-refl (Fill n f) = rw (eqb-refl n, eqb-refl f.0) refl
action-refl (Load off) = eqb-refl off
action-refl (Store off v) = rw (eqb-refl off, eqb-refl v) refl
action-refl (Xadd off v) = rw (eqb-refl off, eqb-refl v) refl
action-refl (Set v) = eqb-refl v
action-refl (Plus v) = eqb-refl v
action-refl (Pf op off) = rw (access-refl op, eqb-refl off) refl
action-refl (OutLoad e off) = rw (eqb-refl e, eqb-refl off) refl
action-refl (OutStore e off v) = rw (eqb-refl e, eqb-refl off, eqb-refl v) refl
action-refl (Block f) = eqb-refl f.0
action-refl (Track e) = eqb-refl e
action-refl (EwbStart f slot) = rw (eqb-refl f.0, slot-refl slot) refl
action-refl (Ewb f) = eqb-refl f.0
action-refl (EldStart f page slot) = rw (eqb-refl f.0, same_page-refl page, slot-refl slot) refl
action-refl (Eld f) = eqb-refl f.0

-- ---- what is found the same is equal

bool-true : (a b : Bool) → same_bool a b ≡ true → a ≡ b
bool-true true b h = sym h
bool-true false true h = cc
bool-true false false h = refl

pub numbers-true : (xs ys : List ℕ) → same_numbers xs ys ≡ true → xs ≡ ys
numbers-true [] [] h = refl
numbers-true (x ∷ xs) (y ∷ ys) h = let k = both_true (x == y) (same_numbers xs ys) h in λ i. eqb-true x y k.0 i ∷ numbers-true xs ys k.1 i
numbers-true [] (y ∷ ys) h = cc
numbers-true (x ∷ xs) [] h = cc

digest-true : (a b : Option (List ℕ)) → same_digest a b ≡ true → a ≡ b
digest-true None None h = refl
digest-true (Some a) (Some b) h = ap Some (numbers-true a b h)
digest-true None (Some b) h = cc
digest-true (Some a) None h = cc

perm-true : (a b : Perm) → same_perm a b ≡ true → a ≡ b
perm-true a b h =
    let k = both_true (same_bool a.r b.r) (same_bool a.w b.w && same_bool a.x b.x) h in
    let l = both_true (same_bool a.w b.w) (same_bool a.x b.x) k.1 in
    λ i. record { r = bool-true a.r b.r k.0 i; w = bool-true a.w b.w l.0 i; x = bool-true a.x b.x l.1 i }

kind-true : (a b : Kind) → same_kind a b ≡ true → a ≡ b
kind-true kinds.Secs kinds.Secs h = refl
kind-true kinds.Tcs kinds.Tcs h = refl
kind-true kinds.Reg kinds.Reg h = refl
kind-true kinds.Va kinds.Va h = refl
kind-true _ _ h = absurd (false≢true h)

init-true : (a b : PageInit) → same_init a b ≡ true → a ≡ b
init-true (inits.Words v) (inits.Words w) h = ap inits.Words (eqb-true v w h)
init-true (inits.Tcs o n) (inits.Tcs p m) h =
    let k = both_true (o == p) (n == m) h in λ i. inits.Tcs (eqb-true o p k.0 i) (eqb-true n m k.1 i)
init-true (inits.Words v) (inits.Tcs p m) h = cc
init-true (inits.Tcs o n) (inits.Words w) h = cc

cause-true : (a b : Cause) → same_cause a b ≡ true → a ≡ b
cause-true causes.Timer causes.Timer h = refl
cause-true causes.Fault causes.Fault h = refl
cause-true causes.Kick causes.Kick h = refl
cause-true causes.End causes.End h = refl
cause-true _ _ h = absurd (false≢true h)

access-true : (a b : AccessOp) → same_access a b ≡ true → a ≡ b
access-true accesses.Load accesses.Load h = refl
access-true accesses.Store accesses.Store h = refl
access-true accesses.Xadd accesses.Xadd h = refl
access-true _ _ h = absurd (false≢true h)

frame-true : (f g : Frame) → (f.0 == g.0) ≡ true → f ≡ g
frame-true f g h = λ i. record { 0 = eqb-true f.0 g.0 h i }

pub action-true : (a b : Action) → same_action a b ≡ true → a ≡ b
action-true (Epa f) (Epa g) h = ap Epa (frame-true f g h)
action-true (Create e f base size) (Create e' f' base' size') h =
    let k = both_true (e == e') ((f.0 == f'.0) && ((base == base') && (size == size'))) h in
    let l = both_true (f.0 == f'.0) ((base == base') && (size == size')) k.1 in
    let m = both_true (base == base') (size == size') l.1 in
    λ i. Create (eqb-true e e' k.0 i) (frame-true f f' l.0 i) (eqb-true base base' m.0 i) (eqb-true size size' m.1 i)
action-true (Add e n f kind perm init) (Add e' n' f' kind' perm' init') h =
    let k = both_true (e == e') ((n == n') &&
    ((f.0 == f'.0) && (same_kind kind kind' && (same_perm perm perm' && same_init init init')))) h in
    let l = both_true (n == n') ((f.0 == f'.0) && (same_kind kind kind' && (same_perm perm perm' && same_init init init'))) k.1 in
    let m = both_true (f.0 == f'.0) (same_kind kind kind' && (same_perm perm perm' && same_init init init')) l.1 in
    let o = both_true (same_kind kind kind') (same_perm perm perm' && same_init init init') m.1 in
    let p = both_true (same_perm perm perm') (same_init init init') o.1 in
    λ i. Add (eqb-true e e' k.0 i) (eqb-true n n' l.0 i) (frame-true f f' m.0 i) (kind-true kind kind' o.0 i) (perm-true perm perm' p.0 i)
    (init-true init init' p.1 i)
action-true (Extend f c) (Extend f' c') h =
    let k = both_true (f.0 == f'.0) (c == c') h in λ i. Extend (frame-true f f' k.0 i) (eqb-true c c' k.1 i)
action-true (Init e x) (Init e' x') h =
    let k = both_true (e == e') (same_digest x x') h in λ i. Init (eqb-true e e' k.0 i) (digest-true x x' k.1 i)
action-true (Enter e t tf sf) (Enter e' t' tf' sf') h =
    let k = both_true (e == e') ((t == t') && ((tf.0 == tf'.0) && (sf.0 == sf'.0))) h in
    let l = both_true (t == t') ((tf.0 == tf'.0) && (sf.0 == sf'.0)) k.1 in
    let m = both_true (tf.0 == tf'.0) (sf.0 == sf'.0) l.1 in
    λ i. Enter (eqb-true e e' k.0 i) (eqb-true t t' l.0 i) (frame-true tf tf' m.0 i) (frame-true sf sf' m.1 i)
action-true (Resume e t tf sf) (Resume e' t' tf' sf') h =
    let k = both_true (e == e') ((t == t') && ((tf.0 == tf'.0) && (sf.0 == sf'.0))) h in
    let l = both_true (t == t') ((tf.0 == tf'.0) && (sf.0 == sf'.0)) k.1 in
    let m = both_true (tf.0 == tf'.0) (sf.0 == sf'.0) l.1 in
    λ i. Resume (eqb-true e e' k.0 i) (eqb-true t t' l.0 i) (frame-true tf tf' m.0 i) (frame-true sf sf' m.1 i)
action-true Exit Exit h = refl
action-true (Aex c) (Aex c') h = ap Aex (cause-true c c' h)
action-true (Fill n f) (Fill n' f') h =
    let k = both_true (n == n') (f.0 == f'.0) h in λ i. Fill (eqb-true n n' k.0 i) (frame-true f f' k.1 i)
action-true (Load off) (Load off') h = ap Load (eqb-true off off' h)
action-true (Store off v) (Store off' v') h =
    let k = both_true (off == off') (v == v') h in λ i. Store (eqb-true off off' k.0 i) (eqb-true v v' k.1 i)
action-true (Xadd off v) (Xadd off' v') h =
    let k = both_true (off == off') (v == v') h in λ i. Xadd (eqb-true off off' k.0 i) (eqb-true v v' k.1 i)
action-true (Set v) (Set v') h = ap Set (eqb-true v v' h)
action-true (Plus v) (Plus v') h = ap Plus (eqb-true v v' h)
action-true (Pf op off) (Pf op' off') h =
    let k = both_true (same_access op op') (off == off') h in λ i. Pf (access-true op op' k.0 i) (eqb-true off off' k.1 i)
action-true (OutLoad e off) (OutLoad e' off') h =
    let k = both_true (e == e') (off == off') h in λ i. OutLoad (eqb-true e e' k.0 i) (eqb-true off off' k.1 i)
action-true (OutStore e off v) (OutStore e' off' v') h =
    let k = both_true (e == e') ((off == off') && (v == v')) h in
    let l = both_true (off == off') (v == v') k.1 in
    λ i. OutStore (eqb-true e e' k.0 i) (eqb-true off off' l.0 i) (eqb-true v v' l.1 i)
action-true (Block f) (Block f') h = ap Block (frame-true f f' h)
action-true (Track e) (Track e') h = ap Track (eqb-true e e' h)
action-true (EwbStart f slot) (EwbStart f' slot') h =
    let k = both_true (f.0 == f'.0) (same_place slot slot') h in λ i. EwbStart (frame-true f f' k.0 i) (same_places slot slot' k.1 i)
action-true (Ewb f) (Ewb f') h = ap Ewb (frame-true f f' h)
action-true (EldStart f page slot) (EldStart f' page' slot') h =
    let k = both_true (f.0 == f'.0) (same_page page page' && same_place slot slot') h in
    let l = both_true (same_page page page') (same_place slot slot') k.1 in
    λ i. EldStart (frame-true f f' k.0 i) (same_pages page page' l.0 i) (same_places slot slot' l.1 i)
action-true (Eld f) (Eld f') h = ap Eld (frame-true f f' h)
action-true _ _ h = absurd (false≢true h)
