-- What the tests of a place tell.
use Rattle.std.proofs.Common.{◌≡◌, ℕ, zero, suc, ◌<◌, ◌≤◌, ◌==◌, ◌&&◌, ◌||◌, not, Bool, true, false, refl}
use Rattle.std.proofs.Common.{sym, ap, ◌∙◌, subst, List, [], ◌∷◌, Option, Some, None, IfSome, length, arith, ◌⊎◌, inl}
use Rattle.std.proofs.Common.{inr}
use Rattle.std.specs.List.{All}
use Rattle.std.proofs.lemmas.Bool.{eqb-true, false≢true, cases_lt, not-true}
use Rattle.std.proofs.lemmas.List.Elements.{All-cons, All-nil}
use Rattle.sgx_rules.specs.declared.entries.Action.TheVariants.{Add}
use Rattle.sgx_types.specs.declared.names.Actor.{Actor}
use Rattle.sgx_types.specs.declared.names.Actor.TheVariants as actors
use Rattle.sgx_rules.specs.declared.entries.Entry.{Entry}
use Rattle.sgx_types.specs.declared.lawful.PageInit.TheVariants.{Words}
use Rattle.sgx_types.specs.declared.names.Kind.{Kind}
use Rattle.sgx_types.specs.declared.names.Page.{Page}
use Rattle.sgx_types.specs.declared.names.Perm.{Perm}
use Rattle.sgx_types.specs.Pages.{page_at}
use Rattle.sgx_rules.specs.Frames.{Content, Free, Holds, Put, content, held_after, is_page, is_sealing, is_this, made_before}
use Rattle.sgx_rules.specs.Frames.{page_there, put_by, stands}
use Rattle.sgx_types.specs.Pages.{same_page}
use Rattle.sgx_rules.specs.Processors.{BareTranslation, Move, Enters, Leaves, Keeps, Stay, is_by, move_by, stay, stay_after}
use Rattle.sgx_rules.specs.Processors.{translations}
use Rattle.sgx_rules.specs.Rules.{IsCurrent, IsStill, IsUndisturbed, NoPageTwice, NoneStale}
use Rattle.sgx_types.proofs.Pages.{same_pages}
use Rattle.sgx_types.proofs.Truths.{apart, both_true}
use Rattle.job_grammar.specs.Jobs.{JobView}
use Rattle.sgx_types.specs.Pages.{frame_at}
use Rattle.driver_rules.specs.inner.Decided.{all_along}
use Rattle.driver_rules.specs.inner.Same.{same_kind, same_perm}
use Rattle.driver_rules.proofs.SameLaws.{action-true}
use Rattle.worked_driver.specs.inner.Settled.{acts_below, all_below, are_apart, are_current, has_same, holds_same, is_actor_below}
use Rattle.worked_driver.specs.inner.Settled.{is_held_still}
use Rattle.worked_driver.specs.inner.Settled.{is_none_stale, is_page_once, is_put_below, is_settled, is_still, is_undisturbed}
use Rattle.worked_driver.specs.inner.Settled.{puts_below}
use Rattle.worked_driver.proofs.LawfulLaws.{is_below}

last_or : (test : ℕ → Bool) (n k : ℕ) → test n ≡ true → (k < n → test k ≡ true) → k < suc n → (k < n) ⊎ (n ≤ k) → test k ≡ true
last_or test n k last lower low (inl less) = lower less
last_or test n k last lower low (inr above) =
    let same : n ≡ k = omega (arith, low, above) in subst (λ m. test m ≡ true) same last

each_below : (test : ℕ → Bool) (n k : ℕ) → all_below test n ≡ true → k < n → test k ≡ true
each_below test zero k h low = absurd (omega (arith, low))
each_below test (suc n) k h low =
    let both = both_true (test n) (all_below test n) h in last_or test n k both.0 (each_below test n k both.1) low (cases_lt k n)

-- ---- no page in two frames

held_beyond : (frames n : ℕ) (put : Option Put) (before : Content) → is_put_below frames put ≡ true → frames ≤ n → before ≡ Free
    → held_after put n before ≡ Free
held_beyond frames n None before low beyond free = free
held_beyond frames n (Some put) before low beyond free =
    rw (apart put.frame n (λ same. absurd (omega (arith, is_below put.frame frames low, beyond, same)))) free

free_beyond : (frames : ℕ) (past : List Entry) (n : ℕ) → all_along (puts_below frames) past ≡ true → frames ≤ n → content past n ≡ Free
free_beyond frames [] n low beyond = refl
free_beyond frames (e ∷ past) n low beyond =
    let k = both_true (puts_below frames past e) (all_along (puts_below frames) past) low in
    held_beyond frames n (put_by e.event (made_before past)) (content past n) k.0 beyond (free_beyond frames past n k.1 beyond)

-- two contents of one page are found to hold the same
found_same : (a b : Content) (g : Page) → stands a g ≡ true → stands b g ≡ true → holds_same a b ≡ true
found_same a b g in_a in_b = by_page (page_there a) in_a
  where
    by_page : (o : Option Page) → is_this o g ≡ true → has_same o b ≡ true
    by_page None is = absurd (false≢true is)
    by_page (Some page) is = ap (stands b) (same_pages page g is) ∙ in_b

only_once : (same shared : Bool) → (same || not shared) ≡ true → shared ≡ true → same ≡ true
only_once true shared h e = refl
only_once false true h e = h
only_once false false h e = e

holds_below : (frames : ℕ) (past : List Entry) (n : ℕ) (g : Page) → all_along (puts_below frames) past ≡ true
    → stands (content past n) g ≡ true → (n < frames) ⊎ (frames ≤ n) → n < frames
holds_below frames past n g low here (inl below) = below
holds_below frames past n g low here (inr beyond) =
    absurd (false≢true (subst (λ c. stands c g ≡ true) (free_beyond frames past n low beyond) here))

once : (frames : ℕ) (past : List Entry) → is_page_once frames past ≡ true → NoPageTwice past
once frames past h m n g at_m at_n =
    let k = both_true (all_along (puts_below frames) past) (all_below (λ i. all_below (are_apart past i) frames) frames) h in
    let low_m = holds_below frames past m g k.0 at_m (cases_lt m frames) in
    let low_n = holds_below frames past n g k.0 at_n (cases_lt n frames) in
    let told = each_below (are_apart past m) frames n (each_below (λ i. all_below (are_apart past i) frames) frames m k.1 low_m) low_n in
    eqb-true m n (only_once (m == n) (holds_same (content past m) (content past n)) told
    (found_same (content past m) (content past n) g at_m at_n))

-- ---- no stale translation

-- a processor beyond those that act is outside
outside_after : (move : Move) (own : Bool) (past : List Entry) (before : Option Stay) → own ≡ false → before ≡ None
    → stay_after move own past before ≡ None
outside_after (Enters seat) true past before not_own out = cc
outside_after (Enters seat) false past before not_own out = out
outside_after Leaves true past before not_own out = cc
outside_after Leaves false past before not_own out = out
outside_after Keeps own past before not_own out = out

is_another : (cpus p : ℕ) (a : Actor) → is_actor_below cpus a ≡ true → cpus ≤ p → is_by p a ≡ false
is_another cpus p (actors.Cpu q) low beyond = apart q.0 p (λ same. absurd (omega (arith, is_below q.0 cpus low, beyond, same)))
is_another cpus p actors.Builder low beyond = refl
is_another cpus p actors.Reclaimer low beyond = refl

outside_beyond : (cpus : ℕ) (past : List Entry) (p : ℕ) → all_along (acts_below cpus) past ≡ true → cpus ≤ p → stay past p ≡ None
outside_beyond cpus [] p low beyond = refl
outside_beyond cpus (e ∷ past) p low beyond =
    let k = both_true (acts_below cpus past e) (all_along (acts_below cpus) past) low in
    outside_after (move_by e.event) (is_by p e.actor) past (stay past p) (is_another cpus p e.actor k.0 beyond)
    (outside_beyond cpus past p k.1 beyond)

-- the kind and the permissions of an `add`
held_as : (kind k : Kind) (perm p : Perm) → same_kind kind k ≡ true → same_perm perm p ≡ true
    → Add 0 0 (frame_at 0) kind perm (Words 0) ≡ Add 0 0 (frame_at 0) k p (Words 0)
held_as kind k perm p kinds perms =
    action-true (Add 0 0 (frame_at 0) kind perm (Words 0)) (Add 0 0 (frame_at 0) k p (Words 0)) (rw (kinds, perms) refl)

still_held : (now before : Content) → is_held_still now before ≡ true → now ≡ before
still_held (Holds page kind perm) (Holds g k p) h =
    let x = both_true (same_page page g) (same_kind kind k && same_perm perm p) h in
    let y = both_true (same_kind kind k) (same_perm perm p) x.1 in
    held (same_pages page g x.0) (held_as kind k perm p y.0 y.1)
  where
    held : page ≡ g → Add 0 0 (frame_at 0) kind perm (Words 0) ≡ Add 0 0 (frame_at 0) k p (Words 0) → Holds page kind perm ≡ Holds g k p
    held same alike = cc
still_held _ _ h = absurd (false≢true h)

still : (past : List Entry) (n : ℕ) (before : Content) → is_still past n before ≡ true → IsStill before (content past n) (is_sealing past n)
still past n before h =
    let k = both_true (is_held_still (content past n) before) (not (is_sealing past n)) h in record {
      held = still_held (content past n) before k.0;
      settled = not-true (is_sealing past n) k.1;
    }

current : (past : List Entry) (enclave : ℕ) (xs : List BareTranslation) → are_current past enclave xs ≡ true
    → All (λ x. IsCurrent enclave x (content past x.frame) (is_sealing past x.frame)) xs
current past enclave [] h = All-nil (λ x. IsCurrent enclave x (content past x.frame) (is_sealing past x.frame))
current past enclave (x ∷ xs) h =
    let leads = is_page (content past x.frame) (page_at enclave x.number) && not (is_sealing past x.frame) in
    let k = both_true leads (are_current past enclave xs) h in
    let l = both_true (is_page (content past x.frame) (page_at enclave x.number)) (not (is_sealing past x.frame)) k.0 in
    All-cons (λ y. IsCurrent enclave y (content past y.frame) (is_sealing past y.frame)) x xs
    (record { page = l.0; settled = not-true (is_sealing past x.frame) l.1 }) (current past enclave xs k.1)

undisturbed : (past : List Entry) (p : ℕ) (t : Option Stay) → is_undisturbed past p t ≡ true → IfSome t (IsUndisturbed past p)
undisturbed past p None h = tt
undisturbed past p (Some t) h =
    let k =
    both_true (is_still past t.seat.tcs_frame t.tcs_held)
    (is_still past t.seat.ssa_frame t.ssa_held && are_current past t.seat.enclave (translations past p)) h in
    let l = both_true (is_still past t.seat.ssa_frame t.ssa_held) (are_current past t.seat.enclave (translations past p)) k.1 in
    record {
      tcs = still past t.seat.tcs_frame t.tcs_held k.0;
      ssa = still past t.seat.ssa_frame t.ssa_held l.0;
      translations = current past t.seat.enclave (translations past p) l.1;
    }

none_stale : (cpus : ℕ) (past : List Entry) → is_none_stale cpus past ≡ true → NoneStale past
none_stale cpus past h p =
    let k = both_true (all_along (acts_below cpus) past) (all_below (λ q. is_undisturbed past q (stay past q)) cpus) h in
    by_order k.0 (each_below (λ q. is_undisturbed past q (stay past q)) cpus p k.1) (cases_lt p cpus)
  where
    by_order : all_along (acts_below cpus) past ≡ true → (p < cpus → is_undisturbed past p (stay past p) ≡ true) → (p < cpus) ⊎ (cpus ≤ p)
        → IfSome (stay past p) (IsUndisturbed past p)
    by_order acts each (inl low) = undisturbed past p (stay past p) (each low)
    by_order acts each (inr beyond) = subst (λ t. IfSome t (IsUndisturbed past p)) (sym (outside_beyond cpus past p acts beyond)) tt

-- ---- both

pub settled : (j : JobView) (past : List Entry) → is_settled j past ≡ true → NoPageTwice past × NoneStale past
settled j past h =
    let k = both_true (is_page_once j.epc past) (is_none_stale (length j.scripts) past) h in
    (once j.epc past k.0, none_stale (length j.scripts) past k.1)
