-- A page that is due can leave, whatever is told of which slots are out.
use Rattle.std.proofs.Common.{◌≡◌, ℕ, zero, suc, ◌+◌, ◌<◌, ◌≤◌, ◌==◌, ◌&&◌, not, Bool, true, false, if◌then◌else◌, refl, sym, ◌∙◌, ap}
use Rattle.std.proofs.Common.{subst, List, Option, Some, None, length, ⊎_elim, ◌⊎◌, inl, inr}
use Rattle.std.proofs.lemmas.Bool.{cases_lt, eqb-true, false≢true, not-true}
use Rattle.std.proofs.lemmas.Option.{same_Some}
use Rattle.sgx_types.proofs.Truths.{both_true}
use Rattle.sgx_rules.specs.declared.entries.Entry.{Entry}
use Rattle.sgx_rules.specs.declared.entries.Event.{Event}
use Rattle.sgx_rules.specs.declared.entries.Event.TheVariants.{Age, Did}
use Rattle.sgx_rules.specs.declared.entries.Action.TheVariants.{Ewb}
use Rattle.sgx_rules.specs.declared.entries.Answer.TheVariants.{Moved}
use Rattle.sgx_types.specs.declared.names.Page.{Page}
use Rattle.sgx_types.proofs.CountLaws.{any_below-some, count_below-none}
use Rattle.sgx_rules.specs.Frames.{children, content, is_child, vas_made}
use Rattle.sgx_types.specs.Pages.{is_own_page, is_secs_page, is_va_page, secs_page, va_page}
use Rattle.sgx_rules.specs.Slots.{is_of_va, is_va_in_use, open_slot}
use Rattle.job_grammar.specs.Jobs.{JobView}
use Rattle.script_rules.specs.Script.{is_initialised}
use Rattle.driver_rules.specs.Holds.{is_held_below}
use Rattle.driver_rules.specs.Places.{is_here, place}
use Rattle.driver_rules.specs.Spares.{array_at, due_behind, due_by, is_alone, is_full, is_spare, least_from, Outs, spare}
use Rattle.driver_laws.specs.inner.Kinds.{CanLeave}
use Rattle.sgx_rules.specs.declared.entries.Look.TheVariants as looks

-- past the frames of the EPC nothing is held, and no start is open
pub record IsWithin (frames : ℕ) (past : List Entry) : Type 0 where
  pub children : (n e : ℕ) → frames ≤ n → is_child (content past n) e ≡ false
  pub named : (n va : ℕ) → frames ≤ n → is_of_va (open_slot past n) va ≡ false

-- a SECS that is alone
alone_leaves : (j : JobView) (past : List Entry) (e : ℕ) → (e == 0) ≡ false → IsWithin j.epc past → is_alone j past e ≡ true
    → CanLeave past (secs_page e)
alone_leaves j past e some within h =
    let a = both_true (is_initialised past e && is_here (place past (secs_page e))) (children j.epc (content past) e == 0) h in
    let b = both_true (is_initialised past e) (is_here (place past (secs_page e))) a.0 in
    record {
      here = b.1;
      children = λ secs n. ⊎_elim
          (λ low. count_below-none (λ m. is_child (content past m) e) j.epc (eqb-true (children j.epc (content past) e) 0 a.1) n low)
          (λ beyond. within.children n e beyond) (cases_lt n j.epc);
      first = λ va. absurd (false≢true (sym some ∙ va));
      named = λ va. absurd (false≢true (sym some ∙ va));
    }

-- a version array page that is spare
spare_leaves : (j : JobView) (past : List Entry) (out : Outs) (va : ℕ) → IsWithin j.epc past → is_spare j past out va ≡ true
    → CanLeave past (va_page va)
spare_leaves j past out va within h =
    let a = both_true (not (va == 0) && is_here (place past (va_page va)) && is_full out va && not (is_va_in_use j.epc past va))
    (not (is_held_below j past (va_page va) (length j.scripts))) h in
    let b = both_true (not (va == 0) && is_here (place past (va_page va)) && is_full out va) (not (is_va_in_use j.epc past va)) a.0 in
    let c = both_true (not (va == 0) && is_here (place past (va_page va))) (is_full out va) b.0 in
    let d = both_true (not (va == 0)) (is_here (place past (va_page va))) c.0 in
    record {
      here = d.1;
      children = λ secs. absurd (false≢true secs);
      first = λ is. not-true (va == 0) d.0;
      named = λ is n. by_place n (cases_lt n j.epc) (not-true (is_va_in_use j.epc past va) b.1);
    }
  where
    by_place : (n : ℕ) → (n < j.epc) ⊎ (j.epc ≤ n) → is_va_in_use j.epc past va ≡ false → is_of_va (open_slot past n) va ≡ false
    by_place n (inr beyond) none = within.named n va beyond
    by_place n (inl low) none = by_test (is_of_va (open_slot past n) va) refl
      where
        by_test : (b : Bool) → is_of_va (open_slot past n) va ≡ b → is_of_va (open_slot past n) va ≡ false
        by_test true is = absurd (false≢true (sym none ∙ any_below-some (λ m. is_of_va (open_slot past m) va) j.epc n low is))
        by_test false is = is

-- the least that passes passes
pub least_passes : (test : ℕ → Bool) (n count va : ℕ) → least_from test n count ≡ Some va → test va ≡ true
least_passes test n zero va is = cc
least_passes test n (suc count) va is = by_test (least_passes test (n + 1) count va) (test n) refl is
  where
    by_test : (least_from test (n + 1) count ≡ Some va → test va ≡ true) → (b : Bool) → test n ≡ b
        → (if b then Some n else least_from test (n + 1) count) ≡ Some va → test va ≡ true
    by_test further true passes h = let same : n ≡ va = cc in subst (λ m. test m ≡ true) same passes
    by_test further false passes h = further h

a_spare_leaves : (j : JobView) (past : List Entry) (out : Outs) (g : Page) → IsWithin j.epc past → spare j past out ≡ Some g
    → CanLeave past g
a_spare_leaves j past out g within is =
    by_least (least_from (is_spare j past out) 0 (vas_made past)) refl is
  where
    by_least : (o : Option ℕ) → least_from (is_spare j past out) 0 (vas_made past) ≡ o → array_at o ≡ Some g → CanLeave past g
    by_least None least h = cc
    by_least (Some va) least h =
        let passes = least_passes (is_spare j past out) 0 (vas_made past) va least in
        subst (CanLeave past) (told va h) (spare_leaves j past out va within passes)
      where
        told : (k : ℕ) → Some (va_page k) ≡ Some g → va_page k ≡ g
        told k e = cc

own_enclave : (g : Page) → is_own_page g ≡ true → (g.enclave == 0) ≡ false
own_enclave g own = by_test (g.enclave == 0) (g.number == 4294967295) own
  where
    by_test : (b c : Bool) → (not b && not c) ≡ true → b ≡ false
    by_test false c h = refl
    by_test true c h = absurd (false≢true h)

behind_leaves : (j : JobView) (past : List Entry) (out : Outs) (page g : Page) → IsWithin j.epc past
    → due_behind j past out page ≡ Some g → CanLeave past g
behind_leaves j past out page g within is = by_test (is_own_page page && is_alone j past page.enclave) refl is
  where
    by_test : (b : Bool) → (is_own_page page && is_alone j past page.enclave) ≡ b
        → (if b then Some (secs_page page.enclave) else spare j past out) ≡ Some g → CanLeave past g
    by_test false at h = a_spare_leaves j past out g within h
    by_test true at h =
        let k = both_true (is_own_page page) (is_alone j past page.enclave) at in
        subst (CanLeave past) (told h) (alone_leaves j past page.enclave (own_enclave page k.0) within k.1)
      where
        told : Some (secs_page page.enclave) ≡ Some g → secs_page page.enclave ≡ g
        told e = cc

-- what is due can leave
pub due_leaves : (j : JobView) (past : List Entry) (out : Outs) (o : Option Event) (g : Page) → IsWithin j.epc past
    → due_by j past out o ≡ Some g → CanLeave past g
due_leaves j past out (Some (Did (Ewb f) (Moved page version tag))) g within is = behind_leaves j past out page g within is
due_leaves j past out (Some (Age page looks.NoRoom)) g within is = by_test (is_secs_page page) is
  where
    by_test : (b : Bool) → (if b then spare j past out else None) ≡ Some g → CanLeave past g
    by_test true h = a_spare_leaves j past out g within h
    by_test false h = cc
due_leaves j past out _ g within is = cc

-- a SECS that is due is one of an enclave that is initialised
pub due_inits : (j : JobView) (past : List Entry) (out : Outs) (o : Option Event) (e : ℕ) → (e == 0) ≡ false
    → due_by j past out o ≡ Some (secs_page e) → is_initialised past e ≡ true
due_inits j past out o e some is = by_event o is
  where
    by_least : (l : Option ℕ) → array_at l ≡ Some (secs_page e) → is_initialised past e ≡ true
    by_least None h = cc
    by_least (Some va) h = absurd (false≢true (sym some ∙ ap is_va_page (sym (same_Some (va_page va) (secs_page e) h))))

    by_spare : spare j past out ≡ Some (secs_page e) → is_initialised past e ≡ true
    by_spare h = by_least (least_from (is_spare j past out) 0 (vas_made past)) h

    by_alone : (page : Page) (b : Bool) → (is_own_page page && is_alone j past page.enclave) ≡ b
        → (if b then Some (secs_page page.enclave) else spare j past out) ≡ Some (secs_page e) → is_initialised past e ≡ true
    by_alone page false at h = by_spare h
    by_alone page true at h =
        let a = (both_true (is_own_page page) (is_alone j past page.enclave) at).1 in
        let b = (both_true (is_initialised past page.enclave && is_here (place past (secs_page page.enclave)))
        (children j.epc (content past) page.enclave == 0) a).0 in
        let same = same_Some (secs_page page.enclave) (secs_page e) h in
        subst (λ n. is_initialised past n ≡ true) (ap (λ (g : Page). g.enclave) same)
        (both_true (is_initialised past page.enclave) (is_here (place past (secs_page page.enclave))) b).0

    by_secs : (b : Bool) → (if b then spare j past out else None) ≡ Some (secs_page e) → is_initialised past e ≡ true
    by_secs true h = by_spare h
    by_secs false h = cc

    by_event : (o : Option Event) → due_by j past out o ≡ Some (secs_page e) → is_initialised past e ≡ true
    by_event (Some (Did (Ewb f) (Moved page version tag))) h = by_alone page (is_own_page page && is_alone j past page.enclave) refl h
    by_event (Some (Age page looks.NoRoom)) h = by_secs (is_secs_page page) h
    by_event _ h = cc
