-- Whose a frame is follows from what it holds, where each load that ended brought a page that was added.
use Rattle.std.proofs.Common.{◌≡◌, ℕ, ◌==◌, ◌&&◌, not, cond, Bool, true, false, if◌then◌else◌, List, [], ◌∷◌, Option, Some, None, is_some}
use Rattle.std.proofs.Common.{refl, sym, ap, ◌∙◌}
use Rattle.std.proofs.lemmas.Bool.{eqb-true, false≢true}
use Rattle.sgx_types.specs.declared.names.Kind.{Kind}
use Rattle.sgx_types.specs.declared.names.Page.{Page}
use Rattle.sgx_types.specs.declared.names.Perm.{Perm}
use Rattle.sgx_types.specs.declared.names.Frame.{Frame}
use Rattle.sgx_rules.specs.declared.entries.Entry.{Entry}
use Rattle.sgx_rules.specs.declared.entries.Event.{Event}
use Rattle.sgx_rules.specs.declared.entries.Event.TheVariants.{Did, Refused}
use Rattle.sgx_rules.specs.declared.entries.Action.TheVariants.{Epa, Create, Add, EldStart, Eld, Ewb}
use Rattle.sgx_rules.specs.declared.entries.Answer.TheVariants.{Moved}
use Rattle.sgx_rules.specs.Frames.{Content, IsVa, SecsOf, Holds, IsLoading, Free, Before}
use Rattle.sgx_rules.specs.Frames.{put_by, held_after, reloaded, reloaded_as, content}
use Rattle.sgx_types.specs.Pages.{is_own_page, is_va_page, page_at}
use Rattle.sgx_types.specs.declared.names.TheConstants.{SECS_NUMBER}
use Rattle.sgx_rules.specs.Frames.{made_before}
use Rattle.trace_places.specs.declared.change.Tenant.{Tenant}
use Rattle.trace_places.specs.declared.change.Tenant.TheVariants.{Has}
use Rattle.trace_places.specs.Places.{va_number, va_change, change_by, tenant_after, tenant}
use Rattle.trace_places.specs.Laws.{va_tenant, tenant_by, IsOfAdded, LoadsAdded}

-- ---- one entry more

held_if : (b : Bool) (new held : Content)
    → (if b then tenant_by new else tenant_by held) ≡ tenant_by (if b then new else held)
held_if true new held = refl
held_if false new held = refl

put_agrees : (f n : ℕ) (x : Option Tenant) (new held : Content) → x ≡ tenant_by new
    → (if f == n then x else tenant_by held) ≡ tenant_by (if f == n then new else held)
put_agrees f n x new held is = ap (λ y. if f == n then y else tenant_by held) is ∙ held_if (f == n) new held

va_agrees : (f : Frame) (n : ℕ) (number : Option ℕ) (before : Option Tenant)
    → tenant_after (Some (va_change f number)) n before ≡ (if f.0 == n then va_tenant number else before)
va_agrees f n (Some number) before = refl
va_agrees f n None before = refl

back_agrees : (page : Page) (was : Option (Kind × Perm)) → (is_own_page page ≡ true → is_some was ≡ true)
    → (is_va_page page ≡ true → va_number page.number ≡ Some page.number) → Some (Has page) ≡ tenant_by (reloaded page was)
back_agrees page was own few = by_name (is_va_page page) (page.number == SECS_NUMBER) was refl refl refl
  where
    by_name : (va number : Bool) (o : Option (Kind × Perm)) → is_va_page page ≡ va → (page.number == SECS_NUMBER) ≡ number → was ≡ o
        → Some (Has page) ≡ tenant_by (cond va (IsVa page.number) (cond (not va && number) (SecsOf page.enclave) (reloaded_as page o)))
    by_name true number o va secs is =
        let same : page ≡ page_at 0 page.number = λ i. record { enclave = eqb-true page.enclave 0 va i; number = page.number } in
        ap (λ g. Some (Has g)) same ∙ sym (ap va_tenant (few va))
    by_name false true o va secs is =
        let same : page ≡ page_at page.enclave SECS_NUMBER =
        λ i. record { enclave = page.enclave; number = eqb-true page.number SECS_NUMBER secs i } in
        ap (λ g. Some (Has g)) same
    by_name false false None va secs is = absurd (false≢true (sym (ap is_some is) ∙ own (rw (va, secs) refl)))
    by_name false false (Some k) va secs is = refl

agrees : (event : Event) (before : Before) (n : ℕ) (held : Content) → IsOfAdded before.added event
    → tenant_after (change_by event (va_number before.vas)) n (tenant_by held) ≡ tenant_by (held_after (put_by event before) n held)
agrees (Did (Epa f) answer) before n held h =
    va_agrees f n (va_number before.vas) (tenant_by held) ∙ put_agrees f.0 n (va_tenant (va_number before.vas)) (IsVa before.vas) held refl
agrees (Did (Create enclave f base size) answer) before n held h = held_if (f.0 == n) (SecsOf enclave) held
agrees (Did (Add enclave number f kind perm init) answer) before n held h =
    held_if (f.0 == n) (Holds (record { enclave = enclave; number = number }) kind perm) held
agrees (Did (EldStart f page slot) answer) before n held h = held_if (f.0 == n) (IsLoading page) held
agrees (Did (Ewb f) answer) before n held h = held_if (f.0 == n) Free held
agrees (Did (Eld f) (Moved page version tag)) before n held h =
    put_agrees f.0 n (Some (Has page)) (reloaded page (before.added page)) held (back_agrees page (before.added page) h.0 h.1)
agrees (Refused (Eld f) why) before n held h = held_if (f.0 == n) Free held
agrees event before n held h = refl

-- ---- all entries

pub tenant_of_content : (past : List Entry) (n : ℕ) → LoadsAdded past → tenant past n ≡ tenant_by (content past n)
tenant_of_content [] n h = refl
tenant_of_content (e ∷ past) n h =
    ap (tenant_after (change_by e.event (va_number (made_before past).vas)) n) (tenant_of_content past n h.1)
    ∙ agrees e.event (made_before past) n (content past n) h.0
