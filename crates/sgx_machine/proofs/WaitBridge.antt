-- The page that a frame waits for, with its header, its kind and its permissions.
use Rattle.std.proofs.Common.{◌≡◌, ℕ, ◌==◌, ◌&&◌, not, Bool, true, false}
use Rattle.std.proofs.Common.{cond, refl, sym, ap, ◌∙◌}
use Rattle.std.proofs.Common.{Option, Some, None, IfSome, is_some}
use Rattle.std.specs.Prelude.{nat_lt}
use Rattle.std.specs.Option.{option_and_then}
use Rattle.std.proofs.lemmas.Bool.{eqb-true, false≢true}
use Rattle.sgx_types.specs.declared.names.Page.{Page}
use Rattle.sgx_types.specs.declared.names.Kind.{Kind}
use Rattle.sgx_types.specs.declared.names.Kind.TheVariants as kinds
use Rattle.sgx_types.specs.declared.names.Perm.{Perm}
use Rattle.sgx_types.specs.declared.names.TheConstants.{SECS_NUMBER}
use Rattle.sgx_types.specs.declared.record.Header.{Header}
use Rattle.sgx_types.specs.Pages.{is_own_page, is_secs_page, is_va_page, no_perm}
use Rattle.sgx_types.specs.Sealed.{header_of}
use Rattle.sgx_types.proofs.Truths.{both_true}
use Rattle.sgx_rules.specs.Flat.{FlatEnclave, enclave_sight_of}
use Rattle.sgx_rules.specs.Frames.{IsLoading, IsVa, SecsOf, reloaded, reloaded_as}
use Rattle.sgx_rules.specs.PageBytes.{secs_header, va_header}
use Rattle.sgx_rules.specs.inner.Starts.{BareStart}
use Rattle.sgx_rules.specs.Table as table
use Rattle.sgx_rules.specs.Table.{is_made}
use Rattle.epcm_entry.specs.declared.entry_view.EntryView.{EntryView}
use Rattle.epcm_entry.specs.declared.entry_view.EntryView.TheVariants as views
use Rattle.epcm_entry.specs.inner.EntryView.{holding, goes_out}
use Rattle.epcm_entry.specs.inner.Sights.{held, content_of}
use Rattle.secs_state.specs.inner.Secs.{SecsState, added_at}
use Rattle.secs_state.specs.inner.Table.{enclave_at}
use Rattle.evict_reload.specs.inner.Effects as effects
use Rattle.evict_reload.specs.inner.Effects.{kind_in}
use Rattle.evict_reload.specs.inner.Sights as parts
use Rattle.evict_reload.specs.inner.Sights.{is_array, is_kind_own, owner_in}
use Rattle.machine_laws.proofs.Contents.{waits_for}
use Rattle.machine_laws.specs.inner.Guarded.{IsOpen, IsPaged, Loads}
use Rattle.machine_laws.specs.inner.State.{State, is_known}
use Rattle.machine_laws.specs.inner.Steps.{header_by, header_in}
use Rattle.sgx_machine.specs.declared.machine.Machine.TheInside.{Inside}
use Rattle.sgx_machine.specs.inner.Parts.{Parts, enclave_of, added_in, state_of}
use Rattle.sgx_machine.specs.inner.Whole.{IsNamedFor, IsWhole, parts_of}
use Rattle.sgx_machine.proofs.PagingSights.{added_same}
use Rattle.sgx_machine.proofs.EwbBridge.{own_choice, secs_choice}

-- ---- ELDU

-- a page that there is has a header
pub record HasHeader (s : State) (page : Page) : Type 0 where
  pub header : Header
  pub headed : header_in s page ≡ Some header

pub has_header : (s : State) (page : Page) → is_known s page ≡ true → HasHeader s page
has_header s page known = by_name (is_va_page page) (page.number == SECS_NUMBER) refl refl known
  where
    by_own : (o : Option FlatEnclave) (x : Option (Kind × Perm)) → is_va_page page ≡ false → (page.number == SECS_NUMBER) ≡ false
        → s.enclaves page.enclave ≡ o → s.added page ≡ x → (is_made (enclave_sight_of o) && is_some x) ≡ true → HasHeader s page
    by_own None x va inner made added k = cc k
    by_own (Some y) None va inner made added k = cc k
    by_own (Some y) (Some x) va inner made added k =
        record {
          header = header_of y.base page x.0 x.1;
          headed = own_choice (is_va_page page) (page.number == SECS_NUMBER) _ _ _ va inner
              ∙ ap (λ q. header_by q (s.added page) page) made ∙ ap (λ q. header_by (Some y) q page) added;
        }

    by_name : (va number : Bool) → is_va_page page ≡ va → (page.number == SECS_NUMBER) ≡ number
        → cond va (nat_lt page.number s.vas_made) (cond (not va && number) (is_made (enclave_sight_of (s.enclaves page.enclave)))
        (is_made (enclave_sight_of (s.enclaves page.enclave)) && is_some (s.added page))) ≡ true → HasHeader s page
    by_name true number va is k = record { header = va_header page.number; headed = rw va refl }
    by_name false true va is k = record {
      header = secs_header page.enclave;
      headed = secs_choice (is_va_page page) (page.number == SECS_NUMBER) _ _ _ va is;
    }
    by_name false false va is k = by_own (s.enclaves page.enclave) (s.added page) va is refl refl k

-- the header of a page by the table and by the state
pub header_seen : (d : Parts) (page : Page) → effects.header_in d.secs page ≡ header_in (state_of d) page
header_seen d page = by_name (is_va_page page) (is_secs_page page)
  where
    by_kind : (x : SecsState) (o : Option (Kind × Perm)) → effects.header_by (Some x) page o
        ≡ header_by (enclave_of (Some x)) o page
    by_kind x None = refl
    by_kind x (Some k) = refl

    by_state : (o : Option SecsState) → effects.header_by o page (option_and_then (λ (x : SecsState). added_at x page.number) o)
        ≡ header_by (enclave_of o) (added_in o page.number) page
    by_state None = refl
    by_state (Some x) = by_kind x (added_at x page.number)

    by_name : (va inner : Bool)
        → cond va (Some (va_header page.number)) (cond inner (Some (secs_header page.enclave))
        (effects.header_by (enclave_at d.secs page.enclave) page (parts.added_in d.secs page)))
        ≡ cond va (Some (va_header page.number)) (cond inner (Some (secs_header page.enclave))
        (header_by ((state_of d).enclaves page.enclave) ((state_of d).added page) page))
    by_name true inner = refl
    by_name false true = refl
    by_name false false = by_state (enclave_at d.secs page.enclave)

pub waits_idle : (v : EntryView) → table.is_loading (held v) ≡ true → goes_out v ≡ false
waits_idle views.Free h = refl
waits_idle (views.Loading page) h = refl
waits_idle (views.Valid page kinds.Tcs perm blocked sealing) h = cc h
waits_idle (views.Valid page kinds.Reg perm blocked sealing) h = cc h
waits_idle (views.Valid page kinds.Secs perm blocked sealing) h = cc h
waits_idle (views.Valid page kinds.Va perm blocked sealing) h = cc h

-- a page that a frame waits for, with its kind and permissions
pub record Waits (d : Parts) (f : ℕ) (page : Page) : Type 0 where
  pub known : is_known (state_of d) page ≡ true
  pub waits : (state_of d).content f ≡ IsLoading page
  pub kind : Kind
  pub perm : Perm
  pub is : kind_in d.secs page ≡ Some (kind, perm)
  pub back : content_of page kind perm ≡ reloaded page ((state_of d).added page)
  pub own : is_own_page page ≡ is_kind_own kind
  pub array : is_va_page page ≡ is_array kind
  pub named : IsNamedFor (holding page kind perm)
  pub owned : IfSome (owner_in (content_of page kind perm)) (λ e. is_some (enclave_at d.secs e) ≡ true)

pub waits : (m : Inside) → IsWhole m → (f : ℕ) (start : BareStart) (page : Page)
    → table.is_loading ((state_of (parts_of m)).content f) ≡ true → (state_of (parts_of m)).start f ≡ Some start
    → start.loads ≡ Some page → Waits (parts_of m) f page
waits m h f start page comes at loads =
    let s = state_of (parts_of m) in
    let is : IsOpen s start = rw at at (h.guarded.opened f) in
    let w = waits_for (s.content f) comes in
    let told : Loads w.0 start = rw at at (h.guarded.loaded f w.0 w.1) in
    let one : Some w.0 ≡ Some page = sym told ∙ loads in
    let same : w.0 ≡ page = cc one in
    by_name (is_va_page page) (page.number == SECS_NUMBER) refl refl (rw loads at is.loads) (w.1 ∙ ap IsLoading same)
  where
    there : (o : Option SecsState) → is_made (enclave_sight_of (enclave_of o)) ≡ true → is_some o ≡ true
    there None k = cc k
    there (Some x) k = refl

    by_kind : (kind : Kind) (perm : Perm) → is_va_page page ≡ false → (page.number == SECS_NUMBER) ≡ false
        → (state_of (parts_of m)).added page ≡ Some (kind, perm) → IsPaged kind
        → is_known (state_of (parts_of m)) page ≡ true → (state_of (parts_of m)).content f ≡ IsLoading page
        → is_some (enclave_at m.secs page.enclave) ≡ true → Waits (parts_of m) f page
    by_kind kinds.Tcs perm va other added paged known holds made = record {
      known = known;
      waits = holds;
      kind = kinds.Tcs;
      perm = perm;
      is = own_choice (is_va_page page) (page.number == SECS_NUMBER) _ _ _ va other ∙ added_same m.secs page ∙ added;
      back = sym (own_choice (is_va_page page) (page.number == SECS_NUMBER) (IsVa page.number) (SecsOf page.enclave)
          (reloaded_as page ((state_of (parts_of m)).added page)) va other ∙ ap (reloaded_as page) added);
      own = rw (va, other) refl;
      array = va;
      named = tt;
      owned = made;
    }
    by_kind kinds.Reg perm va other added paged known holds made = record {
      known = known;
      waits = holds;
      kind = kinds.Reg;
      perm = perm;
      is = own_choice (is_va_page page) (page.number == SECS_NUMBER) _ _ _ va other ∙ added_same m.secs page ∙ added;
      back = sym (own_choice (is_va_page page) (page.number == SECS_NUMBER) (IsVa page.number) (SecsOf page.enclave)
          (reloaded_as page ((state_of (parts_of m)).added page)) va other ∙ ap (reloaded_as page) added);
      own = rw (va, other) refl;
      array = va;
      named = tt;
      owned = made;
    }
    by_kind kinds.Secs perm va other added paged known holds made = absurd paged
    by_kind kinds.Va perm va other added paged known holds made = absurd paged

    by_added : (o : Option (Kind × Perm)) → is_va_page page ≡ false → (page.number == SECS_NUMBER) ≡ false
        → (state_of (parts_of m)).added page ≡ o → IfSome o (λ k. IsPaged k.0 × (is_own_page page ≡ true))
        → is_known (state_of (parts_of m)) page ≡ true → (state_of (parts_of m)).content f ≡ IsLoading page
        → (is_made (enclave_sight_of ((state_of (parts_of m)).enclaves page.enclave)) && is_some o) ≡ true → Waits (parts_of m) f page
    by_added None va other added kind known holds k = absurd (false≢true (sym (never (is_made (enclave_sight_of
        ((state_of (parts_of m)).enclaves page.enclave)))) ∙ k))
      where
        never : (b : Bool) → (b && false) ≡ false
        never true = refl
        never false = refl
    by_added (Some x) va other added kind known holds k =
        by_kind x.0 x.1 va other added kind.0 known holds (there (enclave_at m.secs page.enclave) (both_true _ _ k).0)

    by_name : (va number : Bool) → is_va_page page ≡ va → (page.number == SECS_NUMBER) ≡ number
        → is_known (state_of (parts_of m)) page ≡ true → (state_of (parts_of m)).content f ≡ IsLoading page → Waits (parts_of m) f page
    by_name true number va other known holds = record {
      known = known;
      waits = holds;
      kind = kinds.Va;
      perm = no_perm;
      is = rw va refl;
      back = rw va refl;
      own = rw va refl;
      array = va;
      named = eqb-true page.enclave 0 va;
      owned = tt;
    }
    by_name false true va number known holds = record {
      known = known;
      waits = holds;
      kind = kinds.Secs;
      perm = no_perm;
      is = secs_choice (is_va_page page) (page.number == SECS_NUMBER) _ _ _ va number;
      back = sym (secs_choice (is_va_page page) (page.number == SECS_NUMBER) (IsVa page.number) (SecsOf page.enclave)
          (reloaded_as page ((state_of (parts_of m)).added page)) va number);
      own = rw (va, number) refl;
      array = va;
      named = eqb-true page.number SECS_NUMBER number;
      owned = there (enclave_at m.secs page.enclave)
          (sym (secs_choice (is_va_page page) (page.number == SECS_NUMBER) _ _ _ va number) ∙ known);
    }
    by_name false false va number known holds =
        by_added ((state_of (parts_of m)).added page) va number refl (h.guarded.kinds page) known holds
        (sym (own_choice (is_va_page page) (page.number == SECS_NUMBER) _ _ _ va number) ∙ known)
