-- What a frame holds that holds a given page.
use Rattle.std.proofs.Common.{refl, ◌≡◌, true, ap}
use Rattle.sgx_types.specs.declared.names.Page.{Page}
use Rattle.sgx_types.specs.declared.names.Kind.{Kind}
use Rattle.sgx_types.specs.declared.names.Kind.TheVariants as kinds
use Rattle.sgx_types.specs.declared.names.Perm.{Perm}
use Rattle.sgx_rules.specs.Frames.{Content, Free, IsVa, SecsOf, Holds, IsLoading, is_page}
use Rattle.sgx_rules.specs.Table.{is_tcs, is_reg, is_loading}
use Rattle.sgx_rules.proofs.Contents.{one_page}
use Rattle.sgx_types.proofs.Pages.{same_pages}

pub record IsKindOf (c : Content) (g : Page) (kind : Kind) : Type 0 where
  pub perm : Perm
  pub holds : c ≡ Holds g kind perm

pub tcs_there : (c : Content) (g : Page) → is_page c g ≡ true → is_tcs c ≡ true → IsKindOf c g kinds.Tcs
tcs_there (Holds page kinds.Tcs perm) g here is = record { perm = perm; holds = ap (λ q. Holds q kinds.Tcs perm) (same_pages page g here) }
tcs_there (Holds page kinds.Secs perm) g here is = cc
tcs_there (Holds page kinds.Reg perm) g here is = cc
tcs_there (Holds page kinds.Va perm) g here is = cc
tcs_there Free g here is = cc
tcs_there (IsVa number) g here is = cc
tcs_there (SecsOf enclave) g here is = cc
tcs_there (IsLoading page) g here is = cc

pub reg_there : (c : Content) (g : Page) → is_page c g ≡ true → is_reg c ≡ true → IsKindOf c g kinds.Reg
reg_there (Holds page kinds.Reg perm) g here is = record { perm = perm; holds = ap (λ q. Holds q kinds.Reg perm) (same_pages page g here) }
reg_there (Holds page kinds.Secs perm) g here is = cc
reg_there (Holds page kinds.Tcs perm) g here is = cc
reg_there (Holds page kinds.Va perm) g here is = cc
reg_there Free g here is = cc
reg_there (IsVa number) g here is = cc
reg_there (SecsOf enclave) g here is = cc
reg_there (IsLoading page) g here is = cc

-- a frame holds one page, by its enclave and its number
pub one_named : (c : Content) (g h : Page) → is_page c g ≡ true → is_page c h ≡ true → (g.enclave ≡ h.enclave) × (g.number ≡ h.number)
one_named c g h here there =
    let same = one_page c g h here there in (ap (λ (q : Page). q.enclave) same, ap (λ (q : Page). q.number) same)

-- .. and a page of one kind
pub tcs_no_reg : (c : Content) → is_tcs c ≡ true → is_reg c ≡ true → ⊥
tcs_no_reg (Holds page kinds.Tcs perm) is other = cc
tcs_no_reg (Holds page kinds.Secs perm) is other = cc
tcs_no_reg (Holds page kinds.Reg perm) is other = cc
tcs_no_reg (Holds page kinds.Va perm) is other = cc
tcs_no_reg Free is other = cc
tcs_no_reg (IsVa number) is other = cc
tcs_no_reg (SecsOf enclave) is other = cc
tcs_no_reg (IsLoading page) is other = cc

-- a frame that is loading waits for a page
pub waits_for : (c : Content) → is_loading c ≡ true → (g : Page) × (c ≡ IsLoading g)
waits_for Free is = cc
waits_for (IsVa number) is = cc
waits_for (SecsOf e) is = cc
waits_for (Holds page kind perm) is = cc
waits_for (IsLoading page) is = (page, refl)
