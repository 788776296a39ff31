-- What a frame holds, by one of the tests of it.
use Rattle.std.proofs.Common.{◌≡◌, ◌||◌, ℕ, Bool, true, false, Option, Some, None, refl, sym, ap, ◌∙◌}
use Rattle.std.specs.Prelude.{is_some}
use Rattle.sgx_types.specs.declared.names.Kind.{Kind}
use Rattle.sgx_types.specs.declared.names.Page.{Page}
use Rattle.sgx_types.specs.declared.names.Perm.{Perm}
use Rattle.sgx_rules.specs.Frames.{Content, Free, IsVa, SecsOf, Holds, IsLoading, enclave_in, is_free, is_page, is_this}
use Rattle.sgx_rules.specs.Frames.{page_there, stands}
use Rattle.sgx_rules.specs.Table.{is_loading, is_secs, is_va, is_valid}
use Rattle.sgx_types.proofs.Pages.{same_page-refl, same_pages}

-- ---- a page

-- a frame holds a page by some kind and permissions
pub record IsHeld (c : Content) (g : Page) : Type 0 where
  pub kind : Kind
  pub perm : Perm
  pub holds : c ≡ Holds g kind perm

pub held_page : (c : Content) (g : Page) → is_page c g ≡ true → IsHeld c g
held_page (Holds page kind perm) g h = record { kind = kind; perm = perm; holds = ap (λ x. Holds x kind perm) (same_pages page g h) }
held_page Free g h = cc
held_page (IsVa number) g h = cc
held_page (SecsOf enclave) g h = cc
held_page (IsLoading page) g h = cc

-- a frame holds one page
pub one_page : (c : Content) (a b : Page) → is_page c a ≡ true → is_page c b ≡ true → a ≡ b
one_page c a b h k = let held = held_page c a h in same_pages a b (rw held.holds at k)

-- .. of its enclave
pub page_enclave : (c : Content) (g : Page) → is_page c g ≡ true → enclave_in c ≡ Some g.enclave
page_enclave c g h = ap enclave_in (held_page c g h).holds

-- .. which waits for no other, and is no free frame, no SECS and no version array page
pub record IsNoOther (c : Content) : Type 0 where
  pub waits : is_loading c ≡ false
  pub used : is_free c ≡ false
  pub secs : is_secs c ≡ false
  pub va : is_va c ≡ false

pub page_is_no_other : (c : Content) (g : Page) → is_page c g ≡ true → IsNoOther c
page_is_no_other c g h =
    let held = held_page c g h in
    record {
      waits = ap is_loading held.holds;
      used = ap is_free held.holds;
      secs = ap is_secs held.holds;
      va = ap is_va held.holds;
    }

-- ---- other contents

-- a frame that waits for a page holds none
pub load_no_page : (c : Content) (g : Page) → is_loading c ≡ true → is_page c g ≡ false
load_no_page (IsLoading page) g h = refl
load_no_page Free g h = refl
load_no_page (IsVa number) g h = refl
load_no_page (SecsOf enclave) g h = refl
load_no_page (Holds page kind perm) g h = cc

-- .. and is no version array page
pub loading_no_va : (c : Content) → is_loading c ≡ true → is_va c ≡ false
loading_no_va (IsLoading page) h = refl
loading_no_va Free h = refl
loading_no_va (IsVa number) h = cc
loading_no_va (SecsOf enclave) h = refl
loading_no_va (Holds page kind perm) h = refl

-- a frame that is not valid holds no page
pub vacant : (c : Content) → is_valid c ≡ false → (g : Page) → is_page c g ≡ false
vacant Free none g = refl
vacant (IsLoading page) none g = refl
vacant (IsVa number) none g = cc
vacant (SecsOf enclave) none g = cc
vacant (Holds page kind perm) none g = cc

-- .. and is no version array page
pub invalid_no_va : (c : Content) → is_valid c ≡ false → is_va c ≡ false
invalid_no_va Free none = refl
invalid_no_va (IsLoading page) none = refl
invalid_no_va (IsVa number) none = cc
invalid_no_va (SecsOf enclave) none = refl
invalid_no_va (Holds page kind perm) none = refl

-- .. and is free where it is not busy either
pub free_there : (c : Content) (sealing : Bool) → (sealing || is_loading c) ≡ false → is_valid c ≡ false → c ≡ Free
free_there Free sealing idle none = refl
free_there (IsLoading page) true idle none = cc
free_there (IsLoading page) false idle none = cc
free_there (IsVa number) sealing idle none = cc
free_there (SecsOf enclave) sealing idle none = cc
free_there (Holds page kind perm) sealing idle none = cc

-- a free frame holds nothing
pub free_is : (c : Content) → is_free c ≡ true → c ≡ Free
free_is Free h = refl
free_is (IsLoading page) h = cc
free_is (IsVa number) h = cc
free_is (SecsOf enclave) h = cc
free_is (Holds page kind perm) h = cc

-- a version array page is no free frame
pub va_no_free : (c : Content) → is_va c ≡ true → is_free c ≡ false
va_no_free (IsVa number) h = refl
va_no_free Free h = cc
va_no_free (IsLoading page) h = refl
va_no_free (SecsOf enclave) h = refl
va_no_free (Holds page kind perm) h = refl

-- .. and holds no enclave's page
pub enclave_no_va : (c : Content) → is_some (enclave_in c) ≡ true → is_va c ≡ false
enclave_no_va (Holds page kind perm) h = refl
enclave_no_va Free h = refl
enclave_no_va (IsVa number) h = cc
enclave_no_va (SecsOf enclave) h = refl
enclave_no_va (IsLoading page) h = refl

-- ---- pages of whatever type

-- a page is this one alone
pub this_alone : (o : Option Page) (a b : Page) → is_this o a ≡ true → is_this o b ≡ true → a ≡ b
this_alone None a b h k = cc
this_alone (Some page) a b h k = sym (same_pages page a h) ∙ same_pages page b k

-- a frame holds one page, of whatever type
pub one_there : (c : Content) (a b : Page) → stands c a ≡ true → stands c b ≡ true → a ≡ b
one_there c a b h k = this_alone (page_there c) a b h k

-- .. the one that its content names
pub there_is : (c : Content) (g : Page) → page_there c ≡ Some g → stands c g ≡ true
there_is c g held = rw held (same_page-refl g)

-- a frame that is not valid holds none
pub empty_there : (c : Content) → is_valid c ≡ false → (g : Page) → stands c g ≡ false
empty_there Free none g = refl
empty_there (IsLoading page) none g = refl
empty_there (IsVa number) none g = cc
empty_there (SecsOf enclave) none g = cc
empty_there (Holds page kind perm) none g = cc

-- a frame that holds a TCS or REG page holds it
pub own_there : (c : Content) (g : Page) → is_page c g ≡ true → stands c g ≡ true
own_there (Holds page kind perm) g h = h
own_there Free g h = cc
own_there (IsVa number) g h = cc
own_there (SecsOf enclave) g h = cc
own_there (IsLoading page) g h = cc

-- a frame that holds a version array page holds one of this number
pub va_there : (c : Content) → is_va c ≡ true → (k : ℕ) × (c ≡ IsVa k)
va_there (IsVa k) h = (k, refl)
va_there Free h = cc
va_there (SecsOf enclave) h = cc
va_there (Holds page kind perm) h = cc
va_there (IsLoading page) h = cc
