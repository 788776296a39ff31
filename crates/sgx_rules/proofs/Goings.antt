-- What may start to go out of a frame: a page that is drained, a SECS without resident pages, and what no processor uses.
use Rattle.std.proofs.Common.{◌≡◌, ℕ, true, false, refl, List}
use Rattle.sgx_rules.specs.declared.entries.Entry.{Entry}
use Rattle.sgx_rules.specs.Eviction.{is_drained}
use Rattle.sgx_rules.specs.Frames.{Content, Free, IsVa, SecsOf, Holds, IsLoading, content, is_child}
use Rattle.sgx_rules.specs.Rules.{GoesOut}
use Rattle.sgx_rules.specs.Table.{is_own}

-- what is asked of a page is asked of it alone
pub goes_out : (past : List Entry) (n : ℕ) (c : Content) → (is_own c ≡ true → is_drained past n ≡ true)
    → ((e : ℕ) → c ≡ SecsOf e → (m : ℕ) → is_child (content past m) e ≡ false) → GoesOut past n c
goes_out past n Free drained childless = tt
goes_out past n (IsVa number) drained childless = tt
goes_out past n (SecsOf enclave) drained childless = childless enclave refl
goes_out past n (Holds page kind perm) drained childless = drained refl
goes_out past n (IsLoading page) drained childless = tt
