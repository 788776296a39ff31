-- The list of those who keep a page back, one processor at a time.
use Rattle.std.proofs.Common.{◌≡◌, ℕ, zero, suc, ◌+◌, ◌-◌, ◌<◌, ◌≤◌, Bool, true, false, refl, sym, ◌∙◌, ap}
use Rattle.std.proofs.Common.{List, [], ◌∷◌, ◌++◌}
use Rattle.std.proofs.Common.{append_assoc, Some, arith}
use Rattle.std.proofs.lemmas.List.{append-nil}
use Rattle.sgx_types.specs.declared.names.Cpu.{Cpu}
use Rattle.driver_pass.specs.inner.Keeping.{first_of, passing_from}
use Rattle.driver_pass.specs.inner.Viewed.{numbers_in}

-- the first of some that are left
next : (test : ℕ → Bool) (n len : ℕ) → n < len
    → passing_from test n (len - n) ≡ passing_from test n (suc (len - (n + 1)))
next test n len low = let e : len - n ≡ suc (len - (n + 1)) = omega (arith, low) in ap (passing_from test n) e

pub next_passes : (test : ℕ → Bool) (n len : ℕ) → n < len → test n ≡ true
    → passing_from test n (len - n) ≡ n ∷ passing_from test (n + 1) (len - (n + 1))
next_passes test n len low is = next test n len low ∙ rw is refl

pub next_fails : (test : ℕ → Bool) (n len : ℕ) → n < len → test n ≡ false
    → passing_from test n (len - n) ≡ passing_from test (n + 1) (len - (n + 1))
next_fails test n len low is = next test n len low ∙ rw is refl

pub none_left : (test : ℕ → Bool) (n len : ℕ) → len ≤ n → passing_from test n (len - n) ≡ []
none_left test n len high = let e : len - n ≡ zero = omega (arith, high) in rw e refl

numbers_append : (xs ys : List Cpu) → numbers_in (xs ++ ys) ≡ numbers_in xs ++ numbers_in ys
numbers_append [] ys = refl
numbers_append (x ∷ xs) ys = ap (λ zs. x.0 ∷ zs) (numbers_append xs ys)

-- .. is found, or passed over
pub found_more : (test : ℕ → Bool) (found found' : List Cpu) (c : Cpu) (n len : ℕ) (all : List ℕ) → found' ≡ found ++ c ∷ [] → c.0 ≡ n
    → n < len → test n ≡ true → numbers_in found ++ passing_from test n (len - n) ≡ all
    → numbers_in found' ++ passing_from test (n + 1) (len - (n + 1)) ≡ all
found_more test found found' c n len all more same low is before =
    ap (λ cs. numbers_in cs ++ passing_from test (n + 1) (len - (n + 1))) more
    ∙ ap (λ ps. ps ++ passing_from test (n + 1) (len - (n + 1))) (numbers_append found (c ∷ []))
    ∙ append_assoc (numbers_in found) (c.0 ∷ []) (passing_from test (n + 1) (len - (n + 1)))
    ∙ ap (λ m. numbers_in found ++ (m ∷ passing_from test (n + 1) (len - (n + 1)))) same
    ∙ ap (λ ps. numbers_in found ++ ps) (sym (next_passes test n len low is))
    ∙ before

pub found_same : (test : ℕ → Bool) (found found' : List Cpu) (n len : ℕ) (all : List ℕ) → found' ≡ found → n < len → test n ≡ false
    → numbers_in found ++ passing_from test n (len - n) ≡ all
    → numbers_in found' ++ passing_from test (n + 1) (len - (n + 1)) ≡ all
found_same test found found' n len all stay low is before =
    ap (λ cs. numbers_in cs ++ passing_from test (n + 1) (len - (n + 1))) stay
    ∙ ap (λ ps. numbers_in found ++ ps) (sym (next_fails test n len low is))
    ∙ before

pub found_all : (test : ℕ → Bool) (found : List Cpu) (n len : ℕ) (all : List ℕ) → len ≤ n
    → numbers_in found ++ passing_from test n (len - n) ≡ all → numbers_in found ≡ all
found_all test found n len all high before =
    sym (ap (λ ps. numbers_in found ++ ps) (none_left test n len high) ∙ append-nil (numbers_in found)) ∙ before

pub first_found : (test : ℕ → Bool) (n len : ℕ) (all : List ℕ) → n < len → test n ≡ true → passing_from test n (len - n) ≡ all
    → Some n ≡ first_of all
first_found test n len all low is before = ap first_of (sym (next_passes test n len low is) ∙ before)
