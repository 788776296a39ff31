-- What a valid job says of its TCS pages and of its operations.
use Rattle.std.proofs.Common.{◌≡◌, ℕ, zero, suc, ◌+◌, ◌/◌, ◌^◌, ◌≤◌, ◌&&◌, Bool, true, false}
use Rattle.std.proofs.Common.{if◌then◌else◌, List, [], ◌∷◌, Option, Some, None, length, nat_le, slice_get, unwrap_or, refl}
use Rattle.std.proofs.Common.{subst, arith}
use Rattle.std.specs.List.{All, find}
use Rattle.std.proofs.lemmas.Bool.{false≢true, leb-true}
use Rattle.std.proofs.lemmas.List.Elements.{All-head, All-nil, All-tail}
use Rattle.sgx_rules.specs.declared.entries.Entry.{Entry}
use Rattle.sgx_types.specs.declared.names.Page.{Page}
use Rattle.sgx_rules.specs.Processors.{stay}
use Rattle.job_grammar.specs.declared.jobs.Op.{Op}
use Rattle.job_grammar.specs.declared.jobs.PageLine.{PageLine}
use Rattle.job_grammar.specs.declared.jobs.PageLine.TheVariants as lines
use Rattle.job_grammar.specs.Jobs.{EnclaveView, JobView, covers, is_tcs_line, is_tcs_page, lines_at, lines_in, tcs_line}
use Rattle.job_grammar.specs.inner.Valid.{IsValid, IsValidEnclave, IsValidLine, IsValidOp}
use Rattle.job_grammar.proofs.EnclaveLaws.{lawful-size}
use Rattle.script_rules.specs.Script.{is_seated_at, saved_frames, script_of}
use Rattle.due_tables.specs.inner.Due.{IsWithin, in_use}

found_has : {X : Type 0} (test : X → Bool) (P : X → Type 0) (xs : List X) (x : X) → All P xs → find test xs ≡ Some x → P x
found_has test P [] x all h = cc
found_has {X} test P (y ∷ ys) x all h = by_test (test y) h (found_has test P ys x (All-tail P y ys all))
  where
    by_test : (b : Bool) → (if b then Some y else find test ys) ≡ Some x → (find test ys ≡ Some x → P x) → P x
    by_test true e more = let same : y ≡ x = cc in subst P same (All-head P y ys all)
    by_test false e more = more e

got_has : {X : Type 0} (P : X → Type 0) (xs : List X) (n : ℕ) (x : X) → All P xs → slice_get xs n ≡ Some x → P x
got_has P [] n x all h = cc
got_has P (y ∷ ys) zero x all h = let same : y ≡ x = cc in subst P same (All-head P y ys all)
got_has P (y ∷ ys) (suc n) x all h = got_has P ys n x (All-tail P y ys all) h

-- a TCS page has state save pages, within its enclave
abbrev pub IsTcsLine : Option PageLine → Type 0
IsTcsLine (Some (lines.Tcs page ossa nssa plain)) = (1 ≤ nssa) × (ossa + nssa ≤ 4096)
IsTcsLine _ = Unit {0}

line_within : (pages : ℕ) (line : PageLine) → pages ≤ 4096 → IsValidLine pages line → IsTcsLine (Some line)
line_within pages (lines.Tcs page ossa nssa plain) few h = (h.0, omega (arith, h.3, few))
line_within pages (lines.Reg first count perm value plain) few h = tt

found_line : (pages : ℕ) (ls : List PageLine) (n : ℕ) → pages ≤ 4096 → All (IsValidLine pages) ls → IsTcsLine (tcs_line ls n)
found_line pages ls n few all = by_line (tcs_line ls n) refl
  where
    by_line : (o : Option PageLine) → tcs_line ls n ≡ o → IsTcsLine o
    by_line None is = tt
    by_line (Some line) is =
        line_within pages line few (found_has (λ line. is_tcs_line line && covers n line) (IsValidLine pages) ls line all is)

pub tcs_line_is : (j : JobView) (e n : ℕ) → IsValid j → IsTcsLine (tcs_line (lines_at j.enclaves e) n)
tcs_line_is j zero n v = tt
tcs_line_is j (suc e) n v = by_enclave (slice_get j.enclaves e) refl
  where
    by_enclave : (o : Option EnclaveView) → slice_get j.enclaves e ≡ o → IsTcsLine (tcs_line (lines_in o) n)
    by_enclave None is = tt
    by_enclave (Some x) is =
        let valid : IsValidEnclave x = got_has IsValidEnclave j.enclaves e x v.enclaves is in
        let size : x.size ≤ 2 ^ 24 = lawful-size x valid in
        found_line (x.size / 4096) x.lines n (omega (arith, size)) valid.lines

-- ---- counts

pub within_le : (m n : ℕ) (line : Option PageLine) → m ≤ n → IsWithin n line → IsWithin m line
within_le m n None low h = tt
within_le m n (Some (lines.Reg first count perm value plain)) low h = tt
within_le m n (Some (lines.Tcs page ossa nssa plain)) low h = omega (arith, low, h)

least_le : (b : Bool) (n : ℕ) → n ≤ (if b then n + 1 else n)
least_le true n = omega arith
least_le false n = omega arith

-- those in use without the one that is about to be
pub saved_within : (past : List Entry) (p : ℕ) (g : Page) (line : Option PageLine) → IsWithin (in_use past p g) line
    → IsWithin (saved_frames past g) line
saved_within past p g line h =
    within_le (saved_frames past g) (in_use past p g) line (least_le (is_seated_at g (stay past p)) (saved_frames past g)) h

-- ---- enclaves

no_lines : (es : List EnclaveView) (n : ℕ) → length es ≤ n → slice_get es n ≡ None
no_lines [] n h = refl
no_lines (e ∷ es) zero h = absurd (omega (arith, h))
no_lines (e ∷ es) (suc n) h = no_lines es n (omega (arith, h))

-- an enclave that has a TCS page is one of the eight
pub few_numbers : (j : JobView) (e n : ℕ) → IsValid j → is_tcs_page (lines_at j.enclaves e) n ≡ true → e ≤ 8
few_numbers j zero n v h = omega arith
few_numbers j (suc e) n v h = by_test (nat_le (length j.enclaves) e) refl
  where
    by_test : (b : Bool) → nat_le (length j.enclaves) e ≡ b → suc e ≤ 8
    by_test true is =
        let none : slice_get j.enclaves e ≡ None = no_lines j.enclaves e (leb-true (length j.enclaves) e is) in
        absurd (false≢true (subst (λ o. is_tcs_page (lines_in o) n ≡ true) none h))
    by_test false is = let few = v.few_enclaves in grind (arith, is)

-- ---- operations

script_valid : (j : JobView) (p : ℕ) → IsValid j → All (IsValidOp j) (script_of j p)
script_valid j p v = by_script (slice_get j.scripts p) refl
  where
    by_script : (o : Option (List Op)) → slice_get j.scripts p ≡ o → All (IsValidOp j) (unwrap_or o [])
    by_script None is = All-nil (IsValidOp j)
    by_script (Some ops) is = got_has (All (IsValidOp j)) j.scripts p ops v.ops is

pub op_valid : (j : JobView) (p n : ℕ) (op : Op) → IsValid j → slice_get (script_of j p) n ≡ Some op → IsValidOp j op
op_valid j p n op v is = got_has (IsValidOp j) (script_of j p) n op (script_valid j p v) is
