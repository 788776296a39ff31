-- How long the text of a valid job is.
use Rattle.std.proofs.Common.{◌≡◌, ℕ, zero, suc, ◌+◌, ◌*◌, ◌/◌, ◌%◌, ◌^◌, ◌==◌, ◌≤◌, Bool, true}
use Rattle.std.proofs.Common.{false, List, [], ◌∷◌, ◌++◌, Option, Some, None, map, length, sum_by, All, decimal, refl, ap}
use Rattle.std.proofs.Common.{◌∙◌, arith, lit≤, inl, inr}
use Rattle.std.specs.Fmt.{digit_glyph, digits, digits_onto}
use Rattle.std.specs.List.{AllByRecursion, join_with_byte}
use Rattle.std.proofs.lemmas.Bool.{cases_Bool}
use Rattle.std.proofs.lemmas.Fmt.{length-decimal-le}
use Rattle.std.proofs.lemmas.List.{length-append, length-map}
use Rattle.std.proofs.lemmas.List.Elements.{All-head, All-tail}
use Rattle.std.proofs.lemmas.List.Sums.{sum_by-cons}
use Rattle.hex.specs.Hex.{lower_digits}
use Rattle.hex.proofs.HexLemmas.{length-encode_with}
use Rattle.sgx_types.specs.declared.names.Perm.{Perm}
use Rattle.text_words.specs.Words.{Words, digest_word, enclave_word, hexadecimal, line_text, perm_word}
use Rattle.sgx_types.specs.Digests.{IsDigest}
use Rattle.text_words.specs.inner.Reading.{IsLetter}
use Rattle.job_grammar.specs.declared.jobs.PageLine.{PageLine}
use Rattle.job_grammar.specs.declared.jobs.PageLine.TheVariants as pages
use Rattle.job_grammar.specs.declared.jobs.Op.{Op}
use Rattle.job_grammar.specs.Jobs.{EnclaveView, JobView, enclave_pages, page_count}
use Rattle.job_grammar.specs.inner.Valid.{IsValid, IsValidEnclave, IsValidLine}
use Rattle.job_lines.specs.declared.statements.Plan.{Plan}
use Rattle.job_lines.specs.declared.statements.Plan.TheVariants as plans
use Rattle.job_lines.specs.declared.statements.Operation.{Operation}
use Rattle.job_lines.specs.declared.statements.Operation.TheVariants as ops
use Rattle.job_lines.specs.declared.statements.Statement.{Statement}
use Rattle.job_lines.specs.declared.statements.Statement.TheVariants as says
use Rattle.job_print.specs.JobText.{enclave_says, expect_says, job_says, job_text, numbered, op_says, op_words, options_say}
use Rattle.job_print.specs.JobText.{page_says}
use Rattle.job_print.specs.JobText.{plain_words, plan_says, plan_words, plans_say, script_says, statement_text, statement_words}
use Rattle.job_print.specs.JobText.{statements_text}
use Rattle.job_print.proofs.Printable.{Fits, IsPrintable, IsPrintableOp, IsPrintablePlan}
use Rattle.job_print.proofs.Plain.{letter-word}

-- ---- words

-- the bytes of words, and one behind each
abbrev pub size_of : Words → ℕ
size_of [] = 0
size_of (word ∷ words) = length word + 1 + size_of words

line-size : (word : List ℕ) (words : Words) → length (line_text (word ∷ words)) ≡ size_of (word ∷ words)
line-size word words = omega (arith, length-append (join_with_byte 32 (word ∷ words)) (10 ∷ []), joined-size word words)
  where
    joined-size : (first : List ℕ) (others : Words) → length (join_with_byte 32 (first ∷ others)) + 1 ≡ size_of (first ∷ others)
    joined-size first [] = omega arith
    joined-size first (next ∷ others) = omega (
      arith,
      length-append first (32 ∷ join_with_byte 32 (next ∷ others)),
      joined-size next others,
    )

decimal-size : (n : ℕ) → Fits n → length (decimal n) ≤ 20
decimal-size n fits = length-decimal-le 20 n (lit≤ tt) (omega arith) fits

digits-size : (k radix : ℕ) (n : ℕ) (tail : List ℕ) → length (digits_onto k radix false n tail) ≤ k + length tail
digits-size zero radix n tail = omega arith
digits-size (suc k) radix n tail =
    let more = digits-size k radix (n / radix) (digit_glyph false (n % radix) ∷ tail) in
    elim (cases_Bool (n / radix == 0)) [
      | inl last ↦ rw last (omega arith)
      | inr not_last ↦ rw not_last (omega (arith, more))
    ]

hexadecimal-size : (n : ℕ) → length (hexadecimal n) ≤ 66
unfolding digits
hexadecimal-size n = omega (arith, digits-size 64 16 n [])

digest-size : (digest : List ℕ) → IsDigest digest → length (digest_word digest) ≡ 64
digest-size digest is = length-encode_with lower_digits digest ∙ ap (λ (n : ℕ). 2 * n) is.sized

letter-size : (enclave : ℕ) → IsLetter enclave → length (enclave_word enclave) ≡ 1
letter-size enclave is = rw (letter-word enclave is) refl

perm-size : (perm : Perm) → length (perm_word perm) ≤ 3
perm-size perm = by_bits perm.r perm.w perm.x
  where
    by_bits : (r w x : Bool) → length (perm_word (record { r = r; w = w; x = x })) ≤ 3
    by_bits true true true = omega arith
    by_bits true true false = omega arith
    by_bits true false true = omega arith
    by_bits true false false = omega arith
    by_bits false true true = omega arith
    by_bits false true false = omega arith
    by_bits false false true = omega arith
    by_bits false false false = omega arith

plain-size : (plain : Bool) → size_of (plain_words plain) ≤ 6
plain-size true = omega arith
plain-size false = omega arith

-- ---- lines

plan-size : (plan : Plan) → IsPrintablePlan plan → size_of (plan_words plan) ≤ 100
plan-size (plans.FailRoom k) fits = omega (arith, decimal-size k fits)
plan-size (plans.FailPut k) fits = omega (arith, decimal-size k fits)
plan-size (plans.FailGet k) fits = omega (arith, decimal-size k fits)
plan-size (plans.DropGet page g) fits =
    omega (arith, letter-size page.enclave fits.0.0, decimal-size page.number fits.0.1, decimal-size g fits.1)
plan-size (plans.Flip page g place) fits = omega (
  arith,
  letter-size page.enclave fits.0.0,
  decimal-size page.number fits.0.1,
  decimal-size g fits.1,
  decimal-size place fits.2,
)
plan-size (plans.Replay page g w) fits = omega (
  arith,
  letter-size page.enclave fits.0.0,
  decimal-size page.number fits.0.1,
  decimal-size g fits.1,
  decimal-size w fits.2,
)
plan-size (plans.Swap one other) fits = omega (
  arith,
  letter-size one.enclave fits.0.0,
  decimal-size one.number fits.0.1,
  letter-size other.enclave fits.1.0,
  decimal-size other.number fits.1.1,
)

op-size : (op : Operation) → IsPrintableOp op → size_of (op_words op) ≤ 150
op-size (ops.Enter tcs) fits = omega (arith, letter-size tcs.enclave fits.0, decimal-size tcs.number fits.1)
op-size (ops.Resume tcs) fits = omega (arith, letter-size tcs.enclave fits.0, decimal-size tcs.number fits.1)
op-size ops.Exit fits = omega arith
op-size ops.Timer fits = omega arith
op-size (ops.Load off) fits = omega (arith, hexadecimal-size off)
op-size (ops.Store off value) fits = omega (arith, hexadecimal-size off, decimal-size value fits.1)
op-size (ops.Xadd off value) fits = omega (arith, hexadecimal-size off, decimal-size value fits.1)
op-size (ops.Set value) fits = omega (arith, decimal-size value fits)
op-size (ops.Plus value) fits = omega (arith, decimal-size value fits)
op-size (ops.OutLoad enclave off) fits = omega (arith, letter-size enclave fits.0, hexadecimal-size off)
op-size (ops.OutStore enclave off value) fits =
    omega (arith, letter-size enclave fits.0, hexadecimal-size off, decimal-size value fits.2)

words-size : (s : Statement) → IsPrintable s → size_of (statement_words s) ≤ 150
words-size (says.Epc frames) fits = omega (arith, decimal-size frames fits)
words-size (says.Marks low high scan) fits =
    omega (arith, decimal-size low fits.0, decimal-size high fits.1, decimal-size scan fits.2)
words-size (says.Key key) fits = omega (arith, digest-size key fits)
words-size (says.Start start) fits = omega (arith, decimal-size start.epoch fits.0, decimal-size start.version fits.1)
words-size (says.Enclave enclave base size) fits =
    omega (arith, letter-size enclave fits.0, hexadecimal-size base, hexadecimal-size size)
words-size (says.Tcs page ossa nssa plain) fits =
    omega (arith, decimal-size page fits.0, decimal-size ossa fits.1, decimal-size nssa fits.2, plain-size plain)
words-size (says.Reg first count perm value plain) fits = omega (
  arith,
  decimal-size first fits.0,
  decimal-size count fits.1,
  perm-size perm,
  decimal-size value fits.3,
  plain-size plain,
)
words-size (says.Expect digest) fits = omega (arith, digest-size digest fits)
words-size (says.Plan plan) fits = omega (arith, plan-size plan fits)
words-size (says.Cpu number) fits = omega (arith, decimal-size number fits)
words-size (says.Operation op) fits = op-size op fits

text-size : (s : Statement) → length (statement_text s) ≡ size_of (statement_words s)
unfolding statement_text
text-size s = by_words (statement_words s) (some s)
  where
    some : (t : Statement) → (word : List ℕ) × (words : Words) × (statement_words t ≡ word ∷ words)
    some (says.Epc frames) = (_, _, refl)
    some (says.Marks low high scan) = (_, _, refl)
    some (says.Key key) = (_, _, refl)
    some (says.Start start) = (_, _, refl)
    some (says.Enclave enclave base size) = (_, _, refl)
    some (says.Tcs page ossa nssa plain) = (_, _, refl)
    some (says.Reg first count perm value plain) = (_, _, refl)
    some (says.Expect digest) = (_, _, refl)
    some (says.Plan plan) = (_, _, refl)
    some (says.Cpu number) = (_, _, refl)
    some (says.Operation (ops.Enter tcs)) = (_, _, refl)
    some (says.Operation (ops.Resume tcs)) = (_, _, refl)
    some (says.Operation ops.Exit) = (_, _, refl)
    some (says.Operation ops.Timer) = (_, _, refl)
    some (says.Operation (ops.Load off)) = (_, _, refl)
    some (says.Operation (ops.Store off value)) = (_, _, refl)
    some (says.Operation (ops.Xadd off value)) = (_, _, refl)
    some (says.Operation (ops.Set value)) = (_, _, refl)
    some (says.Operation (ops.Plus value)) = (_, _, refl)
    some (says.Operation (ops.OutLoad enclave off)) = (_, _, refl)
    some (says.Operation (ops.OutStore enclave off value)) = (_, _, refl)

    by_words : (words : Words) → (first : List ℕ) × (others : Words) × (words ≡ first ∷ others) → length (line_text words) ≡ size_of words
    by_words words parts = rw parts.2 (line-size parts.0 parts.1)

-- ---- a job

all-size : (all : List Statement) → AllByRecursion IsPrintable all → length (statements_text all) ≤ 150 * length all
all-size [] fits = omega arith
all-size (s ∷ all) fits = omega (
  arith,
  length-append (statement_text s) (statements_text all),
  text-size s,
  words-size s fits.0,
  all-size all fits.1,
)

-- each line of pages adds one at least
lines-few : (most : ℕ) (lines : List PageLine) → All (IsValidLine most) lines → length lines ≤ sum_by page_count lines
lines-few most [] valid = omega arith
lines-few most (line ∷ lines) valid =
    omega (
      arith,
      sum_by-cons page_count line lines,
      one line (All-head (IsValidLine most) line lines valid),
      lines-few most lines (All-tail (IsValidLine most) line lines valid),
    )
  where
    one : (l : PageLine) → IsValidLine most l → 1 ≤ page_count l
    one (pages.Tcs page ossa nssa plain) v = omega arith
    one (pages.Reg first count perm value plain) v = v.0

expect-few : (expect : Option (List ℕ)) → length (expect_says expect) ≤ 1
expect-few None = omega arith
expect-few (Some digest) = omega arith

enclaves-few : (n : ℕ) (es : List EnclaveView) → All IsValidEnclave es
    → length (numbered enclave_says n es) ≤ 2 * length es + sum_by enclave_pages es
enclaves-few n [] valid = omega arith
enclaves-few n (e ∷ es) valid =
    let v = All-head IsValidEnclave e es valid in
    omega (
      arith,
      length-append (enclave_says n e) (numbered enclave_says (n + 1) es),
      length-append (map page_says e.lines) (expect_says e.expect),
      length-map e.lines page_says,
      expect-few e.expect,
      lines-few _ e.lines v.lines,
      sum_by-cons enclave_pages e es,
      enclaves-few (n + 1) es (All-tail IsValidEnclave e es valid),
    )

scripts-few : (n : ℕ) (scripts : List (List Op))
    → length (numbered script_says n scripts) ≡ length scripts + sum_by (λ (script : List Op). length script) scripts
scripts-few n [] = refl
scripts-few n (script ∷ scripts) = omega (
  arith,
  length-append (script_says n script) (numbered script_says (n + 1) scripts),
  length-map script (λ op. says.Operation (op_says op)),
  sum_by-cons (λ (s : List Op). length s) script scripts,
  scripts-few (n + 1) scripts,
)

pub text-short : (j : JobView) → IsValid j → AllByRecursion IsPrintable (job_says j) → length (job_text j) ≤ 2 ^ 24
unfolding job_text
text-short j valid fits = omega (
  arith,
  all-size (job_says j) fits,
  length-append (options_say j ++ numbered enclave_says 1 j.enclaves ++ plans_say j.plans) (numbered script_says 0 j.scripts),
  length-append (options_say j ++ numbered enclave_says 1 j.enclaves) (plans_say j.plans),
  length-append (options_say j) (numbered enclave_says 1 j.enclaves),
  enclaves-few 1 j.enclaves valid.enclaves,
  length-map j.plans (λ line. says.Plan (plan_says line)),
  scripts-few 0 j.scripts,
  valid.few_enclaves,
  valid.few_pages,
  valid.few_plans,
  valid.few_scripts,
  valid.few_ops,
)
