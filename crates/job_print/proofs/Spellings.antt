-- What a line is spelled by says it again, line by line.
use Rattle.std.proofs.Common.{◌≡◌, ℕ, Bool, true, false, [], ◌∷◌, Some, Ok, refl}
use Rattle.std.specs.Fmt.{decimal}
use Rattle.sgx_types.specs.declared.names.Perm.{Perm}
use Rattle.text_words.specs.Words.{Words, enclave_word, perm_word}
use Rattle.text_words.specs.Reading.{letter_of}
use Rattle.text_words.specs.inner.Reading.{IsLetter}
use Rattle.text_words.proofs.Numerals.{number_of-decimal, number_of-hexadecimal}
use Rattle.text_words.proofs.WordLaws.{digest_of-encode_lower, letter_of-letter}
use Rattle.job_lines.specs.declared.statements.NamedPage.{NamedPage}
use Rattle.job_lines.specs.declared.statements.Plan.{Plan}
use Rattle.job_lines.specs.declared.statements.Plan.TheVariants as plans
use Rattle.job_lines.specs.declared.statements.Operation.{Operation}
use Rattle.job_lines.specs.declared.statements.Operation.TheVariants as ops
use Rattle.job_lines.specs.declared.statements.Statement.{Statement}
use Rattle.job_lines.specs.declared.statements.Statement.TheVariants as says
use Rattle.job_lines.specs.Words.{as_plain, call_word_of, keyword_of, perm_of, plan_word_of}
use Rattle.job_lines.specs.Statements.{cpu_row, drop_row, enclave_row, epc_row, expect_row, fail_row, flip_row, key_row}
use Rattle.job_lines.specs.Statements.{marks_row}
use Rattle.job_lines.specs.Statements.{outload_row, outstore_row, plan_row, reg_row, replay_row, start_row, statement_of}
use Rattle.job_lines.specs.Statements.{swap_row, tcs_row}
use Rattle.job_print.specs.JobText.{op_words, plain_words, plan_words, statement_words}
use Rattle.job_print.proofs.Printable.{IsPageName, IsPrintable, IsPrintableOp, IsPrintablePlan}
use Rattle.job_print.proofs.Plain.{ArePlain, decimal-plain, digest-plain, enclave-plain, hexadecimal-plain, letter-word}
use Rattle.job_print.proofs.Plain.{perm-plain}

-- ---- single words

enclave-read : (enclave : ℕ) → IsLetter enclave → letter_of (enclave_word enclave) ≡ Some enclave
enclave-read enclave is = rw (letter-word enclave is) (letter_of-letter enclave is)

perm-read : (perm : Perm) → perm.r ≡ true → perm_of (perm_word perm) ≡ Some perm
unfolding perm_of
perm-read perm is = by_bits perm.r perm.w perm.x is
  where
    by_bits : (r w x : Bool) → r ≡ true → let p : Perm = record { r = r; w = w; x = x } in perm_of (perm_word p) ≡ Some p
    by_bits true true true e = refl
    by_bits true true false e = refl
    by_bits true false true e = refl
    by_bits true false false e = refl
    by_bits false w x e = absurd cc

plain-read : (plain : Bool) → as_plain (plain_words plain) ≡ Ok plain
unfolding as_plain
plain-read true = refl
plain-read false = refl

plain-plain : (plain : Bool) → ArePlain (plain_words plain)
plain-plain true = (refl, tt)
plain-plain false = tt

-- ---- lines that are read again

plan-said : (plan : Plan) → IsPrintablePlan plan → plan_row (plan_words plan) ≡ Ok (says.Plan plan)
unfolding plan_row plan_word_of call_word_of fail_row drop_row flip_row replay_row swap_row
plan-said (plans.FailRoom k) fits = rw (number_of-decimal k fits) refl
plan-said (plans.FailPut k) fits = rw (number_of-decimal k fits) refl
plan-said (plans.FailGet k) fits = rw (number_of-decimal k fits) refl
plan-said (plans.DropGet page g) fits =
    rw (enclave-read page.enclave fits.0.0, number_of-decimal page.number fits.0.1, number_of-decimal g fits.1) refl
plan-said (plans.Flip page g place) fits =
    rw (
      enclave-read page.enclave fits.0.0,
      number_of-decimal page.number fits.0.1,
      number_of-decimal g fits.1,
      number_of-decimal place fits.2,
    ) refl
plan-said (plans.Replay page g w) fits =
    rw (
      enclave-read page.enclave fits.0.0,
      number_of-decimal page.number fits.0.1,
      number_of-decimal g fits.1,
      number_of-decimal w fits.2,
    ) refl
plan-said (plans.Swap one other) fits =
    rw (
      enclave-read one.enclave fits.0.0,
      number_of-decimal one.number fits.0.1,
      enclave-read other.enclave fits.1.0,
      number_of-decimal other.number fits.1.1,
    ) refl

op-said : (op : Operation) → IsPrintableOp op → statement_of true (op_words op) ≡ Ok (says.Operation op)
unfolding statement_of keyword_of outload_row outstore_row
op-said (ops.Enter tcs) fits = rw (enclave-read tcs.enclave fits.0, number_of-decimal tcs.number fits.1) refl
op-said (ops.Resume tcs) fits = rw (enclave-read tcs.enclave fits.0, number_of-decimal tcs.number fits.1) refl
op-said ops.Exit fits = refl
op-said ops.Timer fits = refl
op-said (ops.Load off) fits = rw (number_of-hexadecimal off fits) refl
op-said (ops.Store off value) fits = rw (number_of-hexadecimal off fits.0, number_of-decimal value fits.1) refl
op-said (ops.Xadd off value) fits = rw (number_of-hexadecimal off fits.0, number_of-decimal value fits.1) refl
op-said (ops.Set value) fits = rw (number_of-decimal value fits) refl
op-said (ops.Plus value) fits = rw (number_of-decimal value fits) refl
op-said (ops.OutLoad enclave off) fits = rw (enclave-read enclave fits.0, number_of-hexadecimal off fits.1) refl
op-said (ops.OutStore enclave off value) fits =
    rw (enclave-read enclave fits.0, number_of-hexadecimal off fits.1, number_of-decimal value fits.2) refl

-- `store` is an operation once a processor stands
abbrev pub IsSaidBy : Bool → Statement → Type 0
IsSaidBy has_cpu (says.Plan plan) = has_cpu ≡ false
IsSaidBy has_cpu (says.Operation op) = has_cpu ≡ true
IsSaidBy has_cpu s = Unit {0}

pub said : (has_cpu : Bool) (s : Statement) → IsPrintable s → IsSaidBy has_cpu s → statement_of has_cpu (statement_words s) ≡ Ok s
unfolding statement_of keyword_of epc_row marks_row key_row start_row enclave_row tcs_row reg_row expect_row cpu_row
said has_cpu (says.Epc frames) fits by = rw (number_of-decimal frames fits) refl
said has_cpu (says.Marks low high scan) fits by =
    rw (number_of-decimal low fits.0, number_of-decimal high fits.1, number_of-decimal scan fits.2) refl
said has_cpu (says.Key key) fits by = rw (digest_of-encode_lower key fits) refl
said has_cpu (says.Start start) fits by = rw (number_of-decimal start.epoch fits.0, number_of-decimal start.version fits.1) refl
said has_cpu (says.Enclave enclave base size) fits by =
    rw (enclave-read enclave fits.0, number_of-hexadecimal base fits.1, number_of-hexadecimal size fits.2) refl
said has_cpu (says.Tcs page ossa nssa plain) fits by =
    rw (plain-read plain, number_of-decimal page fits.0, number_of-decimal ossa fits.1, number_of-decimal nssa fits.2) refl
said has_cpu (says.Reg first count perm value plain) fits by =
    rw (
      perm-read perm fits.2,
      plain-read plain,
      number_of-decimal first fits.0,
      number_of-decimal count fits.1,
      number_of-decimal value fits.3,
    ) refl
said has_cpu (says.Expect digest) fits by = rw (digest_of-encode_lower digest fits) refl
said has_cpu (says.Plan plan) fits by = rw by (plan-said plan fits)
said has_cpu (says.Cpu number) fits by = rw (number_of-decimal number fits) refl
said has_cpu (says.Operation op) fits by = rw by (op-said op fits)

-- ---- the words are plain

page-plain : (page : NamedPage) (rest : Words) → IsPageName page → ArePlain rest
    → ArePlain (enclave_word page.enclave ∷ decimal page.number ∷ rest)
page-plain page rest fits plain = (enclave-plain page.enclave fits.0, (decimal-plain page.number fits.1, plain))

plan-plain : (plan : Plan) → IsPrintablePlan plan → ArePlain (plan_words plan)
plan-plain (plans.FailRoom k) fits = (refl, (refl, (decimal-plain k fits, tt)))
plan-plain (plans.FailPut k) fits = (refl, (refl, (decimal-plain k fits, tt)))
plan-plain (plans.FailGet k) fits = (refl, (refl, (decimal-plain k fits, tt)))
plan-plain (plans.DropGet page g) fits = (refl, page-plain page (decimal g ∷ []) fits.0 (decimal-plain g fits.1, tt))
plan-plain (plans.Flip page g place) fits =
    (refl, page-plain page (decimal g ∷ decimal place ∷ []) fits.0 (decimal-plain g fits.1, (decimal-plain place fits.2, tt)))
plan-plain (plans.Replay page g w) fits =
    (refl, page-plain page (decimal g ∷ decimal w ∷ []) fits.0 (decimal-plain g fits.1, (decimal-plain w fits.2, tt)))
plan-plain (plans.Swap one other) fits =
    (refl, page-plain one (enclave_word other.enclave ∷ decimal other.number ∷ []) fits.0 (page-plain other [] fits.1 tt))

op-plain : (op : Operation) → IsPrintableOp op → ArePlain (op_words op)
op-plain (ops.Enter tcs) fits = (refl, (enclave-plain tcs.enclave fits.0, (decimal-plain tcs.number fits.1, tt)))
op-plain (ops.Resume tcs) fits = (refl, (enclave-plain tcs.enclave fits.0, (decimal-plain tcs.number fits.1, tt)))
op-plain ops.Exit fits = (refl, tt)
op-plain ops.Timer fits = (refl, tt)
op-plain (ops.Load off) fits = (refl, (hexadecimal-plain off fits, tt))
op-plain (ops.Store off value) fits = (refl, (hexadecimal-plain off fits.0, (decimal-plain value fits.1, tt)))
op-plain (ops.Xadd off value) fits = (refl, (hexadecimal-plain off fits.0, (decimal-plain value fits.1, tt)))
op-plain (ops.Set value) fits = (refl, (decimal-plain value fits, tt))
op-plain (ops.Plus value) fits = (refl, (decimal-plain value fits, tt))
op-plain (ops.OutLoad enclave off) fits = (refl, (enclave-plain enclave fits.0, (hexadecimal-plain off fits.1, tt)))
op-plain (ops.OutStore enclave off value) fits =
    (refl, (enclave-plain enclave fits.0, (hexadecimal-plain off fits.1, (decimal-plain value fits.2, tt))))

pub statement-plain : (s : Statement) → IsPrintable s → ArePlain (statement_words s)
statement-plain (says.Epc frames) fits = (refl, (decimal-plain frames fits, tt))
statement-plain (says.Marks low high scan) fits =
    (refl, (decimal-plain low fits.0, (decimal-plain high fits.1, (decimal-plain scan fits.2, tt))))
statement-plain (says.Key key) fits = (refl, (digest-plain key fits, tt))
statement-plain (says.Start start) fits = (refl, (decimal-plain start.epoch fits.0, (decimal-plain start.version fits.1, tt)))
statement-plain (says.Enclave enclave base size) fits =
    (refl, (enclave-plain enclave fits.0, (hexadecimal-plain base fits.1, (hexadecimal-plain size fits.2, tt))))
statement-plain (says.Tcs page ossa nssa plain) fits =
    (refl, (decimal-plain page fits.0, (decimal-plain ossa fits.1, (decimal-plain nssa fits.2, plain-plain plain))))
statement-plain (says.Reg first count perm value plain) fits =
    let behind : ArePlain (perm_word perm ∷ decimal value ∷ plain_words plain) =
    (perm-plain perm fits.2, (decimal-plain value fits.3, plain-plain plain)) in
    (refl, (decimal-plain first fits.0, (decimal-plain count fits.1, behind)))
statement-plain (says.Expect digest) fits = (refl, (digest-plain digest fits, tt))
statement-plain (says.Plan plan) fits = (refl, plan-plain plan fits)
statement-plain (says.Cpu number) fits = (refl, (decimal-plain number fits, tt))
statement-plain (says.Operation op) fits = op-plain op fits
