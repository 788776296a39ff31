-- A text reads as one thing.
use Rattle.std.proofs.Common.{◌≡◌, inl, inr, ⊎_elim, ℕ, List, Result, Ok, Err, sym, ap, ◌∙◌, arith}
use Rattle.std.proofs.lemmas.Bool.{cases_order}
use Rattle.sgx_rules.specs.declared.entries.Entry.{Entry}
use Rattle.trace_text.specs.declared.edition.Edition.{Edition}
use Rattle.trace_reader.specs.Faults.{IsFirstFault}
use Rattle.trace_reader.proofs.FaultLaws.{same_text}
use Rattle.trace_file.specs.Reading.{Reads}

module _ (edition : Edition) where
  one_line : (bytes : List ℕ) (l m : ℕ) → IsFirstFault edition bytes l → IsFirstFault edition bytes m → l ≡ m
  one_line bytes l m first other =
      ⊎_elim (λ same. same)
      (λ apart. absurd (⊎_elim (λ below. first.none (other.before l below)) (λ above. other.none (first.before m above)) apart))
      (cases_order l m)

  not_both : (bytes : List ℕ) (entries : List Entry) (line : ℕ) → Reads edition bytes (Ok entries) → Reads edition bytes (Err line) → ⊥
  not_both bytes entries line (short, readable, is) (inl (long, none)) = omega (arith, short, long)
  not_both bytes entries line (short, readable, is) (inr (few, first)) = first.no_trace entries readable is

  pub one_thing : (bytes : List ℕ) (one other : Result (List Entry) ℕ) → Reads edition bytes one → Reads edition bytes other → one ≡ other
  one_thing bytes (Ok entries) (Ok others) (s, readable, is) (t, readable', is') =
      ap Ok (same_text edition entries others readable readable' (sym is ∙ is'))
  one_thing bytes (Ok entries) (Err line) one other = absurd (not_both bytes entries line one other)
  one_thing bytes (Err line) (Ok entries) one other = absurd (not_both bytes entries line other one)
  one_thing bytes (Err l) (Err m) (inl (long, zero)) (inl (long', zero')) = ap Err (zero ∙ sym zero')
  one_thing bytes (Err l) (Err m) (inl (long, zero)) (inr (short, first)) = absurd (omega (arith, long, short))
  one_thing bytes (Err l) (Err m) (inr (short, first)) (inl (long, zero)) = absurd (omega (arith, long, short))
  one_thing bytes (Err l) (Err m) (inr (short, first)) (inr (short', other)) = ap Err (one_line bytes l m first other)
