-- What a reader in the first edition was fed and told, and how long a text is.
use Rattle.std.proofs.Common.{◌≡◌, ◌≤◌, ℕ, List, [], ◌∷◌, ◌++◌, length, reverse, Result, Ok, Err, subst, sym, ◌∙◌, arith}
use Rattle.std.proofs.lemmas.List.{length-append, length-reverse}
use Rattle.sgx_rules.specs.declared.entries.Entry.{Entry}
use Rattle.trace_reader.specs.Faults.{text_of}
use Rattle.trace_reader.specs.inner.Faults.{Progress, Reading}
use Rattle.trace_reader.specs.inner.Outcomes.{Feeds, Finishes}
use Rattle.trace_text.specs.declared.edition.Edition.{Edition}
use Rattle.trace_text.specs.declared.edition.Edition.TheVariants as editions
use Rattle.trace_text.specs.Readable.{AreReadable}
use Rattle.trace_text.specs.TraceText.{entries_text, entry_text, first_line, last_line, spelling, trace_in}

-- a text that was fed whole and is a trace's
pub told_whole : (before after : Progress) (bytes : List ℕ) (entries : List Entry) → before ≡ Reading editions.One []
    → Feeds before bytes (Ok tt) after → Finishes after (Ok entries)
    → AreReadable editions.One entries × (bytes ≡ text_of editions.One entries)
told_whole before after bytes entries is feeds ends =
    let fed : Feeds (Reading editions.One []) bytes (Ok tt) after = subst (λ p. Feeds p bytes (Ok tt) after) is feeds in
    subst (λ p. Finishes p (Ok entries)) fed.0 ends

-- each entry has a line
lines-long : (edition : Edition) (past : List Entry) → length past ≤ length (entries_text edition past)
unfolding entry_text
lines-long edition [] = omega arith
lines-long edition (e ∷ past) =
    omega (
      arith,
      lines-long edition past,
      length-append (entries_text edition past) (entry_text edition e),
      length-append (spelling edition e) (10 ∷ []),
    )

pub text_long : (edition : Edition) (entries : List Entry) → length entries ≤ length (text_of edition entries)
unfolding trace_in
text_long edition entries =
    let past = reverse entries in
    omega (
      arith,
      lines-long edition past,
      length-reverse entries,
      length-append (first_line edition ++ entries_text edition past) (last_line (length past)),
      length-append (first_line edition) (entries_text edition past),
    )

-- one error
pub one_error : {A B : Type 0} (told : Result A B) (x y : B) → told ≡ Err x → told ≡ Err y → x ≡ y
one_error told x y one other = let both = sym one ∙ other in cc
