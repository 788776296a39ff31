-- A line of each part of a valid job has no fault where it stands.
use Rattle.std.proofs.Common.{◌≡◌, ℕ, zero, suc, ◌+◌, ◌<◌, ◌≤◌, ◌||◌, not, cond, nat_lt, Bool, true, false, List}
use Rattle.std.proofs.Common.{[], ◌∷◌, ◌++◌, length, count_by, refl, ap, arith}
use Rattle.std.proofs.lemmas.Bool.{and_from, le-leb, le-ltb, lt-ltb, ne_eqb}
use Rattle.std.proofs.lemmas.Bool.Decides.{nat_tests}
use Rattle.job_grammar.specs.declared.jobs.PageLine.{PageLine}
use Rattle.job_grammar.specs.declared.jobs.PageLine.TheVariants as pages
use Rattle.job_grammar.specs.Jobs.{EnclaveView, covers, first_page, is_save_page, lines_at, lines_in, page_count}
use Rattle.job_text.specs.Drafts.{Draft, has_some}
use Rattle.job_text.specs.Faults.{has_option, is_any_added, latest_part}
use Rattle.job_text.specs.Reading.{are_save_pages}
use Rattle.job_text.proofs.PageLaws.{none-is_any_added}
use Rattle.job_print.proofs.ListLaws.{at_seam, none-before, none-found}

-- ---- the parts before

pub or-false : (a b : Bool) → a ≡ false → b ≡ false → (a || b) ≡ false
or-false a b p q = rw (p, q) refl

pub not-true : (b : Bool) → b ≡ true → not b ≡ false
not-true b is = rw is refl

latest : (s p e o : Bool) → cond s 4 (cond p 3 (cond e 2 (cond o 1 0))) ≤ 4
latest true p e o = omega arith
latest false true e o = omega arith
latest false false true o = omega arith
latest false false false true = omega arith
latest false false false false = omega arith

latest-plans : (p e o : Bool) → cond p 3 (cond e 2 (cond o 1 0)) ≤ 3
latest-plans true e o = omega arith
latest-plans false true o = omega arith
latest-plans false false true = omega arith
latest-plans false false false = omega arith

latest-enclaves : (e o : Bool) → cond e 2 (cond o 1 0) ≤ 2
latest-enclaves true o = omega arith
latest-enclaves false true = omega arith
latest-enclaves false false = omega arith

pub any-part : (d : Draft) → nat_lt 4 (latest_part d) ≡ false
any-part d = le-ltb 4 (latest_part d) (latest (has_some d.scripts) (has_some d.plans) (has_some d.enclaves) (has_option d))

pub no-script : (d : Draft) → d.scripts ≡ [] → nat_lt 3 (latest_part d) ≡ false
no-script d none = le-ltb 3 (latest_part d) (rw none (latest-plans (has_some d.plans) (has_some d.enclaves) (has_option d)))

pub no-plan : (d : Draft) → d.plans ≡ [] → d.scripts ≡ [] → nat_lt 2 (latest_part d) ≡ false
no-plan d no_plans none = le-ltb 2 (latest_part d) (rw (none, no_plans) (latest-enclaves (has_some d.enclaves) (has_option d)))

pub some-push : {X : Type 0} (xs : List X) (x : X) → has_some (xs ++ x ∷ []) ≡ true
some-push [] x = refl
some-push (y ∷ xs) x = rw (ne_eqb (length (y ∷ xs ++ x ∷ [])) 0 (λ e. omega arith)) refl

-- ---- pages

within-covers : (line : PageLine) (n : ℕ) → first_page line ≤ n → n < first_page line + page_count line → covers n line ≡ true
within-covers (pages.Tcs page ossa nssa plain) n low high = (let is : page ≡ n = omega arith in grind (arith, nat_tests))
within-covers (pages.Reg first count perm value plain) n low high = and_from _ _ (le-leb first n low) (lt-ltb n (first + count) high)

-- the pages of a line are added by no line before it
pub apart : (front : List PageLine) (line : PageLine) (behind : List PageLine)
    → ((n : ℕ) → count_by (covers n) (front ++ line ∷ behind) ≤ 1) → is_any_added (first_page line) (page_count line) front ≡ false
apart front line behind once = none-is_any_added (first_page line) (page_count line) front
    (λ n low high. none-found (covers n) front (none-before (covers n) front line behind (once n) (within-covers line n low high)))

-- state save pages
pub all-saved : (es : List EnclaveView) (enclave first count : ℕ)
    → ((n : ℕ) → first ≤ n → n < first + count → is_save_page (lines_at es enclave) n ≡ true) → are_save_pages es enclave first count ≡ true
all-saved es enclave first zero saved = refl
all-saved es enclave first (suc count) saved =
    and_from _ _ (saved (first + count) (omega arith) (omega arith))
    (all-saved es enclave first count (λ n low high. saved n low (omega arith)))

pub lines-there : (done : List EnclaveView) (e : EnclaveView) (rest : List EnclaveView)
    → lines_at (done ++ e ∷ rest) (suc (length done)) ≡ e.lines
lines-there done e rest = ap lines_in (at_seam done e rest)
