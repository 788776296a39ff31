-- The lines of the made enclave are valid.
use Rattle.std.proofs.Common.{◌≡◌, ℕ, zero, suc, ◌+◌, ◌<◌, ◌≤◌, true, false, cond, List, [], ◌∷◌, count_by, All}
use Rattle.std.proofs.Common.{refl, ◌∙◌, arith, inl, inr}
use Rattle.std.proofs.lemmas.Bool.{and_parts, cases_Bool, eqb-true, leb-true, ltb-true}
use Rattle.std.proofs.lemmas.List.Elements.{All-from_recursion}
use Rattle.std.proofs.lemmas.List.Sums.{sum_by-cons}
use Rattle.job_grammar.specs.declared.jobs.PageLine.{PageLine}
use Rattle.job_grammar.specs.declared.jobs.PageLine.TheVariants as pages
use Rattle.job_grammar.specs.Jobs.{covers, first_page, is_save_page, is_tcs_page, page_count}
use Rattle.job_grammar.specs.inner.Valid.{HasSavePages, IsValidLine}
use Rattle.job_make.specs.MadeJob.{made_lines}

-- ---- each page once

-- lines that stand one behind the other, from a page on
abbrev AreRising : ℕ → List PageLine → Type 0
AreRising from [] = Unit {0}
AreRising from (line ∷ lines) = (from ≤ first_page line) × AreRising (first_page line + page_count line) lines

covered : (n : ℕ) (line : PageLine) → covers n line ≡ true → (first_page line ≤ n) × (n < first_page line + page_count line)
covered n (pages.Tcs page ossa nssa plain) e = let same = eqb-true page n e in (omega arith, omega arith)
covered n (pages.Reg first count perm value plain) e =
    let both = and_parts _ _ e in (leb-true first n both.0, ltb-true n (first + count) both.1)

module _ (n : ℕ) where
  count-cons : (line : PageLine) (lines : List PageLine)
      → count_by (covers n) (line ∷ lines) ≡ cond (covers n line) 1 0 + count_by (covers n) lines
  count-cons line lines = sum_by-cons (λ x. cond (covers n x) 1 0) line lines

  one-here : (line : PageLine) (lines : List PageLine) → covers n line ≡ true
      → count_by (covers n) (line ∷ lines) ≡ 1 + count_by (covers n) lines
  one-here line lines here =
      let bit : ◌≡◌ {A = ℕ} (cond (covers n line) 1 0) 1 = rw here refl in omega (arith, count-cons line lines, bit)

  none-here : (line : PageLine) (lines : List PageLine) → covers n line ≡ false
      → count_by (covers n) (line ∷ lines) ≡ count_by (covers n) lines
  none-here line lines not_here =
      let bit : ◌≡◌ {A = ℕ} (cond (covers n line) 1 0) 0 = rw not_here refl in omega (arith, count-cons line lines, bit)

  behind : (from : ℕ) (lines : List PageLine) → AreRising from lines → n < from → count_by (covers n) lines ≡ 0
  behind from [] rising lt = refl
  behind from (line ∷ lines) rising lt =
      elim (cases_Bool (covers n line)) [
        | inl here ↦ (let range = covered n line here in absurd (omega (arith, range.0, rising.0)))
        | inr not_here ↦ none-here line lines not_here ∙ behind (first_page line + page_count line) lines rising.1 (omega (arith, rising.0))
      ]

  each-once : (from : ℕ) (lines : List PageLine) → AreRising from lines → count_by (covers n) lines ≤ 1
  each-once from [] rising = omega arith
  each-once from (line ∷ lines) rising =
      elim (cases_Bool (covers n line)) [
        | inl here ↦
            (let range = covered n line here in
            omega (arith, one-here line lines here, behind (first_page line + page_count line) lines rising.1 range.1))
        | inr not_here ↦ omega (arith, none-here line lines not_here, each-once (first_page line + page_count line) lines rising.1)
      ]

pub lines_once : (size n : ℕ) → count_by (covers n) (made_lines size) ≤ 1
lines_once size n =
    each-once n 0 (made_lines size) (omega arith, (omega arith, (omega arith, (omega arith, (omega arith, (omega arith, tt))))))

-- ---- ranges

pub lines_valid : (size room : ℕ) → size + 9 ≤ room → All (IsValidLine room) (made_lines size)
lines_valid size room le =
    All-from_recursion (IsValidLine room) (made_lines size) (
      (omega arith, omega arith, omega arith, omega arith),
      (
        (omega arith, omega arith, omega arith, omega arith),
        (
          (omega arith, omega arith, omega arith, omega arith),
          (
            (omega arith, omega arith, omega arith, omega arith),
            ((omega arith, omega arith, refl, omega arith), ((omega arith, omega arith, refl, omega arith), tt)),
          ),
        ),
      ),
    )

-- ---- state save pages

saved-at : (size cpu n : ℕ) → cpu < 4 → 4 + cpu ≤ n → n < 4 + cpu + 1 → is_save_page (made_lines size) n ≡ true
saved-at size cpu n lt low high = let same : n ≡ 4 + cpu = omega arith in rw same (of cpu lt)
  where
    of : (c : ℕ) → c < 4 → is_save_page (made_lines size) (4 + c) ≡ true
    of zero lt = refl
    of (suc zero) lt = refl
    of (suc (suc zero)) lt = refl
    of (suc (suc (suc zero))) lt = refl
    of (suc (suc (suc (suc c)))) lt = absurd (omega arith)

pub lines_saved : (size : ℕ) → All (HasSavePages (made_lines size)) (made_lines size)
lines_saved size =
    All-from_recursion (HasSavePages (made_lines size)) (made_lines size) (
      λ n low high. saved-at size 0 n (omega arith) low high,
      (
        λ n low high. saved-at size 1 n (omega arith) low high,
        (λ n low high. saved-at size 2 n (omega arith) low high, (λ n low high. saved-at size 3 n (omega arith) low high, (tt, (tt, tt)))),
      ),
    )

-- ---- TCS pages

pub tcs_there : (size cpu : ℕ) → cpu < 4 → is_tcs_page (made_lines size) cpu ≡ true
tcs_there size zero lt = refl
tcs_there size (suc zero) lt = refl
tcs_there size (suc (suc zero)) lt = refl
tcs_there size (suc (suc (suc zero))) lt = refl
tcs_there size (suc (suc (suc (suc n)))) lt = absurd (omega arith)
