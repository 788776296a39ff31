-- In a valid job each enclave has few places, and there are few enclaves and few version array pages.
use Rattle.std.proofs.Common.{◌≡◌, ℕ, ◌*◌, ◌/◌, ◌<◌, ◌≤◌, ◌^◌, List, [], ◌∷◌, length, map, sum, get_or}
use Rattle.std.proofs.Common.{fold, max, All, zero, suc, ◌-◌, sym, arith, subst}
use Rattle.std.proofs.lemmas.Bool.{eqb-true}
use Rattle.std.proofs.lemmas.List.{length-map}
use Rattle.std.proofs.lemmas.List.Elements.{All-nil, All-cons, All-head, All-tail}
use Rattle.std.proofs.lemmas.List.Sums.{sum_by-cons}
use Rattle.driver_list.specs.inner.Places.{IsPlaced, PageCounts, total}
use Rattle.sgx_types.specs.declared.names.Page.{Page}
use Rattle.sgx_types.proofs.Lists.{place_below}
use Rattle.sgx_types.proofs.LawfulLaws.{few_pages}
use Rattle.job_grammar.specs.declared.jobs.EnclaveJob.{EnclaveJob}
use Rattle.job_grammar.specs.declared.jobs.PageLine.{PageLine}
use Rattle.job_grammar.specs.declared.jobs.PageLine.TheVariants.{Tcs, Reg}
use Rattle.job_grammar.specs.Jobs.{EnclaveView, JobView, va_pages}
use Rattle.job_grammar.specs.inner.Jobs.{enclave_view}
use Rattle.job_grammar.specs.inner.Valid.{IsValid, IsValidEnclave, IsValidLine}
use Rattle.job_grammar.proofs.ViewLaws.{All-unmap}
use Rattle.driver_tables.specs.inner.Counts.{IsLow, IsShort, enclave_places, job_counts, line_end, page_counts}

-- a line's pages are those of its enclave
line_within : (pages : ℕ) (line : PageLine) → IsValidLine pages line → line_end line ≤ pages
line_within pages (Tcs page ossa nssa plain) h = let w : page < pages = h.2 in omega (arith, w)
line_within pages (Reg first count perm value plain) h = h.1

lines_within : (pages : ℕ) (lines : List PageLine) (end : ℕ) → end ≤ pages → All (IsValidLine pages) lines
    → fold (λ a line. max a (line_end line)) end lines ≤ pages
lines_within pages [] end low all = low
lines_within pages (x ∷ xs) end low all =
    lines_within pages xs (max end (line_end x))
    (let here : line_end x ≤ pages = line_within pages x (All-head (IsValidLine pages) x xs all) in omega (arith, here, low))
    (All-tail (IsValidLine pages) x xs all)

places_within : (e : EnclaveView) → IsValidEnclave e → enclave_places e ≤ 4096
places_within e v =
    let few : e.size / 4096 ≤ 4096 = few_pages e.base e.size v.range in
    let within : enclave_places e ≤ e.size / 4096 = lines_within (e.size / 4096) e.lines 0 (omega arith) v.lines in omega
    (arith, few, within)

short_lines : (pages : ℕ) (lines : List PageLine) → pages ≤ 4096 → All (IsValidLine pages) lines → All IsShort lines
short_lines pages [] few all = All-nil IsShort
short_lines pages (x ∷ xs) few all =
    All-cons IsShort x xs
    (let here : line_end x ≤ pages = line_within pages x (All-head (IsValidLine pages) x xs all) in omega (arith, here, few))
    (short_lines pages xs few (All-tail (IsValidLine pages) x xs all))

low_enclaves : (es : List EnclaveJob) → All (λ e. IsValidEnclave (enclave_view e)) es → All IsLow es
low_enclaves [] all = All-nil IsLow
low_enclaves (e ∷ es) all =
    let v : IsValidEnclave (enclave_view e) = All-head (λ x. IsValidEnclave (enclave_view x)) e es all in
    All-cons IsLow e es (short_lines (e.size / 4096) e.lines.items (few_pages e.base e.size v.range) v.lines)
    (low_enclaves es (All-tail (λ x. IsValidEnclave (enclave_view x)) e es all))

-- page numbers have 20 bits
pub job_is_low : (j : JobView) (es : List EnclaveJob) → map enclave_view es ≡ j.enclaves → IsValid j → All IsLow es
job_is_low j es is v = low_enclaves es (All-unmap enclave_view IsValidEnclave es (subst (λ l. All IsValidEnclave l) (sym is) v.enclaves))

sum_within : (es : List EnclaveView) → All IsValidEnclave es → sum (map enclave_places es) ≤ 4096 * length es
sum_within [] all = omega arith
sum_within (e ∷ es) all =
    let here : enclave_places e ≤ 4096 = places_within e (All-head IsValidEnclave e es all) in
    let rest : sum (map enclave_places es) ≤ 4096 * length es = sum_within es (All-tail IsValidEnclave e es all) in
    omega (arith, here, rest, sum_by-cons (λ x. x) (enclave_places e) (map enclave_places es))

-- there are as many counts as enclaves
pub count_enclaves : (j : JobView) → length (page_counts j) ≡ length j.enclaves
count_enclaves j = length-map j.enclaves enclave_places

pub few_enclaves : (j : JobView) → IsValid j → length (page_counts j) ≤ 8
few_enclaves j v = let few = v.few_enclaves in let same = count_enclaves j in omega (arith, few, same)

-- the version array pages have slots for 4096 pages and 8 enclaves at most
pub few_arrays : (j : JobView) → IsValid j → va_pages j ≤ 9
few_arrays j v = let few = v.few_enclaves in let pages = v.few_pages in omega (arith, few, pages)

-- all pages of a job have their places
pub few_places : (j : JobView) → IsValid j → total (job_counts j) < 2 ^ 32
few_places j v =
    let all : sum (page_counts j) ≤ 4096 * length j.enclaves = sum_within j.enclaves v.enclaves in
    let few : length j.enclaves ≤ 8 = v.few_enclaves in
    let same = count_enclaves j in
    let arrays = few_arrays j v in
    omega (arith, all, few, same, arrays)

-- .. is of one that the job has
pub within_enclaves : (own : List ℕ) (e n : ℕ) → n < get_or (0 ∷ own) e 0 → (1 ≤ e) × (e ≤ length own)
within_enclaves own zero n h = absurd (omega (arith, h))
within_enclaves own (suc e) n h = let low = place_below own e n h in (omega arith, omega (arith, low))

-- a page whose number its enclave has has its place
pub low_placed : (counts : PageCounts) (page : Page) → page.number < get_or (0 ∷ counts.own) page.enclave 0 → IsPlaced counts page
low_placed counts page low = record {
  array = λ is. let none : page.enclave ≡ 0 = eqb-true page.enclave 0 is in
      absurd (let bad = subst (λ e. page.number < get_or (0 ∷ counts.own) e 0) none low in omega (arith, bad));
  secs = λ is. (within_enclaves counts.own page.enclave page.number low).1;
  own = λ is. here counts.own page.enclave page.number low;
}
  where
    here : (own : List ℕ) (e n : ℕ) → n < get_or (0 ∷ own) e 0 → n < get_or own (e - 1) 0
    here own zero n h = absurd (omega (arith, h))
    here own (suc e) n h = subst (λ k. n < get_or own k 0) (let same : e ≡ suc e - 1 = omega arith in same) h
