-- Behind the steps that make version array pages a build makes none, and each SECS that it makes and each page that it adds or measures
-- has a place in the tables.
use Rattle.std.proofs.Common.{◌≡◌, ◌⊎◌, inl, inr, ⊎_elim, ℕ, zero, suc, ◌+◌, ◌<◌, ◌≤◌, Bool, true, false}
use Rattle.std.proofs.Common.{List, [], ◌∷◌, ◌++◌, Option, Some, None, length, map, fold, get_or, max, replicate, slice_get, refl}
use Rattle.std.proofs.Common.{ap, subst, ◌∙◌, arith}
use Rattle.std.proofs.lemmas.Bool.{false≢true}
use Rattle.std.specs.List.{All, flat_map}
use Rattle.std.proofs.lemmas.List.Elements.{All-cons, All-head, All-nil, All-tail}
use Rattle.sgx_types.specs.declared.lawful.PageInit.{PageInit}
use Rattle.sgx_types.specs.declared.lawful.PageInit.TheVariants as inits
use Rattle.sgx_types.specs.declared.names.Kind.{Kind}
use Rattle.sgx_types.specs.declared.names.Kind.TheVariants as kinds
use Rattle.sgx_types.specs.declared.names.Page.{Page}
use Rattle.sgx_types.specs.declared.names.Perm.{Perm}
use Rattle.sgx_types.specs.Pages.{is_own_page, no_perm, page_at, secs_page}
use Rattle.job_grammar.specs.declared.jobs.PageLine.{PageLine}
use Rattle.job_grammar.specs.declared.jobs.PageLine.TheVariants as lines
use Rattle.job_grammar.specs.Jobs.{EnclaveView, JobView, va_pages}
use Rattle.job_grammar.specs.inner.Valid.{IsValid}
use Rattle.script_rules.specs.declared.steps.BuildStep.{BuildStep}
use Rattle.script_rules.specs.declared.steps.BuildStep.TheVariants as builds
use Rattle.script_rules.specs.Script.{build_of, enclave_steps, enclaves_steps, line_steps, numbers_from, page_steps}
use Rattle.driver_list.specs.inner.Places.{IsPlaced}
use Rattle.driver_list.proofs.PlaceLaws.{low_own, secs_placed}
use Rattle.driver_rules.specs.Holds.{page_extended}
use Rattle.driver_laws.specs.inner.Keeps.{is_va_step}
use Rattle.driver_tables.specs.inner.Counts.{enclave_places, job_counts, last_end, line_end, page_counts}
use Rattle.driver_tables.proofs.CountLaws.{count_enclaves, few_places, low_placed}

-- a step makes no version array page, makes the SECS of this enclave, and adds or measures a page of it below a number
abbrev IsLow : ℕ → ℕ → BuildStep → Type 0
IsLow enclave end builds.Va = ⊥
IsLow enclave end (builds.Create e base size) = e ≡ enclave
IsLow enclave end (builds.Add e n kind perm init) = (e ≡ enclave) × (n < end)
IsLow enclave end (builds.Extend e n chunk) = (e ≡ enclave) × (n < end)
IsLow enclave end _ = Unit {0}

-- .. a page that has a place
abbrev IsBehind : List ℕ → BuildStep → Type 0
IsBehind counts builds.Va = ⊥
IsBehind counts (builds.Create e base size) = (1 ≤ e) × (e < length counts)
IsBehind counts (builds.Add e n kind perm init) = n < get_or counts e 0
IsBehind counts (builds.Extend e n chunk) = n < get_or counts e 0
IsBehind counts _ = Unit {0}

-- what holds along a list, by recursion
abbrev Each : {X : Type 0} → (X → Type 0) → List X → Type 0
Each P [] = Unit {0}
Each P (x ∷ xs) = P x × Each P xs

each_append : {X : Type 0} (P : X → Type 0) (xs ys : List X) → Each P xs → Each P ys → Each P (xs ++ ys)
each_append P [] ys h k = k
each_append P (x ∷ xs) ys h k = (h.0, each_append P xs ys h.1 k)

each_then : {X : Type 0} (P Q : X → Type 0) (xs : List X) → ((x : X) → P x → Q x) → Each P xs → Each Q xs
each_then P Q [] f h = tt
each_then P Q (x ∷ xs) f h = (f x h.0, each_then P Q xs f h.1)

each_got : {X : Type 0} (P : X → Type 0) (xs : List X) (n : ℕ) (x : X) → Each P xs → slice_get xs n ≡ Some x → P x
each_got P [] n x h is = cc
each_got P (y ∷ ys) zero x h is = let same : y ≡ x = cc in subst P same h.0
each_got P (y ∷ ys) (suc n) x h is = each_got P ys n x h.1 is

-- ---- lines

chunks_low : (enclave end n k count : ℕ) → n < end → Each (IsLow enclave end) (map (builds.Extend enclave n) (numbers_from k count))
chunks_low enclave end n k zero low = tt
chunks_low enclave end n k (suc count) low = ((refl, low), chunks_low enclave end n (k + 1) count low)

page_low : (enclave end n : ℕ) (kind : Kind) (perm : Perm) (init : PageInit) (plain : Bool) → n < end
    → Each (IsLow enclave end) (page_steps enclave n kind perm init plain)
page_low enclave end n kind perm init true low = ((refl, low), tt)
page_low enclave end n kind perm init false low = ((refl, low), chunks_low enclave end n 0 16 low)

pages_low : (enclave end : ℕ) (kind : Kind) (perm : Perm) (init : PageInit) (plain : Bool) (first count : ℕ) → first + count ≤ end
    → Each (IsLow enclave end) (flat_map (λ n. page_steps enclave n kind perm init plain) (numbers_from first count))
pages_low enclave end kind perm init plain first zero low = tt
pages_low enclave end kind perm init plain first (suc count) low =
    each_append (IsLow enclave end) (page_steps enclave first kind perm init plain)
    (flat_map (λ n. page_steps enclave n kind perm init plain) (numbers_from (first + 1) count))
    (page_low enclave end first kind perm init plain (omega (arith, low)))
    (pages_low enclave end kind perm init plain (first + 1) count (omega (arith, low)))

line_low : (enclave end : ℕ) (line : PageLine) → line_end line ≤ end → Each (IsLow enclave end) (line_steps enclave line)
line_low enclave end (lines.Tcs page ossa nssa plain) low =
    page_low enclave end page kinds.Tcs no_perm (inits.Tcs ossa nssa) plain (omega (arith, low))
line_low enclave end (lines.Reg first count perm value plain) low =
    pages_low enclave end kinds.Reg perm (inits.Words value) plain first count low

lines_low : (enclave end : ℕ) (ls : List PageLine) → All (λ line. line_end line ≤ end) ls
    → Each (IsLow enclave end) (flat_map (line_steps enclave) ls)
lines_low enclave end [] all = tt
lines_low enclave end (x ∷ xs) all =
    each_append (IsLow enclave end) (line_steps enclave x) (flat_map (line_steps enclave) xs)
    (line_low enclave end x (All-head (λ line. line_end line ≤ end) x xs all))
    (lines_low enclave end xs (All-tail (λ line. line_end line ≤ end) x xs all))

max_more : (ls : List PageLine) (end : ℕ) → end ≤ fold (λ a line. max a (line_end line)) end ls
max_more [] end = omega arith
max_more (x ∷ xs) end = let rest = max_more xs (max end (line_end x)) in omega (arith, rest)

lines_below : (ls : List PageLine) (end : ℕ) → All (λ line. line_end line ≤ fold (λ a line. max a (line_end line)) end ls) ls
lines_below [] end = All-nil (λ line. line_end line ≤ end)
lines_below (x ∷ xs) end =
    All-cons (λ line. line_end line ≤ fold (λ a line. max a (line_end line)) (max end (line_end x)) xs) x xs
    (let rest = max_more xs (max end (line_end x)) in omega (arith, rest)) (lines_below xs (max end (line_end x)))

-- each line ends within the last end
pub each_end : (ls : List PageLine) (i : ℕ) (d : PageLine) → i < length ls → line_end (get_or ls i d) ≤ last_end ls
each_end ls i d low = lines_below ls 0 i d low

-- ---- enclaves

enclave_low : (enclave : ℕ) (e : EnclaveView) → Each (IsLow enclave (enclave_places e)) (enclave_steps enclave e)
enclave_low enclave e = (
  refl,
  each_append (IsLow enclave (enclave_places e)) (flat_map (line_steps enclave) e.lines) (builds.Init enclave e.expect ∷ [])
      (lines_low enclave (enclave_places e) e.lines (lines_below e.lines 0)) (tt, tt),
)

low_behind : (counts : List ℕ) (enclave end : ℕ) → get_or counts enclave 0 ≡ end → 1 ≤ enclave → enclave < length counts → (x : BuildStep)
    → IsLow enclave end x → IsBehind counts x
low_behind counts enclave end is some low_e (builds.Add e n kind perm init) h =
    let count : get_or counts e 0 ≡ end = ap (λ k. get_or counts k 0) h.0 ∙ is in
    let low = h.1 in omega (arith, count, low)
low_behind counts enclave end is some low_e builds.Va h = h
low_behind counts enclave end is some low_e (builds.Create e base size) h =
    (omega (arith, some, h), omega (arith, low_e, h))
low_behind counts enclave end is some low_e (builds.Extend e n chunk) h =
    let count : get_or counts e 0 ≡ end = ap (λ k. get_or counts k 0) h.0 ∙ is in
    let low = h.1 in omega (arith, count, low)
low_behind counts enclave end is some low_e (builds.Init e expect) h = tt

enclaves_behind : (counts : List ℕ) (enclave : ℕ) (es : List EnclaveView)
    → ((k : ℕ) (e : EnclaveView) → slice_get es k ≡ Some e → get_or counts (enclave + k) 0 ≡ enclave_places e) → 1 ≤ enclave
    → enclave + length es ≤ length counts → Each (IsBehind counts) (enclaves_steps enclave es)
enclaves_behind counts enclave [] is some low = tt
enclaves_behind counts enclave (e ∷ es) is some low =
    each_append (IsBehind counts) (enclave_steps enclave e) (enclaves_steps (enclave + 1) es)
    (each_then (IsLow enclave (enclave_places e)) (IsBehind counts) (enclave_steps enclave e)
    (low_behind counts enclave (enclave_places e)
    (ap (λ k. get_or counts k 0) (let same : enclave ≡ enclave + 0 = omega arith in same) ∙ is 0 e refl) some (omega (arith, low)))
    (enclave_low enclave e))
    (enclaves_behind counts (enclave + 1) es (λ k x at.
    ap (λ n. get_or counts n 0) (let same : enclave + 1 + k ≡ enclave + suc k = omega arith in same) ∙ is (suc k) x at)
    (omega arith) (omega (arith, low)))

count_at : (es : List EnclaveView) (k : ℕ) (e : EnclaveView) → slice_get es k ≡ Some e
    → get_or (map enclave_places es) k 0 ≡ enclave_places e
count_at [] k e is = cc
count_at (x ∷ xs) zero e is = let same : x ≡ e = cc in ap enclave_places same
count_at (x ∷ xs) (suc k) e is = count_at xs k e is

all_behind : (j : JobView) → Each (IsBehind (0 ∷ page_counts j)) (enclaves_steps 1 j.enclaves)
all_behind j =
    enclaves_behind (0 ∷ page_counts j) 1 j.enclaves
    (λ k e is. ap (λ n. get_or (0 ∷ page_counts j) n 0) (let same : 1 + k ≡ suc k = omega arith in same) ∙ count_at j.enclaves k e is)
    (omega arith) (let same = count_enclaves j in omega (arith, same))

-- ---- the build

-- a step is one of the first, or is behind them
got_either : (P : BuildStep → Type 0) (k n : ℕ) (xs : List BuildStep) (x : BuildStep) → Each P xs
    → slice_get (replicate k builds.Va ++ xs) n ≡ Some x → ((n < k) × (x ≡ builds.Va)) ⊎ P x
got_either P zero n xs x h is = inr (each_got P xs n x h is)
got_either P (suc k) zero xs x h is = inl (let low : zero < suc k = omega arith in low, cc)
got_either P (suc k) (suc n) xs x h is =
    ⊎_elim (λ (m : (n < k) × (x ≡ builds.Va)). inl (let low : n < k = m.0 in omega (arith, low), m.1)) (λ m. inr m)
    (got_either P k n xs x h is)

no_array : (counts : List ℕ) (x : BuildStep) → is_va_step x ≡ true → IsBehind counts x → ⊥
no_array counts builds.Va h k = k
no_array counts (builds.Create e base size) h k = absurd (false≢true h)
no_array counts (builds.Add e n kind perm init) h k = false≢true h
no_array counts (builds.Extend e n chunk) h k = false≢true h
no_array counts (builds.Init e expect) h k = false≢true h

-- a step that makes a version array page is one of the first
pub arrays_before : (j : JobView) (n : ℕ) (x : BuildStep) → slice_get (build_of j) n ≡ Some x → is_va_step x ≡ true → n < va_pages j
arrays_before j n x is va =
    ⊎_elim (λ (k : (n < va_pages j) × (x ≡ builds.Va)). k.0) (λ k. absurd (no_array (0 ∷ page_counts j) x va k))
    (got_either (IsBehind (0 ∷ page_counts j)) (va_pages j) n (enclaves_steps 1 j.enclaves) x (all_behind j) is)

-- the page of a step that adds one is below the enclave's last one
add_low : (j : JobView) (n e k : ℕ) (kind : Kind) (perm : Perm) (init : PageInit)
    → slice_get (build_of j) n ≡ Some (builds.Add e k kind perm init) → k < get_or (0 ∷ page_counts j) e 0
add_low j n e k kind perm init is =
    ⊎_elim
    (λ (m : (n < va_pages j) × (builds.Add e k kind perm init ≡ builds.Va)).
    (let same : builds.Add e k kind perm init ≡ builds.Va = m.1 in absurd cc))
    (λ (m : k < get_or (0 ∷ page_counts j) e 0). m)
    (got_either (IsBehind (0 ∷ page_counts j)) (va_pages j) n (enclaves_steps 1 j.enclaves) (builds.Add e k kind perm init) (all_behind j)
    is)

-- .. so it has a place
pub add_placed : (j : JobView) (n e k : ℕ) (kind : Kind) (perm : Perm) (init : PageInit)
    → slice_get (build_of j) n ≡ Some (builds.Add e k kind perm init) → IsPlaced (job_counts j) (page_at e k)
add_placed j n e k kind perm init is = low_placed (job_counts j) (page_at e k) (add_low j n e k kind perm init is)

-- .. and in a valid job, which has few pages, it is a TCS or REG page
pub add_own : (j : JobView) → IsValid j → (n e k : ℕ) (kind : Kind) (perm : Perm) (init : PageInit)
    → slice_get (build_of j) n ≡ Some (builds.Add e k kind perm init) → is_own_page (page_at e k) ≡ true
add_own j v n e k kind perm init is =
    low_own (job_counts j) (page_at e k) (few_places j v) (add_low j n e k kind perm init is)

-- the SECS of a step that creates an enclave has a place
pub create_placed : (j : JobView) (n e base size : ℕ) → slice_get (build_of j) n ≡ Some (builds.Create e base size)
    → IsPlaced (job_counts j) (secs_page e)
create_placed j n e base size is =
    ⊎_elim
    (λ (m : (n < va_pages j) × (builds.Create e base size ≡ builds.Va)).
    (let same : builds.Create e base size ≡ builds.Va = m.1 in absurd cc))
    (λ (m : (1 ≤ e) × (e < length (0 ∷ page_counts j))).
    (let some = m.0 in let low = m.1 in secs_placed (job_counts j) e some (omega (arith, low))))
    (got_either (IsBehind (0 ∷ page_counts j)) (va_pages j) n (enclaves_steps 1 j.enclaves) (builds.Create e base size) (all_behind j) is)

-- the page of a step that measures is one of its enclave's
pub extended_low : (j : JobView) (n : ℕ) (g : Page) → page_extended (slice_get (build_of j) n) ≡ Some g
    → g.number < get_or (0 ∷ page_counts j) g.enclave 0
extended_low j n g is = by_step (slice_get (build_of j) n) refl is
  where
    by_build : (x : BuildStep) → slice_get (build_of j) n ≡ Some x → page_extended (Some x) ≡ Some g
        → g.number < get_or (0 ∷ page_counts j) g.enclave 0
    by_build (builds.Extend e k chunk) at h =
        let same : page_at e k ≡ g = cc in
        ⊎_elim
        (λ (m : (n < va_pages j) × (builds.Extend e k chunk ≡ builds.Va)).
        (let bad : builds.Extend e k chunk ≡ builds.Va = m.1 in absurd cc))
        (λ (m : k < get_or (0 ∷ page_counts j) e 0). subst (λ (p : Page). p.number < get_or (0 ∷ page_counts j) p.enclave 0) same m)
        (got_either (IsBehind (0 ∷ page_counts j)) (va_pages j) n (enclaves_steps 1 j.enclaves) (builds.Extend e k chunk) (all_behind j) at)
    by_build builds.Va at h = cc
    by_build (builds.Create e base size) at h = cc
    by_build (builds.Add e k kind perm init) at h = cc
    by_build (builds.Init e expect) at h = cc

    by_step : (o : Option BuildStep) → slice_get (build_of j) n ≡ o → page_extended o ≡ Some g
        → g.number < get_or (0 ∷ page_counts j) g.enclave 0
    by_step None at h = cc
    by_step (Some x) at h = by_build x at h

-- .. so it has its place
pub extended_placed : (j : JobView) (n : ℕ) (g : Page) → page_extended (slice_get (build_of j) n) ≡ Some g
    → IsPlaced (job_counts j) g
extended_placed j n g is = low_placed (job_counts j) g (extended_low j n g is)
