-- No more pages are added than the job has, so a slot is left wherever a page is still in a frame.
use Rattle.std.proofs.Common.{◌≡◌, ℕ, zero, suc, ◌+◌, ◌*◌, ◌/◌, ◌≤◌, ◌<◌, ◌==◌, ◌&&◌, ◌||◌, not, Bool, true, false}
use Rattle.std.proofs.Common.{cond, if◌then◌else◌, refl, sym, ◌∙◌, ap, List, [], ◌∷◌, ◌++◌, Option, Some, None, is_some, length, map}
use Rattle.std.proofs.Common.{replicate, arith, nat_le, nat_lt}
use Rattle.std.proofs.lemmas.Bool.{eqb-true, false≢true, le-leb, leb-true, lt-ltb, ltb-false, ltb-true}
use Rattle.std.proofs.lemmas.List.Folds.{sum_by-replicate}
use Rattle.std.proofs.lemmas.List.Sums.{count_by-le-length, sum_by-append, sum_by-cons, sum_by-take-le}
use Rattle.std.specs.List.{count_by, find, flat_map, sum_by}
use Rattle.sgx_types.specs.Pages.{no_perm}
use Rattle.sgx_rules.specs.Frames.{added, added_by, vas_after, vas_made}
use Rattle.sgx_types.specs.Making.{Making}
use Rattle.sgx_types.specs.declared.names.Actor.{Actor}
use Rattle.sgx_rules.specs.declared.entries.Entry.{Entry}
use Rattle.sgx_rules.specs.declared.entries.Event.{Event}
use Rattle.sgx_rules.specs.declared.entries.Event.TheVariants.{Did}
use Rattle.sgx_types.specs.declared.lawful.PageInit.{PageInit}
use Rattle.sgx_types.specs.declared.names.Kind.{Kind}
use Rattle.sgx_types.specs.declared.names.Page.{Page}
use Rattle.sgx_types.specs.declared.names.Perm.{Perm}
use Rattle.sgx_rules.specs.inner.Enclaves.{created, is_there}
use Rattle.sgx_types.proofs.Truths.{both_true}
use Rattle.sgx_types.specs.Pages.{is_own_page}
use Rattle.driver_slots.specs.inner.Keeper.{AllOut, array_at, ArrayView, count_all, count_out, is_of, is_ours_by, Keeper, slots_of}
use Rattle.driver_slots.specs.inner.Keeper.{va_slot}
use Rattle.job_grammar.specs.Jobs.{enclave_pages, EnclaveView, job_pages, JobView, page_count, va_pages}
use Rattle.job_grammar.specs.declared.jobs.PageLine.{PageLine}
use Rattle.script_rules.specs.Script.{build_of, built, chunk_steps, enclave_steps, enclaves_steps, is_builder, line_steps, numbers_from}
use Rattle.script_rules.specs.Script.{page_steps}
use Rattle.script_rules.specs.declared.steps.BuildStep.{BuildStep}
use Rattle.driver_rules.specs.Ages.{AgeRuleBy}
use Rattle.driver_rules.specs.Places.{place}
use Rattle.driver_rules.specs.Scripts.{ScriptRule}
use Rattle.driver_rules.specs.Spares.{Outs, outs}
use Rattle.driver_rules.specs.inner.Slotted.{fixed_count, occupied}
use Rattle.driver_laws.specs.inner.Agrees.{drivers, first_kept, has_pages, is_add, ShowsSlots}
use Rattle.driver_laws.specs.inner.Counted.{AddsAreBuilt, CountsSlots, has_slot, is_add_step, pages_added, with_added}
use Rattle.driver_laws.specs.inner.Driven.{IsDriven}
use Rattle.driver_laws.specs.inner.Keeps.{is_epa, is_va_step}
use Rattle.driver_laws.specs.inner.Sound.{is_absent, IsSound}
use Rattle.driver_laws.proofs.HistoryLaws.{driven_before}
use Rattle.driver_laws.proofs.StepLaws.{adds_by, arrays_by, Builds, builds_by, builds_or_none, ByStep, counts, IsStep, NoStep}
use Rattle.driver_laws.proofs.StepLaws.{step_counts}
use Rattle.sgx_rules.specs.declared.entries.Action.TheVariants as actions
use Rattle.sgx_types.specs.declared.lawful.PageInit.TheVariants as inits
use Rattle.sgx_types.specs.declared.names.Kind.TheVariants as kinds
use Rattle.job_grammar.specs.declared.jobs.PageLine.TheVariants as lines
use Rattle.script_rules.specs.declared.steps.BuildStep.TheVariants as builds

-- ---- how many pages the build adds

abbrev one_add : BuildStep → ℕ
one_add step = cond (is_add_step step) 1 0

abbrev adds_in : List BuildStep → ℕ
adds_in steps = count_by is_add_step steps

adds_append : (xs ys : List BuildStep) → adds_in (xs ++ ys) ≡ adds_in xs + adds_in ys
adds_append xs ys = sum_by-append one_add xs ys

adds_more : (x : BuildStep) (xs : List BuildStep) → adds_in (x ∷ xs) ≡ one_add x + adds_in xs
adds_more x xs = sum_by-cons one_add x xs

extends_none : (enclave number : ℕ) (ns : List ℕ) → adds_in (map (builds.Extend enclave number) ns) ≡ 0
extends_none enclave number [] = refl
extends_none enclave number (n ∷ ns) =
    adds_more (builds.Extend enclave number n) (map (builds.Extend enclave number) ns) ∙ omega (arith, extends_none enclave number ns)

chunks_none : (enclave number : ℕ) (plain : Bool) → adds_in (chunk_steps enclave number plain) ≡ 0
chunks_none enclave number true = refl
chunks_none enclave number false = extends_none enclave number (numbers_from 0 16)

page_adds : (enclave number : ℕ) (kind : Kind) (perm : Perm) (init : PageInit) (plain : Bool)
    → adds_in (page_steps enclave number kind perm init plain) ≡ 1
page_adds enclave number kind perm init plain =
    adds_more (builds.Add enclave number kind perm init) (chunk_steps enclave number plain) ∙ omega
    (arith, chunks_none enclave number plain)

run_adds : (first count : ℕ) (steps : ℕ → List BuildStep) → ((n : ℕ) → adds_in (steps n) ≡ 1)
    → adds_in (flat_map steps (numbers_from first count)) ≡ count
run_adds first zero steps one = refl
run_adds first (suc count) steps one =
    adds_append (steps first) (flat_map steps (numbers_from (first + 1) count)) ∙ omega
    (arith, one first, run_adds (first + 1) count steps one)

line_adds : (enclave : ℕ) (line : PageLine) → adds_in (line_steps enclave line) ≡ page_count line
line_adds enclave (lines.Tcs page ossa nssa plain) = page_adds enclave page kinds.Tcs no_perm (inits.Tcs ossa nssa) plain
line_adds enclave (lines.Reg first count perm value plain) =
    run_adds first count (λ n. page_steps enclave n kinds.Reg perm (inits.Words value) plain)
    (λ n. page_adds enclave n kinds.Reg perm (inits.Words value) plain)

lines_adds : (enclave : ℕ) (xs : List PageLine) → adds_in (flat_map (line_steps enclave) xs) ≡ sum_by page_count xs
lines_adds enclave [] = refl
lines_adds enclave (x ∷ xs) =
    adds_append (line_steps enclave x) (flat_map (line_steps enclave) xs) ∙ rw (line_adds enclave x, lines_adds enclave xs)
    (sym (sum_by-cons page_count x xs))

enclave_adds : (enclave : ℕ) (e : EnclaveView) → adds_in (enclave_steps enclave e) ≡ enclave_pages e
enclave_adds enclave e =
    let steps = flat_map (line_steps enclave) e.lines in
    let last : adds_in (builds.Init enclave e.expect ∷ []) ≡ 0 = refl in
    adds_more (builds.Create enclave e.base e.size) (steps ++ builds.Init enclave e.expect ∷ []) ∙ omega
    (arith, adds_append steps (builds.Init enclave e.expect ∷ []), last, lines_adds enclave e.lines)

enclaves_adds : (enclave : ℕ) (es : List EnclaveView) → adds_in (enclaves_steps enclave es) ≡ sum_by enclave_pages es
enclaves_adds enclave [] = refl
enclaves_adds enclave (e ∷ es) =
    adds_append (enclave_steps enclave e) (enclaves_steps (enclave + 1) es)
    ∙ rw (enclave_adds enclave e, enclaves_adds (enclave + 1) es) (sym (sum_by-cons enclave_pages e es))

build_adds : (j : JobView) → adds_in (build_of j) ≡ job_pages j
build_adds j =
    adds_append (replicate (va_pages j) builds.Va) (enclaves_steps 1 j.enclaves) ∙ omega
    (arith, sum_by-replicate one_add (va_pages j) builds.Va, enclaves_adds 1 j.enclaves)

-- ---- as many adds as the build has steps for

added_more : (ev : Event) (gs : List Page) → is_add ev ≡ true → length (with_added ev gs) ≡ length gs + 1
added_more (Did (actions.Add e n f kind perm init) answer) gs add = omega arith
added_more _ gs add = absurd cc

added_same : (ev : Event) (gs : List Page) → is_add ev ≡ false → length (with_added ev gs) ≡ length gs
added_same (Did (actions.Add e n f kind perm init) answer) gs add = absurd cc
added_same _ gs add = refl

adds_built : (ev : Event) → builds_by ev ≡ false → is_add ev ≡ false
adds_built (Did (actions.Add e n f kind perm init) answer) none = absurd (false≢true (sym none))
adds_built _ none = refl

-- .. and as many version array pages
abbrev pub one_va : BuildStep → ℕ
one_va step = cond (is_va_step step) 1 0

vas_more : (ev : Event) (n : ℕ) → is_epa ev ≡ true → vas_after ev n ≡ n + 1
vas_more (Did (actions.Epa f) answer) n epa = refl
vas_more _ n epa = absurd cc

vas_same : (ev : Event) (n : ℕ) → is_epa ev ≡ false → vas_after ev n ≡ n
vas_same (Did (actions.Epa f) answer) n epa = absurd cc
vas_same _ n epa = refl

pub vas_moved : (ev : Event) (n : ℕ) → vas_after ev n ≡ n + cond (is_epa ev) 1 0
vas_moved (Did (actions.Epa f) answer) n = refl
vas_moved _ n = omega arith

pub epa_built : (ev : Event) → builds_by ev ≡ false → is_epa ev ≡ false
epa_built (Did (actions.Epa f) answer) none = absurd (false≢true (sym none))
epa_built _ none = refl

pub first_built : (j : JobView) → AddsAreBuilt j []
first_built j = record { adds = omega arith; arrays = omega arith }

pub stays_built : (j : JobView) (past : List Entry) (out : Outs) (e : Entry) → ScriptRule j past e → AgeRuleBy j past out e
    → AddsAreBuilt j past → AddsAreBuilt j (e ∷ past)
stays_built j past out e script age before =
    record {
      adds = by_step e.actor (builds_or_none j past out e script age);
      arrays = arrays_step e.actor (builds_or_none j past out e script age);
    }
  where
    h : length (pages_added past) ≤ counts is_add_step j (built past)
    h = before.adds

    low : vas_made past ≤ counts is_va_step j (built past)
    low = before.arrays

    by_epa : (s : IsStep j past e.event) (b : Bool) → is_epa e.event ≡ b → vas_made (e ∷ past) ≤ counts is_va_step j (built past + 1)
    by_epa s true is =
        let one : one_va s.step ≡ 1 = ap (λ b. cond b 1 0) (arrays_by e.event s.step s.frame s.made is) in
        omega (arith, vas_more e.event (vas_made past) is, step_counts is_va_step j past s.step s.there, one, low)
    by_epa s false is =
        omega (arith, vas_same e.event (vas_made past) is, step_counts is_va_step j past s.step s.there, low)

    arrays_step : (a : Actor) → Builds j past a e.event
        → vas_made (e ∷ past) ≤ counts is_va_step j (if is_builder a then built past + 1 else built past)
    arrays_step a (ByStep is s) = rw is (by_epa s (is_epa e.event) refl)
    arrays_step a (NoStep other none) =
        rw other (omega (arith, vas_same e.event (vas_made past) (epa_built e.event none), low))

    by_add : (s : IsStep j past e.event) (b : Bool) → is_add e.event ≡ b
        → length (pages_added (e ∷ past)) ≤ counts is_add_step j (built past + 1)
    by_add s true is =
        let one : one_add s.step ≡ 1 = ap (λ b. cond b 1 0) (adds_by e.event s.step s.frame s.made is) in
        omega (arith, added_more e.event (pages_added past) is, step_counts is_add_step j past s.step s.there, one, h)
    by_add s false is =
        omega (arith, added_same e.event (pages_added past) is, step_counts is_add_step j past s.step s.there, h)

    by_step : (a : Actor) → Builds j past a e.event
        → length (pages_added (e ∷ past)) ≤ counts is_add_step j (if is_builder a then built past + 1 else built past)
    by_step a (ByStep is s) = rw is (by_add s (is_add e.event) refl)
    by_step a (NoStep other none) =
        rw other (omega (arith, added_same e.event (pages_added past) (adds_built e.event none), h))

pub driven_built : (k : Making) (j : JobView) (past : List Entry) → IsDriven k j past → AddsAreBuilt j past
driven_built k j [] d = first_built j
driven_built k j (e ∷ past) d =
    stays_built j past (outs j past) e d.script.0 d.age.0 (driven_built k j past (driven_before k j e past d))

-- no more pages are added than the job has
few_pages : (j : JobView) (past : List Entry) → AddsAreBuilt j past → length (pages_added past) ≤ job_pages j
few_pages j past h =
    let all : counts is_add_step j (built past) ≤ adds_in (build_of j) = sum_by-take-le one_add (build_of j) (built past) in
    omega (arith, all, build_adds j, h.adds)

-- ---- a slot is left

-- where a page was added, pages were
pub added_has_pages : (past : List Entry) (g : Page) → is_some (added past g) ≡ true → has_pages past ≡ true
added_has_pages [] g h = absurd (false≢true h)
added_has_pages (e ∷ past) g h = by_event e.event h (added_has_pages past g)
  where
    by_event : (ev : Event) → is_some (added_by ev g (added past g)) ≡ true → (is_some (added past g) ≡ true → has_pages past ≡ true)
        → (is_add ev || has_pages past) ≡ true
    by_event (Did (actions.Add n number f kind perm init) answer) k before = refl
    by_event _ k before = before k

-- a TCS or REG page is there once it was added
pub own_there : (past : List Entry) (g : Page) → is_own_page g ≡ true → is_there past g ≡ is_some (added past g)
own_there past g own = by_tests (g.enclave == 0) (g.number == 4294967295) own
  where
    by_tests : (b c : Bool) → (not b && not c) ≡ true
        → (if b then nat_lt g.number (vas_made past) else if (not b && c) then is_some (created past g.enclave) else is_some (added past g))
        ≡ is_some (added past g)
    by_tests false false h = refl
    by_tests false true h = absurd (false≢true h)
    by_tests true c h = absurd (false≢true h)

-- .. and is so where it is somewhere
pub own_added : (past : List Entry) (g : Page) → IsSound past → is_own_page g ≡ true → is_absent (place past g) ≡ false
    → is_some (added past g) ≡ true
own_added past g s own there = sym (own_there past g own) ∙ s.made g ∙ ap not there

-- ---- how many slots a keeper has

abbrev slots_by : Option ArrayView → ℕ
slots_by None = 0
slots_by (Some a) = slots_of a

-- the slots that a list of version array pages has of one
abbrev slots_found : List ArrayView → ℕ → ℕ
slots_found xs va = slots_by (find (is_of va) xs)

-- .. and of the first ones
abbrev total : List ArrayView → ℕ → ℕ
total xs zero = 0
total xs (suc n) = total xs n + slots_found xs n

-- a page more adds its slots at most
total_more : (x : ArrayView) (xs : List ArrayView) (n : ℕ) → total (x ∷ xs) n ≤ total xs n + cond (nat_lt x.va n) (slots_of x) 0
total_more x xs zero = omega arith
total_more x xs (suc n) = by_test (x.va == n) refl (total_more x xs n)
  where
    below : (b : Bool) → nat_lt x.va n ≡ b → x.va ≡ n → b ≡ false
    below false is same = refl
    below true is same = let low = ltb-true x.va n is in absurd (omega (arith, low, same))

    last : (b : Bool) → nat_lt x.va (suc n) ≡ b → x.va ≡ n → b ≡ true
    last true is same = refl
    last false is same = let high = ltb-false x.va (suc n) is in absurd (omega (arith, high, same))

    still : (b c : Bool) → nat_lt x.va n ≡ b → nat_lt x.va (suc n) ≡ c → (x.va == n) ≡ false
        → cond b (slots_of x) 0 ≤ cond c (slots_of x) 0
    still false c is more other = omega arith
    still true true is more other = omega arith
    still true false is more other =
        let low = ltb-true x.va n is in let high = ltb-false x.va (suc n) more in absurd (omega (arith, low, high))

    by_test : (b : Bool) → (x.va == n) ≡ b → total (x ∷ xs) n ≤ total xs n + cond (nat_lt x.va n) (slots_of x) 0
        → total (x ∷ xs) (suc n) ≤ total xs (suc n) + cond (nat_lt x.va (suc n)) (slots_of x) 0
    by_test true is before =
        let one : slots_found (x ∷ xs) n ≡ slots_of x = ap (λ b. slots_by (cond b (Some x) (find (is_of n) xs))) is in
        let same = eqb-true x.va n is in
        let none : cond (nat_lt x.va n) (slots_of x) 0 ≡ 0 = ap (λ b. cond b (slots_of x) 0) (below (nat_lt x.va n) refl same) in
        let now : cond (nat_lt x.va (suc n)) (slots_of x) 0 ≡ slots_of x =
        ap (λ b. cond b (slots_of x) 0) (last (nat_lt x.va (suc n)) refl same) in
        omega (arith, before, one, none, now)
    by_test false is before =
        let kept : slots_found (x ∷ xs) n ≡ slots_found xs n = ap (λ b. slots_by (cond b (Some x) (find (is_of n) xs))) is in
        let more = still (nat_lt x.va n) (nat_lt x.va (suc n)) refl refl in omega (arith, before, kept, more)

total_none : (n : ℕ) → total [] n ≡ 0
total_none zero = refl
total_none (suc n) = omega (arith, total_none n)

cond_low : (b : Bool) (n : ℕ) → cond b n 0 ≤ n
cond_low true n = omega arith
cond_low false n = omega arith

-- no more than there are in all
total_low : (xs : List ArrayView) (n : ℕ) → total xs n ≤ sum_by slots_of xs
total_low [] n = omega (arith, total_none n)
total_low (x ∷ xs) n =
    omega (arith, total_more x xs n, total_low xs n, cond_low (nat_lt x.va n) (slots_of x), sum_by-cons slots_of x xs)

-- a driver's keeper has the slots of a version array page from the first one for pages on
each_page : (j : JobView) (keeper : Keeper) (past : List Entry) (va : ℕ) → ShowsSlots (drivers j) j keeper past → va < vas_made past
    → 512 ≤ slots_found keeper.arrays va + first_kept j va
each_page j keeper past va shows low = by_found (array_at keeper va) refl
  where
    made : nat_lt va (vas_made past) ≡ true
    made = lt-ltb va (vas_made past) low

    first_in : (a : ArrayView) → array_at keeper va ≡ Some a → first_kept j va < 512
        → (nat_le a.first (first_kept j va) && nat_lt (first_kept j va) 512) ≡ true
    first_in a is less =
        ap (λ o. is_ours_by o (first_kept j va)) (sym is) ∙ shows.ours (va_slot va (first_kept j va))
        ∙ rw (made, le-leb (first_kept j va) (first_kept j va) (omega arith), lt-ltb (first_kept j va) 512 less) refl

    by_first : (a : ArrayView) → array_at keeper va ≡ Some a → (b : Bool) → nat_lt (first_kept j va) 512 ≡ b
        → 512 ≤ slots_of a + first_kept j va
    by_first a is true less =
        let two = both_true (nat_le a.first (first_kept j va)) (nat_lt (first_kept j va) 512)
        (first_in a is (ltb-true (first_kept j va) 512 less)) in
        omega (arith, leb-true a.first (first_kept j va) two.0)
    by_first a is false more = omega (arith, ltb-false (first_kept j va) 512 more)

    by_found : (o : Option ArrayView) → array_at keeper va ≡ o → 512 ≤ slots_by (array_at keeper va) + first_kept j va
    by_found None is = absurd (false≢true (sym (ap is_some is) ∙ shows.added va ∙ made))
    by_found (Some a) is = rw is (by_first a is (nat_lt (first_kept j va) 512) refl)

none_first : (j : JobView) (n : ℕ) → first_kept j (suc n) ≡ 0
none_first j n = by_test (suc n == 0) refl
  where
    by_test : (b : Bool) → (suc n == 0) ≡ b → (if b then fixed_count j else 0) ≡ 0
    by_test true is = absurd (omega (arith, eqb-true (suc n) 0 is))
    by_test false is = refl

-- .. so it has all slots but those of the SECSs and of the version array pages
all_slots : (j : JobView) (keeper : Keeper) (past : List Entry) (n : ℕ) → ShowsSlots (drivers j) j keeper past → n < vas_made past
    → 512 * n + 512 ≤ total keeper.arrays (suc n) + fixed_count j
all_slots j keeper past zero shows low = omega (arith, each_page j keeper past 0 shows low)
all_slots j keeper past (suc n) shows low =
    let less : n < vas_made past = omega (arith, low) in
    omega (arith, all_slots j keeper past n shows less, each_page j keeper past (suc n) shows low, none_first j n)

-- where a page is somewhere, and no more were added than the job has, not all slots are out
pub slot_left : (j : JobView) (keeper : Keeper) (past : List Entry) (g : Page) → IsSound past → ShowsSlots (drivers j) j keeper past
    → CountsSlots keeper past → AddsAreBuilt j past → occupied past ≡ 0 → is_own_page g ≡ true → is_absent (place past g) ≡ false
    → count_out keeper < count_all keeper
slot_left j keeper past g s shows c built_them none own there =
    let made = shows.made (added_has_pages past g (own_added past g s own there)) in
    let few = count_by-le-length (has_slot past) (pages_added past) in
    let last : (job_pages j + length j.enclaves) / 500 < vas_made past = omega (arith, made) in
    let slots = all_slots j keeper past ((job_pages j + length j.enclaves) / 500) shows last in
    let all = total_low keeper.arrays (suc ((job_pages j + length j.enclaves) / 500)) in
    omega (arith, slots, all, c.out, none, few, few_pages j past built_them)

pub not_all_out : (j : JobView) (keeper : Keeper) (past : List Entry) (g : Page) → IsSound past → ShowsSlots (drivers j) j keeper past
    → CountsSlots keeper past → AddsAreBuilt j past → occupied past ≡ 0 → is_own_page g ≡ true → is_absent (place past g) ≡ false
    → AllOut keeper → ⊥
not_all_out j keeper past g s shows c built_them none own there all =
    let left = slot_left j keeper past g s shows c built_them none own there in omega (arith, left, all.counted)
