-- What one more entry adds to the replies to exchanges.
use Rattle.std.proofs.Common.{◌≡◌, ◌≢◌, ◌⊎◌, inl, inr, ◌&&◌, if◌then◌else◌, Bool, true, false, ℕ, zero, suc, ◌+◌, ◌-◌, ◌^◌, ◌<◌, ◌≤◌}
use Rattle.std.proofs.Common.{List, [], ◌∷◌, length, replicate, reverse, take, ap, sym, refl, subst, arith, ◌∙◌}
use Rattle.std.specs.List.{sum_by}
use Rattle.std.proofs.lemmas.Bool.{cases_eq, eq-eqb, ne_eqb}
use Rattle.std.proofs.lemmas.List.Sums.{sum_by-cons}
use Rattle.std.proofs.lemmas.Grind.{common_steps}
use Rattle.std.proofs.lemmas.List.{get_or-replicate, length-replicate, length-reverse, length-take}
use Rattle.sgx_types.specs.declared.names.Actor.TheVariants.{Cpu}
use Rattle.sgx_types.specs.declared.names.Cpu as cpus
use Rattle.sgx_rules.specs.declared.entries.Entry.{Entry}
use Rattle.sgx_rules.specs.Processors.{is_by}
use Rattle.job_grammar.specs.Jobs.{JobView}
use Rattle.script_rules.specs.Script.{is_interrupted, is_reply, numbers_from, replied, script_of}
use Rattle.page_commands.specs.declared.exchanges.Progress.{Progress}
use Rattle.page_commands.specs.Summary.{xadds, xadds_in, xadds_of}
use Rattle.page_commands.specs.inner.Progress.{AreProgress, Counts, HaveRoom, IsProgress}
use Rattle.trace_tally.specs.Tally.{more_if}

-- ---- sums over numbers from `first` on

same_sum : (f g : ℕ → ℕ) (first count : ℕ) → ((k : ℕ) → first ≤ k → k < first + count → g k ≡ f k)
    → sum_by g (numbers_from first count) ≡ sum_by f (numbers_from first count)
same_sum f g first zero same = refl
same_sum f g first (suc count) same =
    let here : g first ≡ f first = same first (omega arith) (omega arith) in
    let rest : sum_by g (numbers_from (first + 1) count) ≡ sum_by f (numbers_from (first + 1) count) =
    same_sum f g (first + 1) count (λ k least most. same k (omega (arith, least)) (omega (arith, most))) in
    let one = sum_by-cons g first (numbers_from (first + 1) count) in
    let other = sum_by-cons f first (numbers_from (first + 1) count) in
    grind (arith, here, rest, one, other)

more_first : (more : Bool) (a a' b b' : ℕ) → a' ≡ more_if more a → b' ≡ b → a' + b' ≡ more_if more (a + b)
more_first true a a' b b' one same = omega (arith, one, same)
more_first false a a' b b' one same = omega (arith, one, same)

more_behind : (more : Bool) (a a' b b' : ℕ) → a' ≡ a → b' ≡ more_if more b → a' + b' ≡ more_if more (a + b)
more_behind true a a' b b' same one = omega (arith, one, same)
more_behind false a a' b b' same one = omega (arith, one, same)

-- where one of them adds one more or not, and each other as much as before
sum_more : (f g : ℕ → ℕ) (p : ℕ) (more : Bool) (first count : ℕ) → first ≤ p → p < first + count → ((k : ℕ) → k ≢ p → g k ≡ f k)
    → g p ≡ more_if more (f p) → sum_by g (numbers_from first count) ≡ more_if more (sum_by f (numbers_from first count))
sum_more f g p more first zero least most same one = absurd (omega (arith, least, most))
sum_more f g p more first (suc count) least most same one =
    sum_by-cons g first (numbers_from (first + 1) count)
    ∙ by_place (cases_eq first p)
    (λ other. sum_more f g p more (first + 1) count (omega (arith, least, other)) (omega (arith, most)) same one)
    ∙ ap (more_if more) (sym (sum_by-cons f first (numbers_from (first + 1) count)))
  where
    rest : (ℕ → ℕ) → ℕ
    rest f = sum_by f (numbers_from (first + 1) count)

    by_place : (first ≡ p) ⊎ (first ≡ p → ⊥) → ((first ≡ p → ⊥) → rest g ≡ more_if more (rest f))
        → g first + rest g ≡ more_if more (f first + rest f)
    by_place (inl here) behind =
        more_first more (f first) (g first) (rest f) (rest g) (subst (λ n. g n ≡ more_if more (f n)) (sym here) one)
        (same_sum f g (first + 1) count (λ k low high. same k (λ is. absurd (omega (arith, here, low, is)))))
    by_place (inr other) behind = more_behind more (f first) (g first) (rest f) (rest g) (same first other) (behind other)

-- ---- one more entry

pub by_itself : (e : Entry) (cpu : cpus.Cpu) → e.actor ≡ Cpu cpu → is_by cpu.0 e.actor ≡ true
by_itself e cpu by = ap (is_by cpu.0) by ∙ eq-eqb cpu.0 cpu.0 refl

still : (j : JobView) (past : List Entry) (e : Entry) (k : ℕ) → is_by k e.actor ≡ false → xadds_of j (e ∷ past) k ≡ xadds_of j past k
still j past e k other =
    ap (λ b. xadds_in (script_of j k) (if b && is_reply (is_interrupted past k) e.event then replied past k + 1 else replied past k)) other

-- it is of none of the job's processors
pub xadds_still : (j : JobView) (past : List Entry) (e : Entry) (cpu : cpus.Cpu) → e.actor ≡ Cpu cpu → length j.scripts ≤ cpu.0
    → xadds j (e ∷ past) ≡ xadds j past
xadds_still j past e cpu by high =
    same_sum (xadds_of j past) (xadds_of j (e ∷ past)) 0 (length j.scripts)
    (λ k least most. still j past e k
    (ap (is_by k) by ∙ ne_eqb cpu.0 k (λ is. absurd (omega (arith, high, most, is)))))

-- it is of one of them
pub xadds_more : (j : JobView) (past : List Entry) (e : Entry) (cpu : cpus.Cpu) (more : Bool) → e.actor ≡ Cpu cpu
    → cpu.0 < length j.scripts → xadds_of j (e ∷ past) cpu.0 ≡ more_if more (xadds_of j past cpu.0)
    → xadds j (e ∷ past) ≡ more_if more (xadds j past)
xadds_more j past e cpu more by low own =
    sum_more (xadds_of j past) (xadds_of j (e ∷ past)) cpu.0 more 0 (length j.scripts) (omega arith) (omega (arith, low))
    (λ k other. still j past e k (ap (is_by k) by ∙ ne_eqb cpu.0 k (λ is. other (sym is))))
    own

-- ---- how many replies there can be

pub replied_few : (past : List Entry) (p : ℕ) → replied past p ≤ length past
replied_few [] p = omega arith
replied_few (e ∷ past) p = by_test (is_by p e.actor && is_reply (is_interrupted past p) e.event) (replied_few past p)
  where
    by_test : (b : Bool) → replied past p ≤ length past → (if b then replied past p + 1 else replied past p) ≤ suc (length past)
    by_test true few = omega (arith, few)
    by_test false few = omega (arith, few)

-- behind so many entries
pub have_room : (entries : List Entry) (i : ℕ) (all : List Progress) → i < 2 ^ 64 - 1 → AreProgress (reverse (take i entries)) all
    → HaveRoom all
have_room entries i all low are p d within =
    let few : replied (reverse (take i entries)) p ≤ length (reverse (take i entries)) = replied_few (reverse (take i entries)) p in
    let own = (are p d within).replied in
    let long : length (reverse (take i entries)) ≤ i = grind (arith, common_steps, length-reverse, length-take) in
    omega (arith, low, own, few, long)

-- ---- before the first entry

no_sum : (j : JobView) (first count : ℕ) → sum_by (xadds_of j []) (numbers_from first count) ≡ 0
no_sum j first zero = refl
no_sum j first (suc count) =
    let rest = no_sum j (first + 1) count in
    let one = sum_by-cons (xadds_of j []) first (numbers_from (first + 1) count) in
    grind (arith, rest, one)

pub none_yet : (j : JobView) (start : Progress) → start.replied ≡ 0 → start.is_interrupted ≡ false
    → Counts j [] (replicate (length j.scripts) start) 0
none_yet j start none outside = record {
  progress = λ p d low.
      let within : p < length j.scripts = omega (arith, low, length-replicate (length j.scripts) start) in
      subst (IsProgress [] p) (sym (get_or-replicate (length j.scripts) p start d within))
      (record { replied = none; interrupted = outside });
  many = length-replicate (length j.scripts) start;
  count = sym (no_sum j 0 (length j.scripts));
}

-- ---- behind the next entry

pub one_entry : (j : JobView) (past : List Entry) (e : Entry) (all all' : List Progress) (counted counted' : ℕ) (more : Bool)
    → Counts j past all counted → AreProgress (e ∷ past) all' → length all' ≡ length all
    → xadds j (e ∷ past) ≡ more_if more (xadds j past) → counted' ≡ more_if more counted → Counts j (e ∷ past) all' counted'
one_entry j past e all all' counted counted' more was are same one is = record {
  progress = are;
  many = same ∙ was.many;
  count = is ∙ ap (more_if more) was.count ∙ sym one;
}
