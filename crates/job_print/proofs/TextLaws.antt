-- How the text of a job grows by lines.
use Rattle.std.proofs.Common.{◌≡◌, ℕ, ◌+◌, ◌<◌, List, [], ◌∷◌, ◌++◌, length, map, take, get_or, append_assoc}
use Rattle.std.proofs.Common.{refl, sym, ap, ◌∙◌, arith}
use Rattle.std.proofs.lemmas.List.{append-nil, length-map, length-take-le, map_more}
use Rattle.std.proofs.lemmas.Grind.{flat_map-append}
use Rattle.job_grammar.specs.Jobs.{JobView}
use Rattle.job_lines.specs.declared.statements.Statement.{Statement}
use Rattle.job_print.specs.JobText.{enclave_says, job_text, numbered, options_say, plans_say, script_says, statement_text}
use Rattle.job_print.specs.JobText.{statements_text}

-- the lines of some, and of others behind them
pub joined : (text : List ℕ) (some others : List Statement)
    → (text ++ statements_text some) ++ statements_text others ≡ text ++ statements_text (some ++ others)
joined text some others =
    append_assoc text (statements_text some) (statements_text others)
    ∙ ap (λ (t : List ℕ). text ++ t) (sym (flat_map-append statement_text some others))

-- a first line, and others behind it
pub begun : (text : List ℕ) (s : Statement) (others : List Statement)
    → (text ++ statement_text s) ++ statements_text others ≡ text ++ statements_text (s ∷ others)
begun text s others = append_assoc text (statement_text s) (statements_text others)

pub one : (s : Statement) → statements_text (s ∷ []) ≡ statement_text s
one s = append-nil (statement_text s)

-- one more of a list of lines
pub line_more : {A : Type 0} (say : A → Statement) (text : List ℕ) (xs : List A) (i : ℕ) (d : A) → i < length xs
    → (text ++ statements_text (map say (take i xs))) ++ statement_text (say (get_or xs i d)) ≡ text
    ++ statements_text (map say (take (i + 1) xs))
line_more say text xs i d within =
    ap (λ (t : List ℕ). (text ++ statements_text (map say (take i xs))) ++ t) (sym (one (say (get_or xs i d))))
    ∙ joined text (map say (take i xs)) (say (get_or xs i d) ∷ [])
    ∙ ap (λ (ss : List Statement). text ++ statements_text ss) (sym (map_more say xs i d within))

-- one more of those that have numbers
pub numbered-push : {A : Type 0} (say : ℕ → A → List Statement) (n : ℕ) (xs : List A) (x : A)
    → numbered say n (xs ++ x ∷ []) ≡ numbered say n xs ++ say (n + length xs) x
numbered-push say n [] x = let none : n + 0 ≡ n = omega arith in rw none (append-nil (say n x))
numbered-push say n (y ∷ xs) x =
    let at : n + 1 + length xs ≡ n + length (y ∷ xs) = omega arith in
    ap (λ (ss : List Statement). say n y ++ ss) (numbered-push say (n + 1) xs x ∙ rw at refl)
    ∙ sym (append_assoc (say n y) (numbered say (n + 1) xs) (say (n + length (y ∷ xs)) x))

pub numbered_more : {A B : Type 0} (say : ℕ → B → List Statement) (view : A → B) (text : List ℕ) (n number : ℕ) (xs : List A) (i : ℕ)
    (x : A) → i < length xs → x ≡ get_or xs i x → number ≡ n + i
    → (text ++ statements_text (numbered say n (map view (take i xs)))) ++ statements_text (say number (view x))
    ≡ text ++ statements_text (numbered say n (map view (take (i + 1) xs)))
numbered_more {A = A} {B = B} say view text n number xs i x within here is =
    let front : number ≡ n + length (map view (take i xs)) =
    omega (arith, length-map (take i xs) view, length-take-le i xs (omega arith)) in
    joined text (numbered say n (map view (take i xs))) (say number (view x))
    ∙ ap (λ (ss : List Statement). text ++ statements_text ss)
    (ap (λ (k : ℕ). numbered say n (map view (take i xs)) ++ say k (view x)) front
    ∙ sym (numbered-push say n (map view (take i xs)) (view x))
    ∙ ap (λ (y : A). numbered say n (map view (take i xs) ++ view y ∷ [])) here
    ∙ ap (λ (zs : List B). numbered say n zs) (sym (map_more view xs i x within)))

-- the text of a job, part by part
pub all_parts : (j : JobView) (empty options enclaves plans text : List ℕ) → empty ≡ [] → options ≡ empty ++ statements_text (options_say j)
    → enclaves ≡ options ++ statements_text (numbered enclave_says 1 j.enclaves)
    → plans ≡ enclaves ++ statements_text (plans_say j.plans)
    → text ≡ plans ++ statements_text (numbered script_says 0 j.scripts) → text ≡ job_text j
unfolding job_text
all_parts j empty options enclaves plans text none first second third fourth =
    rw (fourth, third, second, first, none)
    (ap (λ (t : List ℕ). t ++ statements_text (numbered script_says 0 j.scripts))
    (ap (λ (t : List ℕ). t ++ statements_text (plans_say j.plans)) (merged (options_say j) (numbered enclave_says 1 j.enclaves))
    ∙ merged (options_say j ++ numbered enclave_says 1 j.enclaves) (plans_say j.plans))
    ∙ merged (options_say j ++ numbered enclave_says 1 j.enclaves ++ plans_say j.plans) (numbered script_says 0 j.scripts))
  where
    merged : (some others : List Statement) → statements_text some ++ statements_text others ≡ statements_text (some ++ others)
    merged some others = sym (flat_map-append statement_text some others)

-- a line more behind lines that were begun
pub ruleset lines_laws = (line_more, begun, joined, one)
