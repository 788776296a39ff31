-- The words of a line, as code finds them.
use Rattle.std.proofs.Common.{◌≡◌, ◌≢◌, ℕ, Bool, true, false, eqb, cond, List, [], ◌∷◌, ◌++◌, Option, Some, None}
use Rattle.std.proofs.Common.{◌+◌, ◌<◌, ◌≤◌, get_or, map, length, take, refl, sym, ap, ◌∙◌, arith}
use Rattle.std.proofs.lemmas.Bool.{ne_eqb}
use Rattle.std.proofs.lemmas.List.{map_push, take_all, take_more}
use Rattle.text_words.specs.Words.{Words}
use Rattle.job_lines.specs.Words.{without_return, is_skipped, keyword_of, as_plain, plan_word_of, ◌>>=◌}
use Rattle.std.specs.Option.{ok_or}
use Rattle.job_lines.specs.declared.kinds.JobKind.TheVariants.{Word}
use Rattle.job_lines.specs.declared.keywords.Keyword.{Keyword}
use Rattle.job_lines.specs.declared.keywords.Keyword.TheVariants as keywords
use Rattle.job_lines.specs.declared.keywords.PlanWord.{PlanWord}
use Rattle.job_lines.specs.declared.keywords.PlanWord.TheVariants as plan_words
use Rattle.job_lines.specs.Statements.{LineSays, plan_of, row, epc_row, marks_row, key_row, start_row, enclave_row, tcs_row, reg_row}
use Rattle.job_lines.specs.Statements.{expect_row, fail_row, drop_row, flip_row, replay_row, swap_row, plan_row, cpu_row}
use Rattle.job_lines.specs.Statements.{outload_row}
use Rattle.job_lines.specs.Statements.{outstore_row, statement_of}

-- ---- the carriage return

cond-cons : (v : Bool) (c : ℕ) (xs ys : List ℕ) → c ∷ cond v xs ys ≡ cond v (c ∷ xs) (c ∷ ys)
cond-cons true c xs ys = refl
cond-cons false c xs ys = refl

pub without_return-push : (b : ℕ) (front : List ℕ) → without_return (front ++ b ∷ []) ≡ cond (eqb b 13) front (front ++ b ∷ [])
without_return-push b [] = refl
without_return-push b (c ∷ []) = cond-cons (eqb b 13) c [] (b ∷ [])
without_return-push b (c ∷ d ∷ front) =
    ap (λ (xs : List ℕ). c ∷ xs) (without_return-push b (d ∷ front)) ∙ cond-cons (eqb b 13) c (d ∷ front) (d ∷ front ++ b ∷ [])

pub without_return-cut : (line front : List ℕ) (b : ℕ) → line ≡ front ++ b ∷ [] → b ≡ 13 → front ≡ without_return line
without_return-cut line front b e is = sym (ap without_return e ∙ without_return-push b front ∙ rw is refl)

pub without_return-kept : (line front : List ℕ) (b : ℕ) → line ≡ front ++ b ∷ [] → b ≢ 13 → line ≡ without_return line
without_return-kept line front b e is = e ∙ sym (ap without_return e ∙ without_return-push b front ∙ rw (ne_eqb b 13 is) refl)

pub without_return-nil : (line : List ℕ) → length line ≡ 0 → line ≡ without_return line
without_return-nil [] e = refl
without_return-nil (b ∷ line) e = absurd (omega arith)

-- ---- words one after the other, as a loop finds them

pub words-more : {A : Type 0} (now : A → List ℕ) (items more : List A) (word : A) (all : Words) (i : ℕ) → map now items ≡ take i all
    → more ≡ items ++ word ∷ []
    → i < length all → now word ≡ get_or all i (now word) → map now more ≡ take (i + 1) all
words-more now items more word all i so_far is lt here =
    rw is (map_push now items word ∙ ap (λ (front : Words). front ++ now word ∷ []) so_far ∙ ap (λ (w : List ℕ). take i all ++ w ∷ []) here
    ∙ sym (take_more all i (now word) lt))

pub words-done : {A : Type 0} (now : A → List ℕ) (items : List A) (all : Words) (i : ℕ) → map now items ≡ take i all → length all ≤ i
    → map now items ≡ all
words-done now items all i so_far le = so_far ∙ take_all i all le

-- ---- the first seven words tell what a line says

pub is_skipped-take : (words : Words) → is_skipped (take 7 words) ≡ is_skipped words
is_skipped-take [] = refl
is_skipped-take (word ∷ words) = refl

-- what is made of a word in its place, where it is one of the choices, is the same
bind-same : {K : Type 0} (o : Option K) (f g : K → LineSays) → ((k : K) → f k ≡ g k) → (ok_or o Word >>= f) ≡ (ok_or o Word >>= g)
bind-same None f g same = refl
bind-same (Some k) f g same = same k

plan_of-take : (word : PlanWord) (c d e f g : List ℕ) (rest : Words) → plan_of word (c ∷ d ∷ e ∷ f ∷ g ∷ []) ≡ plan_of word
    (c ∷ d ∷ e ∷ f ∷ g ∷ rest)
unfolding fail_row drop_row flip_row replay_row swap_row
plan_of-take plan_words.Fail c d e f g rest = refl
plan_of-take plan_words.Drop c d e f g rest = refl
plan_of-take plan_words.Flip c d e f g rest = refl
plan_of-take plan_words.Replay c d e f g rest = refl
plan_of-take plan_words.Swap c d e f g rest = refl

row-take : (has_cpu : Bool) (word : Keyword) (b c d e f g : List ℕ) (rest : Words)
    → row has_cpu word (b ∷ c ∷ d ∷ e ∷ f ∷ g ∷ []) ≡ row has_cpu word (b ∷ c ∷ d ∷ e ∷ f ∷ g ∷ rest)
unfolding as_plain epc_row marks_row key_row start_row enclave_row tcs_row reg_row expect_row plan_row cpu_row outload_row outstore_row
row-take has_cpu keywords.Epc b c d e f g rest = refl
row-take has_cpu keywords.Marks b c d e f g rest = refl
row-take has_cpu keywords.Key b c d e f g rest = refl
row-take has_cpu keywords.Start b c d e f g rest = refl
row-take has_cpu keywords.Enclave b c d e f g rest = refl
row-take has_cpu keywords.Tcs b c d e f g rest = refl
row-take has_cpu keywords.Reg b c d e f g rest = refl
row-take has_cpu keywords.Expect b c d e f g rest = refl
row-take has_cpu keywords.Cpu b c d e f g rest = refl
row-take has_cpu keywords.Enter b c d e f g rest = refl
row-take has_cpu keywords.Resume b c d e f g rest = refl
row-take has_cpu keywords.Exit b c d e f g rest = refl
row-take has_cpu keywords.Timer b c d e f g rest = refl
row-take has_cpu keywords.Load b c d e f g rest = refl
row-take has_cpu keywords.Xadd b c d e f g rest = refl
row-take has_cpu keywords.Set b c d e f g rest = refl
row-take has_cpu keywords.Plus b c d e f g rest = refl
row-take has_cpu keywords.OutLoad b c d e f g rest = refl
row-take has_cpu keywords.OutStore b c d e f g rest = refl
row-take true keywords.Store b c d e f g rest = refl
row-take false keywords.Store b c d e f g rest =
    bind-same (plan_word_of b) (λ word. plan_of word (c ∷ d ∷ e ∷ f ∷ g ∷ [])) (λ word. plan_of word (c ∷ d ∷ e ∷ f ∷ g ∷ rest))
    (λ word. plan_of-take word c d e f g rest)

pub statement_of-take : (has_cpu : Bool) (words : Words) → statement_of has_cpu (take 7 words) ≡ statement_of has_cpu words
unfolding statement_of
statement_of-take has_cpu [] = refl
statement_of-take has_cpu (a ∷ []) = refl
statement_of-take has_cpu (a ∷ b ∷ []) = refl
statement_of-take has_cpu (a ∷ b ∷ c ∷ []) = refl
statement_of-take has_cpu (a ∷ b ∷ c ∷ d ∷ []) = refl
statement_of-take has_cpu (a ∷ b ∷ c ∷ d ∷ e ∷ []) = refl
statement_of-take has_cpu (a ∷ b ∷ c ∷ d ∷ e ∷ f ∷ []) = refl
statement_of-take has_cpu (a ∷ b ∷ c ∷ d ∷ e ∷ f ∷ g ∷ rest) =
    bind-same (keyword_of a) (λ word. row has_cpu word (b ∷ c ∷ d ∷ e ∷ f ∷ g ∷ []))
    (λ word. row has_cpu word (b ∷ c ∷ d ∷ e ∷ f ∷ g ∷ rest)) (λ word. row-take has_cpu word b c d e f g rest)
