-- The lines of enclaves and processors, one number after another.
use Rattle.std.proofs.Common.{Option, refl, ap₂, reverse, take}
use Rattle.std.proofs.Common.{◌≡◌, ℕ, zero, suc, ◌+◌, ◌<◌, ◌≤◌, List, [], ◌∷◌, ◌++◌, length, get_or, sym, ap, subst, ◌∙◌}
use Rattle.std.proofs.Common.{add-one, arith}
use Rattle.std.specs.List.{flat_map}
use Rattle.std.proofs.lemmas.List.{append-nil, append_assoc, take_all}
use Rattle.std.proofs.lemmas.List.Concat.{flat_map-append}
use Rattle.sgx_rules.specs.declared.entries.Entry.{Entry}
use Rattle.job_grammar.specs.Jobs.{JobView}
use Rattle.script_rules.specs.Script.{numbers_from}
use Rattle.text_words.specs.Words.{Words, line_text}
use Rattle.run_replies.specs.inner.Gathered.{IsReplies, line_at, lines_of}
use Rattle.run_replies.specs.OutText.{cpu_lines, enclave_lines, out_of}
use Rattle.run_replies.proofs.EntryLaws.{Gathers}
use Rattle.run_replies.specs.declared.replies.Ending.{Ending}
use Rattle.run_replies.specs.declared.replies.Replies.{Replies}

numbers_more : (first count : ℕ) → numbers_from first (count + 1) ≡ numbers_from first count ++ (count + first) ∷ []
numbers_more first count = rw add-one (by_count first count)
  where
    by_count : (first count : ℕ) → numbers_from first (suc count) ≡ numbers_from first count ++ (count + first) ∷ []
    by_count first zero = ap (λ (n : ℕ). n ∷ []) {x = first} {y = 0 + first} (omega arith)
    by_count first (suc count) =
        let e : count + (first + 1) ≡ suc count + first = omega arith in
        ap (λ (ns : List ℕ). first ∷ ns) (by_count (first + 1) count ∙ ap (λ (n : ℕ). numbers_from (first + 1) count ++ n ∷ []) e)

-- the lines of the numbers from `first` on
lines_more : (lines : ℕ → List Words) (text : List ℕ) (first count : ℕ)
    → (text ++ flat_map line_text (flat_map lines (numbers_from first count))) ++ flat_map line_text (lines (count + first)) ≡ text
    ++ flat_map line_text (flat_map lines (numbers_from first (count + 1)))
lines_more lines text first count =
    let before = flat_map lines (numbers_from first count) in
    let more : before ++ lines (count + first) ≡ flat_map lines (numbers_from first (count + 1)) =
    ap (λ (ls : List Words). before ++ ls) (sym (append-nil (lines (count + first))))
    ∙ sym (flat_map-append lines (numbers_from first count) ((count + first) ∷ []))
    ∙ ap (flat_map lines) (sym (numbers_more first count))
    in
    append_assoc text (flat_map line_text before) (flat_map line_text (lines (count + first)))
    ∙ ap (λ (t : List ℕ). text ++ t) (sym (flat_map-append line_text before (lines (count + first))))
    ∙ ap (λ (ls : List Words). text ++ flat_map line_text ls) more

pub enclaves_more : (text : List ℕ) (endings : List (Option Ending)) (count : ℕ)
    → (text ++ flat_map line_text (flat_map (line_at endings) (numbers_from 1 count)))
    ++ flat_map line_text (line_at endings (count + 1)) ≡ text
    ++ flat_map line_text (flat_map (line_at endings) (numbers_from 1 (count + 1)))
enclaves_more text endings count = lines_more (line_at endings) text 1 count

-- lines that are alike for so many numbers
same_lines : (f g : ℕ → List Words) (first count : ℕ) → ((k : ℕ) → k < count → f (k + first) ≡ g (k + first))
    → flat_map f (numbers_from first count) ≡ flat_map g (numbers_from first count)
same_lines f g first zero same = refl
same_lines f g first (suc count) same =
    ap₂ (λ (xs ys : List Words). xs ++ ys) (subst (λ n. f n ≡ g n) {x = 0 + first} {y = first} (omega arith) (same 0 (omega arith)))
    (same_lines f g (first + 1) count
    (λ k low. subst (λ n. f n ≡ g n) {x = suc k + first} {y = k + (first + 1)} (omega arith) (same (suc k) (omega (arith, low)))))

-- the lines of processors are those of their numbers
all_lines : (past : List Entry) (rs : List Replies) (first : ℕ)
    → ((k : ℕ) (d : Replies) → k < length rs → IsReplies past (k + first) (get_or rs k d))
    → flat_map lines_of rs ≡ flat_map line_text (flat_map (cpu_lines past) (numbers_from first (length rs)))
all_lines past [] first each = refl
all_lines past (r ∷ rs) first each =
    ap₂ (λ (xs ys : List ℕ). xs ++ ys)
    (subst (λ n. IsReplies past n r) {x = 0 + first} {y = first} (omega arith) (each 0 r (omega arith))).lines
    (all_lines past rs (first + 1)
    (λ k d low. subst (λ n. IsReplies past n (get_or rs k d)) {x = suc k + first} {y = k + (first + 1)} (omega arith)
    (each (suc k) d (omega (arith, low)))))
    ∙ sym (flat_map-append line_text (cpu_lines past first) (flat_map (cpu_lines past) (numbers_from (first + 1) (length rs))))

-- ---- the whole output

pub out_gathered : (j : JobView) (entries : List Entry) (i : ℕ) (endings : List (Option Ending)) (replies : List Replies)
    (none enclaves all : List ℕ) (es : List (Option Ending)) (rs : List Replies) (count : ℕ) → length entries ≤ i
    → Gathers (length j.enclaves) (length j.scripts) (reverse (take i entries)) endings replies → es ≡ endings → rs ≡ replies → none ≡ []
    → enclaves ≡ none ++ flat_map line_text (flat_map (line_at es) (numbers_from 1 count)) → count ≡ length j.enclaves
    → all ≡ enclaves ++ flat_map lines_of rs → all ≡ out_of j (reverse entries)
unfolding out_of
out_gathered j entries i endings replies none enclaves all es rs count end has same_endings same_replies empty first many last =
    let past : List Entry = reverse entries in
    let seen : reverse (take i entries) ≡ past = ap reverse (take_all i entries end) in
    let whole : Gathers (length j.enclaves) (length j.scripts) past endings replies =
    subst (λ (past : List Entry). Gathers (length j.enclaves) (length j.scripts) past endings replies) seen has in
    let wide = whole.wide in
    let ended : flat_map (line_at endings) (numbers_from 1 (length j.enclaves)) ≡ flat_map (enclave_lines past)
    (numbers_from 1 (length j.enclaves)) =
    same_lines (line_at endings) (enclave_lines past) 1 (length j.enclaves)
    (λ k low. whole.ended (k + 1) (omega (arith, low, wide))) in
    let replied : flat_map lines_of replies ≡ flat_map line_text (flat_map (cpu_lines past) (numbers_from 0 (length j.scripts))) =
    all_lines past replies 0
    (λ k d low. subst (λ n. IsReplies past n (get_or replies k d)) {x = k} {y = k + 0} (omega arith) (whole.replied k d low))
    ∙ ap (λ n. flat_map line_text (flat_map (cpu_lines past) (numbers_from 0 n))) whole.many in
    let one : enclaves ≡ flat_map line_text (flat_map (enclave_lines past) (numbers_from 1 (length j.enclaves))) =
    first
    ∙ ap (λ xs. xs ++ flat_map line_text (flat_map (line_at es) (numbers_from 1 count))) empty
    ∙ ap (λ (xs : List (Option Ending)). flat_map line_text (flat_map (line_at xs) (numbers_from 1 count))) same_endings
    ∙ ap (λ n. flat_map line_text (flat_map (line_at endings) (numbers_from 1 n))) many
    ∙ ap (flat_map line_text) ended in
    last
    ∙ ap₂ (λ (xs ys : List ℕ). xs ++ ys) one (ap (flat_map lines_of) same_replies ∙ replied)
    ∙ sym (flat_map-append line_text (flat_map (enclave_lines past) (numbers_from 1 (length j.enclaves)))
    (flat_map (cpu_lines past) (numbers_from 0 (length j.scripts))))
