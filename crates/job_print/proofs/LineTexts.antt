-- The lines of a text that says some things, and what reading one of them gives.
use Rattle.std.proofs.Common.{◌≡◌, ℕ, ◌<◌, ◌≤◌, ◌||◌, Bool, true, false, eqb, ltb, List, [], ◌∷◌, ◌++◌}
use Rattle.std.proofs.Common.{None, Ok, length, map, flat_map, All, refl, ap, ◌∙◌, arith, inl, inr, cond}
use Rattle.std.specs.List.{AllByRecursion, join_with_byte, list_all, slice_split}
use Rattle.std.specs.Str.{IsAscii, is_utf8}
use Rattle.std.proofs.lemmas.Bool.{and_parts, cases_lt, ltb-true, ne_eqb, not-false, or_parts}
use Rattle.std.proofs.lemmas.Str.{IsUtf8-from_ascii, is_utf8-from_IsUtf8}
use Rattle.std.proofs.lemmas.List.{get_or_past}
use Rattle.std.proofs.lemmas.List.Elements.{All-append, All-cons, All-get_or, All-head, All-nil, All-tail, All-weaker}
use Rattle.std.proofs.lemmas.List.Splits.{slice_split_at, slice_split_none}
use Rattle.text_words.specs.Words.{Words, line_text}
use Rattle.text_words.proofs.Splits.{AreWords, filter-parts, parts_of, split-lines}
use Rattle.job_lines.specs.declared.statements.Statement.{Statement}
use Rattle.job_lines.specs.declared.statements.Statement.TheVariants as says
use Rattle.job_lines.specs.declared.statements.Operation.TheVariants as ops
use Rattle.job_lines.specs.declared.statements.Operation.{Operation}
use Rattle.job_lines.specs.Words.{is_skipped, lines_of, without_empty_last, without_return, words_of}
use Rattle.job_text.specs.Drafts.{Draft, has_some, keep}
use Rattle.sgx_types.specs.Cases.{first_of_row}
use Rattle.job_text.specs.Faults.{faults, is_out_of_order}
use Rattle.job_text.specs.inner.Faults.{HasNoFault}
use Rattle.job_text.specs.Reading.{read_line}
use Rattle.job_print.specs.JobText.{statement_text, statement_words, statements_text}
use Rattle.job_print.proofs.Printable.{IsPrintable}
use Rattle.job_print.proofs.Plain.{ArePlain, is_plain}
use Rattle.job_print.proofs.Spellings.{IsSaidBy, said, statement-plain}

-- a byte of a line: a space, or ASCII above it
abbrev pub IsInLine : ℕ → Type 0
IsInLine b = (32 ≤ b) × (b < 128)

-- a byte of a word
abbrev pub IsInWord : ℕ → Type 0
IsInWord b = (32 < b) × (b < 128)

-- ---- the bytes of words

bytes-in : (bytes : List ℕ) → list_all (ltb 32) bytes ≡ true → list_all (λ c. ltb c 128) bytes ≡ true → All IsInWord bytes
bytes-in [] above below = All-nil IsInWord
bytes-in (b ∷ bytes) above below =
    let p = and_parts _ _ above in
    let q = and_parts _ _ below in
    All-cons IsInWord b bytes (ltb-true 32 b p.0, ltb-true b 128 q.0) (bytes-in bytes p.1 q.1)

word-in : (word : List ℕ) → is_plain word ≡ true → All IsInWord word
word-in word plain =
    let p = and_parts _ _ plain in let q = and_parts _ _ p.0 in bytes-in word q.1 p.1

line-in : (words : Words) → ArePlain words → All IsInLine (join_with_byte 32 words)
line-in [] plain = All-nil IsInLine
line-in (word ∷ []) plain = All-weaker IsInWord IsInLine (λ b h. (omega (arith, h.0), h.1)) word (word-in word plain.0)
line-in (word ∷ next ∷ words) plain =
    All-append IsInLine word (32 ∷ join_with_byte 32 (next ∷ words))
    (All-weaker IsInWord IsInLine (λ b h. (omega (arith, h.0), h.1)) word (word-in word plain.0))
    (All-cons IsInLine 32 (join_with_byte 32 (next ∷ words)) (omega arith, omega arith) (line-in (next ∷ words) plain.1))

pub are-words : (words : Words) → ArePlain words → AreWords words
are-words [] plain = tt
are-words (word ∷ words) plain = ((and_parts _ _ plain.0).0, are-words words plain.1)

-- ---- a line

line-ascii : (line : List ℕ) → All IsInLine line → IsAscii line
line-ascii line all i =
    elim (cases_lt i (length line)) [
      | inl lt ↦ (let p = All-get_or IsInLine line i 0 lt all in p.1)
      | inr past ↦ rw (get_or_past line i 0 past) (omega arith)
    ]

line-utf8 : (line : List ℕ) → All IsInLine line → is_utf8 line ≡ true
line-utf8 line all = is_utf8-from_IsUtf8 line (IsUtf8-from_ascii line (line-ascii line all))

line-kept : (line : List ℕ) → All IsInLine line → without_return line ≡ line
line-kept [] all = refl
line-kept (b ∷ []) all =
    let p = All-head IsInLine b [] all in rw (ne_eqb b 13 (λ e. omega (arith, p.0, e))) refl
line-kept (b ∷ c ∷ line) all = ap (λ (xs : List ℕ). b ∷ xs) (line-kept (c ∷ line) (All-tail IsInLine b (c ∷ line) all))

-- ---- the words of a line

abbrev pub is_gap : ℕ → Bool
is_gap b = eqb b 32 || eqb b 9

gap-free : (word : List ℕ) → All IsInWord word → All (λ b. is_gap b ≡ false) word
gap-free word all =
    All-weaker IsInWord (λ b. is_gap b ≡ false)
    (λ b h. rw (ne_eqb b 32 (λ e. omega (arith, h.0, e)), ne_eqb b 9 (λ e. omega (arith, h.0, e))) refl) word all

split-gaps : (words : Words) → ArePlain words → slice_split is_gap (join_with_byte 32 words) ≡ parts_of words
split-gaps [] plain = refl
split-gaps (word ∷ []) plain = slice_split_none is_gap word (gap-free word (word-in word plain.0))
split-gaps (word ∷ next ∷ words) plain =
    slice_split_at is_gap word 32 (join_with_byte 32 (next ∷ words)) (gap-free word (word-in word plain.0)) refl
    ∙ ap (λ (parts : Words). word ∷ parts) (split-gaps (next ∷ words) plain.1)

pub words-back : (words : Words) → ArePlain words → words_of (join_with_byte 32 words) ≡ words
unfolding words_of
words-back words plain = rw (split-gaps words plain) (filter-parts words (are-words words plain))

-- ---- no line of a job is skipped

op-stands : (op : Operation) → is_skipped (statement_words (says.Operation op)) ≡ false
op-stands (ops.Enter tcs) = refl
op-stands (ops.Resume tcs) = refl
op-stands ops.Exit = refl
op-stands ops.Timer = refl
op-stands (ops.Load off) = refl
op-stands (ops.Store off value) = refl
op-stands (ops.Xadd off value) = refl
op-stands (ops.Set value) = refl
op-stands (ops.Plus value) = refl
op-stands (ops.OutLoad enclave off) = refl
op-stands (ops.OutStore enclave off value) = refl

stands : (s : Statement) → is_skipped (statement_words s) ≡ false
stands (says.Epc frames) = refl
stands (says.Marks low high scan) = refl
stands (says.Key key) = refl
stands (says.Start start) = refl
stands (says.Enclave enclave base size) = refl
stands (says.Tcs page ossa nssa plain) = refl
stands (says.Reg first count perm value plain) = refl
stands (says.Expect digest) = refl
stands (says.Plan plan) = refl
stands (says.Cpu number) = refl
stands (says.Operation op) = op-stands op

-- ---- a line is read

none-first : (d : Draft) (s : Statement) → HasNoFault d s → first_of_row (faults d s) ≡ None
unfolding faults
none-first d s h = rw (h.order, h.once, h.range, h.few, h.stands, h.own) refl

said-by : (d : Draft) (s : Statement) → HasNoFault d s → IsSaidBy (has_some d.scripts) s
unfolding is_out_of_order
said-by d (says.Epc frames) h = tt
said-by d (says.Marks low high scan) h = tt
said-by d (says.Key key) h = tt
said-by d (says.Start start) h = tt
said-by d (says.Enclave enclave base size) h = tt
said-by d (says.Tcs page ossa nssa plain) h = tt
said-by d (says.Reg first count perm value plain) h = tt
said-by d (says.Expect digest) h = tt
said-by d (says.Plan plan) h = no-later (has_some d.scripts) _ (or_parts _ _ h.order).0
  where
    no-later : (b : Bool) (n : ℕ) → ltb 3 (cond b 4 n) ≡ false → b ≡ false
    no-later true n e = absurd cc
    no-later false n e = refl
said-by d (says.Cpu number) h = tt
said-by d (says.Operation op) h = not-false (has_some d.scripts) (or_parts _ _ h.order).1

unfoldable pub line_of : Statement → List ℕ
line_of s = join_with_byte 32 (statement_words s)

pub line-read : (n : ℕ) (d : Draft) (s : Statement) → IsPrintable s → HasNoFault d s
    → read_line n d (without_return (line_of s)) ≡ Ok (keep n d s)
unfolding read_line line_of
line-read n d s fits h =
    let plain = statement-plain s fits in
    let all = line-in (statement_words s) plain in
    rw (
      line-kept (join_with_byte 32 (statement_words s)) all,
      words-back (statement_words s) plain,
      stands s,
      line-utf8 (join_with_byte 32 (statement_words s)) all,
      words-back (statement_words s) plain,
      said (has_some d.scripts) s fits (said-by d s h),
      none-first d s h,
    ) refl

-- ---- the lines of a text

without-last : (lines : List (List ℕ)) → without_empty_last (lines ++ [] ∷ []) ≡ lines
without-last [] = refl
without-last (line ∷ []) = refl
without-last (line ∷ next ∷ lines) = ap (λ (xs : List (List ℕ)). line ∷ xs) (without-last (next ∷ lines))

text-words : (all : List Statement) → statements_text all ≡ flat_map line_text (map statement_words all)
unfolding statement_text
text-words [] = refl
text-words (s ∷ all) = ap (λ (text : List ℕ). line_text (statement_words s) ++ text) (text-words all)

all-words : (all : List Statement) → AllByRecursion IsPrintable all → AllByRecursion AreWords (map statement_words all)
all-words [] fits = tt
all-words (s ∷ all) fits = (are-words (statement_words s) (statement-plain s fits.0), all-words all fits.1)

map-twice : (all : List Statement) → map (join_with_byte 32) (map statement_words all) ≡ map line_of all
unfolding line_of
map-twice [] = refl
map-twice (s ∷ all) = ap (λ (xs : List (List ℕ)). join_with_byte 32 (statement_words s) ∷ xs) (map-twice all)

pub lines-back : (all : List Statement) → AllByRecursion IsPrintable all → lines_of (statements_text all) ≡ map line_of all
unfolding lines_of
lines-back all fits =
    ap without_empty_last
    (ap (slice_split (λ b. eqb b 10)) (text-words all) ∙ split-lines (map statement_words all) (all-words all fits))
    ∙ without-last (map (join_with_byte 32) (map statement_words all))
    ∙ map-twice all
