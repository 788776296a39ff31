-- The table of state save pages before a job's first entry, made enclave by enclave and line by line.
use Rattle.std.proofs.Common.{◌≡◌, ℕ, zero, suc, ◌+◌, ◌<◌, ◌≤◌, ⊎_elim, List, [], ◌∷◌, ◌++◌, Option, Some}
use Rattle.std.proofs.Common.{None, length, map, get_or, slice_get, replicate, take, refl, sym, ap, subst, ◌∙◌, arith}
use Rattle.std.specs.Global.{Vec}
use Rattle.std.proofs.lemmas.Bool.{cases_eq, cases_lt}
use Rattle.std.proofs.lemmas.List.{get_or_append_left, get_or_past, get_or_push, length-map, length-replicate, length_push, map_push}
use Rattle.std.proofs.lemmas.List.{take_more}
use Rattle.job_grammar.specs.declared.jobs.EnclaveJob.{EnclaveJob}
use Rattle.job_grammar.specs.declared.jobs.PageLine.{PageLine}
use Rattle.job_grammar.specs.Jobs.{EnclaveView, lines_at, lines_in, tcs_line}
use Rattle.job_grammar.specs.inner.Jobs.{enclave_view}
use Rattle.job_grammar.proofs.ViewLaws.{views_more}
use Rattle.driver_tables.specs.inner.Counts.{enclave_places, last_end}
use Rattle.due_tables.specs.declared.tcs_turns.TcsTurn.{TcsTurn}
use Rattle.due_tables.specs.inner.TcsTurns.{IsNewTable, tcs_by}
use Rattle.due_tables.specs.inner.TcsPlaces.{or_line, turns_in}
use Rattle.due_tables.proofs.TableLaws.{line_more}

-- ---- lists

got_before : {X : Type 0} (xs : List X) (x : X) (k : ℕ) → k < length xs → slice_get (xs ++ x ∷ []) k ≡ slice_get xs k
got_before [] x k low = absurd (omega (arith, low))
got_before (y ∷ ys) x zero low = refl
got_before (y ∷ ys) x (suc k) low = got_before ys x k (omega (arith, low))

got_last : {X : Type 0} (xs : List X) (x : X) → slice_get (xs ++ x ∷ []) (length xs) ≡ Some x
got_last [] x = refl
got_last (y ∷ ys) x = got_last ys x

got_past : {X : Type 0} (xs : List X) (k : ℕ) → length xs ≤ k → slice_get xs k ≡ None
got_past [] k high = refl
got_past (x ∷ xs) zero high = absurd (omega (arith, high))
got_past (x ∷ xs) (suc k) high = got_past xs k (omega (arith, high))

-- ---- enclaves

none_of : (arrays n : ℕ) → get_or (replicate arrays None) n None ≡ tcs_by (tcs_line [] n) 0
none_of zero n = refl
none_of (suc arrays) zero = refl
none_of (suc arrays) (suc n) = none_of arrays n

first_at : (arrays e n : ℕ) → get_or (get_or (replicate arrays None ∷ []) e []) n None ≡ tcs_by (tcs_line (lines_at [] e) n) 0
first_at arrays zero n = none_of arrays n
first_at arrays (suc e) n = refl

pub table_first : (arrays : ℕ) → IsNewTable arrays [] (replicate arrays None ∷ [])
table_first arrays = record {
  places = ap (λ n. n ∷ []) (length-replicate arrays None);
  turns = λ g. first_at arrays g.enclave g.number;
}

abbrev is_row : List (Option TcsTurn) → List PageLine → Type 0
is_row row ls = (n : ℕ) → get_or row n None ≡ tcs_by (tcs_line ls n) 0

none_at : (n : ℕ) → get_or [] n None ≡ tcs_by (tcs_line [] n) 0
none_at n = refl

rows_more : (es : List EnclaveView) (x : EnclaveView) (t : List (List (Option TcsTurn))) (row : List (Option TcsTurn))
    → length t ≡ length es + 1 → ((e : ℕ) → is_row (get_or t e []) (lines_at es e)) → is_row row x.lines
    → (e : ℕ) → is_row (get_or (t ++ row ∷ []) e []) (lines_at (es ++ x ∷ []) e)
rows_more es x t row len is new zero n =
    ap (λ r. get_or r n None) (get_or_append_left t (row ∷ []) [] zero (omega (arith, len))) ∙ is zero n
rows_more es x t row len is new (suc e) n = ⊎_elim before (λ high. ⊎_elim (there high) (past high) (cases_eq e (length es))) (cases_lt e
    (length es))
  where
    before : e < length es → get_or (get_or (t ++ row ∷ []) (suc e) []) n None ≡ tcs_by (tcs_line (lines_at (es ++ x ∷ []) (suc e)) n) 0
    before low =
        ap (λ r. get_or r n None) (get_or_append_left t (row ∷ []) [] (suc e) (omega (arith, len, low))) ∙ is (suc e) n
        ∙ ap (λ o. tcs_by (tcs_line (lines_in o) n) 0) (sym (got_before es x e low))

    there : length es ≤ e → e ≡ length es
        → get_or (get_or (t ++ row ∷ []) (suc e) []) n None ≡ tcs_by (tcs_line (lines_at (es ++ x ∷ []) (suc e)) n) 0
    there high same =
        ap (λ r. get_or r n None) (get_or_push t row [] (suc e) (omega (arith, len, same))) ∙ new n
        ∙ ap (λ o. tcs_by (tcs_line (lines_in o) n) 0) (sym (ap (slice_get (es ++ x ∷ [])) same ∙ got_last es x))

    past : length es ≤ e → (e ≡ length es → ⊥)
        → get_or (get_or (t ++ row ∷ []) (suc e) []) n None ≡ tcs_by (tcs_line (lines_at (es ++ x ∷ []) (suc e)) n) 0
    past high other =
        let longer = length_push t row in
        let more = length_push es x in
        ap (λ r. get_or r n None) (get_or_past (t ++ row ∷ []) (suc e) [] (omega (arith, len, longer, high, other)))
        ∙ ap (λ o. tcs_by (tcs_line (lines_in o) n) 0) (sym (got_past (es ++ x ∷ []) e (omega (arith, more, high, other))))

pub table_more : (arrays : ℕ) (es : List EnclaveView) (x : EnclaveView) (t : List (List (Option TcsTurn))) (row : List (Option TcsTurn))
    → IsNewTable arrays es t → length row ≡ enclave_places x → is_row row x.lines → IsNewTable arrays (es ++ x ∷ []) (t ++ row ∷ [])
table_more arrays es x t row is sized new = record {
  places = map_push length t row ∙ ap (λ ks. ks ++ length row ∷ []) is.places
      ∙ ap (λ k. arrays ∷ (map enclave_places es ++ k ∷ [])) sized ∙ ap (λ ks. arrays ∷ ks) (sym (map_push enclave_places es x));
  turns = λ g. rows_more es x t row len (λ e n. is.turns (record { enclave = e; number = n })) new g.enclave g.number;
}
  where
    len : length t ≡ length es + 1
    len = sym (length-map t length) ∙ ap length is.places ∙ counted
      where
        counted : length (arrays ∷ map enclave_places es) ≡ length es + 1
        counted = let k = length-map es enclave_places in omega (arith, k)

-- ---- lines

-- no line was taken yet
pub none_taken : (count n : ℕ) → get_or (replicate count None) n None ≡ tcs_by (tcs_line [] n) 0
none_taken zero n = refl
none_taken (suc count) zero = refl
none_taken (suc count) (suc n) = none_taken count n

-- one line more was taken
pub taken_more : (ls : List PageLine) (i : ℕ) (d : PageLine) (old new : List (Option TcsTurn)) → i < length ls
    → ((n : ℕ) → get_or new n None ≡ or_line (get_or old n None) (get_or ls i d) n)
    → ((n : ℕ) → get_or old n None ≡ tcs_by (tcs_line (take i ls) n) 0)
    → (n : ℕ) → get_or new n None ≡ tcs_by (tcs_line (take (i + 1) ls) n) 0
taken_more ls i d old new low is before n =
    is n ∙ ap (λ o. or_line o (get_or ls i d) n) (before n) ∙ sym (line_more (take i ls) (get_or ls i d) n)
    ∙ ap (λ xs. tcs_by (tcs_line xs n) 0) (sym (take_more ls i d low))

-- one enclave more was taken
pub table_pushed : (arrays : ℕ) (enclaves : List EnclaveJob) (i : ℕ) (x : EnclaveJob) (pages new : List (Vec (Option TcsTurn)))
    (v : Vec (Option TcsTurn)) → i < length enclaves → x ≡ get_or enclaves i x
    → IsNewTable arrays (map enclave_view (take i enclaves)) (map turns_in pages) → length v.items ≡ last_end x.lines.items
    → is_row v.items x.lines.items → new ≡ pages ++ v ∷ []
    → IsNewTable arrays (map enclave_view (take (i + 1) enclaves)) (map turns_in new)
table_pushed arrays enclaves i x pages new v low at is sized row pushed =
    subst (λ es. IsNewTable arrays es (map turns_in new)) (sym (views_more enclave_view enclaves i x low at))
    (subst (IsNewTable arrays (map enclave_view (take i enclaves) ++ enclave_view x ∷ []))
    (sym (ap (map turns_in) pushed ∙ map_push turns_in pages v))
    (table_more arrays (map enclave_view (take i enclaves)) (enclave_view x) (map turns_in pages) v.items is sized row))
