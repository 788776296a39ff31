-- What a written place of the tables, and a written processor, do to the memory that the parts make.
use Rattle.std.proofs.Common.{ℕ, zero, suc, ◌≡◌, ◌≤◌, ◌<◌, ◌==◌, ◌&&◌, ◌⊎◌, inl, inr, refl, sym, ap}
use Rattle.std.proofs.Common.{◌∙◌, cond, Bool, true, false, Option, Some, None, is_some, List, [], ◌∷◌, length, set, get_or}
use Rattle.std.proofs.Common.{replicate}
use Rattle.std.proofs.lemmas.Bool.{cond_both, cases_lt, eqb-true, false≢true}
use Rattle.std.proofs.lemmas.List.{set_past, get_or_past, length-set}
use Rattle.sgx_types.specs.declared.names.Page.{Page}
use Rattle.sgx_types.specs.Pages.{same_page, page_at}
use Rattle.sgx_rules.specs.Flat.{fresh, rewritten, with_words, with_busy, with_cpu}
use Rattle.flat_machine.specs.declared.table.PlainPage.{PlainPage}
use Rattle.flat_machine.specs.declared.flat.Processor.{Processor}
use Rattle.flat_machine.specs.declared.flat.Enclave.{Enclave}
use Rattle.flat_machine.specs.inner.Parts.{FlatParts, look, with_slot, with_word, with_busy_mark, page_of, busy_of, cpu_of}
use Rattle.flat_machine.specs.inner.Parts.{memory_of, idle}
use Rattle.flat_machine.specs.inner.Parts.{enclave_of}
use Rattle.sgx_types.proofs.Pages.{same_pages}
use Rattle.sgx_types.proofs.Truths.{eqb-swap}
use Rattle.sgx_types.proofs.Lists.{get_or-set_if, get_or-like}

-- a written place, read at each page
pub slot_written : (tables : List (List (Option PlainPage))) (e n : ℕ) (v : Option PlainPage) → e < length tables
    → n < length (get_or tables e []) → (q : Page)
    → look (with_slot tables e n v) q ≡ cond (same_page q (page_at e n)) v (look tables q)
slot_written tables e n v low in_table q = by_enclave (e == q.enclave) refl
  where
    by_enclave : (b : Bool) → (e == q.enclave) ≡ b
        → get_or (get_or (set tables e (set (get_or tables e []) n v)) q.enclave []) q.number None ≡ cond
        ((q.enclave == e) && (q.number == n)) v (get_or (get_or tables q.enclave []) q.number None)
    by_enclave true same =
        let is : e ≡ q.enclave = eqb-true e q.enclave same in
        rw (
          get_or-set_if tables e q.enclave (set (get_or tables e []) n v) [] low,
          same,
          sym (eqb-swap e q.enclave)
              ∙ same,
          get_or-set_if (get_or tables e []) n q.number v None in_table,
          eqb-swap n q.number,
        )
        (ap (λ k. cond (q.number == n) v (get_or (get_or tables k []) q.number None)) is)
    by_enclave false other =
        rw (get_or-set_if tables e q.enclave (set (get_or tables e []) n v) [] low, other, sym (eqb-swap e q.enclave) ∙ other) refl

-- a page changed in its place, where it is there
pub slot_changed : (tables : List (List (Option PlainPage))) (e n : ℕ) (f : Option PlainPage → Option PlainPage) → f None ≡ None
    → (q : Page)
    → look (with_slot tables e n (f (look tables (page_at e n)))) q ≡ cond (same_page q (page_at e n)) (f (look tables q)) (look tables q)
slot_changed tables e n f none q = by_place (cases_lt e (length tables)) (cases_lt n (length (get_or tables e [])))
  where
    v : Option PlainPage
    v = f (look tables (page_at e n))

    -- where nothing is there, nothing is written
    absent : look tables (page_at e n) ≡ None → with_slot tables e n (f (look tables (page_at e n))) ≡ tables
        → look (with_slot tables e n (f (look tables (page_at e n)))) q ≡ cond (same_page q (page_at e n)) (f (look tables q))
        (look tables q)
    absent is same =
        ap (λ ts. look ts q) same
        ∙ cond_both (same_page q (page_at e n)) (f (look tables q)) (look tables q) (λ x. look tables q ≡ x)
        (λ here. let there : look tables q ≡ None = ap (λ g. look tables g) (same_pages q (page_at e n) here) ∙ is in
        there ∙ sym none ∙ ap f (sym there)) (λ _. refl)

    set_row : (xs : List (List (Option PlainPage))) (i : ℕ) → set xs i (get_or xs i []) ≡ xs
    set_row [] i = refl
    set_row (x ∷ xs) zero = refl
    set_row (x ∷ xs) (suc i) = ap (λ rest. x ∷ rest) (set_row xs i)

    by_place : (e < length tables) ⊎ (length tables ≤ e) → (n < length (get_or tables e [])) ⊎ (length (get_or tables e []) ≤ n)
        → look (with_slot tables e n (f (look tables (page_at e n)))) q ≡ cond (same_page q (page_at e n)) (f (look tables q))
        (look tables q)
    by_place (inl low) (inl in_table) =
        slot_written tables e n (f (look tables (page_at e n))) low in_table q
        ∙ cond_both (same_page q (page_at e n)) (f (look tables q)) (look tables q)
        (λ x. cond (same_page q (page_at e n)) (f (look tables (page_at e n))) (look tables q) ≡ x)
        (λ here. rw here (ap (λ g. f (look tables g)) (sym (same_pages q (page_at e n) here)))) (λ other. rw other refl)
    by_place (inl low) (inr past) =
        absent (get_or_past (get_or tables e []) n None past)
        (ap (λ row. set tables e row) (set_past (get_or tables e []) n (f (look tables (page_at e n))) past) ∙ set_row tables e)
    by_place (inr out) place =
        absent (ap (λ row. get_or row n None) (get_or_past tables e [] out))
        (set_past tables e (set (get_or tables e []) n (f (look tables (page_at e n)))) out)

-- as many places as before
pub slot_lengths : (tables : List (List (Option PlainPage))) (e n : ℕ) (v : Option PlainPage) (k : ℕ)
    → length (get_or (with_slot tables e n v) k []) ≡ length (get_or tables k [])
slot_lengths tables e n v k = by_place (cases_lt e (length tables))
  where
    by_place : (e < length tables) ⊎ (length tables ≤ e)
        → length (get_or (set tables e (set (get_or tables e []) n v)) k []) ≡ length (get_or tables k [])
    by_place (inl low) =
        rw (get_or-set_if tables e k (set (get_or tables e []) n v) [] low)
        (cond_both (e == k) (set (get_or tables e []) n v) (get_or tables k []) (λ ys. length ys ≡ length (get_or tables k []))
        (λ same. length-set (get_or tables e []) n v ∙ ap (λ j. length (get_or tables j [])) (eqb-true e k same)) (λ _. refl))
    by_place (inr past) = ap (λ ys. length (get_or ys k [])) (set_past tables e (set (get_or tables e []) n v) past)

-- ---- the memory

word_column : (o : Option PlainPage) (i a : ℕ) → page_of (with_word o i a) ≡ rewritten (λ words. set words i a) (page_of o)
word_column None i a = refl
word_column (Some x) i a = refl

word_busy : (o : Option PlainPage) (i a : ℕ) → busy_of (with_word o i a) ≡ busy_of o
word_busy None i a = refl
word_busy (Some x) i a = refl

-- a written word
pub memory_word : (d : FlatParts) (e n i a : ℕ) → memory_of
    (record d { tables = with_slot d.tables e n (with_word (look d.tables (page_at e n)) i a) }) ≡ with_words (memory_of d) (page_at e n)
    (λ words. set words i a)
memory_word d e n i a = λ t. record (memory_of d) { pages = λ q. pages q t; is_busy = λ q. busy q t }
  where
    changed : (q : Page) → look (with_slot d.tables e n (with_word (look d.tables (page_at e n)) i a)) q ≡ cond (same_page q (page_at e n))
        (with_word (look d.tables q) i a) (look d.tables q)
    changed q = slot_changed d.tables e n (λ o. with_word o i a) refl q

    pages : (q : Page) → page_of (look (with_slot d.tables e n (with_word (look d.tables (page_at e n)) i a)) q) ≡ cond
        (same_page q (page_at e n)) (rewritten (λ words. set words i a) (page_of (look d.tables q))) (page_of (look d.tables q))
    pages q = ap page_of (changed q) ∙ (elim (same_page q (page_at e n))
        as (λ b. page_of (cond b (with_word (look d.tables q) i a) (look d.tables q)) ≡ cond b
        (rewritten (λ words. set words i a) (page_of (look d.tables q))) (page_of (look d.tables q))) [
          | true ↦ word_column (look d.tables q) i a
          | false ↦ refl
        ])

    busy : (q : Page) → busy_of (look (with_slot d.tables e n (with_word (look d.tables (page_at e n)) i a)) q) ≡ busy_of (look d.tables q)
    busy q = ap busy_of (changed q) ∙ (elim (same_page q (page_at e n))
        as (λ b. busy_of (cond b (with_word (look d.tables q) i a) (look d.tables q)) ≡ busy_of (look d.tables q)) [
          | true ↦ word_busy (look d.tables q) i a
          | false ↦ refl
        ])

mark_column : (o : Option PlainPage) (b : Bool) → page_of (with_busy_mark o b) ≡ page_of o
mark_column None b = refl
mark_column (Some x) b = refl

mark_busy : (o : Option PlainPage) (b : Bool) → (b ≡ true → is_some (page_of o) ≡ true) → busy_of (with_busy_mark o b) ≡ b
mark_busy None true h = absurd (false≢true (h refl))
mark_busy None false h = refl
mark_busy (Some x) b h = refl

-- a mark of a page that is there, or no mark
pub memory_mark : (d : FlatParts) (e n : ℕ) (b : Bool) → (b ≡ true → is_some ((memory_of d).pages (page_at e n)) ≡ true)
    → memory_of (record d { tables = with_slot d.tables e n (with_busy_mark (look d.tables (page_at e n)) b) }) ≡ with_busy (memory_of d)
    (page_at e n) b
memory_mark d e n b h = λ t. record (memory_of d) { pages = λ q. pages q t; is_busy = λ q. busy q t }
  where
    changed : (q : Page) → look (with_slot d.tables e n (with_busy_mark (look d.tables (page_at e n)) b)) q ≡ cond
        (same_page q (page_at e n)) (with_busy_mark (look d.tables q) b) (look d.tables q)
    changed q = slot_changed d.tables e n (λ o. with_busy_mark o b) refl q

    pages : (q : Page) → page_of (look (with_slot d.tables e n (with_busy_mark (look d.tables (page_at e n)) b)) q) ≡ page_of
        (look d.tables q)
    pages q = ap page_of (changed q) ∙ (elim (same_page q (page_at e n))
        as (λ s. page_of (cond s (with_busy_mark (look d.tables q) b) (look d.tables q)) ≡ page_of (look d.tables q)) [
          | true ↦ mark_column (look d.tables q) b
          | false ↦ refl
        ])

    busy : (q : Page) → busy_of (look (with_slot d.tables e n (with_busy_mark (look d.tables (page_at e n)) b)) q) ≡ cond
        (same_page q (page_at e n)) b (busy_of (look d.tables q))
    busy q = ap busy_of (changed q) ∙ by_test (same_page q (page_at e n)) refl
      where
        by_test : (s : Bool) → same_page q (page_at e n) ≡ s
            → busy_of (cond s (with_busy_mark (look d.tables q) b) (look d.tables q)) ≡ cond s b (busy_of (look d.tables q))
        by_test true same =
            mark_busy (look d.tables q) b (λ is. ap (λ g. is_some (page_of (look d.tables g))) (same_pages q (page_at e n) same) ∙ h is)
        by_test false other = refl

-- a written processor
pub memory_cpu : (d : FlatParts) (p : ℕ) (c : Processor) → p < length d.cpus
    → memory_of (record d { cpus = set d.cpus p c }) ≡ with_cpu (memory_of d) p (cpu_of c)
memory_cpu d p c low = λ t. record (memory_of d) { cpus = λ q. each q t }
  where
    each : (q : ℕ) → cpu_of (get_or (set d.cpus p c) q idle) ≡ cond (p == q) (cpu_of c) (cpu_of (get_or d.cpus q idle))
    each q =
        rw (get_or-set_if d.cpus p q c idle low)
        (elim (p == q) as (λ b. cpu_of (cond b c (get_or d.cpus q idle)) ≡ cond b (cpu_of c) (cpu_of (get_or d.cpus q idle)))
        [ true ↦ refl | false ↦ refl ])

-- nothing is built yet
pub memory_fresh : memory_of (record { enclaves = replicate 9 None; tables = replicate 9 []; cpus = replicate 16 idle }) ≡ fresh
memory_fresh = λ t. record {
  enclaves = λ e. ap enclave_of (get_or-like {X = Option Enclave} 9 e None) t;
  pages = λ q. ap page_of (nothing q) t;
  is_busy = λ q. ap busy_of (nothing q) t;
  cpus = λ p. ap cpu_of (get_or-like 16 p idle) t;
}
  where
    nothing : (q : Page) → look (replicate 9 []) q ≡ None
    nothing q = ap (λ (row : List (Option PlainPage)). get_or row q.number None) (get_or-like {X = List (Option PlainPage)} 9 q.enclave [])
