-- What the steps of the code do to the memory is what the rows of flat memory say.
use Rattle.std.proofs.Common.{ℕ, ◌≡◌, ◌≤◌, ◌<◌, ◌/◌, ◌==◌, not, ◌⊎◌, inl, inr, refl, sym, ap}
use Rattle.std.proofs.Common.{◌∙◌, arith, cond, Bool, true, false, Option, Some, None, is_some, List, [], length, set}
use Rattle.std.proofs.Common.{get_or, replicate}
use Rattle.std.proofs.lemmas.Bool.{cond_both, cases_lt, eqb-true, false≢true, ltb-true, leb-true}
use Rattle.std.proofs.lemmas.List.{get_or_past, nil_from_length}
use Rattle.sgx_types.specs.declared.names.Page.{Page}
use Rattle.sgx_types.specs.declared.names.Kind.{Kind}
use Rattle.sgx_types.specs.declared.names.Perm.{Perm}
use Rattle.sgx_types.specs.declared.lawful.PageInit.{PageInit}
use Rattle.sgx_types.specs.declared.lawful.PageInit.TheVariants as inits
use Rattle.sgx_types.specs.Pages.{same_page, page_at}
use Rattle.sgx_rules.specs.Table as table
use Rattle.sgx_types.specs.Lawful as limits
use Rattle.sgx_types.specs.Cases.{first_of_row}
use Rattle.sgx_rules.specs.Table.{create_row, add_row}
use Rattle.sgx_rules.specs.Flat.{settled, FlatMemory, FlatPage, FlatEnclave, open_frame, enclave_sight_of, as_initialised, initialised}
use Rattle.sgx_rules.specs.Flat.{with_enclave}
use Rattle.sgx_rules.specs.Flat.{with_page, with_busy, with_cpu, with_words, rewritten, left, is_inside_by}
use Rattle.flat_machine.specs.declared.table.PlainPage.{PlainPage}
use Rattle.flat_machine.specs.declared.flat.Enclave.{Enclave}
use Rattle.flat_machine.specs.inner.Parts.{FlatParts, look, with_slot, page_of, busy_of, enclave_of, memory_of, seat}
use Rattle.flat_machine.specs.inner.Whole.{page_count}
use Rattle.sgx_types.proofs.Pages.{same_pages}
use Rattle.sgx_rules.proofs.Rows.{none_holds}
use Rattle.sgx_types.proofs.Truths.{both_true, eqb-swap, neither, not_false}
use Rattle.sgx_types.proofs.Lists.{get_or-set_if, get_or-like}
use Rattle.flat_machine.proofs.Columns.{slot_written}

-- ---- init

-- a created enclave has its place
pub place_of : (enclaves : List (Option Enclave)) (e : ℕ) (x : FlatEnclave) → enclave_of (get_or enclaves e None) ≡ Some x
    → e < length enclaves
place_of enclaves e x is = by_place (cases_lt e (length enclaves))
  where
    by_place : (e < length enclaves) ⊎ (length enclaves ≤ e) → e < length enclaves
    by_place (inl low) = low
    by_place (inr past) = absurd (let none = ap enclave_of (get_or_past enclaves e None past) in cc (none, is))

pub memory_init : (d : FlatParts) (e : ℕ) (x : Enclave) → enclave_of (get_or d.enclaves e None) ≡ enclave_of (Some x)
    → memory_of (record d { enclaves = set d.enclaves e (Some (record x { is_init = true })) }) ≡ initialised (memory_of d) e
memory_init d e x is = λ t. record (memory_of d) { enclaves = λ n. each n t }
  where
    now : Enclave
    now = record x { is_init = true }

    each : (n : ℕ) → enclave_of (get_or (set d.enclaves e (Some (record x { is_init = true }))) n None) ≡ cond (n == e)
        (as_initialised (enclave_of (get_or d.enclaves n None))) (enclave_of (get_or d.enclaves n None))
    each n = rw (get_or-set_if d.enclaves e n (Some (record x { is_init = true })) None (place_of d.enclaves e _ is), eqb-swap e n)
        (by_test (n == e) refl)
      where
        by_test : (b : Bool) → (n == e) ≡ b
            → enclave_of (cond b (Some (record x { is_init = true })) (get_or d.enclaves n None)) ≡ cond b
            (as_initialised (enclave_of (get_or d.enclaves n None))) (enclave_of (get_or d.enclaves n None))
        by_test true same = sym (ap as_initialised (ap (λ k. enclave_of (get_or d.enclaves k None)) (eqb-true n e same) ∙ is))
        by_test false other = refl

-- ---- create

-- what the row of `create` shows
pub record Creates (enclaves : List (Option Enclave)) (e : ℕ) : Type 0 where
  pub numbered : e ≤ 8
  pub new : get_or enclaves e None ≡ None

no_enclave : (o : Option Enclave) → is_some (enclave_of o) ≡ false → o ≡ None
no_enclave None h = refl
no_enclave (Some x) h = cc

pub creates : (enclaves : List (Option Enclave)) (e base size : ℕ)
    → first_of_row (create_row e base size (is_some (enclave_of (get_or enclaves e None))) open_frame) ≡ None → Creates enclaves e
creates enclaves e base size allowed =
    let none = none_holds (create_row e base size (is_some (enclave_of (get_or enclaves e None))) open_frame) allowed in
    let range = neither (not (limits.is_enclave e)) (not (limits.is_lawful base size)) none.0 in
    record { numbered = leb-true _ _ (both_true _ _ (not_false _ range.0)).1; new = no_enclave (get_or enclaves e None) none.1.0 }

pub memory_created : (d : FlatParts) (e base size k : ℕ) → Creates d.enclaves e → length d.enclaves ≡ 9 → length d.tables ≡ 9
    → length (get_or d.tables e []) ≡ page_count (get_or d.enclaves e None)
    → memory_of (record d {
      enclaves = set d.enclaves e (Some (record { base = base; size = size; is_init = false }));
      tables = set d.tables e (replicate k None);
    }) ≡ with_enclave (memory_of d) e (record { base = base; size = size; is_init = false })
memory_created d e base size k creates places tables pages =
    λ t. record (memory_of d) { enclaves = λ n. each n t; pages = λ q. page_of (same q t); is_busy = λ q. busy_of (same q t) }
  where
    each : (n : ℕ) → enclave_of (get_or (set d.enclaves e (Some (record { base = base; size = size; is_init = false }))) n None) ≡ cond
        (n == e) (Some (record { base = base; size = size; is_init = false })) (enclave_of (get_or d.enclaves n None))
    each n =
        rw (
          get_or-set_if d.enclaves e n (Some (record { base = base; size = size; is_init = false })) None
              (omega (arith, creates.numbered, places)),
          eqb-swap e n,
        )
        (elim (n == e) as (λ b. enclave_of (cond b (Some (record { base = base; size = size; is_init = false })) (get_or d.enclaves n None))
        ≡ cond b (Some (record { base = base; size = size; is_init = false })) (enclave_of (get_or d.enclaves n None)))
        [ true ↦ refl | false ↦ refl ])

    empty : get_or d.tables e [] ≡ []
    empty = nil_from_length (get_or d.tables e []) (pages ∙ ap page_count creates.new)

    same : (q : Page) → look (set d.tables e (replicate k None)) q ≡ look d.tables q
    same q =
        rw (get_or-set_if d.tables e q.enclave (replicate k None) [] (omega (arith, creates.numbered, tables)))
        (cond_both (e == q.enclave) (replicate k None) (get_or d.tables q.enclave []) (λ row. get_or row q.number None ≡ look d.tables q)
        (λ here. get_or-like k q.number None ∙ sym (ap (λ (row : List (Option PlainPage)). get_or row q.number None)
        (ap (λ j. get_or d.tables j []) (sym (eqb-true e q.enclave here)) ∙ empty))) (λ _. refl))

-- ---- add

is_within_below : (size number : ℕ) (init : PageInit) → limits.is_within size number init ≡ true → number < size / 4096
is_within_below size number (inits.Words v) h = ltb-true _ _ h
is_within_below size number (inits.Tcs ossa nssa) h = ltb-true _ _ (both_true _ _ (both_true _ _ h).0).0

-- what the row of `add` shows: a place for the page, where nothing is
pub record Adds (d : FlatParts) (e number : ℕ) : Type 0 where
  pub place : e < length d.enclaves
  pub within : number < page_count (get_or d.enclaves e None)
  pub new : look d.tables (page_at e number) ≡ None

no_page : (o : Option PlainPage) → is_some (page_of o) ≡ false → o ≡ None
no_page None h = refl
no_page (Some x) h = cc

pub adds : (d : FlatParts) (e number : ℕ) (kind : Kind) (perm : Perm) (init : PageInit)
    → first_of_row (add_row number kind perm init (enclave_sight_of (enclave_of (get_or d.enclaves e None))) settled
    (is_some (page_of (look d.tables (page_at e number)))) open_frame) ≡ None → Adds d e number
adds d e number kind perm init allowed = by_enclave (get_or d.enclaves e None) refl allowed
  where
    by_enclave : (o : Option Enclave) → get_or d.enclaves e None ≡ o
        → first_of_row (add_row number kind perm init (enclave_sight_of (enclave_of o)) settled
        (is_some (page_of (look d.tables (page_at e number)))) open_frame) ≡ None → Adds d e number
    by_enclave None is k = absurd (false≢true (sym
        (none_holds (add_row number kind perm init None settled (is_some (page_of (look d.tables (page_at e number)))) open_frame) k).1.0))
    by_enclave (Some x) is k =
        let none = none_holds (add_row number kind perm init (Some (record { size = x.size; is_init = x.is_init })) settled
        (is_some (page_of (look d.tables (page_at e number)))) open_frame) k in
        record {
          place = place_of d.enclaves e _ (ap enclave_of is);
          within = rw is (is_within_below x.size number init (not_false _ none.1.1.1.1.1.1.0));
          new = no_page (look d.tables (page_at e number)) none.1.1.1.1.1.1.1.0;
        }

-- a page that is put where nothing was
pub memory_added : (d : FlatParts) (e n : ℕ) (x : PlainPage) → x.is_busy ≡ false → look d.tables (page_at e n) ≡ None → e < length d.tables
    → n < length (get_or d.tables e [])
    → memory_of (record d { tables = with_slot d.tables e n (Some x) }) ≡ with_page (memory_of d) (page_at e n)
    (record { kind = x.kind; perm = x.perm; words = x.words })
memory_added d e n x idle none low in_table = λ t. record (memory_of d) { pages = λ q. pages q t; is_busy = λ q. busy q t }
  where
    pages : (q : Page) → page_of (look (with_slot d.tables e n (Some x)) q) ≡ cond (same_page q (page_at e n))
        (Some (record { kind = x.kind; perm = x.perm; words = x.words })) (page_of (look d.tables q))
    pages q =
        ap page_of (slot_written d.tables e n (Some x) low in_table q)
        ∙ (elim (same_page q (page_at e n)) as (λ b.
        page_of (cond b (Some x) (look d.tables q)) ≡ cond b (Some (record { kind = x.kind; perm = x.perm; words = x.words }))
        (page_of (look d.tables q))) [ true ↦ refl | false ↦ refl ])

    busy : (q : Page) → busy_of (look (with_slot d.tables e n (Some x)) q) ≡ busy_of (look d.tables q)
    busy q = ap busy_of (slot_written d.tables e n (Some x) low in_table q) ∙ by_test (same_page q (page_at e n)) refl
      where
        by_test : (s : Bool) → same_page q (page_at e n) ≡ s → busy_of (cond s (Some x) (look d.tables q)) ≡ busy_of (look d.tables q)
        by_test true same = idle ∙ sym (ap busy_of (ap (look d.tables) (same_pages q (page_at e n) same) ∙ none))
        by_test false other = refl

-- ---- exits

pub left_by : (m : FlatMemory) (p e t acc : ℕ) → (m.cpus p).inside ≡ Some (seat e t) → acc ≡ (m.cpus p).acc
    → with_busy (with_cpu m p (record { inside = None; acc = acc })) (page_at e t) false ≡ left m p
left_by m p e t acc inside is = λ i. record m { cpus = λ q. each q i; is_busy = λ g. busy g i }
  where
    each : (q : ℕ) → cond (p == q) (record { inside = None; acc = acc }) (m.cpus q) ≡ cond (p == q) (record (m.cpus q) { inside = None })
        (m.cpus q)
    each q = by_test (p == q) refl
      where
        by_test : (b : Bool) → (p == q) ≡ b → cond b (record { inside = None; acc = acc }) (m.cpus q) ≡ cond b
            (record (m.cpus q) { inside = None }) (m.cpus q)
        by_test true same = λ i. record { inside = None; acc = (is ∙ ap (λ k. (m.cpus k).acc) (eqb-true p q same)) i }
        by_test false other = refl

    busy : (g : Page) → cond (same_page g (page_at e t)) false (m.is_busy g) ≡ cond (is_inside_by (m.cpus p).inside g) false (m.is_busy g)
    busy g = ap (λ o. cond (is_inside_by o g) false (m.is_busy g)) (sym inside)

-- ---- resumption

-- a page is still there when words are written
pub still_there : (m : FlatMemory) (g q : Page) (change : List ℕ → List ℕ) → is_some ((with_words m g change).pages q) ≡ is_some (m.pages q)
still_there m g q change = by_test (same_page q g)
  where
    changed : (o : Option FlatPage) → is_some (rewritten change o) ≡ is_some o
    changed None = refl
    changed (Some x) = refl

    by_test : (b : Bool) → is_some (cond b (rewritten change (m.pages q)) (m.pages q)) ≡ is_some (m.pages q)
    by_test true = changed (m.pages q)
    by_test false = refl
