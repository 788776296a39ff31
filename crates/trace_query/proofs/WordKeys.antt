-- The words of pages as keys of a map.
use Rattle.std.proofs.Common.{◌≡◌, ℕ, ◌==◌, ◌&&◌, Bool, true, false, Some, refl, ap, ◌∙◌}
use Rattle.std.proofs.lemmas.Bool.{eqb-true}
use Rattle.sgx_types.specs.declared.names.Page.{Page}
use Rattle.sgx_types.specs.Pages.{page_at}
use Rattle.sgx_types.proofs.Pages.{same_page-swap}
use Rattle.sgx_types.proofs.Truths.{both_true}
use Rattle.flat_words.specs.declared.writes.WordAt.{WordAt}
use Rattle.flat_words.specs.Writes.{is_word}
use Rattle.trace_query.specs.inner.WordLists.{same_word, word_at}

pub same_words : (a b : WordAt) → same_word a b ≡ true → a ≡ b
same_words a b h =
    let k = both_true (a.enclave == b.enclave) ((a.number == b.number) && (a.index == b.index)) h in
    let l = both_true (a.number == b.number) (a.index == b.index) k.1 in
    λ i. record {
      enclave = eqb-true a.enclave b.enclave k.0 i;
      number = eqb-true a.number b.number l.0 i;
      index = eqb-true a.index b.index l.1 i;
    }

and_assoc : (a b c : Bool) → ((a && b) && c) ≡ (a && (b && c))
and_assoc true b c = refl
and_assoc false b c = refl

-- the tests of a word by its page and of its key are one
pub one_test : (at : WordAt) (g : Page) (k : ℕ) → is_word (Some at) g k ≡ same_word at (word_at g k)
one_test at g k =
    ap (λ b. b && (at.index == k)) (same_page-swap g (page_at at.enclave at.number))
    ∙ and_assoc (at.enclave == g.enclave) (at.number == g.number) (at.index == k)
