-- The words with which a page is added, read at their places.
use Rattle.std.proofs.Common.{◌≡◌, ℕ, ◌*◌, ◌^◌, ◌<◌, ◌==◌, cond, replicate, set, get_or, sym, ap, ◌∙◌, arith}
use Rattle.std.proofs.lemmas.List.{length-set, length-replicate, get_or-replicate}
use Rattle.sgx_rules.specs.Flat.{first_words}
use Rattle.sgx_types.proofs.Truths.{apart}
use Rattle.sgx_types.specs.declared.lawful.PageInit.{PageInit}
use Rattle.sgx_types.specs.declared.lawful.PageInit.TheVariants.{Tcs, Words}
use Rattle.sgx_types.proofs.Lists.{get_or-set_if, get_or-like}

pub word_of_all : (v k : ℕ) (init : PageInit) → init ≡ Words v → k < 512 → v ≡ get_or (first_words init) k 0
word_of_all v k init is low = sym (get_or-replicate 512 k v 0 low) ∙ ap (λ x. get_or (first_words x) k 0) (sym is)

word_of_tcs : (ossa nssa k : ℕ) → get_or (first_words (Tcs ossa nssa)) k 0
    ≡ cond (3 == k) (nssa * 2 ^ 32) (cond (2 == k) (ossa * 4096) 0)
word_of_tcs ossa nssa k =
    let zero : ℕ = 0 in
    let zeros = replicate 512 zero in
    get_or-set_if (set zeros 2 (ossa * 4096)) 3 k (nssa * 2 ^ 32) 0
    (omega (arith, length-set zeros 2 (ossa * 4096), length-replicate 512 zero))
    ∙ ap (cond (3 == k) (nssa * 2 ^ 32))
    (get_or-set_if zeros 2 k (ossa * 4096) 0 (omega (arith, length-replicate 512 zero))
    ∙ ap (cond (2 == k) (ossa * 4096)) (get_or-like 512 k zero))

pub ossa_word : (ossa nssa k : ℕ) → k ≡ 2 → ossa * 4096 ≡ get_or (first_words (Tcs ossa nssa)) k 0
ossa_word ossa nssa k is =
    sym (word_of_tcs ossa nssa k ∙ ap (λ j. cond (3 == j) (nssa * 2 ^ 32) (cond (2 == j) (ossa * 4096) 0)) is)

pub nssa_word : (ossa nssa k : ℕ) → k ≡ 3 → nssa * 2 ^ 32 ≡ get_or (first_words (Tcs ossa nssa)) k 0
nssa_word ossa nssa k is =
    sym (word_of_tcs ossa nssa k ∙ ap (λ j. cond (3 == j) (nssa * 2 ^ 32) (cond (2 == j) (ossa * 4096) 0)) is)

pub other_word : (ossa nssa k : ℕ) → (k ≡ 2 → ⊥) → (k ≡ 3 → ⊥) → 0 ≡ get_or (first_words (Tcs ossa nssa)) k 0
other_word ossa nssa k not_two not_three =
    let three = apart 3 k (λ e. not_three (sym e)) in
    let two = apart 2 k (λ e. not_two (sym e)) in
    sym (word_of_tcs ossa nssa k ∙ (λ i. cond (three i) (nssa * 2 ^ 32) (cond (two i) (ossa * 4096) 0)))
