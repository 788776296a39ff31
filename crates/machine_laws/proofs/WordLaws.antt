-- The words of frames and of the pages in them, where a page's words are changed in both.
use Rattle.std.proofs.Common.{◌≡◌, ℕ, ◌+◌, ◌*◌, ◌/◌, ◌%◌, ◌^◌, ◌<◌, ◌==◌, Bool, true, false, cond, refl}
use Rattle.std.proofs.Common.{sym, ap, ◌∙◌, arith, Option, Some, None, List, length, get_or, set, replicate}
use Rattle.std.proofs.lemmas.Bool.{false≢true, eqb-true}
use Rattle.std.proofs.lemmas.List.{get_or-set_same, get_or-set_other, length-set, length-replicate}
use Rattle.sgx_types.specs.declared.lawful.PageInit.{PageInit}
use Rattle.sgx_types.specs.declared.lawful.PageInit.TheVariants as inits
use Rattle.sgx_types.specs.declared.names.Page.{Page}
use Rattle.sgx_types.specs.Pages.{same_page}
use Rattle.sgx_rules.specs.Frames.{Content, Holds, is_page}
use Rattle.sgx_rules.specs.Flat.{FlatMemory, FlatPage, added_as, first_words, tcs_fields, with_cssa, with_words}
use Rattle.sgx_rules.specs.Flat.{rewritten as rewritten_page}
use Rattle.sgx_rules.specs.declared.entries.Entry.{Entry}
use Rattle.sgx_rules.specs.Rules.{NoPageTwice}
use Rattle.sgx_rules.proofs.Contents.{own_there}
use Rattle.sgx_types.proofs.Pages.{same_page-at, same_pages}
use Rattle.machine_laws.specs.inner.State.{State, rewritten}
use Rattle.machine_laws.specs.inner.Stands.{HasWords, Shows, Stands, enclaves_flat}
use Rattle.machine_laws.proofs.TestLaws.{equal}
use Rattle.machine_laws.proofs.ColumnLaws.{content_is}

-- no page stands in two frames
abbrev pub IsOnce : (ℕ → Content) → Type 0
IsOnce content = (m n : ℕ) (g : Page) → is_page (content m) g ≡ true → is_page (content n) g ≡ true → m ≡ n

pub once_in_state : (s : State) (past : List Entry) → Stands s past → NoPageTwice past → IsOnce s.content
once_in_state s past standing once m n g at_m at_n =
    once m n g (rw (← content_is standing.columns m) (own_there (s.content m) g at_m))
    (rw (← content_is standing.columns n) (own_there (s.content n) g at_n))

-- a page's words are changed, in its frame and in flat memory
pub words_changed : (content : ℕ → Content) (words : ℕ → List ℕ) (m : FlatMemory) (f : ℕ) (g : Page) (change : List ℕ → List ℕ)
    → HasWords content words m → IsOnce content → is_page (content f) g ≡ true
    → HasWords content (rewritten words f change) (with_words m g change)
words_changed content words m f g change holds once there n q kind perm at = by_frame (f == n) refl
  where
    here : f ≡ n → same_page q g ≡ true
    here same =
        let found : is_page (Holds q kind perm) g ≡ true = rw (same, at) at there in
        let e : q ≡ g = same_pages q g found in
        rw e (same_page-at g.enclave g.number)

    elsewhere : (f == n) ≡ false → (x : Bool) → same_page q g ≡ x → x ≡ false
    elsewhere other false e = refl
    elsewhere other true e =
        let same : q ≡ g = same_pages q g e in
        let found : is_page (content n) g ≡ true = rw (at, same) (same_page-at g.enclave g.number) in
        absurd (false≢true (sym other ∙ equal f n (once f n g there found)))

    by_frame : (x : Bool) → (f == n) ≡ x
        → cond (same_page q g) (rewritten_page change (m.pages q)) (m.pages q) ≡ Some
        (let p : FlatPage = record { kind = kind; perm = perm; words = cond x (change (words n)) (words n) } in p)
    by_frame true e = rw (here (eqb-true f n e), holds n q kind perm at) refl
    by_frame false e = rw (elsewhere e (same_page q g) refl) (holds n q kind perm at)

-- .. and each page is as it was added
pub added-changed : (m : FlatMemory) (g : Page) (change : List ℕ → List ℕ) (q : Page)
    → added_as ((with_words m g change).pages q) ≡ added_as (m.pages q)
added-changed m g change q = by_page (same_page q g) (m.pages q)
  where
    by_page : (x : Bool) (o : Option FlatPage) → added_as (cond x (rewritten_page change o) o) ≡ added_as o
    by_page false o = refl
    by_page true None = refl
    by_page true (Some p) = refl

enclaves-changed : (m : FlatMemory) (g : Page) (change : List ℕ → List ℕ) → enclaves_flat (with_words m g change) ≡ enclaves_flat m
enclaves-changed m g change = λ i. record { enclaves = m.enclaves; added = λ q. added-changed m g change q i; is_busy = m.is_busy }

-- .. so that a state and flat memory in which they are changed show the same
pub shows_changed : (s : State) (past : List Entry) (m : FlatMemory) (f : ℕ) (g : Page) (change : List ℕ → List ℕ) → Shows s past m
    → IsOnce s.content → is_page (s.content f) g ≡ true
    → Shows (record s { words = rewritten s.words f change }) past (with_words m g change)
shows_changed s past m f g change k once here = record {
  enclaves = k.enclaves ∙ sym (enclaves-changed m g change);
  cpus = k.cpus;
  words = words_changed s.content s.words m f g change k.words once here;
  measure = k.measure;
}

-- ---- the fields of a TCS page with another CSSA

pub ossa-with_cssa : (words : List ℕ) (c : ℕ) → (tcs_fields (with_cssa words c)).ossa ≡ (tcs_fields words).ossa
ossa-with_cssa words c = ap (λ w. w / 4096) (get_or-set_other words 3 2 _ 0 (λ e. omega arith))

low_half : (c k : ℕ) → (c % 2 ^ 32 + k * 2 ^ 32) % 2 ^ 32 ≡ c % 2 ^ 32
low_half c k = omega arith

pub cssa-with_cssa : (words : List ℕ) (c : ℕ) → length words ≡ 512 → (tcs_fields (with_cssa words c)).cssa ≡ c % 2 ^ 32
cssa-with_cssa words c sized = ap (λ w. w % 2 ^ 32) (get_or-set_same words 3 _ 0 (omega arith)) ∙ low_half c (get_or words 3 0 / 2 ^ 32)

pub cssa_small : (words : List ℕ) → (tcs_fields words).cssa < 2 ^ 32
cssa_small words = omega arith

-- ---- how many words there are

pub length-with_cssa : (words : List ℕ) (c : ℕ) → length (with_cssa words c) ≡ length words
length-with_cssa words c = length-set words 3 _

pub length-first_words : (init : PageInit) → length (first_words init) ≡ 512
length-first_words (inits.Words v) = length-replicate 512 v
length-first_words (inits.Tcs ossa nssa) =
    let blank : List ℕ = replicate 512 0 in
    length-set (set blank 2 (ossa * 4096)) 3 (nssa * 2 ^ 32) ∙ length-set blank 2 (ossa * 4096) ∙ length-replicate {A = ℕ} 512 0
