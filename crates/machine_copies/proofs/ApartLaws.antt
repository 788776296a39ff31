-- No page comes to stand in two frames, where what a frame comes to hold or a start to load was away.
use Rattle.std.proofs.Common.{◌≡◌, ℕ, ◌==◌, true, false, cond, refl, sym, ◌∙◌, Option, None}
use Rattle.std.proofs.lemmas.Bool.{cond_both, false≢true, eqb-true, eq-eqb, false_from_ne_true}
use Rattle.sgx_types.specs.declared.names.Page.{Page}
use Rattle.sgx_rules.specs.Frames.{Content, stands}
use Rattle.sgx_rules.specs.Starts.{Start}
use Rattle.sgx_rules.specs.inner.Starts.{is_load_of}

-- ---- one frame's content or start changes

-- no page stands in two frames, none is loaded that stands in one, and none is loaded twice
pub record IsApart (held : ℕ → Content) (starts : ℕ → Option Start) : Type 0 where
  pub once : (m n : ℕ) (g : Page) → stands (held m) g ≡ true → stands (held n) g ≡ true → m ≡ n
  pub frames : (m n : ℕ) (g : Page) → is_load_of (starts m) g ≡ true → stands (held n) g ≡ false
  pub loads : (m n : ℕ) (g : Page) → is_load_of (starts m) g ≡ true → is_load_of (starts n) g ≡ true → m ≡ n

-- no frame holds a page, and no start loads it
abbrev pub IsAway : (ℕ → Content) → (ℕ → Option Start) → Page → Type 0
IsAway held starts g = (n : ℕ) → (stands (held n) g ≡ false) × (is_load_of (starts n) g ≡ false)

-- a frame comes to hold at most a page that was away
pub put_apart : (held : ℕ → Content) (starts : ℕ → Option Start) (f : ℕ) (c : Content)
    → ((g : Page) → stands c g ≡ true → IsAway held starts g) → IsApart held starts
    → IsApart (λ n. cond (f == n) c (held n)) starts
put_apart held starts f c away h = record {
  once = λ m n g.
      cond_both (f == m) c (held m) (λ v. stands v g ≡ true → stands (cond (f == n) c (held n)) g ≡ true → m ≡ n)
      (λ at_m here.
      cond_both (f == n) c (held n) (λ v. stands v g ≡ true → m ≡ n)
      (λ at_n there. sym (eqb-true f m at_m) ∙ eqb-true f n at_n) (λ _ there. absurd (false≢true (sym (away g here n).0 ∙ there))))
      (λ _ here.
      cond_both (f == n) c (held n) (λ v. stands v g ≡ true → m ≡ n)
      (λ _ there. absurd (false≢true (sym (away g there m).0 ∙ here))) (λ _ there. h.once m n g here there));
  frames = λ m n g loads. cond_both (f == n) c (held n) (λ v. stands v g ≡ false)
      (λ _. false_from_ne_true (stands c g) (λ here. false≢true (sym (away g here m).1 ∙ loads))) (λ _. h.frames m n g loads);
  loads = h.loads;
}

-- a start comes to load at most a page that was away
pub start_apart : (held : ℕ → Content) (starts : ℕ → Option Start) (f : ℕ) (o : Option Start)
    → ((g : Page) → is_load_of o g ≡ true → IsAway held starts g) → IsApart held starts
    → IsApart held (λ n. cond (f == n) o (starts n))
start_apart held starts f o away h = record {
  once = h.once;
  frames = λ m n g. cond_both (f == m) o (starts m) (λ v. is_load_of v g ≡ true → stands (held n) g ≡ false) (λ _ here. (away g here n).0)
      (λ _ here. h.frames m n g here);
  loads = λ m n g.
      cond_both (f == m) o (starts m) (λ v. is_load_of v g ≡ true → is_load_of (cond (f == n) o (starts n)) g ≡ true → m ≡ n)
      (λ at_m here.
      cond_both (f == n) o (starts n) (λ v. is_load_of v g ≡ true → m ≡ n)
      (λ at_n there. sym (eqb-true f m at_m) ∙ eqb-true f n at_n) (λ _ there. absurd (false≢true (sym (away g here n).1 ∙ there))))
      (λ _ here.
      cond_both (f == n) o (starts n) (λ v. is_load_of v g ≡ true → m ≡ n)
      (λ _ there. absurd (false≢true (sym (away g there m).1 ∙ here))) (λ _ there. h.loads m n g here there));
}

-- what a frame's start loads is away once the start has ended
pub loaded_away : (held : ℕ → Content) (starts : ℕ → Option Start) (f : ℕ) (g : Page) → is_load_of (starts f) g ≡ true → IsApart held starts
    → IsAway held (λ n. cond (f == n) None (starts n)) g
loaded_away held starts f g loads h n = (
  h.frames f n g loads,
  cond_both (f == n) None (starts n) (λ v. is_load_of v g ≡ false) (λ _. refl)
      (λ other. false_from_ne_true (is_load_of (starts n) g) (λ too. false≢true (sym other ∙ eq-eqb f n (h.loads f n g loads too)))),
)
