-- What each row leaves of a sound state is sound.
use Rattle.std.proofs.Common.{◌≡◌, ℕ, ◌==◌, Bool, true, false, cond, refl, sym, ap, ◌∙◌, Option, Some, None, IfSome, List}
use Rattle.std.proofs.Common.{[], length}
use Rattle.std.proofs.lemmas.Bool.{cond_both, false≢true, eqb-true}
use Rattle.std.proofs.lemmas.List.Elements.{All-weaker}
use Rattle.sgx_types.specs.declared.names.Page.{Page}
use Rattle.sgx_types.specs.Pages.{page_at, same_page}
use Rattle.sgx_rules.specs.Frames.{Content, Free}
use Rattle.sgx_rules.specs.Processors.{Seat}
use Rattle.sgx_rules.specs.Table.{is_reg}
use Rattle.sgx_types.proofs.Truths.{apart}
use Rattle.sgx_types.proofs.Pages.{same_page-at, same_pages}
use Rattle.cached_translations.specs.declared.cache.Translation.{Translation}
use Rattle.machine_laws.specs.inner.State.{State, with_content, with_inside, rewritten, after_exit, is_seated_by}
use Rattle.machine_laws.specs.inner.Stands.{IsUsable, IsTranslation, IsSeated, AreByOneTcs, IsSound}
use Rattle.machine_laws.proofs.TestLaws.{each_there, each_there_at, equal}
use Rattle.machine_laws.proofs.Contents.{one_named, tcs_no_reg}

pub seat_at : (s : State) → IsSound s → (p : ℕ) (seat : Seat) → s.inside p ≡ Some seat
    → IsSeated s.content s.is_sealing s.words (s.cache p) seat
seat_at s sound p seat is = rw is at (sound.seated p)

-- the TCS page of a seat
abbrev pub tcs_of : Seat → Page
tcs_of seat = page_at seat.enclave seat.tcs

pub busy_at : (s : State) → IsSound s → (p : ℕ) (seat : Seat) → s.inside p ≡ Some seat → s.is_busy (tcs_of seat) ≡ true
busy_at s sound p seat is = rw is at (sound.busy p)

-- the words of all frames keep their number where one frame's are changed so
pub sized-rewritten : (words : ℕ → List ℕ) (f : ℕ) (change : List ℕ → List ℕ) → ((n : ℕ) → length (words n) ≡ 512)
    → ((ws : List ℕ) → length (change ws) ≡ length ws) → (n : ℕ) → length (rewritten words f change n) ≡ 512
sized-rewritten words f change sized same n =
    cond_both (f == n) (change (words n)) (words n) (λ ws. length ws ≡ 512) (λ _. same (words n) ∙ sized n) (λ _. sized n)

-- ---- a free frame that is put, and may get other words: no processor uses it

pub unused : (s : State) (f : ℕ) → s.content f ≡ Free → (enclave n : ℕ) → IsUsable enclave (s.content n) (s.is_sealing n) → (f == n) ≡ false
unused s f free enclave n u = apart f n (λ same. cc (u.ours, free, same))

pub sound-put : (s : State) (f : ℕ) (c : Content) (words : ℕ → List ℕ) → IsSound s → s.content f ≡ Free
    → ((n : ℕ) → (f == n) ≡ false → words n ≡ s.words n) → ((n : ℕ) → length (words n) ≡ 512)
    → IsSound (record (with_content s f c) { words = words })
sound-put s f c words sound free kept sized = record {
  seated = each_there s.inside (λ p. IsSeated (with_content s f c).content s.is_sealing words (s.cache p))
      (λ p seat is. seated p seat (seat_at s sound p seat is));
  busy = sound.busy;
  apart = sound.apart;
  sized = sized;
}
  where
    translated : (enclave : ℕ) (t : Translation) → IsTranslation enclave t (s.content t.frame.0) (s.is_sealing t.frame.0)
        → IsTranslation enclave t (cond (f == t.frame.0) c (s.content t.frame.0)) (s.is_sealing t.frame.0)
    translated enclave t i = rw (apart f t.frame.0 (λ same. cc (i.page, free, same))) i

    seated : (p : ℕ) (seat : Seat) → IsSeated s.content s.is_sealing s.words (s.cache p) seat
        → IsSeated (with_content s f c).content s.is_sealing words (s.cache p) seat
    seated p seat h =
        let no_tcs = unused s f free seat.enclave seat.tcs_frame h.tcs in
        let no_ssa = unused s f free seat.enclave seat.ssa_frame h.ssa in
        record {
          tcs = rw no_tcs h.tcs;
          tcs_page = rw no_tcs h.tcs_page;
          tcs_kind = rw no_tcs h.tcs_kind;
          ssa = rw no_ssa h.ssa;
          ssa_page = rw (no_ssa, kept seat.tcs_frame no_tcs) h.ssa_page;
          ssa_kind = rw no_ssa h.ssa_kind;
          cache =
              All-weaker
              (λ t. IsTranslation seat.enclave t (s.content t.frame.0) (s.is_sealing t.frame.0))
              (λ t. IsTranslation seat.enclave t (cond (f == t.frame.0) c (s.content t.frame.0)) (s.is_sealing t.frame.0))
              (translated seat.enclave) (s.cache p) h.cache;
        }

-- ---- a processor that comes inside by a TCS page that is not busy, in whose frame words may change

pub sound-inside : (s : State) (p : ℕ) (seat : Seat) (acc : ℕ) (words : ℕ → List ℕ) → IsSound s → s.is_busy (tcs_of seat) ≡ false
    → IsSeated s.content s.is_sealing words [] seat
    → ((n : ℕ) → (seat.tcs_frame == n) ≡ false → words n ≡ s.words n) → ((n : ℕ) → length (words n) ≡ 512)
    → IsSound (record (with_inside s p seat acc) { words = words })
sound-inside s p seat acc words sound idle new kept sized = record {
  seated = λ q.
      elim (p == q) as (λ b. IfSome (cond b (Some seat) (s.inside q)) (IsSeated s.content s.is_sealing words (cond b [] (s.cache q)))) [
        | true ↦ new
        | false ↦ each_there s.inside (λ q. IsSeated s.content s.is_sealing words (s.cache q))
            (λ q other is. seated q other is (seat_at s sound q other is)) q
      ];
  busy = λ q.
      elim (p == q) as (λ b. IfSome (cond b (Some seat) (s.inside q))
      (λ other. cond (same_page (tcs_of other) (tcs_of seat)) true (s.is_busy (tcs_of other)) ≡ true)) [
        | true ↦ rw (same_page-at seat.enclave seat.tcs) refl
        | false ↦ each_there s.inside (λ q other. cond (same_page (tcs_of other) (tcs_of seat)) true (s.is_busy (tcs_of other)) ≡ true)
            (λ q other is. cond_both (same_page (tcs_of other) (tcs_of seat)) true (s.is_busy (tcs_of other)) (λ b. b ≡ true) (λ _. refl)
            (λ _. busy_at s sound q other is)) q
      ];
  apart = λ a b one other. alone a b one other (p == a) refl (p == b) refl;
  sized = sized;
}
  where
    free_of : (q : ℕ) (other : Seat) → s.inside q ≡ Some other → AreByOneTcs seat other → ⊥
    free_of q other is same =
        false≢true (sym idle ∙ ap (λ (g : Page). s.is_busy g) (λ i. page_at (same.0 i) (same.1 i)) ∙ busy_at s sound q other is)

    seated : (q : ℕ) (other : Seat) → s.inside q ≡ Some other → IsSeated s.content s.is_sealing s.words (s.cache q) other
        → IsSeated s.content s.is_sealing words (s.cache q) other
    seated q other is h =
        let elsewhere : (seat.tcs_frame == other.tcs_frame) ≡ false =
        apart seat.tcs_frame other.tcs_frame (λ same.
        free_of q other is (one_named (s.content other.tcs_frame) _ _ (rw same at new.tcs_page) h.tcs_page)) in
        record {
          tcs = h.tcs;
          tcs_page = h.tcs_page;
          tcs_kind = h.tcs_kind;
          ssa = h.ssa;
          ssa_page = rw (kept other.tcs_frame elsewhere) h.ssa_page;
          ssa_kind = h.ssa_kind;
          cache = h.cache;
        }

    alone : (a b : ℕ) (one other : Seat) (x : Bool) → (p == a) ≡ x → (y : Bool) → (p == b) ≡ y → cond x (Some seat) (s.inside a) ≡ Some one
        → cond y (Some seat) (s.inside b) ≡ Some other → AreByOneTcs one other → a ≡ b
    alone a b one other true at_a true at_b is is' same = sym (eqb-true p a at_a) ∙ eqb-true p b at_b
    alone a b one other true at_a false at_b is is' same = let first : seat ≡ one = cc in absurd (free_of b other is' (rw first same))
    alone a b one other false at_a true at_b is is' same =
        let second : seat ≡ other = cc in absurd (free_of a one is (rw second (sym same.0, sym same.1)))
    alone a b one other false at_a false at_b is is' same = sound.apart a b one other is is' same

-- ---- a processor that leaves; words may change that no other processor's TCS frame has

pub sound-left : (s : State) (p : ℕ) (words : ℕ → List ℕ) → IsSound s
    → ((q : ℕ) (seat : Seat) → (p == q) ≡ false → s.inside q ≡ Some seat → words seat.tcs_frame ≡ s.words seat.tcs_frame)
    → ((n : ℕ) → length (words n) ≡ 512) → IsSound (record (after_exit s p) { words = words })
sound-left s p words sound kept sized = record {
  seated = λ q. seated q (p == q) refl;
  busy = λ q. busy q (p == q) refl;
  apart = λ a b one other. alone a b one other (p == a) refl (p == b) refl;
  sized = sized;
}
  where
    seated : (q : ℕ) (x : Bool) → (p == q) ≡ x → IfSome (cond x None (s.inside q))
        (IsSeated s.content s.is_sealing words (cond x [] (s.cache q)))
    seated q true at_q = tt
    seated q false at_q = by_seat (s.inside q) refl
      where
        by_seat : (o : Option Seat) → s.inside q ≡ o → IfSome o (IsSeated s.content s.is_sealing words (s.cache q))
        by_seat None is = tt
        by_seat (Some seat) is =
            let h = seat_at s sound q seat is in
            record {
              tcs = h.tcs;
              tcs_page = h.tcs_page;
              tcs_kind = h.tcs_kind;
              ssa = h.ssa;
              ssa_page = rw (kept q seat at_q is) h.ssa_page;
              ssa_kind = h.ssa_kind;
              cache = h.cache;
            }

    -- the TCS page of another processor is not the one that is left
    other_tcs : (q : ℕ) (seat : Seat) → (p == q) ≡ false → s.inside q ≡ Some seat → is_seated_by (s.inside p) (tcs_of seat) ≡ false
    other_tcs q seat at_q is = by_mode (s.inside p) refl
      where
        by_mode : (o : Option Seat) → s.inside p ≡ o → is_seated_by o (tcs_of seat) ≡ false
        by_mode None e = refl
        by_mode (Some mine) e = by_test (same_page (tcs_of seat) (tcs_of mine)) refl
          where
            by_test : (b : Bool) → same_page (tcs_of seat) (tcs_of mine) ≡ b → b ≡ false
            by_test false k = refl
            by_test true k =
                let same = sound.apart p q mine seat e is (one_tcs k) in
                absurd (false≢true (sym at_q ∙ eq_self same))
              where
                one_tcs : same_page (tcs_of seat) (tcs_of mine) ≡ true → AreByOneTcs mine seat
                one_tcs k = let e = same_pages (tcs_of seat) (tcs_of mine) k in
                    (sym (ap (λ (g : Page). g.enclave) e), sym (ap (λ (g : Page). g.number) e))

                eq_self : p ≡ q → (p == q) ≡ true
                eq_self same = equal p q same

    busy : (q : ℕ) (x : Bool) → (p == q) ≡ x → IfSome (cond x None (s.inside q))
        (λ seat. cond (is_seated_by (s.inside p) (tcs_of seat)) false (s.is_busy (tcs_of seat)) ≡ true)
    busy q true at_q = tt
    busy q false at_q =
        each_there_at (s.inside q) (λ seat. cond (is_seated_by (s.inside p) (tcs_of seat)) false (s.is_busy (tcs_of seat)) ≡ true)
        (λ seat is. rw (other_tcs q seat at_q is) (busy_at s sound q seat is))

    alone : (a b : ℕ) (one other : Seat) (x : Bool) → (p == a) ≡ x → (y : Bool) → (p == b) ≡ y → cond x None (s.inside a) ≡ Some one
        → cond y None (s.inside b) ≡ Some other → AreByOneTcs one other → a ≡ b
    alone a b one other true at_a y at_b is is' same = cc
    alone a b one other false at_a true at_b is is' same = cc
    alone a b one other false at_a false at_b is is' same = sound.apart a b one other is is' same

-- ---- a REG page's words are changed: no TCS page's

pub sound-written : (s : State) (f : ℕ) (change : List ℕ → List ℕ) → IsSound s → is_reg (s.content f) ≡ true
    → ((ws : List ℕ) → length (change ws) ≡ length ws) → IsSound (record s { words = rewritten s.words f change })
sound-written s f change sound reg same = record {
  seated = each_there s.inside (λ p. IsSeated s.content s.is_sealing (rewritten s.words f change) (s.cache p))
      (λ p seat is. seated p seat (seat_at s sound p seat is));
  busy = sound.busy;
  apart = sound.apart;
  sized = sized-rewritten s.words f change sound.sized same;
}
  where
    seated : (p : ℕ) (seat : Seat) → IsSeated s.content s.is_sealing s.words (s.cache p) seat
        → IsSeated s.content s.is_sealing (rewritten s.words f change) (s.cache p) seat
    seated p seat h =
        let elsewhere : (f == seat.tcs_frame) ≡ false =
        apart f seat.tcs_frame (λ same. tcs_no_reg (s.content seat.tcs_frame) h.tcs_kind (rw same at reg)) in
        record {
          tcs = h.tcs;
          tcs_page = h.tcs_page;
          tcs_kind = h.tcs_kind;
          ssa = h.ssa;
          ssa_page = rw elsewhere h.ssa_page;
          ssa_kind = h.ssa_kind;
          cache = h.cache;
        }
