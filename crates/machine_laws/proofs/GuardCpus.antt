-- What the rows of the processors leave of a guarded state is guarded.
use Rattle.std.proofs.Common.{◌≡◌, ℕ, ◌<◌, ◌==◌, true, false, cond, refl, sym, ap, subst, ◌∙◌, arith, Option, Some}
use Rattle.std.proofs.Common.{None, IfSome, IsSomeAnd, List, [], is_some}
use Rattle.std.specs.List.{All}
use Rattle.std.proofs.lemmas.Bool.{cond_both, false≢true, eqb-true}
use Rattle.std.proofs.lemmas.List.Elements.{All-nil}
use Rattle.std.proofs.lemmas.Option.{IfSome_then}
use Rattle.sgx_types.specs.declared.names.Page.{Page}
use Rattle.sgx_rules.specs.Flat.{tcs_fields}
use Rattle.sgx_types.specs.Pages.{page_at, same_page}
use Rattle.sgx_rules.specs.Frames.{enclave_in}
use Rattle.sgx_rules.specs.Processors.{Seat}
use Rattle.sgx_types.specs.Cases.{first_of_row}
use Rattle.sgx_rules.specs.Table.{FrameSight, enter_row, resume_row, fill_row}
use Rattle.sgx_rules.proofs.Rows.{none_holds}
use Rattle.sgx_types.proofs.Pages.{same_page-at, same_pages}
use Rattle.cached_translations.specs.declared.cache.Translation.{Translation}
use Rattle.cached_translations.specs.inner.Translations.{with_translation}
use Rattle.machine_laws.specs.inner.State.{State, sight, enter_sight, seat_enclave, with_inside, with_saved, is_seated_by}
use Rattle.machine_laws.specs.inner.State.{cssa_in, saved_word}
use Rattle.machine_laws.specs.inner.State.{after_enter, after_resume, after_exit, after_aex, after_fill}
use Rattle.machine_laws.specs.inner.Guarded.{IsNoEarlier, HasNoted, IsTakenIn, IsGuarded}
use Rattle.machine_laws.proofs.TestLaws.{equal, none_there, there_then}
use Rattle.machine_laws.proofs.EntryLaws.{enters, enter_saves, enter_saved, resume_saves, resume_saved}
use Rattle.machine_laws.proofs.AccessLaws.{outside_refused}
use Rattle.machine_laws.proofs.TranslationLaws.{All-with_translation}
use Rattle.machine_laws.proofs.GuardLaws.{guarded_words, opened_still}

-- ---- processors

-- seated by this TCS page
abbrev IsBy : Page → Option Seat → Type 0
IsBy g o = IsSomeAnd o (λ seat. page_at seat.enclave seat.tcs ≡ g)

-- a frame that is not blocked was blocked no earlier than any epoch
pub unblocked : (o : Option ℕ) (epoch : ℕ) → is_some o ≡ false → IsNoEarlier epoch o
unblocked None epoch h = tt
unblocked (Some b) epoch h = cc h

-- a processor that comes inside by frames that are not blocked, while words may change
pub guarded_inside : (s : State) (p : ℕ) (seat : Seat) (acc : ℕ) (words : ℕ → List ℕ) → IsGuarded s → p < 16 → s.inside p ≡ None
    → is_some (s.blocked seat.tcs_frame) ≡ false → is_some (s.blocked seat.ssa_frame) ≡ false
    → IsGuarded (record (with_inside s p seat acc) { words = words })
guarded_inside s p seat acc words h low outside tcs ssa = record {
  few = λ q high. cond_both (p == q) (Some seat) (s.inside q) (λ o. o ≡ None)
      (λ e. let same = eqb-true p q e in absurd (omega (arith, low, high, same))) (λ _. h.few q high);
  noted = λ q.
      elim (p == q) as (λ b. IfSome (cond b (Some seat) (s.inside q))
      (HasNoted s.epoch s.blocked (cond b (s.epoch seat.enclave) (s.noted q)) (cond b [] (s.cache q)))) [
        | true ↦ record {
          not_ahead = omega arith;
          not_behind = omega arith;
          tcs = unblocked (s.blocked seat.tcs_frame) (s.epoch seat.enclave) tcs;
          ssa = unblocked (s.blocked seat.ssa_frame) (s.epoch seat.enclave) ssa;
          cache = All-nil _;
        }
        | false ↦ h.noted q
      ];
  blocks = h.blocks;
  sealing = λ n is own.
      there_then (s.blocked n) (h.sealing n is own)
      (λ b k. record {
        tracked = k.tracked;
        left = λ q.
            elim (p == q) as (λ v. IfSome (cond v (Some seat) (s.inside q))
            (λ other. enclave_in (s.content n) ≡ Some other.enclave → b < cond v (s.epoch seat.enclave) (s.noted q))) [
              | true ↦ λ same. rw same at k.tracked
              | false ↦ k.left q
            ];
      });
  taken = λ g.
      cond_both (same_page g (page_at seat.enclave seat.tcs)) true (s.is_busy g)
      (λ b. b ≡ true → IsTakenIn (record (with_inside s p seat acc) { words = words }) g)
      (λ here _. record { cpu = p; by = rw (equal p p refl) (sym (same_pages g (page_at seat.enclave seat.tcs) here)) })
      (λ _ busy. let k = h.taken g busy in record { cpu = k.cpu; by = still g k.cpu k.by });
  opened = opened_still s (record (with_inside s p seat acc) { words = words }) refl refl refl (λ g is. is) h;
  written = h.written;
  loaded = h.loaded;
  held = h.held;
  apart = h.apart;
  kinds = h.kinds;
  goes_out = h.goes_out;
  kept = h.kept;
}
  where
    still : (g : Page) (q : ℕ) → IsBy g (s.inside q) → IsBy g (cond (p == q) (Some seat) (s.inside q))
    still g q by =
        cond_both (p == q) (Some seat) (s.inside q) (IsBy g)
        (λ e. let none : s.inside q ≡ None = ap s.inside (sym (eqb-true p q e)) ∙ outside in absurd (rw none at by)) (λ _. by)

-- a processor that enters
pub guarded_enter : (s : State) (p : ℕ) (seat : Seat) → first_of_row (enter_row seat.enclave seat.tcs (enter_sight s p seat)) ≡ None
    → p < 16 → IsGuarded s → IsGuarded (after_enter s p seat)
guarded_enter s p seat allowed low h =
    let f = tcs_fields (s.words seat.tcs_frame) in
    let k = enters seat.enclave seat.tcs (enter_sight s p seat) (enter_saves f) (enter_saved f) allowed in
    guarded_inside s p seat (cssa_in s seat.tcs_frame) s.words h low (none_there (s.inside p) k.outside) k.tcs_open k.ssa_open

-- .. or resumes
pub guarded_resume : (s : State) (p : ℕ) (seat : Seat) → first_of_row (resume_row seat.enclave seat.tcs (enter_sight s p seat)) ≡ None
    → p < 16 → IsGuarded s → IsGuarded (after_resume s p seat)
guarded_resume s p seat allowed low h =
    let f = tcs_fields (s.words seat.tcs_frame) in
    let k = enters seat.enclave seat.tcs (enter_sight s p seat) (resume_saves f) (resume_saved f) allowed in
    guarded_inside s p seat (saved_word s seat.ssa_frame) (after_resume s p seat).words h low (none_there (s.inside p) k.outside) k.tcs_open
    k.ssa_open

-- a processor that leaves, while words may change
pub guarded_left : (s : State) (p : ℕ) (words : ℕ → List ℕ) → IsGuarded s → IsGuarded (record (after_exit s p) { words = words })
guarded_left s p words h = record {
  few = λ q high. cond_both (p == q) None (s.inside q) (λ o. o ≡ None) (λ _. refl) (λ _. h.few q high);
  noted = λ q.
      elim (p == q) as (λ b. IfSome (cond b None (s.inside q))
      (HasNoted s.epoch s.blocked (cond b 0 (s.noted q)) (cond b [] (s.cache q)))) [
        | true ↦ tt
        | false ↦ h.noted q
      ];
  blocks = h.blocks;
  sealing = λ n is own.
      there_then (s.blocked n) (h.sealing n is own)
      (λ b k. record {
        tracked = k.tracked;
        left = λ q.
            elim (p == q) as (λ v. IfSome (cond v None (s.inside q))
            (λ seat. enclave_in (s.content n) ≡ Some seat.enclave → b < cond v 0 (s.noted q))) [
              | true ↦ tt
              | false ↦ k.left q
            ];
      });
  taken = λ g.
      cond_both (is_seated_by (s.inside p) g) false (s.is_busy g) (λ b. b ≡ true → IsTakenIn (record (after_exit s p) { words = words }) g)
      (λ _ is. absurd (false≢true is))
      (λ other busy. let k = h.taken g busy in record { cpu = k.cpu; by = still g k.cpu other k.by });
  opened = opened_still s (record (after_exit s p) { words = words }) refl refl refl (λ g is. is) h;
  written = h.written;
  loaded = h.loaded;
  held = h.held;
  apart = h.apart;
  kinds = h.kinds;
  goes_out = h.goes_out;
  kept = h.kept;
}
  where
    own : (g : Page) (o : Option Seat) → is_seated_by o g ≡ false → IsBy g o → ⊥
    own g None other by = by
    own g (Some seat) other by =
        false≢true (sym other ∙ subst (λ q. same_page q (page_at seat.enclave seat.tcs) ≡ true) by (same_page-at seat.enclave seat.tcs))

    still : (g : Page) (q : ℕ) → is_seated_by (s.inside p) g ≡ false → IsBy g (s.inside q) → IsBy g (cond (p == q) None (s.inside q))
    still g q other by = cond_both (p == q) None (s.inside q) (IsBy g)
        (λ e. absurd (own g (s.inside p) other (subst (λ x. IsBy g (s.inside x)) (sym (eqb-true p q e)) by))) (λ _. by)

-- a processor that exits
pub guarded_exit : (s : State) (p : ℕ) → IsGuarded s → IsGuarded (after_exit s p)
guarded_exit s p h = guarded_left s p s.words h

-- .. having saved its accumulator
guarded_saved : (s : State) (acc : ℕ) (o : Option Seat) → IsGuarded s → IsGuarded (with_saved s acc o)
guarded_saved s acc None h = h
guarded_saved s acc (Some seat) h = guarded_words s (with_saved s acc (Some seat)).words h

-- .. asynchronously
pub guarded_aex : (s : State) (p : ℕ) → IsGuarded s → IsGuarded (after_aex s p)
guarded_aex s p h = guarded_exit (with_saved s (s.acc p) (s.inside p)) p (guarded_saved s (s.acc p) (s.inside p) h)

-- a frame that `fill` takes is not blocked
fill_open : (number : ℕ) (enclave : Option ℕ) (v : FrameSight) → first_of_row (fill_row number enclave v) ≡ None → v.is_blocked ≡ false
fill_open number None v allowed = absurd (outside_refused number v allowed)
fill_open number (Some enclave) v allowed = (none_holds (fill_row number (Some enclave) v) allowed).1.1.1.0

-- what a processor inside has noted
pub noted_at : (s : State) → IsGuarded s → (p : ℕ) (seat : Seat) → s.inside p ≡ Some seat
    → HasNoted s.epoch s.blocked (s.noted p) (s.cache p) seat
noted_at s h p seat is = rw is at (h.noted p)

-- a translation more, of a frame that is not blocked
pub guarded_fill : (s : State) (p : ℕ) (t : Translation)
    → first_of_row (fill_row t.number (seat_enclave (s.inside p)) (sight s t.frame.0)) ≡ None → IsGuarded s → IsGuarded (after_fill s p t)
guarded_fill s p t allowed h = record {
  few = h.few;
  noted = λ q.
      IfSome_then (s.inside q) (h.noted q)
      (λ seat k. record {
        not_ahead = k.not_ahead;
        not_behind = k.not_behind;
        tcs = k.tcs;
        ssa = k.ssa;
        cache =
            cond_both (p == q) (with_translation (s.cache q) t) (s.cache q) (All (λ x. IsNoEarlier (s.noted q) (s.blocked x.frame.0)))
            (λ _.
            All-with_translation (λ x. IsNoEarlier (s.noted q) (s.blocked x.frame.0)) (s.cache q) t k.cache
            (unblocked (s.blocked t.frame.0) (s.noted q) (fill_open t.number (seat_enclave (s.inside p)) (sight s t.frame.0) allowed)))
            (λ _. k.cache);
      });
  blocks = h.blocks;
  sealing = h.sealing;
  taken = λ g busy. let k = h.taken g busy in record { cpu = k.cpu; by = k.by };
  opened = opened_still s (after_fill s p t) refl refl refl (λ g is. is) h;
  written = h.written;
  loaded = h.loaded;
  held = h.held;
  apart = h.apart;
  kinds = h.kinds;
  goes_out = h.goes_out;
  kept = h.kept;
}
