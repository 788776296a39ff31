-- The driver's tables before a job's first entry.
use Rattle.std.proofs.Common.{◌≡◌, ℕ, ◌≤◌, Bool, true, false, [], None, length, map, replicate, get_or, leb}
use Rattle.std.proofs.Common.{refl, sym, ap, subst, ◌∙◌, arith}
use Rattle.std.proofs.lemmas.List.{get_or-replicate, get_or_past, length-replicate}
use Rattle.std.proofs.lemmas.Bool.{false≢true, leb-true}
use Rattle.job_grammar.specs.Jobs.{JobView, va_pages}
use Rattle.job_grammar.specs.inner.Valid.{IsValid}
use Rattle.driver_list.specs.inner.Keeping.{kept_at, page_kept}
use Rattle.driver_list.specs.inner.Places.{place_of, total}
use Rattle.driver_list.specs.inner.States.{state_of}
use Rattle.driver_list.specs.declared.page_states.PageState.TheVariants as states
use Rattle.driver_laws.specs.inner.Agrees.{Keeping, ShowsSlots}
use Rattle.driver_laws.proofs.KeepLaws.{first_shows}
use Rattle.driver_tables.specs.declared.driver.Driver.{Driver}
use Rattle.driver_tables.proofs.CountLaws.{few_arrays}
use Rattle.driver_tables.specs.inner.Counts.{job_counts}
use Rattle.driver_tables.specs.inner.Tables.{IsNew, ShowsTables, listed, place_in}

-- a place of a table that is the same everywhere
pub all_same : {A : Type 0} (n : ℕ) (x : A) (i : ℕ) → get_or (replicate n x) i x ≡ x
all_same n x i = by_test (leb n i) refl
  where
    by_test : (b : Bool) → leb n i ≡ b → get_or (replicate n x) i x ≡ x
    by_test true is =
        get_or_past (replicate n x) i x (let high : n ≤ i = leb-true n i is in let len = length-replicate n x in omega (arith, high, len))
    by_test false is = get_or-replicate n i x x (grind (arith, is))

pub shows_first : (k : Keeping) (j : JobView) (d : Driver) → IsValid j → IsNew j d → ShowsTables k j d []
shows_first k j d v new = record {
  list = ap (λ a. map listed a.pages) new.active;
  states = λ g h. ap (λ s. place_in (state_of s g)) new.states ∙ ap place_in
      (all_same (total (job_counts j)) states.Absent (place_of (job_counts j) g));
  placed = λ g h. absurd (false≢true (sym h));
  slots = subst (λ keeper. ShowsSlots k j keeper []) (sym new.slots) (first_shows k j (va_pages j));
  copies = λ p. ap (λ kept. page_kept (kept_at kept p)) new.kept ∙ ap page_kept (all_same (length j.scripts) None p);
  counts = ap (λ s. s.counts) new.states ∙ sym (ap (λ a. a.counts) new.active);
  of_job = ap (λ a. a.counts) new.active;
  sized = subst (λ s. length s.states ≡ total s.counts) (sym new.states) (length-replicate (total (job_counts j)) states.Absent);
  rooms = ap length new.kept ∙ length-replicate (length j.scripts) None ∙ sym new.cpus;
  marks = new.marks;
  cpus = new.cpus;
  few = rw new.cpus v.few_scripts;
  enclaves = new.enclaves;
  few_enclaves = rw new.enclaves v.few_enclaves;
  arrays = new.arrays;
  few_arrays = rw new.arrays (few_arrays j v);
}
