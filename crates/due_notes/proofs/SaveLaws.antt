-- The state save page that the tables find is the one that the rules name.
use Rattle.std.proofs.Common.{◌≡◌, ℕ, ◌+◌, ◌-◌, ◌%◌, ◌^◌, ◌<◌, ◌==◌, ◌&&◌, not, Bool, true}
use Rattle.std.proofs.Common.{false, if◌then◌else◌, List, Option, Some, None, length, min, nat_le, sum, take, refl, ap}
use Rattle.std.proofs.Common.{◌∙◌, arith}
use Rattle.std.proofs.lemmas.Bool.{eqb-false, eqb-true}
use Rattle.sgx_rules.specs.declared.entries.Entry.{Entry}
use Rattle.sgx_types.specs.declared.names.Page.{Page}
use Rattle.sgx_types.specs.Pages.{is_va_page, page_at}
use Rattle.sgx_types.specs.declared.names.TheConstants.{SECS_NUMBER}
use Rattle.job_grammar.specs.declared.jobs.PageLine.{PageLine}
use Rattle.job_grammar.specs.declared.jobs.PageLine.TheVariants as lines
use Rattle.job_grammar.specs.Jobs.{JobView, lines_at, tcs_line}
use Rattle.job_grammar.specs.inner.Valid.{IsValid}
use Rattle.script_rules.specs.Script.{saved_frames}
use Rattle.driver_list.specs.inner.Places.{IsPlaced, total}
use Rattle.driver_list.proofs.PlaceLaws.{place_within}
use Rattle.driver_tables.specs.inner.Counts.{job_counts}
use Rattle.driver_tables.proofs.CountLaws.{few_places}
use Rattle.driver_rules.specs.Needs.{last_save, next_save, save_to_enter, save_to_resume}
use Rattle.due_tables.specs.declared.turns.Turns.{Turns}
use Rattle.due_tables.specs.inner.Asked.{last_save_of, next_save_of}
use Rattle.due_tables.specs.inner.Due.{IsOrderly, IsWithin}
use Rattle.due_tables.specs.inner.Shown.{ShowsTurns}
use Rattle.due_tables.specs.inner.TcsTurns.{tcs_at, tcs_by}
use Rattle.due_tables.proofs.LineLaws.{saved_within}

-- ---- numbers

-- a page that has a place has a number of 32 bits
pub placed_low : (j : JobView) (g : Page) → IsValid j → IsPlaced (job_counts j) g → g.number < 2 ^ 32
placed_low j g v placed = by_name (is_va_page g) (g.number == SECS_NUMBER) refl (place_within (job_counts j) g placed)
  where
    by_name : (va last : Bool) → (g.number == SECS_NUMBER) ≡ last
        → (if va then length (job_counts j).own + g.number
        else if not va && last then g.enclave - 1
        else length (job_counts j).own + (job_counts j).arrays + sum (take (g.enclave - 1) (job_counts j).own) + g.number)
        < total (job_counts j) → g.number < 2 ^ 32
    by_name true last is low = let few = few_places j v in omega (arith, low, few)
    by_name false true is low = let same : g.number ≡ SECS_NUMBER = eqb-true g.number SECS_NUMBER is in omega (arith, same)
    by_name false false is low = let few = few_places j v in omega (arith, low, few)

-- ---- state save pages

next_is : (e n : ℕ) (line : Option PageLine) (g : Page) → IsWithin n line → next_save e n line ≡ Some g → g.number < 2 ^ 32
    → next_save_of e (tcs_by line n) ≡ Some g
next_is e n None g few is low = is
next_is e n (Some (lines.Reg first count perm value plain)) g few is low = is
next_is e n (Some (lines.Tcs page ossa nssa plain)) g few is low = by_test (n == nssa) refl is
  where
    by_test : (b : Bool) → (n == nssa) ≡ b → (if b then None else Some (page_at e (ossa + n))) ≡ Some g
        → (if nat_le nssa n then None else Some (page_at e ((ossa + n) % 2 ^ 32))) ≡ Some g
    by_test true same k = cc
    by_test false other k =
        let apart : n ≡ nssa → ⊥ = eqb-false n nssa other in
        let fewer : n < nssa = omega (arith, few, apart) in
        let page : page_at e (ossa + n) ≡ g = cc in
        let number : ossa + n ≡ g.number = ap (λ (x : Page). x.number) page in
        let short : (ossa + n) % 2 ^ 32 ≡ ossa + n = omega (arith, number, low) in
        let test : nat_le nssa n ≡ false = grind (arith, fewer) in
        ap (λ b. if b then None else Some (page_at e ((ossa + n) % 2 ^ 32))) test ∙ ap (λ k. Some (page_at e k)) short ∙ ap Some page

last_is : (e n : ℕ) (line : Option PageLine) (g : Page) → IsWithin n line → last_save e n line ≡ Some g → g.number < 2 ^ 32
    → last_save_of e (tcs_by line n) ≡ Some g
last_is e n None g few is low = is
last_is e n (Some (lines.Reg first count perm value plain)) g few is low = is
last_is e n (Some (lines.Tcs page ossa nssa plain)) g few is low = by_test (n == 0) refl is
  where
    by_test : (b : Bool) → (n == 0) ≡ b → (if b then None else Some (page_at e (ossa + n - 1))) ≡ Some g
        → (if b then None else Some (page_at e ((ossa + (min n nssa - 1)) % 2 ^ 32))) ≡ Some g
    by_test true same k = cc
    by_test false other k =
        let apart : n ≡ 0 → ⊥ = eqb-false n 0 other in
        let page : page_at e (ossa + n - 1) ≡ g = cc in
        let number : ossa + n - 1 ≡ g.number = ap (λ (x : Page). x.number) page in
        let short : (ossa + (min n nssa - 1)) % 2 ^ 32 ≡ ossa + n - 1 = omega (arith, few, apart, number, low) in
        ap (λ k. Some (page_at e k)) short ∙ ap Some page

module _ (j : JobView) (past : List Entry) (t : Turns) (shows : ShowsTurns j past t) (orderly : IsOrderly j past) (e n : ℕ) (g : Page)
    (low : g.number < 2 ^ 32) where
  few : IsWithin (saved_frames past (page_at e n)) (tcs_line (lines_at j.enclaves e) n)
  few = saved_within past 0 (page_at e n) (tcs_line (lines_at j.enclaves e) n) (orderly.room 0 (page_at e n))

  -- by which a processor enters
  pub enter_save : save_to_enter j past e n ≡ Some g → next_save_of e (tcs_at t.tcs (page_at e n)) ≡ Some g
  enter_save is =
      ap (next_save_of e) (shows.saves (page_at e n))
      ∙ next_is e (saved_frames past (page_at e n)) (tcs_line (lines_at j.enclaves e) n) g few is low

  -- .. and resumes
  pub resume_save : save_to_resume j past e n ≡ Some g → last_save_of e (tcs_at t.tcs (page_at e n)) ≡ Some g
  resume_save is =
      ap (last_save_of e) (shows.saves (page_at e n))
      ∙ last_is e (saved_frames past (page_at e n)) (tcs_line (lines_at j.enclaves e) n) g few is low
