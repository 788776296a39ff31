use Rattle.std.proofs.Common.{◌≡◌, ℕ, true, Option, length, reverse, count_by, ap, sym, ◌∙◌, subst, arith}
use Rattle.std.specs.Prelude.{is_some}
use Rattle.std.proofs.lemmas.List.{length-reverse}
use Rattle.sgx_types.specs.declared.names.Page.{Page}
use Rattle.backing_store.specs.declared.calls.GetAnswer.TheVariants.{Given}
use Rattle.backing_store.specs.inner.Store.{StoreState, is_put, get_answer}
use Rattle.backing_store.specs.inner.Told.{record_at}
use Rattle.backing_store.specs.inner.Kept.{state_of, store_of, IsKeptIn, IsKeptByRule}
use Rattle.backing_store.proofs.GoodLaws.{given_is_there}
use Rattle.backing_store.proofs.planned_store.PlannedStore.puts.Goals as goal

pub returns-in-Some-clause-found : goal.returns-in-Some-clause-found
returns-in-Some-clause-found c =
    let l = c.in-Some.ledger in
    let kept : IsKeptByRule l = subst IsKeptIn c.in-Some.is c.self.invariant in
    let same : state_of l ≡ c.args.self.now = sym (ap store_of c.in-Some.is) ∙ c.self.view_is in
    let each : length (reverse l.puts.items) ≡ count_by is_put (reverse l.calls.items)
    = omega (arith, length-reverse l.puts.items, l.puts.ok.0, kept.kept.counted.are_puts) in
    let P : StoreState → Type 0 = λ s. (page : Page) (put : ℕ) (bit : Option ℕ) → get_answer s.plans s.calls page ≡ Given put bit
    → is_some (record_at put s.puts) ≡ true in
    subst P same (given_is_there l.plans.items (reverse l.calls.items) (reverse l.puts.items) each)
