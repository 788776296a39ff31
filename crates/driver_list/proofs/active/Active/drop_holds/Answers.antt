use Rattle.std.proofs.Common.{◌≡◌, ◌∙◌, ℕ, ◌-◌, ◌≤◌, List, length, ⊎_elim, take, sym, ap, arith}
use Rattle.std.proofs.lemmas.Bool.{cases_eq}
use Rattle.std.proofs.lemmas.List.{length-set}
use Rattle.driver_list.specs.inner.Fewer.{with_fewer}
use Rattle.sgx_types.specs.declared.names.Page.{Page}
use Rattle.driver_list.specs.inner.Active.{ActiveList}
use Rattle.driver_list.specs.inner.Holds.{holder_of, own_of}
use Rattle.driver_list.proofs.ActiveLaws.{left_after, none_ended, one_more_ended, all_ended}
use Rattle.driver_list.proofs.active.Active.drop_holds.Goals as goal

abbrev holding : ActiveList → List (List Page) → ActiveList
holding list own = record { pages = list.pages; counts = list.counts; own = own }

pub loop-init : goal.loop-init
loop-init c = record {
  self = ap (holding c.args.self.now) (none_ended c.args.self.now.own (holder_of c.args.who));
  holders = λ some. absurd (omega arith);
  few = λ some. absurd (omega arith);
}

pub loop-preserved : goal.loop-preserved
loop-preserved c =
    let own : List (List Page) = c.args.self.now.own in
    let h : ℕ = holder_of c.args.who in
    let n : ℕ = c.loop.counter in
    let is = c.loop.invariant.self in
    let e = c.drop_last.ensures in
    let holders : length own ≡ 17 =
    sym (ap (λ (a : ActiveList). length a.own) is ∙ length-set own h (take (length (own_of own h) - n) (own_of own h))) ∙ e.holders in
    let few : length (own_of own h) ≤ 11 =
    ⊎_elim
    (λ none.
    let start : c.loop.self.own ≡ own = ap (λ (a : ActiveList). a.own) is ∙ ap (left_after own h) none ∙ sym (none_ended own h) in
    omega (arith, ap (λ (o : List (List Page)). length (own_of o h)) start, e.few))
    (λ some. c.loop.invariant.few (omega (arith, some)))
    (cases_eq n 0) in
    record {
      self = e.new ∙ ap (λ (a : ActiveList). with_fewer a h) is
          ∙ ap (holding c.args.self.now) (one_more_ended own h n (omega (arith, holders, c.requires)));
      holders = λ some. holders;
      few = λ some. few;
    }

pub returns : goal.returns
returns c =
    let own : List (List Page) = c.args.self.now.own in
    let h : ℕ = holder_of c.args.who in
    let ended : c.loop.counter ≡ 11 = omega arith in
    c.loop.invariant.self
    ∙ ap (λ n. holding c.args.self.now (left_after own h n)) ended
    ∙ ap (holding c.args.self.now) (all_ended own h (c.loop.invariant.few (omega (arith, ended))))
