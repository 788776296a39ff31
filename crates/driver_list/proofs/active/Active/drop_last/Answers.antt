use Rattle.std.proofs.Common.{◌≡◌, ◌∙◌, ℕ, ◌+◌, ◌<◌, ◌&&◌, not, List, length, set, sym, ap, arith}
use Rattle.sgx_types.specs.declared.names.Page.{Page}
use Rattle.sgx_types.proofs.CountLaws.{one_if}
use Rattle.driver_list.specs.inner.Ring.{pages_of, is_listed}
use Rattle.driver_list.specs.inner.Holds.{HoldTable, holder_of, own_of, is_held, but_last}
use Rattle.driver_list.specs.inner.KeptActive.{unheld_in}
use Rattle.driver_list.proofs.ActiveLaws.{OneHold, hold_less, unheld_more, byte_is, none_dropped, unheld_le}
use Rattle.driver_list.proofs.active.Active.drop_last.Goals as goal

pub overflow_add-self : goal.overflow_add-self
overflow_add-self c =
    let own : List (List Page) = c.self.inside.holds.own in
    let h : ℕ = holder_of c.args.who in
    let e = c.in-Some.ensures in
    let low : h < length own = omega (arith, c.requires, e.holders) in
    let less : List (List Page) = c.pop.new.self.own in
    let same : less ≡ set own h (but_last (own_of own h)) = ap (λ (t : HoldTable). t.own) e.new in
    let hold : OneHold less own c.in-Some.page = hold_less own less h c.in-Some.page low same e.splits in
    let count : unheld_in less (pages_of c.self.inside.list.pages) ≡ unheld_in own (pages_of c.self.inside.list.pages) + one_if
    (not (is_held less c.in-Some.page) && is_listed c.self.inside.list.pages c.in-Some.page) =
    unheld_more less own c.self.inside.list.pages c.in-Some.page hold c.is_listed.ensures.sound.distinct in
    let byte : c.from.result ≡ one_if (not (is_held less c.in-Some.page) && is_listed c.self.inside.list.pages c.in-Some.page) =
    c.from.ensures ∙ byte_is (not c.is_held-freed.result && c.is_listed.result)
    ∙ ap (λ b. one_if (not b && c.is_listed.result)) c.is_held-freed.ensures.value
    ∙ ap (λ b. one_if (not (is_held less c.in-Some.page) && b)) c.is_listed.ensures.value in
    omega (arith, count, byte, c.self.invariant.unheld, unheld_le less c.self.inside.list.pages, c.is_listed.ensures.sound.few)

pub invariant_of-self : goal.invariant_of-self
invariant_of-self c =
    let own : List (List Page) = c.self.inside.holds.own in
    let h : ℕ = holder_of c.args.who in
    let e = c.in-Some.ensures in
    let low : h < length own = omega (arith, c.requires, e.holders) in
    let less : List (List Page) = c.pop.new.self.own in
    let same : less ≡ set own h (but_last (own_of own h)) = ap (λ (t : HoldTable). t.own) e.new in
    let hold : OneHold less own c.in-Some.page = hold_less own less h c.in-Some.page low same e.splits in
    let count : unheld_in less (pages_of c.self.inside.list.pages) ≡ unheld_in own (pages_of c.self.inside.list.pages) + one_if
    (not (is_held less c.in-Some.page) && is_listed c.self.inside.list.pages c.in-Some.page) =
    unheld_more less own c.self.inside.list.pages c.in-Some.page hold c.is_listed.ensures.sound.distinct in
    let byte : c.from.result ≡ one_if (not (is_held less c.in-Some.page) && is_listed c.self.inside.list.pages c.in-Some.page) =
    c.from.ensures ∙ byte_is (not c.is_held-freed.result && c.is_listed.result)
    ∙ ap (λ b. one_if (not b && c.is_listed.result)) c.is_held-freed.ensures.value
    ∙ ap (λ b. one_if (not (is_held less c.in-Some.page) && b)) c.is_listed.ensures.value in
    record {
      counts = ap (λ (t : HoldTable). t.counts) e.new ∙ c.self.invariant.counts;
      unheld =
          omega (arith, count, byte, c.self.invariant.unheld);
    }

pub invariant_of-self-in_default : goal.invariant_of-self-in_default
invariant_of-self-in_default c =
    let own : List (List Page) = c.self.inside.holds.own in
    let h : ℕ = holder_of c.args.who in
    let e = c.in_default.ensures in
    let same : c.pop.new.self.own ≡ own =
    none_dropped own c.pop.new.self.own h (omega (arith, c.requires, e.holders)) (ap (λ (t : HoldTable). t.own) e.new) e.splits in
    record {
      counts = ap (λ (t : HoldTable). t.counts) e.new ∙ c.self.invariant.counts;
      unheld = c.self.invariant.unheld ∙ ap (λ (o : List (List Page)). unheld_in o (pages_of c.self.inside.list.pages)) (sym same);
    }
