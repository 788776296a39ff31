use Rattle.std.proofs.Common.{◌≡◌, ◌∙◌, ℕ, ◌+◌, ◌<◌, ◌∷◌, [], ◌++◌, ◌&&◌, not, List, length, set, ap}
use Rattle.std.proofs.Common.{arith}
use Rattle.sgx_types.specs.declared.names.Page.{Page}
use Rattle.sgx_types.proofs.CountLaws.{one_if}
use Rattle.driver_list.specs.inner.Ring.{pages_of, is_listed}
use Rattle.driver_list.specs.inner.Holds.{holder_of, own_of, is_held}
use Rattle.driver_list.specs.inner.KeptActive.{unheld_in}
use Rattle.driver_list.proofs.ActiveLaws.{hold_more, unheld_more, byte_is}
use Rattle.driver_list.proofs.active.Active.hold.Goals as goal

pub overflow_sub-self : goal.overflow_sub-self
overflow_sub-self c =
    let own : List (List Page) = c.self.inside.holds.own in
    let h : ℕ = holder_of c.args.who in
    let more : List (List Page) = set own h (own_of own h ++ c.args.page ∷ []) in
    let low : h < length own = omega (arith, c.requires.holder, c.is_held-frees.ensures.holders) in
    let count : unheld_in own (pages_of c.self.inside.list.pages) ≡ unheld_in more (pages_of c.self.inside.list.pages) + one_if
    (not (is_held own c.args.page) && is_listed c.self.inside.list.pages c.args.page) =
    unheld_more own more c.self.inside.list.pages c.args.page (hold_more own h c.args.page low) c.is_listed-listed.ensures.sound.distinct in
    let byte : c.from.result ≡ one_if (not (is_held own c.args.page) && is_listed c.self.inside.list.pages c.args.page) =
    c.from.ensures ∙ byte_is (not c.is_held-frees.result && c.is_listed-listed.result)
    ∙ ap (λ b. one_if (not b && c.is_listed-listed.result)) c.is_held-frees.ensures.value
    ∙ ap (λ b. one_if (not (is_held own c.args.page) && b)) c.is_listed-listed.ensures.value in
    omega (arith, count, byte, c.self.invariant.unheld)

pub invariant_of-self : goal.invariant_of-self
invariant_of-self c =
    let own : List (List Page) = c.self.inside.holds.own in
    let h : ℕ = holder_of c.args.who in
    let more : List (List Page) = set own h (own_of own h ++ c.args.page ∷ []) in
    let low : h < length own = omega (arith, c.requires.holder, c.is_held-frees.ensures.holders) in
    let count : unheld_in own (pages_of c.self.inside.list.pages) ≡ unheld_in more (pages_of c.self.inside.list.pages) + one_if
    (not (is_held own c.args.page) && is_listed c.self.inside.list.pages c.args.page) =
    unheld_more own more c.self.inside.list.pages c.args.page (hold_more own h c.args.page low) c.is_listed-listed.ensures.sound.distinct in
    let byte : c.from.result ≡ one_if (not (is_held own c.args.page) && is_listed c.self.inside.list.pages c.args.page) =
    c.from.ensures ∙ byte_is (not c.is_held-frees.result && c.is_listed-listed.result)
    ∙ ap (λ b. one_if (not b && c.is_listed-listed.result)) c.is_held-frees.ensures.value
    ∙ ap (λ b. one_if (not (is_held own c.args.page) && b)) c.is_listed-listed.ensures.value in
    rw c.hold.ensures
    (record { counts = c.self.invariant.counts; unheld = omega (arith, count, byte, c.self.invariant.unheld) })
