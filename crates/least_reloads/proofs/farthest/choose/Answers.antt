use Rattle.std.proofs.Common.{◌≡◌, ℕ, sym, ap, subst, ◌∙◌, ◌∷◌, true, false, is_some, cond, arith}
use Rattle.std.specs.Ordering.{nat_cmp}
use Rattle.std.specs.BTreeMap.{get, btree_map_len}
use Rattle.least_reloads.specs.Plans.{StepView}
use Rattle.least_reloads.specs.inner.Farthest.{Chosen}
use Rattle.least_reloads.proofs.ChooseLaws.{chosen_hit, chosen_fill, chosen_swap, same_step}
use Rattle.least_reloads.proofs.ChooseLaws.{some_of, none_of, unchanged_of, missed_as, is_there, le_of}
use Rattle.least_reloads.proofs.farthest.choose.Goals as goal

pub returns-then-is_some : goal.returns-then-is_some
returns-then-is_some c = λ coming pages holds keeps.
    let is : is_some c.remove.result ≡ true = sym c.is_some.ensures ∙ c.if-is_some.true in
    let q = some_of c.remove.result is in
    let old = c.args.held.now in
    let new = c.remove.new.self in
    let Gives : StepView → Type 0 = λ t. Chosen c.args.frames c.args.i c.args.page coming pages t (get nat_cmp new) (btree_map_len new) in
    subst Gives (sym (same_step _ _ _ _ c.new.ensures.items c.new-then-is_some.ensures.items))
    (chosen_hit c.args.frames c.args.i c.args.page coming pages (get nat_cmp old) (get nat_cmp new)
    (btree_map_len old) (btree_map_len new) q.0 holds keeps
    (sym c.remove.ensures.value ∙ q.1)
    c.remove.ensures.updates.0
    (omega (arith, c.remove.ensures.len, ap {B = ℕ} (λ b. cond b 1 0) is)))

pub returns-then-len-frames : goal.returns-then-len-frames
returns-then-len-frames c = λ coming pages holds keeps.
    let none : is_some c.remove.result ≡ false = sym c.is_some.ensures ∙ c.if-is_some.false in
    let old = c.args.held.now in
    let new = c.remove.new.self in
    let miss =
    missed_as c.args.i (c.args.page ∷ coming) pages old.entries new.entries keeps
    (sym c.remove.ensures.value ∙ none_of c.remove.result none)
    (unchanged_of c.remove.result (new.entries ≡ old.entries) none c.remove.ensures.unchanged) in
    let Gives : StepView → Type 0 = λ t. Chosen c.args.frames c.args.i c.args.page coming pages t (get nat_cmp new) (btree_map_len new) in
    subst Gives (sym (same_step _ _ _ _ c.new-then-len-frames.ensures.items c.in_ok-load.ensures.items))
    (chosen_fill c.args.frames c.args.i c.args.page coming pages (get nat_cmp new) (btree_map_len new) miss.keeps miss.none
    (omega (arith, c.len.ensures.len, c.if-len-frames.true)))

pub returns : goal.returns
returns c = λ coming pages holds keeps.
    let none : is_some c.remove.result ≡ false = sym c.is_some.ensures ∙ c.if-is_some.false in
    let some : is_some c.pop_last.result ≡ true = ap is_some c.in-Some.is in
    let old = c.args.held.now in
    let now = c.remove.new.self in
    let new = c.pop_last.new.self in
    let miss =
    missed_as c.args.i (c.args.page ∷ coming) pages old.entries now.entries keeps
    (sym c.remove.ensures.value ∙ none_of c.remove.result none)
    (unchanged_of c.remove.result (now.entries ≡ old.entries) none c.remove.ensures.unchanged) in
    let Gives : StepView → Type 0 = λ t. Chosen c.args.frames c.args.i c.args.page coming pages t (get nat_cmp new) (btree_map_len new) in
    subst Gives (sym (same_step _ _ _ _ c.in_ok-from_array.ensures.items c.in_ok-load.ensures.items))
    (chosen_swap c.args.frames c.args.i c.args.page coming pages (get nat_cmp now) (get nat_cmp new)
    (btree_map_len now) (btree_map_len new) c.in-Some.field-0-0 c.in-Some.old holds miss.keeps miss.none
    (omega (arith, c.len.ensures.len, c.if-len-frames.false))
    c.in-Some.ensures.value
    (λ k q h. le_of c.in-Some.field-0-0 k (c.in-Some.ensures.greatest k (is_there (get nat_cmp now k) q h)))
    c.in-Some.ensures.updates.0
    (omega (arith, c.pop_last.ensures.len, ap {B = ℕ} (λ b. cond b 1 0) some)))
