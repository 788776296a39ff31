use Rattle.std.proofs.Common.{List, sym, ap, subst, ◌∙◌}
use Rattle.trace_query.specs.declared.page_moves.Move.{Move}
use Rattle.trace_query.specs.inner.Lists.{at_place, MovesRise}
use Rattle.trace_query.proofs.PlaceLaws.{moves_rise, place_before}
use Rattle.trace_query.proofs.page_moves.PageMoves.where_is.Goals as goal

pub returns : goal.returns
returns c = λ past f.
    let AreRising : List Move → Type 0 = MovesRise in
    c.at.ensures (subst AreRising (sym (f.lists c.args.page)) (moves_rise past c.args.page))
    ∙ ap (λ steps. at_place steps c.args.n) (f.lists c.args.page)
    ∙ place_before past c.args.page c.args.n
