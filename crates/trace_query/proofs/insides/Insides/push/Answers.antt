use Rattle.std.proofs.Common.{Some, sym, ap, ◌∙◌}
use Rattle.std.proofs.lemmas.Result.{on_ok_weaker}
use Rattle.trace_query.proofs.InsideLaws.{inside_more}
use Rattle.trace_query.proofs.insides.Insides.push.Goals as goal

pub returns-in-Some-Fills : goal.returns-in-Some-Fills
returns-in-Some-Fills c =
    let is = ap Some (sym c.in-Some-Fills.field-0-is) ∙ sym c.in-Some-Fills.is ∙ c.step_by.ensures in
    on_ok_weaker c.fill.result (λ makes past f. inside_more c.args.self.now c.fill.new.self c.args.entry.now past _ f is makes)
    c.fill.ensures
