use Rattle.std.proofs.Common.{◌∙◌, arith}
use Rattle.trace_query.proofs.InsideLaws.{entered_all}
use Rattle.trace_query.proofs.insides.Insides.is_entered.Goals as goal

pub returns : goal.returns
returns c = λ past f. c.is_entered.ensures ∙ entered_all c.args.self.now past c.min.result c.args.enclave f
    (omega (arith, c.min.ensures, f.most))
