use Rattle.std.proofs.Common.{◌∙◌, arith}
use Rattle.trace_query.proofs.InsideLaws.{cached_all}
use Rattle.trace_query.proofs.insides.Insides.is_cached.Goals as goal

pub returns : goal.returns
returns c = λ past f. c.is_cached.ensures ∙ cached_all c.args.self.now past c.min.result c.args.page f
    (omega (arith, c.min.ensures, f.most))
