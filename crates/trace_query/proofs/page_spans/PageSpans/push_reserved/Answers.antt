use Rattle.std.proofs.Common.{refl}
use Rattle.trace_query.proofs.SeenLaws.{follows_more}
use Rattle.trace_query.proofs.page_spans.PageSpans.push_reserved.Goals as goal

pub returns : goal.returns
returns c = λ past f.
    follows_more c.args.self.now _ c.make.new.self c.args.entry.now past c.step_by.result f c.step_by.ensures refl refl refl c.make.ensures
