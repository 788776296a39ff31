use Rattle.std.proofs.Common.{arith}
use Rattle.cached_translations.proofs.IndexLaws.{index_forget}
use Rattle.cached_translations.proofs.cache.forget_pages.Goals as goal

pub loop-translation-preserved : goal.loop-translation-preserved
loop-translation-preserved c =
    let loop = c.loop-translation in
    record {
      only = index_forget loop.table.slots c.forget.new.self.slots c.args.places.now loop.translation-index _ loop.invariant.only
          c.forget.ensures.fewer c.forget.ensures.gone;
    }

pub returns : goal.returns
returns c = λ n p leads. let was = c.loop-translation.invariant.only n p leads in absurd (omega (arith, was.0, was.1))
