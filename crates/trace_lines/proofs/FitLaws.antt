-- Fields fit where all in front and all behind them do.
use Rattle.std.proofs.Common.{List, [], ◌∷◌, ◌++◌}
use Rattle.trace_text.specs.Fields.{AllFit, Field}

pub fit_both : (fields others : List Field) → AllFit fields → AllFit others → AllFit (fields ++ others)
fit_both [] others front behind = behind
fit_both (field ∷ fields) others front behind = (front.0, fit_both fields others front.1 behind)

pub fit_front : (fields others : List Field) → AllFit (fields ++ others) → AllFit fields
fit_front [] others all = tt
fit_front (field ∷ fields) others all = (all.0, fit_front fields others all.1)

pub fit_behind : (fields others : List Field) → AllFit (fields ++ others) → AllFit others
fit_behind [] others all = all
fit_behind (field ∷ fields) others all = fit_behind fields others all.1
