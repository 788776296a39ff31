-- What the type of a job keeps.
use Rattle.job_grammar.specs.declared.jobs.Job.TheInside.{Inside}
use Rattle.job_grammar.specs.Jobs.{JobView}
use Rattle.job_grammar.specs.inner.Jobs.{parts_view}
use Rattle.job_grammar.specs.inner.Valid.{IsValid}

abbrev pub view_of : Inside → JobView
view_of j = parts_view j.parts

abbrev pub IsKept : Inside → Type 0
IsKept j = IsValid (view_of j)
