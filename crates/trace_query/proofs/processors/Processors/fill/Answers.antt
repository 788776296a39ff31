use Rattle.std.proofs.Common.{◌+◌, ◌≤◌, Option, IfSome, IsSomeAnd, vec_len, vec_capacity, sym, subst}
use Rattle.trace_query.specs.declared.processors.Processor.{Processor}
use Rattle.trace_query.specs.inner.Sights.{sight_of}
use Rattle.trace_query.proofs.processors.Processors.fill.Goals as goal

pub fill-requires : goal.fill-requires
fill-requires c =
    let Room : Option Processor → Type 0 = λ o.
    IfSome (sight_of o).enclave (λ enclave. IsSomeAnd o (λ x. vec_len x.numbers + 1 ≤ vec_capacity x.numbers)) in
    subst Room (sym c.in_ok-processor.ensures.value) c.requires
