use Rattle.std.proofs.Common.{◌≡◌, List}
use Rattle.sgx_rules.specs.declared.entries.Entry.{Entry}
use Rattle.trace_query.specs.Moves.{first_entries}
use Rattle.trace_query.specs.Spans.{cachers_before}
use Rattle.trace_query.specs.inner.Seen.{SpansFollow}
use Rattle.trace_query.proofs.page_spans.PageSpans.who_caches.Given as goal

abbrev pub invariant-loop-number : goal.invariant-loop-number
invariant-loop-number l =
    (past : List Entry) → SpansFollow l.self past → l.cpus.items ≡ cachers_before l.number (first_entries l.n past) l.page
