use Rattle.std.proofs.Common.{arith, rules}
use Rattle.std.proofs.lemmas.Iterator.{YieldsList-from_map_by}
use Rattle.std.proofs.lemmas.Iterator.Adapters.{YieldsList-from_vec}
use Rattle.std.proofs.lemmas.Iterator.Consumers.{YieldsList-at, map_from_collect}
use Rattle.std.proofs.lemmas.List.{map-id}
use Rattle.job_grammar.specs.Jobs.{EnclaveView}
use Rattle.job_grammar.specs.inner.Jobs.{enclave_view}
use Rattle.job_text.proofs.enclaves.enclave_jobs.Goals as goal

pub returns : goal.returns
returns c =
    rw map-id at (map_from_collect c.collect.result c.collect.ensures.ran
    (YieldsList-from_map_by _ enclave_view (λ (e : EnclaveView). e)
    (YieldsList-at c.map.ensures.source (YieldsList-from_vec c.args.drafts.items c.into_iter.ensures.rest
    (omega (arith, c.into_iter.ensures.len, c.args.drafts.ok.0))))
    c.map.ensures.closure
    (λ x r q k. search rules)))
