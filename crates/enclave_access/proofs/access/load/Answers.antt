use Rattle.enclave_access.proofs.AccessLaws.{leads_below}
use Rattle.enclave_access.proofs.access.load.Goals as goal

pub word-requires-clause-within : goal.word-requires-clause-within
word-requires-clause-within c =
    leads_below c.args.cpu.now.cache c.args.off _ c.in_ok-translation.translation c.requires c.in_ok-translation.ensures.found
