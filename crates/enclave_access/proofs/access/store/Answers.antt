use Rattle.enclave_access.proofs.AccessLaws.{leads_below}
use Rattle.enclave_access.proofs.access.store.Goals as goal

pub set_word-requires-clause-within : goal.set_word-requires-clause-within
set_word-requires-clause-within c =
    leads_below c.args.cpu.now.cache c.args.off _ c.in_ok-translation.translation c.requires c.in_ok-translation.ensures.found
