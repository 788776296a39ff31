use Rattle.job_grammar.specs.Jobs.{covers}
use Rattle.job_text.proofs.FaultLaws.{declared-few}
use Rattle.job_text.proofs.drafts.JobDraft.page_of.Goals as goal

pub returns-in-Some-clause-enclave : goal.returns-in-Some-clause-enclave
returns-in-Some-clause-enclave c =
    let added = rw (← c.self.view_is) at c.requires in
    declared-few (covers c.args.page.number) c.self.inside.enclaves.items c.args.page.enclave c.self.invariant.few_enclaves added
