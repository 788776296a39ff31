use Rattle.std.proofs.Common.{sym, subst, ◌∙◌, arith}
use Rattle.job_grammar.specs.Jobs.{JobView}
use Rattle.job_grammar.specs.inner.Valid.{IsValid}
use Rattle.job_make.proofs.ValidJobs.{made_valid, parts_made, single_made}
use Rattle.job_make.proofs.maker.make_job.Goals as goal

pub new-requires-2 : goal.new-requires-2
new-requires-2 c =
    subst (λ (j : JobView). IsValid j)
    (sym (parts_made c.args.number c.args.size c.max-epc.result c.of_frames.result c.push.new.self c.new.result c.in_ok-scripts.scripts
    (omega arith) c.of_frames.ensures
    (single_made c.args.size c.new-enclaves.result.items c.push.new.self.items c.in_ok-enclave_of.field-0 c.in_ok-push.ensures.items
    c.new-enclaves.ensures.items c.in_ok-enclave_of.ensures) c.new.ensures.items c.in_ok-scripts.ensures))
    (made_valid c.args.number c.args.size c.requires.least c.requires.most)

pub returns : goal.returns
returns c =
    c.new-2.ensures
    ∙ parts_made c.args.number c.args.size c.max-epc.result c.of_frames.result c.push.new.self c.new.result c.in_ok-scripts.scripts
    (omega arith) c.of_frames.ensures
    (single_made c.args.size c.new-enclaves.result.items c.push.new.self.items c.in_ok-enclave_of.field-0 c.in_ok-push.ensures.items
    c.new-enclaves.ensures.items c.in_ok-enclave_of.ensures) c.new.ensures.items c.in_ok-scripts.ensures
