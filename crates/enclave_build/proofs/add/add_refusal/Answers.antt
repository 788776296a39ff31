use Rattle.std.proofs.Common.{is_some, rules, sym, ◌∙◌}
use Rattle.epcm_entry.specs.inner.Sights.{sight_in}
use Rattle.secs_state.specs.inner.Secs.{added_at}
use Rattle.secs_state.specs.inner.Sights.{sight_of}
use Rattle.enclave_build.specs.inner.Build.{secs_sight}
use Rattle.enclave_build.proofs.CountLaws.{secs_first}
use Rattle.enclave_build.proofs.add.add_refusal.Goals as goal

pub returns-in-Some : goal.returns-in-Some
returns-in-Some c =
    secs_first c.args.number c.args.kind c.args.perm c.args.init (sight_of c.args.secs.now)
    (secs_sight c.args.epc.now c.args.secs.now.enclave) (is_some (added_at c.args.secs.now c.args.number))
    (sight_in c.args.epc.now c.args.frame.0) c.in-Some.refusal (search rules) (sym c.secs_refusal.ensures ∙ c.in-Some.is)
