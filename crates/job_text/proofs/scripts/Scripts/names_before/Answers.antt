use Rattle.std.proofs.Common.{◌<◌, Some, None, length, rules, refl, sym, ◌∙◌, arith}
use Rattle.std.proofs.lemmas.List.{length-map}
use Rattle.job_grammar.specs.inner.Jobs.{script_ops}
use Rattle.job_text.proofs.ScriptLaws.{owner-before, owner-read}
use Rattle.job_text.proofs.scripts.Scripts.names_before.Goals as goal

pub returns-in-Some : goal.returns-in-Some
returns-in-Some c =
    let lt : c.place_of.result < length c.self.inside.owners.items = omega (
      arith,
      c.place_of.ensures,
      c.self.inside.owners.ok.0,
      c.self.invariant.sized,
      c.requires.enclave,
      c.requires.number,
    ) in
    rw (← c.self.view_is)
    (owner-before c.self.inside.owners.items (script_ops c.self.inside.scripts.items) c.args.page.enclave c.args.page.number
    (Some c.in-Some.owner) _ (c.self.invariant.tells c.args.page.enclave c.args.page.number c.requires.enclave c.requires.number)
    (rw (← c.place_of.ensures) (sym c.in-Some.is
    ∙ owner-read c.self.inside.owners.items c.place_of.result c.index.result.now lt c.index.ensures))
    (search (rules, length-map)))

pub returns-in-None : goal.returns-in-None
returns-in-None c =
    rw (← c.self.view_is)
    (owner-before c.self.inside.owners.items (script_ops c.self.inside.scripts.items) c.args.page.enclave c.args.page.number
    None _ (c.self.invariant.tells c.args.page.enclave c.args.page.number c.requires.enclave c.requires.number)
    (search rules) refl)
