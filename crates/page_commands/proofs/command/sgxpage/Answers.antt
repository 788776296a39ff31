use Rattle.std.proofs.Common.{◌∙◌, Some, ap, inl, inr, refl, sym}
use Rattle.command_words.specs.declared.command.Command.TheVariants as commands
use Rattle.page_commands.specs.GateText.{gate_text}
use Rattle.job_make.specs.MadeJob.{made_job}
use Rattle.job_print.specs.JobText.{job_text}
use Rattle.page_commands.specs.declared.help.TheConstants.{HELP}
use Rattle.page_commands.specs.Says.{ShowsOf}
use Rattle.page_commands.proofs.EndLaws.{named_by, shown_said, some_read, text_said}
use Rattle.page_commands.proofs.command.sgxpage.Goals as goal

pub returns-in-Some-Tell-clause-read_fault : goal.returns-in-Some-Tell-clause-read_fault
returns-in-Some-Tell-clause-read_fault g c = λ fault.
    let named = sym c.command_of.ensures.value ∙ c.in-Some-Tell.is ∙ ap Some c.in-Some-Tell.field-0-is in
    let read = c.tell_of_both.ensures.read_fault (sym c.unrun-in-Some-Tell.ensures.status ∙ fault) in
    named_by _ (commands.Tell c.in-Some-Tell.telling) _ named (read.0, read.1, refl, c.unrun-in-Some-Tell.ensures.store)

pub returns-in-Some-Tell-clause-says : goal.returns-in-Some-Tell-clause-says
returns-in-Some-Tell-clause-says g c =
    let named = sym c.command_of.ensures.value ∙ c.in-Some-Tell.is ∙ ap Some c.in-Some-Tell.field-0-is in
    named_by _ (commands.Tell c.in-Some-Tell.telling) _ named (λ none. (
      rw c.unrun-in-Some-Tell.ensures.status c.tell_of_both.ensures.says,
      inl tt,
      refl,
      c.unrun-in-Some-Tell.ensures.store,
    ))

pub returns-in-Some-Show-clause-read_fault : goal.returns-in-Some-Show-clause-read_fault
returns-in-Some-Show-clause-read_fault g c = λ fault.
    let named = sym c.command_of.ensures.value ∙ c.in-Some-Show.is ∙ ap Some c.in-Some-Show.field-0-is in
    let read = c.show_trace.ensures.read_fault (sym c.unrun-in-Some-Show.ensures.status ∙ fault) in
    named_by _ (commands.Show c.in-Some-Show.showing) _ named (
      inr (some_read (g.J.Source.left c.args.job.now) _ (λ bytes. tt), read.0),
      read.1,
      refl,
      c.unrun-in-Some-Show.ensures.store,
    )

pub returns-in-Some-Show-clause-says : goal.returns-in-Some-Show-clause-says
returns-in-Some-Show-clause-says g c =
    let named = sym c.command_of.ensures.value ∙ c.in-Some-Show.is ∙ ap Some c.in-Some-Show.field-0-is in
    named_by _ (commands.Show c.in-Some-Show.showing) _ named (λ none. (
      rw c.unrun-in-Some-Show.ensures.status
          (shown_said (g.J.Source.left c.args.job.now) (g.O.Source.left c.args.old.now) _ (ShowsOf c.in-Some-Show.showing)
          c.show_trace.result _ _ c.show_trace.ensures.says),
      inr refl,
      refl,
      c.unrun-in-Some-Show.ensures.store,
    ))

pub returns-in-Some-Make-clause-says : goal.returns-in-Some-Make-clause-says
returns-in-Some-Make-clause-says g c =
    let named = sym c.command_of.ensures.value ∙ c.in-Some-Make.is ∙ ap Some c.in-Some-Make.field-0-is in
    named_by _ (commands.Make c.in-Some-Make.number c.in-Some-Make.size) _ named (λ none. (
      rw c.unrun-in-Some-Make.ensures.status
          (text_said (g.J.Source.left c.args.job.now) (g.O.Source.left c.args.old.now) (λ bytes. ⊥) _
          (job_text (made_job c.in-Some-Make.number c.in-Some-Make.size)) c.make_command.result _ _ refl c.make_command.ensures.made),
      inr refl,
      refl,
      c.unrun-in-Some-Make.ensures.store,
    ))

pub returns-in-Some-Gate-clause-says : goal.returns-in-Some-Gate-clause-says
returns-in-Some-Gate-clause-says g c =
    let named = sym c.command_of.ensures.value ∙ c.in-Some-Gate.is ∙ ap Some c.in-Some-Gate.field-0-is in
    named_by _ (commands.Gate c.in-Some-Gate.rounds) _ named (λ none. (
      rw c.unrun-in-Some-Gate.ensures.status
          (text_said (g.J.Source.left c.args.job.now) (g.O.Source.left c.args.old.now) (λ bytes. ⊥) _
          (gate_text c.in-Some-Gate.rounds) c.rounds_command.result _ _ refl c.rounds_command.ensures.told),
      inr refl,
      refl,
      c.unrun-in-Some-Gate.ensures.store,
    ))

pub returns-in-Some-Help-clause-says : goal.returns-in-Some-Help-clause-says
returns-in-Some-Help-clause-says g c =
    let named = sym c.command_of.ensures.value ∙ c.in-Some-Help.is ∙ ap Some c.in-Some-Help.field-0-is in
    named_by _ commands.Help _ named (λ none. (
      rw c.unrun-in-Some-Help.ensures.status
          (text_said (g.J.Source.left c.args.job.now) (g.O.Source.left c.args.old.now) (λ bytes. ⊥) _
          HELP.now c.help_command.result _ _ refl c.help_command.ensures.told),
      inr refl,
      refl,
      c.unrun-in-Some-Help.ensures.store,
    ))
