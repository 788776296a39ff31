use Rattle.std.proofs.Common.{ℕ, List, refl, rules, reverse, subst, sym}
use Rattle.io_edges.specs.Sinks.{GivesPart}
use Rattle.sgx_rules.specs.declared.entries.Entry.{Entry}
use Rattle.page_commands.specs.declared.status.Status.{Status}
use Rattle.page_commands.specs.declared.status.Status.TheVariants as statuses
use Rattle.command_words.specs.declared.telling.Telling.{Telling}
use Rattle.command_words.specs.declared.telling.Telling.TheVariants as tellings
use Rattle.page_commands.specs.Says.{status_by}
use Rattle.page_commands.specs.Says.{Tells}
use Rattle.page_commands.proofs.telling.give.Goals as goal

pub returns-in_err-give_least-in-Least-clause-broke : goal.returns-in_err-give_least-in-Least-clause-broke
returns-in_err-give_least-in-Least-clause-broke g c = λ failed.
    let part = c.in_err-give_least-in-Least.ensures.broke (search rules) in
    let Broke : Telling → List Entry → Type 0 = λ t entries. (status : Status) × (text : List ℕ)
    × Tells t c.args.traced.now.job (reverse entries) status text
    × GivesPart (g.K.Sink.given c.args.out.now) (g.K.Sink.given c.give_least.new.out) text in
    let broke : Broke tellings.Least c.deref.result.now = (statuses.Done, part.0, (refl, part.1), part.2) in
    subst (λ entries. Broke c.args.telling entries) c.deref.ensures.value
    (subst (λ t. Broke t c.deref.result.now) (sym c.in-Least.is) broke)

pub returns-in_err-give_verdict-in-Judge-clause-broke : goal.returns-in_err-give_verdict-in-Judge-clause-broke
returns-in_err-give_verdict-in-Judge-clause-broke g c = λ failed.
    let part = c.in_err-give_verdict-in-Judge.ensures.broke (search rules) in
    let Broke : Telling → List Entry → Type 0 = λ t entries. (status : Status) × (text : List ℕ)
    × Tells t c.args.traced.now.job (reverse entries) status text
    × GivesPart (g.K.Sink.given c.args.out.now) (g.K.Sink.given c.give_verdict.new.out) text in
    let broke : Broke (tellings.Judge c.in-Judge.rules) c.deref-in-Judge.result.now =
    (status_by part.0, _, (part.0, part.1, refl, refl), part.2) in
    subst (λ entries. Broke c.args.telling entries) c.deref-in-Judge.ensures.value
    (subst (λ t. Broke t c.deref-in-Judge.result.now) (sym c.in-Judge.is) broke)

pub returns-in_err-give_answer-in-Ask-clause-broke : goal.returns-in_err-give_answer-in-Ask-clause-broke
returns-in_err-give_answer-in-Ask-clause-broke g c = λ failed.
    let part = c.in_err-give_answer-in-Ask.ensures.broke (search rules) in
    let Broke : Telling → List Entry → Type 0 = λ t entries. (status : Status) × (text : List ℕ)
    × Tells t c.args.traced.now.job (reverse entries) status text
    × GivesPart (g.K.Sink.given c.args.out.now) (g.K.Sink.given c.give_answer.new.out) text in
    let broke : Broke (tellings.Ask c.in-Ask.question) c.deref-in-Ask.result.now = (statuses.Done, _, (refl, refl), part) in
    subst (λ entries. Broke c.args.telling entries) c.deref-in-Ask.ensures.value
    (subst (λ t. Broke t c.deref-in-Ask.result.now) (sym c.in-Ask.is) broke)
