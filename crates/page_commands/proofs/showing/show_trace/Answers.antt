use Rattle.std.proofs.Common.{ℕ, List, Err, Ok, ap, arith, inl, length, refl, reverse, subst}
use Rattle.io_edges.specs.Sinks.{GivesPart}
use Rattle.trace_file.specs.Reading.{OfRead, Reads}
use Rattle.trace_migrate.proofs.TextLaws.{text_long}
use Rattle.trace_text.specs.declared.edition.Edition.{Edition}
use Rattle.page_commands.specs.declared.status.Status.TheVariants as statuses
use Rattle.page_commands.specs.Says.{Ends, Is, OfTrace}
use Rattle.page_commands.specs.Says.{showing_text}
use Rattle.page_commands.proofs.EndLaws.{trace_none}
use Rattle.page_commands.proofs.showing.show_trace.Goals as goal

-- there are fewer entries than bytes
pub give-requires : goal.give-requires
give-requires g c =
    let read = c.in-Ok.ensures.entries in
    omega (arith, ap length c.deref_mut.ensures.value, text_long c.edition_by.result c.in-Ok.entries.items, ap length read.2.2, read.2.0)

pub returns-in-Err-clause-says : goal.returns-in-Err-clause-says
returns-in-Err-clause-says g c =
    let Told : Edition → Type 0 = λ e. OfRead (g.O.Source.left c.args.old.now) (λ bytes.
    Ends (OfTrace e bytes (λ past. Is (showing_text c.args.showing past))) c.in-Err.status (g.K.Sink.given c.args.out.now)
    (g.K.Sink.given c.read_entries.new.out)) in
    subst Told c.edition_by.ensures
    (trace_none (g.O.Source.left c.args.old.now) c.edition_by.result (λ past. Is (showing_text c.args.showing past)) c.in-Err.status _ _
    c.in-Err.ensures.told)

pub returns-in-Err-Failed-clause-says : goal.returns-in-Err-Failed-clause-says
returns-in-Err-Failed-clause-says g c =
    let read : OfRead (g.O.Source.left c.args.old.now) (λ bytes. Reads c.edition_by.result bytes (Ok c.in-Ok.entries.items)) =
    c.in-Ok.ensures.entries in
    let text : List ℕ = showing_text c.args.showing (reverse c.in-Ok.entries.items) in
    let part : GivesPart (g.K.Sink.given c.args.out.now) (g.K.Sink.given c.give.new.out) text =
    subst (λ entries. GivesPart (g.K.Sink.given c.args.out.now)
    (g.K.Sink.given c.give.new.out) (showing_text c.args.showing (reverse entries)))
    c.deref_mut.ensures.value
    (subst (λ o. GivesPart (g.K.Sink.given o)
    (g.K.Sink.given c.give.new.out) (showing_text c.args.showing (reverse c.deref_mut.result.now)))
    c.in-Ok.ensures.untold (c.in-Err-Failed.ensures.broke (ap Err c.in-Err-Failed.field-0-is))) in
    let Told : Edition → Type 0 = λ e. OfRead (g.O.Source.left c.args.old.now) (λ bytes.
    Ends (OfTrace e bytes (λ past. Is (showing_text c.args.showing past))) statuses.WriteFault (g.K.Sink.given c.args.out.now)
    (g.K.Sink.given c.give.new.out)) in
    subst Told c.edition_by.ensures
    (read.0, read.1, (statuses.Done, text, inl (c.in-Ok.entries.items, read.2, (refl, refl)), part))
