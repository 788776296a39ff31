use Rattle.std.proofs.Common.{Err, refl, rules}
use Rattle.trace_file.specs.Reading.{OfRead, Reads}
use Rattle.page_commands.specs.Says.{OfTrace}
use Rattle.page_commands.proofs.EndLaws.{ends_map, no_trace, some_read}
use Rattle.page_commands.proofs.traces.read_entries.Goals as goal

pub returns-in-Err-Bad-clause-told : goal.returns-in-Err-Bad-clause-told
returns-in-Err-Bad-clause-told g c =
    let fault : OfRead (g.O.Source.left c.args.old.now) (λ bytes. Reads c.args.edition bytes (Err c.in-Err-Bad.line)) = search rules in (
      fault.0,
      fault.1,
      ends_map _ (OfTrace c.args.edition fault.0 (λ past status text. ⊥))
          (no_trace c.args.edition fault.0 c.in-Err-Bad.line
          (λ past status text. ⊥) fault.2) c.tell_line.result _ _ c.tell_line.ensures.told,
    )

pub returns-in-Err-Failed-clause-told : goal.returns-in-Err-Failed-clause-told
returns-in-Err-Failed-clause-told g c = some_read (g.O.Source.left c.args.old.now) _ (λ bytes. refl)

pub returns-in-Err-Memory-clause-told : goal.returns-in-Err-Memory-clause-told
returns-in-Err-Memory-clause-told g c = some_read (g.O.Source.left c.args.old.now) _ (λ bytes. refl)
