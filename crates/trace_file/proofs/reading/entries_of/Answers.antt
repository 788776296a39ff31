use Rattle.std.proofs.Common.{◌≡◌, ℕ, Err, inr, subst}
use Rattle.trace_reader.specs.Faults.{IsFirstFault}
use Rattle.trace_reader.specs.inner.Outcomes.{Finishes}
use Rattle.trace_reader.specs.declared.refusals.TraceRefusal.TheVariants.{Fault}
use Rattle.trace_file.proofs.SeenLaws.{told_at_end}
use Rattle.trace_file.proofs.reading.entries_of.Goals as goal

pub returns-in-Err-Fault-clause-fault : goal.returns-in-Err-Fault-clause-fault
returns-in-Err-Fault-clause-fault c = λ edition line is bytes seen short.
    let told : Finishes c.args.reader (Err (Fault c.in-Err-Fault.line)) = rw c.in-Err-Fault.field-0-is at c.in-Err-Fault.ensures in
    let first : IsFirstFault edition bytes c.in-Err-Fault.line = told_at_end edition c.args.reader bytes
    (Err (Fault c.in-Err-Fault.line)) told seen in
    let First : ℕ → Type 0 = λ n. IsFirstFault edition bytes n in
    let same : c.in-Err-Fault.line ≡ line = cc in
    inr (short, subst First same first)
