use Rattle.std.proofs.Common.{sym, ◌∙◌}
use Rattle.job_text.proofs.ReadLaws.{read_long, read_fault, read_whole}
use Rattle.job_text.proofs.reader.read_job.Goals as goal

pub returns-then-bytes-gt-MOST_BYTES : goal.returns-then-bytes-gt-MOST_BYTES
returns-then-bytes-gt-MOST_BYTES c = read_long c.args.bytes.now c.if-bytes-gt-MOST_BYTES.true

pub returns-in-Err : goal.returns-in-Err
returns-in-Err c =
    let read = rw c.in-Err.is at c.in_ok-draft.ensures.reads in
    rw c.refusal_of.ensures (read_fault c.args.bytes.now _ c.if-bytes-gt-MOST_BYTES.false read)

pub returns-in-Ok-2 : goal.returns-in-Ok-2
returns-in-Ok-2 c =
    let read = rw c.in-Ok.is at c.in_ok-draft.ensures.reads in
    let whole = rw c.in-Ok-2.is at c.in_ok-job.ensures in
    read_whole c.args.bytes.now _ c.if-bytes-gt-MOST_BYTES.false read ∙ sym (whole ∙ c.line_after-after.ensures)

pub returns-in-Err-2 : goal.returns-in-Err-2
returns-in-Err-2 c =
    let read = rw c.in-Ok.is at c.in_ok-draft.ensures.reads in
    let whole = rw c.in-Err-2.is at c.in_ok-job.ensures in
    rw c.refusal_of-in-Err-2.ensures
    (read_whole c.args.bytes.now _ c.if-bytes-gt-MOST_BYTES.false read ∙ sym (whole ∙ c.line_after-after.ensures))
