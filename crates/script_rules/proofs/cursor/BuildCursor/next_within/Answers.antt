use Rattle.std.proofs.Common.{◌-◌, ap, arith, length}
use Rattle.std.proofs.lemmas.List.{length-map}
use Rattle.job_grammar.specs.inner.Jobs.{enclave_view}
use Rattle.script_rules.proofs.CursorLaws.{left_init, left_line, line_of, valid_of, view_at}
use Rattle.script_rules.proofs.cursor.BuildCursor.next_within.Goals as goal

pub returns-then-self-len-clause-left : goal.returns-then-self-len-clause-left
returns-then-self-len-clause-left c =
    let few = c.requires.cursor.few in
    let begun = c.requires.cursor.begun c.requires.unfinished in
    let len = length-map c.enclaves.result.now enclave_view in
    let all = ap length c.enclaves.ensures.value in
    let at = view_at c.enclaves.result.now c.args.job.now.enclaves (c.from.result - 1) c.index-enclaves-from.result c.enclaves.ensures.value
    (omega (arith, few, begun, len, all, c.from.ensures)) c.index-enclaves-from.is in
    left_init c.args.job.now c.args.self.now c.requires.vas (enclave_view c.index-enclaves-from.result) c.next.new.self
    c.requires.unfinished (rw c.from.ensures at at) c.in_default.ensures.none
    (omega (arith, c.len.ensures, c.if-self-len.true))

pub of-self-requires : goal.of-self-requires
of-self-requires c =
    let few = c.requires.cursor.few in
    let begun = c.requires.cursor.begun c.requires.unfinished in
    let len = length-map c.enclaves.result.now enclave_view in
    let all = ap length c.enclaves.ensures.value in
    let at = view_at c.enclaves.result.now c.args.job.now.enclaves (c.from.result - 1) c.index-enclaves-from.result c.enclaves.ensures.value
    (omega (arith, few, begun, len, all, c.from.ensures)) c.index-enclaves-from.is in
    let valid = valid_of c.args.job.now.enclaves (c.from.result - 1) (enclave_view c.index-enclaves-from.result) at
    c.enclaves.ensures.valid.enclaves in
    (line_of (enclave_view c.index-enclaves-from.result) c.args.self.now.line c.index.result.now
    (omega (arith, c.len.ensures, c.if-self-len.false)) c.index.ensures valid).fits

pub add-requires-clause-some : goal.add-requires-clause-some
add-requires-clause-some c =
    let few = c.requires.cursor.few in
    let begun = c.requires.cursor.begun c.requires.unfinished in
    let len = length-map c.enclaves.result.now enclave_view in
    let all = ap length c.enclaves.ensures.value in
    let at = view_at c.enclaves.result.now c.args.job.now.enclaves (c.from.result - 1) c.index-enclaves-from.result c.enclaves.ensures.value
    (omega (arith, few, begun, len, all, c.from.ensures)) c.index-enclaves-from.is in
    let valid = valid_of c.args.job.now.enclaves (c.from.result - 1) (enclave_view c.index-enclaves-from.result) at
    c.enclaves.ensures.valid.enclaves in
    rw c.of-self.ensures.count (line_of (enclave_view c.index-enclaves-from.result) c.args.self.now.line c.index.result.now
    (omega (arith, c.len.ensures, c.if-self-len.false)) c.index.ensures valid).some

pub returns-clause-left : goal.returns-clause-left
returns-clause-left c =
    let few = c.requires.cursor.few in
    let begun = c.requires.cursor.begun c.requires.unfinished in
    let len = length-map c.enclaves.result.now enclave_view in
    let all = ap length c.enclaves.ensures.value in
    let at = view_at c.enclaves.result.now c.args.job.now.enclaves (c.from.result - 1) c.index-enclaves-from.result c.enclaves.ensures.value
    (omega (arith, few, begun, len, all, c.from.ensures)) c.index-enclaves-from.is in
    left_line c.args.job.now c.args.self.now c.requires.vas (enclave_view c.index-enclaves-from.result) c.index.result.now c.of-self.result
    c.add.new.self c.add.result c.requires.unfinished (rw c.from.ensures at at)
    c.in_default.ensures.none (omega (arith, c.len.ensures, c.if-self-len.false)) c.index.ensures
    (c.of-self.ensures.left c.args.self.now.enclave) c.add.ensures.left
