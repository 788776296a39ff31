use Rattle.std.proofs.Common.{◌<◌, ◌∙◌, refl, arith, length, []}
use Rattle.std.proofs.lemmas.List.{length-set}
use Rattle.flat_machine.specs.inner.Whole.{parts_of}
use Rattle.flat_machine.proofs.Columns.{slot_lengths}
use Rattle.flat_machine.proofs.Rows.{adds, memory_added}
use Rattle.flat_machine.proofs.Lists.{read_at}
use Rattle.flat_machine.proofs.flat.Flat.set_page.Goals as goal

pub put-requires : goal.put-requires
put-requires c =
    let d = parts_of c.self.inside in
    let e = c.args.enclave in
    let whole = c.self.invariant in
    let k = adds d e c.args.number c.args.kind c.args.perm c.args.init (rw (← c.self.view_is) at c.requires) in
    let low : e < length d.tables = omega (arith, k.place, whole.enclaves_len, whole.tables_len) in
    rw (read_at d.tables e c.index_mut.result.now [] low (rw c.from.ensures at c.index_mut.ensures.value), whole.pages_len e) k.within

pub invariant_of-self-2 : goal.invariant_of-self-2
invariant_of-self-2 c =
    let d = parts_of c.self.inside in
    let e = c.args.enclave in
    let whole = c.self.invariant in
    let k = adds d e c.args.number c.args.kind c.args.perm c.args.init (rw (← c.self.view_is) at c.requires) in
    let low : e < length d.tables = omega (arith, k.place, whole.enclaves_len, whole.tables_len) in
    record {
      enclaves_len = whole.enclaves_len;
      tables_len = rw length-set whole.tables_len;
      cpus_len = whole.cpus_len;
      pages_len = λ n.
          rw (
            c.from.ensures,
            c.put.ensures,
            read_at d.tables e c.index_mut.result.now [] low
                (rw c.from.ensures at c.index_mut.ensures.value),
          )
          (slot_lengths d.tables e c.args.number _ n ∙ whole.pages_len n);
    }

pub returns-clause-done : goal.returns-clause-done
returns-clause-done c =
    let d = parts_of c.self.inside in
    let e = c.args.enclave in
    let whole = c.self.invariant in
    let k = adds d e c.args.number c.args.kind c.args.perm c.args.init (rw (← c.self.view_is) at c.requires) in
    let low : e < length d.tables = omega (arith, k.place, whole.enclaves_len, whole.tables_len) in
    rw (
      c.from.ensures,
      c.put.ensures,
      read_at d.tables e c.index_mut.result.now [] low (rw c.from.ensures at c.index_mut.ensures.value),
      c.write.ensures,
      ← c.self.view_is,
    )
    (memory_added d e c.args.number _ refl k.new low (rw (whole.pages_len e) k.within))
