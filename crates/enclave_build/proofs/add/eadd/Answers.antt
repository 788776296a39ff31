use Rattle.std.proofs.Common.{◌≡◌, Option, Some, None, is_some, false, refl, sym, ◌∙◌}
use Rattle.secs_state.specs.inner.Secs.{added_at}
use Rattle.secs_state.specs.inner.Sights.{sight_of}
use Rattle.enclave_build.specs.inner.Build.{secs_sight}
use Rattle.enclave_build.proofs.CountLaws.{added_counted, few_children, may_add}
use Rattle.enclave_build.proofs.add.eadd.Goals as goal

none_there : {X : Type 0} (o : Option X) → is_some o ≡ false → o ≡ None
none_there None is = refl
none_there (Some x) is = cc is

pub put_page-requires-clause-vacant : goal.put_page-requires-clause-vacant
put_page-requires-clause-vacant c =
    (may_add c.args.epc.now c.args.frame.0 c.args.number c.args.kind c.args.perm c.args.init (sight_of c.args.secs.now)
    (secs_sight c.args.epc.now c.args.secs.now.enclave) (is_some (added_at c.args.secs.now c.args.number))
    (sym c.add_refusal.ensures ∙ c.in_default.is)).vacant

pub note_page-requires-clause-absent : goal.note_page-requires-clause-absent
note_page-requires-clause-absent c =
    none_there (added_at c.args.secs.now c.args.number)
    (may_add c.args.epc.now c.args.frame.0 c.args.number c.args.kind c.args.perm c.args.init (sight_of c.args.secs.now)
    (secs_sight c.args.epc.now c.args.secs.now.enclave) (is_some (added_at c.args.secs.now c.args.number))
    (sym c.add_refusal.ensures ∙ c.in_default.is)).absent

pub note_page-requires-clause-few : goal.note_page-requires-clause-few
note_page-requires-clause-few c = few_children c.args.epc.now c.args.secs.now.enclave c.args.secs.now c.requires.small c.requires.counted

pub returns-clause-counts : goal.returns-clause-counts
returns-clause-counts c =
    let may = (may_add c.args.epc.now c.args.frame.0 c.args.number c.args.kind c.args.perm c.args.init (sight_of c.args.secs.now)
    (secs_sight c.args.epc.now c.args.secs.now.enclave) (is_some (added_at c.args.secs.now c.args.number))
    (sym c.add_refusal.ensures ∙ c.in_default.is)) in
    rw (c.note_page.ensures, c.put_page.ensures)
    (added_counted c.args.epc.now c.args.frame.0 _ c.args.kind c.args.perm c.args.init c.args.secs.now.enclave c.args.secs.now _
    may.low may.addable may.free c.enclave-enclave.ensures refl refl c.requires.counted)
