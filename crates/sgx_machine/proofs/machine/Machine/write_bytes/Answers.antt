use Rattle.std.proofs.Common.{◌≡◌, ◌∙◌, ◌++◌, ap, subst, sym}
use Rattle.sgx_types.specs.Layouts.{bytes_of}
use Rattle.sgx_types.specs.declared.names.Kind.{Kind}
use Rattle.sgx_types.specs.declared.names.Kind.TheVariants as kinds
use Rattle.epcm_entry.specs.declared.entry_view.EntryView.TheVariants as views
use Rattle.epcm_entry.specs.inner.Epc.{entry_at}
use Rattle.epcm_entry.specs.inner.Sights.{held}
use Rattle.epcm_entry.specs.inner.Words.{words_of}
use Rattle.page_bytes.specs.inner.Bytes.{slots_at}
use Rattle.machine_laws.specs.inner.Steps.{HasBytesOf}
use Rattle.sgx_machine.specs.inner.Parts.{Parts, state_of}
use Rattle.sgx_machine.specs.inner.Whole.{parts_of}
use Rattle.sgx_machine.proofs.machine.Machine.write_bytes.Goals as goal

pub returns-in-Va-clause-bytes : goal.returns-in-Va-clause-bytes
returns-in-Va-clause-bytes c =
    let d = parts_of c.self.inside in
    let f = c.args.frame.0 in
    let w = c.in-Valid in
    let slots = slots_at d.va.pages f in
    let at : entry_at d.epc f ≡ views.Valid w.page kinds.Va w.perm w.blocked w.sealing =
    sym (w.ensures {u = tt}) ∙ ap (λ (k : Kind). views.Valid w.page k w.perm w.blocked w.sealing) c.in-Va.is in
    let bytes : c.put_slots.new.onto.items ≡ bytes_of slots = c.put_slots.ensures.bytes
    ∙ ap (λ b. b ++ bytes_of slots) c.clear.ensures.items in
    let is : HasBytesOf (state_of d) f (held (entry_at d.epc f)) c.put_slots.new.onto.items =
    rw at (bytes, ap words_of bytes ∙ c.put_slots.ensures.words) in
    subst (λ (x : Parts). HasBytesOf (state_of x) f (held (entry_at x.epc f)) c.put_slots.new.onto.items) c.self.view_is is
