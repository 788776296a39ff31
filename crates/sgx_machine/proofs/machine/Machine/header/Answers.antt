use Rattle.std.proofs.Common.{◌≡◌, ◌∙◌, sym, ap, Some, is_some}
use Rattle.std.specs.Option.{IsSomeAnd}
use Rattle.sgx_rules.specs.Frames.{page_there}
use Rattle.sgx_types.specs.declared.names.Page.{Page}
use Rattle.epcm_entry.specs.declared.entry_view.EntryView.TheVariants as views
use Rattle.epcm_entry.specs.inner.Epc.{entry_at}
use Rattle.sgx_machine.specs.inner.Whole.{parts_of}
use Rattle.sgx_machine.specs.inner.Parts.{state_of}
use Rattle.machine_laws.specs.inner.Steps.{header_in}
use Rattle.sgx_machine.proofs.WaitBridge.{header_seen}
use Rattle.sgx_machine.proofs.PagingSights.{leaving_page}
use Rattle.sgx_machine.proofs.SealBridge.{held_header}
use Rattle.sgx_machine.proofs.machine.Machine.header.Goals as goal

pub unwrap-requires : goal.unwrap-requires
unwrap-requires c =
    let d = parts_of c.self.inside in
    let h = c.self.invariant in
    let w = c.in-Valid in
    let at : entry_at d.epc c.args.frame.0 ≡ views.Valid w.page w.kind w.perm w.blocked w.sealing = sym (w.ensures {u = tt}) in
    let there = leaving_page d c.args.frame.0 w.page w.kind w.perm w.blocked w.sealing h.held.named at in
    let k = held_header c.self.inside h c.args.frame.0 w.page there in
    rw (c.header_in.ensures) (ap is_some (header_seen d w.page ∙ k.headed))

pub returns : goal.returns
returns c =
    let d = parts_of c.self.inside in
    let h = c.self.invariant in
    let w = c.in-Valid in
    let at : entry_at d.epc c.args.frame.0 ≡ views.Valid w.page w.kind w.perm w.blocked w.sealing = sym (w.ensures {u = tt}) in
    let there = leaving_page d c.args.frame.0 w.page w.kind w.perm w.blocked w.sealing h.held.named at in
    let headed : header_in (state_of d) w.page ≡ Some c.unwrap.result =
    sym (header_seen d w.page) ∙ sym c.header_in.ensures ∙ c.unwrap.ensures in
    let is : IsSomeAnd (page_there ((state_of d).content c.args.frame.0)) (λ (g : Page). header_in (state_of d) g ≡ Some c.unwrap.result) =
    rw there headed in
    rw (← c.self.view_is) is
