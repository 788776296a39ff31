use Rattle.std.proofs.Common.{◌≡◌, ◌∙◌, true, sym, ap, Some, is_some}
use Rattle.std.proofs.lemmas.Option.{same_Some}
use Rattle.sgx_types.specs.declared.names.Page.{Page}
use Rattle.sgx_rules.specs.Table.{is_loading}
use Rattle.sgx_rules.specs.inner.Starts.{BareStart}
use Rattle.machine_laws.specs.inner.State.{State}
use Rattle.machine_laws.specs.inner.Steps.{IsComingHeader}
use Rattle.sgx_machine.specs.inner.Whole.{parts_of}
use Rattle.sgx_machine.specs.inner.Parts.{Parts, state_of}
use Rattle.sgx_machine.proofs.CommitBridge.{coming}
use Rattle.sgx_machine.proofs.WaitBridge.{has_header, header_seen, waits}
use Rattle.sgx_machine.proofs.PagingSights.{loads_in, start_in}
use Rattle.sgx_machine.proofs.machine.Machine.coming_header.Goals as goal

pub start-requires : goal.start-requires
start-requires c = rw (← c.self.view_is)
    (start_in (state_of (parts_of c.self.inside)) c.args.frame.0 c.self.invariant.guarded (rw (← c.self.view_is) at c.requires))

pub unwrap-page-requires : goal.unwrap-page-requires
unwrap-page-requires c =
    loads_in (state_of (parts_of c.self.inside)) c.args.frame.0 _ c.self.invariant.guarded (rw (← c.self.view_is) at c.requires)
    (rw (← c.self.view_is) at c.start.ensures)

pub unwrap-requires : goal.unwrap-requires
unwrap-requires c =
    let m = c.self.inside in
    let d : Parts = parts_of m in
    let s : State = state_of d in
    let x = c.start.result in
    let page : Page = c.unwrap-page.result in
    let own : BareStart = record { at = x.at; slot = x.slot; version = x.version; loads = x.loads } in
    let comes : is_loading (s.content c.args.frame.0) ≡ true = rw (← c.self.view_is) at c.requires in
    let at : s.start c.args.frame.0 ≡ Some own = rw (← c.self.view_is) at c.start.ensures in
    let w = waits m c.self.invariant c.args.frame.0 own page comes at c.unwrap-page.ensures in
    let k = has_header s page w.known in
    rw (c.header_in.ensures) (ap is_some (header_seen d page ∙ k.headed))

pub returns : goal.returns
returns c =
    let m = c.self.inside in
    let d : Parts = parts_of m in
    let s : State = state_of d in
    let x = c.start.result in
    let page : Page = c.unwrap-page.result in
    let own : BareStart = record { at = x.at; slot = x.slot; version = x.version; loads = x.loads } in
    let comes : is_loading (s.content c.args.frame.0) ≡ true = rw (← c.self.view_is) at c.requires in
    let at : s.start c.args.frame.0 ≡ Some own = rw (← c.self.view_is) at c.start.ensures in
    let w = waits m c.self.invariant c.args.frame.0 own page comes at c.unwrap-page.ensures in
    let k = has_header s page w.known in
    let header : Some c.unwrap.result ≡ Some k.header =
    sym c.unwrap.ensures ∙ c.header_in.ensures ∙ header_seen d page ∙ k.headed in
    let is : IsComingHeader s c.args.frame.0 c.unwrap.result =
    (coming m c.args.frame.0 own page at c.unwrap-page.ensures w.known, same_Some _ _ header) in
    rw (← c.self.view_is) is
