use Rattle.std.proofs.Common.{◌≡◌, ◌∙◌, ap, subst, sym, true, refl, is_some, length}
use Rattle.sgx_machine.specs.inner.Whole.{parts_of}
use Rattle.sgx_machine.specs.inner.Parts.{Parts, state_of}
use Rattle.machine_laws.specs.inner.Steps.{HasBytesOf}
use Rattle.epcm_entry.specs.declared.entry_view.EntryView.TheVariants as views
use Rattle.epcm_entry.specs.inner.Epc.{bytes_at, entry_at, words_at}
use Rattle.epcm_entry.specs.inner.Words.{words_of}
use Rattle.sgx_machine.proofs.PagingSights.{start_out}
use Rattle.sgx_machine.proofs.SealBridge.{own_bytes, seals}
use Rattle.sgx_machine.proofs.machine.Machine.is_sealed.Goals as goal

pub start-start-requires : goal.start-start-requires
start-start-requires c =
    let s = state_of (parts_of c.self.inside) in
    let open_start : is_some (s.start c.args.frame.0) ≡ true =
    start_out s c.args.frame.0 c.self.invariant.guarded (rw (← c.self.view_is) at c.requires) in
    rw (← c.self.view_is) open_start

pub returns : goal.returns
returns c = λ same.
    let d = parts_of c.self.inside in
    let f = c.args.frame.0 in
    let x = c.start-start.result in
    let w = c.in-Valid in
    let at : entry_at d.epc f ≡ views.Valid w.page w.kind w.perm w.blocked w.sealing = sym (w.ensures {u = tt}) in
    let words : words_of (bytes_at d.epc f) ≡ words_at d.epc f = ap words_of (sym c.bytes.ensures.value) ∙ c.bytes.ensures.words in
    let kept : HasBytesOf (state_of c.args.self.now) f ((state_of c.args.self.now).content f) (bytes_at d.epc f) =
    subst (λ (z : Parts). HasBytesOf (state_of z) f ((state_of z).content f) (bytes_at d.epc f)) c.self.view_is
    (own_bytes d f w.page w.kind w.perm w.blocked w.sealing (bytes_at d.epc f) at (sym c.is_own.ensures ∙ c.if-not-is_own.false)
    refl words) in
    let plain : c.args.work.now.plain.items ≡ bytes_at d.epc f = c.is_of.ensures.plain same ∙ c.as_slice.ensures ∙ c.bytes.ensures.value
    in
    let sized : length (bytes_at d.epc f) ≡ 4096 = ap length (sym plain) ∙ c.args.work.now.plain_size in
    seals (state_of c.args.self.now) f (record { at = x.at; slot = x.slot; version = x.version; loads = x.loads }) c.header-header.result
    (bytes_at d.epc f) c.args.work.now.key c.args.work.now.plain.items c.args.work.now.version c.args.work.now.rec.header
    c.start-start.ensures c.header-header.ensures sized kept (c.is_of.ensures.key same ∙ ap (λ (z : Parts). z.key) c.self.view_is)
    (c.is_of.ensures.version same) (c.is_of.ensures.header same) plain
