use Rattle.std.proofs.Common.{ap, ◌∙◌, ◌≡◌, ◌+◌, ◌/◌, set}
use Rattle.sgx_rules.specs.Flat.{FlatMemory, with_words, with_cssa, fields_in}
use Rattle.sgx_types.specs.Pages.{page_at}
use Rattle.sgx_rules.specs.Table.{TcsSight}
use Rattle.flat_machine.specs.inner.Parts.{memory_of}
use Rattle.flat_machine.proofs.flat.Flat.save.Goals as goal

pub returns : goal.returns
returns c =
    let m = memory_of c.args.self.now in
    let f = fields_in m c.args.enclave c.args.tcs in
    let ossa : c.tcs_fields-fields.result.ossa / 4096 ≡ f.ossa = ap (λ (x : TcsSight). x.ossa) c.tcs_fields-fields.ensures in
    let cssa : c.tcs_fields-fields.result.cssa ≡ f.cssa = ap (λ (x : TcsSight). x.cssa) c.tcs_fields-fields.ensures in
    c.set_cssa.ensures
    ∙ ap (λ (n : FlatMemory). with_words n (page_at c.args.enclave c.args.tcs) (λ words. with_cssa words (c.from-2.result + 1)))
    c.set_word.ensures
    ∙ (λ i. with_words (with_words m (page_at c.args.enclave (ossa i + (c.from.ensures ∙ cssa) i)) (λ words. set words 0 c.args.acc))
    (page_at c.args.enclave c.args.tcs) (λ words. with_cssa words ((c.from-2.ensures ∙ cssa) i + 1)))
