use Rattle.std.proofs.Common.{ap, ◌∙◌, ◌≡◌, ◌+◌, ◌-◌, ◌/◌, is_some, get_or}
use Rattle.sgx_rules.specs.Flat.{FlatMemory, with_words, with_cssa, fields_in, entered, words_of, resumed_word}
use Rattle.sgx_types.specs.Pages.{page_at}
use Rattle.sgx_rules.specs.Table.{TcsSight}
use Rattle.flat_machine.specs.inner.Parts.{memory_of}
use Rattle.flat_machine.proofs.Rows.{still_there}
use Rattle.flat_machine.proofs.flat.Flat.take_back.Goals as goal

pub seat-requires-clause-added : goal.seat-requires-clause-added
seat-requires-clause-added c =
    let g = page_at c.args.enclave c.args.tcs in
    ap (λ (m : FlatMemory). is_some (m.pages g)) c.set_cssa.ensures
    ∙ still_there (memory_of c.args.self.now) g g (λ words. with_cssa words c.saturating_sub.result) ∙ c.requires.added

pub returns-clause-done : goal.returns-clause-done
returns-clause-done c =
    let m = memory_of c.args.self.now in
    let e = c.args.enclave in
    let t = c.args.tcs in
    let f = fields_in m e t in
    let ossa : c.tcs_fields-fields.result.ossa / 4096 ≡ f.ossa = ap (λ (x : TcsSight). x.ossa) c.tcs_fields-fields.ensures in
    let cssa : c.tcs_fields-fields.result.cssa ≡ f.cssa = ap (λ (x : TcsSight). x.cssa) c.tcs_fields-fields.ensures in
    let last : c.saturating_sub-last.result ≡ (f.ossa + f.cssa) - 1 = c.saturating_sub-last.ensures
    ∙ (λ i. (ossa i + (c.from.ensures ∙ cssa) i) - 1) in
    let fewer : c.saturating_sub.result ≡ f.cssa - 1 = c.saturating_sub.ensures ∙ ap (λ n. n - 1) (c.from-2.ensures ∙ cssa) in
    let acc : c.word-acc.result ≡ resumed_word m e t = c.word-acc.ensures ∙ ap (λ k. get_or (words_of m (page_at e k)) 0 0) last in
    c.seat.ensures
    ∙ ap (λ (n : FlatMemory). entered n c.args.cpu.0 e t c.word-acc.result) c.set_cssa.ensures
    ∙ (λ i. entered (with_words m (page_at e t) (λ words. with_cssa words (fewer i))) c.args.cpu.0 e t (acc i))
