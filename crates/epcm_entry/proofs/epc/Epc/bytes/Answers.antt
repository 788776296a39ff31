use Rattle.std.proofs.Common.{arith, ap, ◌∙◌, sym}
use Rattle.sgx_types.specs.Layouts.{bytes_of}
use Rattle.epcm_entry.specs.inner.Words.{words_of}
use Rattle.epcm_entry.proofs.Words.{words_of-page, bytes_of-page}
use Rattle.epcm_entry.proofs.Frames.{in_pages, page_is, words_are}
use Rattle.epcm_entry.proofs.epc.Epc.bytes.Goals as goal

pub index-page-requires : goal.index-page-requires
index-page-requires c = omega (arith, in_pages _ _ _ c.self.invariant.paged c.self.view_is _ c.requires, c.self.inside.pages.ok.0)

pub returns-clause-value : goal.returns-clause-value
returns-clause-value c =
    let page = page_is _ _ _ c.self.invariant.paged c.self.view_is _ c.requires _ c.self.invariant.pages c.index-page.ensures in
    let whole = rw c.unwrap.ensures at c.as_array.ensures.cases in
    whole.same ∙ c.as_flattened.ensures.value ∙ sym (bytes_of-page c.index-page.result.now page.words)
    ∙ ap bytes_of (sym (words_are _ _ _ c.self.invariant.paged c.self.view_is _ c.requires _ c.index-page.ensures))

pub returns-clause-words : goal.returns-clause-words
returns-clause-words c =
    let page = page_is _ _ _ c.self.invariant.paged c.self.view_is _ c.requires _ c.self.invariant.pages c.index-page.ensures in
    let whole = rw c.unwrap.ensures at c.as_array.ensures.cases in
    ap words_of (whole.same ∙ c.as_flattened.ensures.value) ∙ words_of-page c.index-page.result.now page.words
    ∙ sym (words_are _ _ _ c.self.invariant.paged c.self.view_is _ c.requires _ c.index-page.ensures)
