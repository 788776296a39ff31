use Rattle.std.proofs.Common.{arith, ap, ◌∙◌, sym, length-set, set, w64}
use Rattle.std.specs.Int.{to_le_bytes}
use Rattle.epcm_entry.proofs.Words.{word_page, words-word_page}
use Rattle.epcm_entry.specs.inner.Epc.{with_words}
use Rattle.epcm_entry.proofs.Frames.{in_pages, page_is, page_put, words_are, pages_put}
use Rattle.epcm_entry.proofs.epc.Epc.set_word.Goals as goal

pub index_mut-page-requires : goal.index_mut-page-requires
index_mut-page-requires c =
    omega (arith, in_pages _ _ _ c.self.invariant.paged c.self.view_is _ c.requires.within, c.self.inside.pages.ok.0)

pub invariant_of-self : goal.invariant_of-self
invariant_of-self c =
    let page = page_is _ _ _ c.self.invariant.paged c.self.view_is _ c.requires.within _ c.self.invariant.pages
    c.index_mut-page.ensures.value in
    record {
      small = c.self.invariant.small;
      paged = length-set _ _ _ ∙ c.self.invariant.paged;
      pages = rw c.to_le_bytes.ensures (pages_put _ _ _ c.self.invariant.pages (word_page _ c.from.result c.args.value page));
      marked = c.self.invariant.marked;
    }

pub returns : goal.returns
returns c =
    rw (c.to_le_bytes.ensures, c.from.ensures)
    (page_put _ _ _ c.self.invariant.paged c.self.view_is _ c.requires.within
    (set c.index_mut-page.result.now c.args.index (to_le_bytes w64 c.args.value))
    ∙ ap (with_words c.args.self.now c.args.frame.0)
    (words-word_page c.index_mut-page.result.now c.args.index c.args.value (omega arith)
    ∙ ap (λ ws. set ws c.args.index c.args.value)
    (sym (words_are _ _ _ c.self.invariant.paged c.self.view_is _ c.requires.within _ c.index_mut-page.ensures.value))))
