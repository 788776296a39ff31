use Rattle.std.proofs.Common.{◌∙◌, arith, ap, sym, get_or}
use Rattle.epcm_entry.proofs.Words.{word-page}
use Rattle.epcm_entry.proofs.Frames.{in_pages, page_is, words_are}
use Rattle.epcm_entry.proofs.epc.Epc.word.Goals as goal

pub index-page-requires : goal.index-page-requires
index-page-requires c = omega (arith, in_pages _ _ _ c.self.invariant.paged c.self.view_is _ c.requires.within, c.self.inside.pages.ok.0)

pub returns : goal.returns
returns c =
    let words = words_are _ _ _ c.self.invariant.paged c.self.view_is _ c.requires.within _ c.index-page.ensures in
    let page = page_is _ _ _ c.self.invariant.paged c.self.view_is _ c.requires.within _ c.self.invariant.pages c.index-page.ensures in
    c.from_le_bytes.ensures ∙ (rw c.from.ensures (word-page c.index-page.result.now c.args.index page c.requires.in_frame))
    ∙ ap (λ ws. get_or ws c.args.index 0) (sym words)
