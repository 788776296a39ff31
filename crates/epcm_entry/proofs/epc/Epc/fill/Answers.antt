use Rattle.std.proofs.Common.{◌≡◌, arith, ap, ◌∙◌, length-set, replicate, w64}
use Rattle.std.specs.Int.{to_le_bytes}
use Rattle.std.specs.List.{each_same}
use Rattle.epcm_entry.specs.inner.Words.{IsPage}
use Rattle.epcm_entry.specs.inner.Epc.{with_words}
use Rattle.epcm_entry.proofs.Words.{filled_page, words-filled_page}
use Rattle.epcm_entry.proofs.Frames.{in_pages, page_put, page_is, pages_put}
use Rattle.epcm_entry.proofs.epc.Epc.fill.Goals as goal

pub index_mut-page-requires : goal.index_mut-page-requires
index_mut-page-requires c = omega (arith, in_pages _ _ _ c.self.invariant.paged c.self.view_is _ c.requires, c.self.inside.pages.ok.0)

pub invariant_of-self : goal.invariant_of-self
invariant_of-self c =
    let page : IsPage c.index_mut-page.result.now =
    page_is _ _ _ c.self.invariant.paged c.self.view_is _ c.requires _ c.self.invariant.pages c.index_mut-page.ensures.value in
    let filled : c.fill.new.self ≡ replicate 512 (to_le_bytes w64 c.args.value) =
    c.fill.ensures.after (λ y e. each_same _ _ e.whole) ∙ ap (λ n. replicate n c.to_le_bytes.result) page.sized
    ∙ ap (replicate 512) c.to_le_bytes.ensures in
    record {
      small = c.self.invariant.small;
      paged = length-set _ _ _ ∙ c.self.invariant.paged;
      pages = rw filled (pages_put _ _ _ c.self.invariant.pages (filled_page c.args.value));
      marked = c.self.invariant.marked;
    }

pub returns : goal.returns
returns c =
    let page : IsPage c.index_mut-page.result.now =
    page_is _ _ _ c.self.invariant.paged c.self.view_is _ c.requires _ c.self.invariant.pages c.index_mut-page.ensures.value in
    let filled : c.fill.new.self ≡ replicate 512 (to_le_bytes w64 c.args.value) =
    c.fill.ensures.after (λ y e. each_same _ _ e.whole) ∙ ap (λ n. replicate n c.to_le_bytes.result) page.sized
    ∙ ap (replicate 512) c.to_le_bytes.ensures in
    rw filled
    (page_put _ _ _ c.self.invariant.paged c.self.view_is _ c.requires (replicate 512 (to_le_bytes w64 c.args.value))
    ∙ ap (with_words c.args.self.now c.args.frame.0) (words-filled_page c.args.value (omega arith)))
