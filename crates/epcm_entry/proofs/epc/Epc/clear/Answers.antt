use Rattle.std.proofs.Common.{◌≡◌, ◌<◌, arith, ap, ◌∙◌, length, length-set, replicate}
use Rattle.epcm_entry.specs.inner.Words.{IsPage, zero_words}
use Rattle.epcm_entry.proofs.Words.{zero_page, zeros-page, zero_word}
use Rattle.epcm_entry.specs.inner.Epc.{with_words}
use Rattle.epcm_entry.proofs.Frames.{in_pages, page_put, page_is, pages_put, cleared_is}
use Rattle.std.specs.List.{each_same}
use Rattle.epcm_entry.proofs.epc.Epc.clear.Goals as goal

pub index_mut-page-requires : goal.index_mut-page-requires
index_mut-page-requires c =
    let low : c.args.frame.0 < length c.put.new.self = rw (c.put.ensures, length-set) c.requires in
    omega (arith, in_pages _ _ _ c.self.invariant.paged c.self.view_is _ low, c.self.inside.pages.ok.0)

pub invariant_of-self : goal.invariant_of-self
invariant_of-self c =
    let low : c.args.frame.0 < length c.put.new.self = rw (c.put.ensures, length-set) c.requires in
    let page : IsPage c.index_mut-page.result.now =
    page_is _ _ _ c.self.invariant.paged c.self.view_is _ low _ c.self.invariant.pages c.index_mut-page.ensures.value in
    let zeros : c.fill.new.self ≡ replicate 512 zero_word = c.fill.ensures.after (λ y e. each_same _ _ e.whole)
    ∙ ap (λ n. replicate n zero_word) page.sized in
    record {
      small = c.self.invariant.small;
      paged = length-set _ _ _ ∙ c.self.invariant.paged;
      pages = rw zeros (pages_put _ _ _ c.self.invariant.pages zero_page);
      marked = c.self.invariant.marked;
    }

pub returns : goal.returns
returns c =
    let low : c.args.frame.0 < length c.put.new.self = rw (c.put.ensures, length-set) c.requires in
    let page : IsPage c.index_mut-page.result.now =
    page_is _ _ _ c.self.invariant.paged c.self.view_is _ low _ c.self.invariant.pages c.index_mut-page.ensures.value in
    let zeros : c.fill.new.self ≡ replicate 512 zero_word = c.fill.ensures.after (λ y e. each_same _ _ e.whole)
    ∙ ap (λ n. replicate n zero_word) page.sized in
    rw zeros
    (page_put _ _ _ c.self.invariant.paged c.self.view_is _ low (replicate 512 zero_word)
    ∙ ap (with_words c.put.new.self c.args.frame.0) zeros-page
    ∙ ap (λ epc. with_words epc c.args.frame.0 zero_words) c.put.ensures
    ∙ cleared_is c.args.self.now c.args.frame.0 c.requires)
