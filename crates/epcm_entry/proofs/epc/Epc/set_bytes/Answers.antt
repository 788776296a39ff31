use Rattle.std.proofs.Common.{arith, ap, ◌∙◌, length-set}
use Rattle.epcm_entry.proofs.Words.{chunk_page, words_of-chunks}
use Rattle.epcm_entry.specs.inner.Epc.{with_words}
use Rattle.epcm_entry.proofs.Frames.{in_pages, page_put, pages_put}
use Rattle.epcm_entry.proofs.epc.Epc.set_bytes.Goals as goal

pub index_mut-page-requires : goal.index_mut-page-requires
index_mut-page-requires c = omega (arith, in_pages _ _ _ c.self.invariant.paged c.self.view_is _ c.requires, c.self.inside.pages.ok.0)

pub invariant_of-self : goal.invariant_of-self
invariant_of-self c =
    record {
      small = c.self.invariant.small;
      paged = length-set _ _ _ ∙ c.self.invariant.paged;
      pages = rw (c.copy_from_slice.ensures.after, c.as_chunks.ensures.front)
          (pages_put _ _ _ c.self.invariant.pages (chunk_page _ c.told-from c.fits-from));
      marked = c.self.invariant.marked;
    }

pub returns : goal.returns
returns c =
    rw (c.copy_from_slice.ensures.after, c.as_chunks.ensures.front)
    (page_put _ _ _ c.self.invariant.paged c.self.view_is _ c.requires _
    ∙ ap (with_words c.args.self.now c.args.frame.0) (words_of-chunks c.args.from.now))
