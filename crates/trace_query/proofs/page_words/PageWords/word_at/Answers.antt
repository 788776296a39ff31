use Rattle.std.proofs.Common.{◌≡◌, List, sym, ap, subst, ◌∙◌}
use Rattle.std.specs.HashMap.{get}
use Rattle.trace_query.specs.declared.word_lists.Change.{Change}
use Rattle.sgx_types.specs.Pages.{same_page}
use Rattle.trace_query.specs.inner.WordLists.{word_at, ChangesRise}
use Rattle.trace_query.specs.inner.Written.{added, word_by}
use Rattle.trace_query.proofs.WordLaws.{changes_rise, word_before}
use Rattle.trace_query.proofs.page_words.PageWords.word_at.Goals as goal

pub returns : goal.returns
returns c = λ past f.
    let AreRising : List Change → Type 0 = ChangesRise in
    let w = word_at c.args.page c.args.index in
    let is : c.copied-added.result ≡ added past c.args.page = c.copied-added.ensures ∙ c.get.ensures.value ∙ f.added c.args.page in
    c.word_by.ensures (subst AreRising (sym (f.lists w)) (changes_rise past w))
    ∙ (λ i. word_by (is i) (f.lists w i) c.args.n c.args.index)
    ∙ word_before past c.args.page c.args.n c.args.index
