use Rattle.std.proofs.Common.{◌≡◌, ◌∙◌, ap, sym, Some, vec_capacity, false}
use Rattle.version_array.specs.inner.Slots.{has_page}
use Rattle.std.specs.Option.{option_copied_mut}
use Rattle.version_array.proofs.TableLaws.{in_kept}
use Rattle.version_array.proofs.va_table.VaTable.put_in.Goals as goal

pub invariant_of-self : goal.invariant_of-self
invariant_of-self c =
    let pages : c.self.inside.pages ≡ Some c.unwrap-pages.result.now =
    sym c.as_mut-2.ensures.value ∙ ap option_copied_mut c.unwrap-pages.ensures in
    let spare : c.self.inside.spare ≡ Some c.unwrap.result.now = sym c.as_mut.ensures.value ∙ ap option_copied_mut c.unwrap.ensures in
    let vacant : has_page c.unwrap-pages.result.now.items c.args.f.0 ≡ false = rw (← c.self.view_is, pages) at c.requires.vacant in
    rw (c.fill.ensures, c.take_last-page.ensures.capacity)
    (in_kept c.unwrap-pages.result.now.items c.unwrap.result.now.items _ _ _ (vec_capacity c.unwrap.result.now) c.args.f.0 c.args.from.now
    (rw (pages, spare) at c.self.invariant) c.requires.within vacant c.take_last-page.ensures.items)
