use Rattle.trace_places.specs.Places.{frame_changed, page_at_frame, page_named}
use Rattle.trace_places.specs.inner.Tables.{tenant_in, pages_in}
use Rattle.trace_places.proofs.MoveLaws.{told, moves_are_of, place_stays}
use Rattle.trace_places.proofs.places.Places.make_and_tell.Goals as goal

pub returns-clause-moves : goal.returns-clause-moves
returns-clause-moves c = λ g.
    let old = c.args.self.now in
    let new = c.make.new.self in
    let former = page_at_frame (tenant_in old (frame_changed c.args.change)) in
    let all = told old new former (page_named c.args.change) (λ p a b. place_stays old new c.args.change p c.make.ensures a b) g in
    rw (c.move_of.ensures, c.move_of-2.ensures, c.seen-former.ensures, c.seen-named.ensures, c.pages-pages.ensures) all

pub returns-clause-pages : goal.returns-clause-pages
returns-clause-pages c =
    rw (c.move_of.ensures, c.move_of-2.ensures, c.seen-former.ensures, c.seen-named.ensures, c.pages-pages.ensures)
    (moves_are_of c.args.self.now c.make.new.self (pages_in c.args.self.now c.args.change))
