use Rattle.run_laws.proofs.BookLaws.{book_more}
use Rattle.run_laws.proofs.book.the_book_goes_on.Goals as goal

pub returns : goal.returns
returns c = book_more
