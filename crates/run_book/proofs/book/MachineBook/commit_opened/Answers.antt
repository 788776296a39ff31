use Rattle.run_book.proofs.GrownLaws.{load_words}
use Rattle.run_book.proofs.book.MachineBook.commit_opened.Goals as goal

pub invariant_of-self : goal.invariant_of-self
invariant_of-self g c =
    load_words c.self.inside.book c.commit_opened.new.self c.args.cpu c.commit_opened.result c.self.inside.notes
    c.commit_opened.ensures.turn c.self.invariant
