use Rattle.run_book.proofs.GrownLaws.{out_words}
use Rattle.run_book.proofs.book.MachineBook.commit_sealed.Goals as goal

pub invariant_of-self : goal.invariant_of-self
invariant_of-self g c =
    out_words c.self.inside.book c.commit_sealed.new.self c.commit_sealed.result c.self.inside.notes c.commit_sealed.ensures.turn
    c.self.invariant
