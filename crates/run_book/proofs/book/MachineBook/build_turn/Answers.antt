use Rattle.run_book.proofs.GrownLaws.{build_words}
use Rattle.run_book.proofs.book.MachineBook.build_turn.Goals as goal

pub invariant_of-self-2 : goal.invariant_of-self-2
invariant_of-self-2 g c =
    build_words c.self.inside.book c.build_turn.new.self c.in_ok-turn.turn c.self.inside.notes c.in_ok-turn.ensures.turn
    c.entries.ensures.holds c.self.invariant
