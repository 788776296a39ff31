use Rattle.script_rules.proofs.CursorLaws.{left_page}
use Rattle.script_rules.proofs.cursor.PageRun.add.Goals as goal

pub returns-clause-left : goal.returns-clause-left
returns-clause-left c =
    left_page c.args.enclave c.first_chunk-self.result c.args.self.now c.requires.chunk c.requires.some c.first_chunk-self.ensures
