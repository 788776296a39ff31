use Rattle.page_commands.proofs.OneLaws.{one_end}
use Rattle.page_commands.proofs.command.a_command_ends_in_one_way.Goals as goal

pub returns : goal.returns
returns c = one_end
