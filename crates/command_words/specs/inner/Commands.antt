-- That a command's size, or its rounds, are as many as its words can say.
use Rattle.std.specs.Prelude.{◌≤◌}
use Rattle.command_words.specs.declared.command.Command.{Command}
use Rattle.command_words.specs.declared.command.Command.TheVariants as commands

-- its size, or its rounds, are as many as those words can say
abbrev pub IsSized : Command → Type 0
IsSized commands.Run = Unit {0}
IsSized (commands.Tell telling) = Unit {0}
IsSized (commands.Show showing) = Unit {0}
IsSized (commands.Make number size) = (4 ≤ size) × (size ≤ 2000)
IsSized (commands.Demo number size) = (4 ≤ size) × (size ≤ 2000)
IsSized (commands.Gate rounds) = (1 ≤ rounds) × (rounds ≤ 100000)
IsSized commands.Help = Unit {0}
