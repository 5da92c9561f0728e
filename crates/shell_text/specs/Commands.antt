-- The lines of the shell's own.
use Rattle.std.specs.Prelude.{ℕ, List, bytes_eq, codes, if◌then◌else◌}
use Rattle.shell_text.specs.declared.commands.Command.{Command}

-- the command that a word is
abbrev pub command_of : List ℕ → Command
command_of word =
    if bytes_eq word (codes "\\d") then Command.Describe
    else (if bytes_eq word (codes "\\e") then Command.Epochs
    else (if bytes_eq word (codes "\\?") then Command.Help
    else (if bytes_eq word (codes "\\q") then Command.Quit
    else (if bytes_eq word (codes "\\timing") then Command.Timing else Command.Unknown))))
