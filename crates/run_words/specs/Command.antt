-- The command of the program, as clap reads it: `vert DIR [--mover K] [--halt] [--gen N --seed S] [SCRIPT]` and `vert DIR --audit`.
use Rattle.std.specs.Prelude.{ℕ, true, List, Some, codes}
use Rattle.clap.specs.Words.{App, Rule, new_app, new_rule, with_rule}
use Rattle.clap.specs.Simple.{on_top}
use Rattle.clap.specs.declared.builder.action.ArgAction.TheVariants.{Set, SetTrue}

-- DIR
abbrev pub dir : Rule
dir = record (new_rule (codes "dir")) { action = Some Set; required = true }

-- an option with a value
abbrev pub option : List ℕ → Rule
option name = record (new_rule name) { long = Some name; action = Some Set }

-- an option without a value
abbrev pub flag : List ℕ → Rule
flag name = record (new_rule name) { long = Some name; action = Some SetTrue }

-- SCRIPT
abbrev pub script : Rule
script = record (new_rule (codes "script")) { action = Some Set }

-- without flags for help and for the version
abbrev pub bare : App
bare = on_top (λ s. record s { disable_help_flag = true; disable_version_flag = true }) (new_app (codes "vert"))

abbrev pub vert : App
vert =
    with_rule (with_rule (with_rule (with_rule (with_rule (with_rule (with_rule bare dir) (option (codes "mover"))) (flag (codes "halt"))) (flag (codes "audit"))) (option (codes "gen")))
    (option (codes "seed"))) script
