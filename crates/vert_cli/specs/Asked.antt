-- What a run is asked for, by its words and by what its files have.
use Rattle.std.specs.Prelude.{ℕ, ◌&&◌, nat_le, if◌then◌else◌, Bool, List, length, Option, Some, None, option_map}
use Rattle.sql_words.specs.Texts.{statement_texts}
use Rattle.db_model.specs.Loading.{Files}
use Rattle.db_model.specs.Run.{Setting}
use Rattle.run_words.specs.Words.{Source, from_file, generated, Wanted, runs, audits}
use Rattle.generated_load.specs.Load.{generated_files, generated_script}
use Rattle.vert_cli.specs.Runs.{setting_of}

-- what is asked for
pub data Asked : Type 0 where
  -- the words aren't of the form
  misused : Asked
  -- an audit of the folder
  audit : Asked
  -- a script, and no file has its name
  absent : Asked
  -- a script that is over a limit
  large : Asked
  -- the statement texts of a script, in the setting in which it is run
  statements : Setting → List (List ℕ) → Asked

-- a script has no more than 67,108,864 bytes and 4,096 statements
unfoldable pub is_within_limits : List ℕ → Bool
is_within_limits script = nat_le (length script) 67108864 && nat_le (length (statement_texts script)) 4096

-- a script, where this is what its name has
abbrev pub asked_by : Setting → Option (List ℕ) → Asked
asked_by setting None = absent
asked_by setting (Some script) = if is_within_limits script then statements setting (statement_texts script) else large

-- The script of a name is the file that has it, and reads from the files; nothing is known of it where they don't tell what they have. The
-- generated one, which is within the limits, reads from the files that have its load.
abbrev pub asked_from : Source → ℕ → Bool → Option Files → Option Asked
asked_from (from_file name) steps halts content = option_map (λ files. asked_by (setting_of files steps halts) (files name)) content
asked_from (generated lines seed) steps halts content = Some (statements (setting_of (generated_files lines seed) steps halts) (statement_texts generated_script))

-- what these words ask for, over files of this content
unfoldable pub asked : Option Wanted → Option Files → Option Asked
asked None content = Some misused
asked (Some (runs run)) content = asked_from run.source run.steps run.halts content
asked (Some audits) content = Some audit
