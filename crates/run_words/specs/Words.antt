-- The words that the program is called with.
use Rattle.std.specs.Prelude.{ℕ, ◌^◌, ◌-◌, ◌==◌, ◌||◌, ◌&&◌, not, nat_le, eqb, if◌then◌else◌, Bool, true, false, List, [], ◌∷◌, Option, Some, None, is_some, option_map, option_and_then, bytes_eq, codes}
use Rattle.std.specs.List.{starts_with}
use Rattle.std.specs.Str.{all_ascii_digits}
use Rattle.std.specs.Str.Parse.{digits_value}
use Rattle.clap.specs.Words.{Row, fault_of, first_of, matches_of}
use Rattle.clap.specs.Walk.{is_empty}
use Rattle.run_words.specs.Command.{vert}

-- where the statements come from: the file of this name, or the generated script with a load of so many lines from a seed
pub data Source : Type 0 where
  from_file : List ℕ → Source
  generated : ℕ → ℕ → Source

-- the run of a script: the statements, how many steps the mover makes behind each of them, and whether the run halts without an end
pub record ScriptRun : Type 0 where
  pub source : Source
  pub steps : ℕ
  pub halts : Bool

-- what the words ask for: the run of a script, or an audit of the folder
pub data Wanted : Type 0 where
  runs : ScriptRun → Wanted
  audits : Wanted

-- digits that aren't none, and begin with no zero but for 0 itself
abbrev pub is_plain : List ℕ → Bool
is_plain [] = false
is_plain (b ∷ []) = all_ascii_digits (b ∷ [])
is_plain (b ∷ (c ∷ more)) = all_ascii_digits (b ∷ (c ∷ more)) && not (b == 48)

-- the number that a word spells in plain digits, where it is one from `least` to `most`
abbrev pub number_in : ℕ → ℕ → List ℕ → Option ℕ
number_in least most word = if is_plain word && (nat_le least (digits_value 10 word) && nat_le (digits_value 10 word) most) then Some (digits_value 10 word) else None

-- K of `--mover K`, which is 0 where it is left out
abbrev pub steps_in : Option (List ℕ) → Option ℕ
steps_in None = Some 0
steps_in (Some word) = number_in 0 1000 word

-- N of `--gen N` with S of `--seed S`
abbrev pub generated_by : List ℕ → List ℕ → Option Source
generated_by count start =
    option_and_then (λ n. option_map (generated n) (number_in 0 (2 ^ 64 - 1) start)) (number_in 1 1000000 count)

-- `--gen` and `--seed` stand together, and SCRIPT exactly where they don't
abbrev pub source_of : Option (List ℕ) → Option (List ℕ) → Option (List ℕ) → Option Source
source_of None None None = None
source_of None None (Some name) = Some (from_file name)
source_of None (Some start) None = None
source_of None (Some start) (Some name) = None
source_of (Some count) None None = None
source_of (Some count) None (Some name) = None
source_of (Some count) (Some start) None = generated_by count start
source_of (Some count) (Some start) (Some name) = None

-- the value of a flag says that it was given
abbrev pub is_set : Option (List ℕ) → Bool
is_set None = false
is_set (Some value) = bytes_eq value (codes "true")

-- the run that the matches ask for
abbrev pub run_asked : List Row → Option ScriptRun
run_asked rows =
    option_and_then (λ n. option_map (λ from. record { source = from; steps = n; halts = is_set (first_of (codes "halt") rows) })
    (source_of (first_of (codes "gen") rows) (first_of (codes "seed") rows) (first_of (codes "script") rows)))
    (steps_in (first_of (codes "mover") rows))

-- beside `--audit` stands nothing but DIR
abbrev pub audit_asked : List Row → Option Wanted
audit_asked rows =
    if is_set (first_of (codes "halt") rows) || (is_some (first_of (codes "mover") rows) || (is_some (first_of (codes "gen") rows) || (is_some (first_of (codes "seed") rows) || is_some (first_of (codes "script") rows))))
    then None else Some audits

-- what the matches ask for
unfoldable pub asked_for : List Row → Option Wanted
asked_for rows = if is_set (first_of (codes "audit") rows) then audit_asked rows else option_map runs (run_asked rows)

-- clap takes the words
abbrev pub is_form : List (List ℕ) → Bool
is_form words = is_empty (fault_of vert words)

-- what the words ask for, the program's name as the first
abbrev pub wanted : List (List ℕ) → Option Wanted
wanted words = if is_form words then asked_for (matches_of vert words) else None

-- a word that begins with `--`
abbrev pub is_option : List ℕ → Bool
is_option word = starts_with eqb word (codes "--")

-- an option behind which its value stands
abbrev pub takes_value : List ℕ → Bool
takes_value word = bytes_eq word (codes "--mover") || (bytes_eq word (codes "--gen") || bytes_eq word (codes "--seed"))

abbrev pub first_word : List (List ℕ) → Option (List ℕ)
first_word [] = None
first_word (word ∷ more) = Some word

-- the first word that is no option and no option's value, and behind `--` the next word (`skip`: the first one here is such a value)
abbrev pub dir_behind : Bool → List (List ℕ) → Option (List ℕ)
dir_behind skip [] = None
dir_behind true (word ∷ more) = dir_behind false more
dir_behind false (word ∷ more) =
    if bytes_eq word (codes "--") then first_word more
    else (if is_option word then dir_behind (takes_value word) more else Some word)

-- DIR: the program's name is skipped, as a value is
abbrev pub dir_of_words : List (List ℕ) → Option (List ℕ)
dir_of_words words = dir_behind true words
