-- The laws that the numbers of files last over a script, and so that it has one text.
use Rattle.std.specs.Prelude.{ℕ, ◌≡◌, ◌≤◌, List, Bool, false, length}
use Rattle.std.specs.List.{All}
use Rattle.sql_words.specs.Texts.{statement_texts}
use Rattle.db_model.specs.State.{State}
use Rattle.db_model.specs.Numbers.{are_spent}
use Rattle.db_model.specs.Run.{Run, Setting}
use Rattle.one_text.specs.Scripts.{AsksNoMover, IsSameButNumbers}

-- numbers for a script: the next one is at most 2^55, and no projection has more than 2,048 containers; over an empty folder it is so
pub record HasNumbers (state : State) : Type 0 where
  pub next : state.next ≤ 36028797018963968
  pub parts : state.parts ≤ 2048

-- A script of as many statements as one may have, run from there without steps of the mover behind its statements (it may ask for such and
-- for jobs itself), leaves numbers at its end, whatever its events draw.
abbrev pub NumbersLast : Type 0
NumbersLast =
    (setting : Setting) (start : State) (script printed : List ℕ) (refused : Bool) (new : State) → setting.steps ≡ 0 → length (statement_texts script) ≤ 4096 → HasNumbers start
    → Run setting start script printed refused new → are_spent new ≡ false

-- So two such runs of a script that asks the mover for nothing print the same, some statement is refused in both or in none, and they leave
-- the same database.
abbrev pub ShortScriptsHaveOneText : Type 0
ShortScriptsHaveOneText =
    (setting : Setting) (start begin : State) (script printed other : List ℕ) (refused also : Bool) (new left : State) → setting.steps ≡ 0 → length (statement_texts script) ≤ 4096
    → All AsksNoMover (statement_texts script) → HasNumbers start → HasNumbers begin → IsSameButNumbers start begin
    → Run setting start script printed refused new → Run setting begin script other also left → (printed ≡ other) × (refused ≡ also) × (new.database ≡ left.database)
