-- Where clap's walk over the words stands, and what it has of DIR there.
use Rattle.std.proofs.Common.{◌≡◌, ◌∙◌, ℕ, Bool, true, false, List, [], ◌∷◌, Option, Some, None, refl, sym, subst}
use Rattle.std.specs.Prelude.{bytes_eq, codes, fold}
use Rattle.clap.specs.Kinds.{Kinds, or_else}
use Rattle.clap.specs.Faults.{settle_fault, turn_fault, walk_fault}
use Rattle.clap.specs.Simple.{Shape, built}
use Rattle.clap.specs.Walk.{Held, Row, Rule, Text, Waiting, Walk, arg_by_id, arg_by_index, idle, option, settled, settled_rows, to_positional, used_by_id, walked}
use Rattle.run_words.specs.Command.{vert}
use Rattle.run_words.specs.Words.{first_word}
use Rattle.run_words.proofs.DirRows.{dir_in, dir_of_row, dir_row, dir_used, other_used}

abbrev pub top : Shape
top = (built vert).top

abbrev pub rules : List Rule
rules = (built vert).top.rules

-- the options with a value
pub data Valued : Type 0 where
  mover : Valued
  lines : Valued
  seed : Valued

abbrev pub text_of : Valued → Text
text_of mover = codes "mover"
text_of lines = codes "gen"
text_of seed = codes "seed"

-- the options without a value
pub data Flag : Type 0 where
  halt : Flag
  audit : Flag

abbrev pub name_of : Flag → Text
name_of halt = codes "halt"
name_of audit = codes "audit"

-- what stands of DIR and SCRIPT
pub data Place : Type 0 where
  neither : Place
  dir : Text → Place
  both : Text → Place

abbrev pub position_of : Place → ℕ
position_of neither = 1
position_of (dir d) = 2
position_of (both d) = 3

abbrev pub IsAt : Place → List Row → Type 0
IsAt neither rows = dir_row rows ≡ None
IsAt (dir d) rows = dir_in rows ≡ Some d
IsAt (both d) rows = dir_in rows ≡ Some d

abbrev pub answer : Place → Option Text → Option Text
answer neither next = next
answer (dir d) next = Some d
answer (both d) next = Some d

-- what the next word may go to: an option that waits for its value, or no option
pub data Wait : Type 0 where
  free : Option (Text × List Text) → Wait
  valued : Valued → Wait

abbrev pub pending_of : Wait → Option (Text × List Text)
pending_of (free p) = p
pending_of (valued o) = Some (text_of o, [])

abbrev pub waiting_of : Wait → Waiting
waiting_of (free p) = idle
waiting_of (valued o) = option (text_of o)

abbrev pub held : List Row → Wait → Held
held rows wait = record { rows = rows; pending = pending_of wait; skip = 0 }

abbrev pub standing : List Row → Wait → Place → Bool → Walk
standing rows wait place trailing = record { held = held rows wait; waiting = waiting_of wait; position = position_of place; is_trailing = trailing; stopped = None }

abbrev pub At : Wait → Place → List Row → Type 0
At (free p) place rows = IsAt place (settled_rows rules p rows)
At (valued o) place rows = IsAt place rows

abbrev pub end_of : Walk → List Text → Held
end_of w ws = (fold (walked rules []) w ws).held

abbrev pub Found : Walk → List Text → Option Text → Type 0
Found w ws word = dir_in (settled rules (end_of w ws)).rows ≡ word

pub record IsFaultless (w : Walk) (ws : List Text) : Type 0 where
  pub words : walk_fault top [] w ws ≡ []
  pub last : settle_fault rules false (end_of w ws) ≡ []

pub nothing_else : (a b : Kinds) → or_else a b ≡ [] → (a ≡ []) × (b ≡ [])
nothing_else [] b is = (refl, is)
nothing_else (k ∷ ks) b is = absurd cc

pub one_word : (w : Walk) (word : Text) (ws : List Text) → IsFaultless w (word ∷ ws) → (turn_fault top [] w word ≡ []) × IsFaultless (walked rules [] w word) ws
unfolding walk_fault
one_word w word ws ok = let parts = nothing_else (turn_fault top [] w word) _ ok.words in (parts.0, record { words = parts.1; last = ok.last })

-- ---- the rows

unfoldable pub rows_used : Valued → List Text → List Row → List Row
rows_used o values rows = used_by_id (arg_by_id rules (text_of o)) values rows

pub row_kept : (o : Valued) (values : List Text) (rows : List Row) → dir_row (rows_used o values rows) ≡ dir_row rows
unfolding rows_used
row_kept mover values rows = other_used (codes "mover") _ _ _ rows refl
row_kept lines values rows = other_used (codes "gen") _ _ _ rows refl
row_kept seed values rows = other_used (codes "seed") _ _ _ rows refl

unfoldable pub rows_flagged : Flag → List Row → List Row
rows_flagged f rows = used_by_id (arg_by_id rules (name_of f)) [] rows

pub flag_kept : (f : Flag) (rows : List Row) → dir_row (rows_flagged f rows) ≡ dir_row rows
unfolding rows_flagged
flag_kept halt rows = other_used (codes "halt") _ _ _ rows refl
flag_kept audit rows = other_used (codes "audit") _ _ _ rows refl

pub script_kept : (values : List Text) (rows : List Row) → dir_row (used_by_id (arg_by_id rules (codes "script")) values rows) ≡ dir_row rows
script_kept values rows = other_used (codes "script") _ _ _ rows refl

pub at_kept : (place : Place) (a b : List Row) → dir_row a ≡ dir_row b → IsAt place b → IsAt place a
at_kept neither a b same is = same ∙ is
at_kept (dir d) a b same is = dir_of_row a b same ∙ is
at_kept (both d) a b same is = dir_of_row a b same ∙ is

pub at_end : (place : Place) (rows : List Row) → IsAt place rows → dir_in rows ≡ answer place None
at_end neither rows is = dir_of_row rows [] is
at_end (dir d) rows is = is
at_end (both d) rows is = is

-- ---- a word that goes to DIR or to SCRIPT

abbrev pub taken : Place → Text → Place
taken neither word = dir word
taken (dir d) word = both d
taken (both d) word = both d

abbrev pub rows_taken : Place → Option (Text × List Text) → List Row → List Row
rows_taken neither p rows = settled_rows rules p rows
rows_taken (dir d) p rows = settled_rows rules p rows
rows_taken (both d) p rows = rows

abbrev pub pending_taken : Place → Text → Option (Text × List Text) → Option (Text × List Text)
pending_taken neither word p = Some (codes "dir", word ∷ [])
pending_taken (dir d) word p = Some (codes "script", word ∷ [])
pending_taken (both d) word p = p

abbrev pub goes : Place → Text → Option (Text × List Text) → List Row → Bool → Type 0
goes place word p rows trailing =
    to_positional rules (arg_by_index rules (position_of place)) word (standing rows (free p) place trailing) (held rows (free p))
    ≡ standing (rows_taken place p rows) (free (pending_taken place word p)) (taken place word) trailing

pub to_place : (place : Place) (word : Text) (p : Option (Text × List Text)) (rows : List Row) (trailing : Bool) → goes place word p rows trailing
to_place neither word None rows true = refl
to_place neither word None rows false = refl
to_place neither word (Some q) rows trailing = by (bytes_eq q.0 (codes "dir")) refl trailing
  where
    by : (t : Bool) → bytes_eq q.0 (codes "dir") ≡ t → (trailing : Bool) → goes neither word (Some q) rows trailing
    by true is true = rw is refl
    by true is false = rw is refl
    by false is true = rw is refl
    by false is false = rw is refl
to_place (dir d) word None rows true = refl
to_place (dir d) word None rows false = refl
to_place (dir d) word (Some q) rows trailing = by (bytes_eq q.0 (codes "script")) refl trailing
  where
    by : (t : Bool) → bytes_eq q.0 (codes "script") ≡ t → (trailing : Bool) → goes (dir d) word (Some q) rows trailing
    by true is true = rw is refl
    by true is false = rw is refl
    by false is true = rw is refl
    by false is false = rw is refl
to_place (both d) word p rows trailing = refl

pub at_taken : (place : Place) (word : Text) (p : Option (Text × List Text)) (rows : List Row) → IsAt place (settled_rows rules p rows) → At (free (pending_taken place word p)) (taken place word) (rows_taken place p rows)
at_taken neither word p rows is = dir_used _ _ word (settled_rows rules p rows) is
at_taken (dir d) word p rows is =
    dir_of_row (used_by_id (arg_by_id rules (codes "script")) (word ∷ []) (settled_rows rules p rows)) (settled_rows rules p rows) (script_kept (word ∷ []) (settled_rows rules p rows)) ∙ is
at_taken (both d) word p rows is = is

pub same_answer : (place : Place) (word : Text) (next : Option Text) → answer (taken place word) next ≡ answer place (Some word)
same_answer neither word next = refl
same_answer (dir d) word next = refl
same_answer (both d) word next = refl

-- behind `--`
pub found_behind : (ws : List Text) (place : Place) (p : Option (Text × List Text)) (rows : List Row) → IsAt place (settled_rows rules p rows) → Found (standing rows (free p) place true) ws (answer place (first_word ws))
unfolding walked
found_behind [] place p rows is = at_end place (settled_rows rules p rows) is
found_behind (word ∷ ws) place p rows is =
    let next = found_behind ws (taken place word) (pending_taken place word p) (rows_taken place p rows) (at_taken place word p rows is) in
    subst (λ (w : Walk). Found w ws (answer place (Some word))) (sym (to_place place word p rows true)) (next ∙ same_answer place word (first_word ws))
