-- What the rows of the matches have for DIR.
use Rattle.std.proofs.Common.{◌≡◌, ◌∙◌, ℕ, Bool, true, false, List, [], ◌∷◌, ◌++◌, Option, Some, None, refl, sym, ap}
use Rattle.std.specs.Prelude.{bytes_eq, codes, option_and_then, slice_get}
use Rattle.std.specs.List.{find}
use Rattle.std.proofs.lemmas.Slice.Eq.{bytes_eq-Decides}
use Rattle.clap.specs.Walk.{Row, at_row, first_of, more_values, with_values, without}
use Rattle.clap.specs.declared.builder.value_parser.Reading.{Reading}
use Rattle.clap.specs.declared.parser.matches.ValueSource.{ValueSource}

-- the row of DIR, and its word
abbrev pub dir_row : List Row → Option Row
dir_row = find (λ r. bytes_eq r.id (codes "dir"))

abbrev pub dir_in : List Row → Option (List ℕ)
dir_in = first_of (codes "dir")

-- rows whose change leaves ids as they are, where the id is another one
kept : (id : List ℕ) (change : Row → List Row) (missing rows : List Row) → bytes_eq id (codes "dir") ≡ false
    → ((r : Row) (rs : List Row) → bytes_eq r.id (codes "dir") ≡ false → dir_row (change r ++ rs) ≡ dir_row rs)
    → dir_row missing ≡ None → dir_row (at_row id change missing rows) ≡ dir_row rows
kept id change missing [] other changed none = none
kept id change missing (r ∷ rs) other changed none = by (bytes_eq r.id id) refl (bytes_eq r.id (codes "dir")) refl (kept id change missing rs other changed none)
  where
    by : (t : Bool) → bytes_eq r.id id ≡ t → (u : Bool) → bytes_eq r.id (codes "dir") ≡ u → dir_row (at_row id change missing rs) ≡ dir_row rs → dir_row (at_row id change missing (r ∷ rs)) ≡ dir_row (r ∷ rs)
    by true is true is_dir rest =
        let same : r.id ≡ id = (bytes_eq-Decides r.id id).0 is in
        let never : true ≡ false = sym is_dir ∙ ap (λ (t : List ℕ). bytes_eq t (codes "dir")) same ∙ other in
        absurd cc
    by true is false not_dir rest = rw (is, not_dir) (changed r rs not_dir)
    by false is true is_dir rest = rw (is, is_dir) refl
    by false is false not_dir rest = rw (is, not_dir) rest

without_kept : (id : List ℕ) (rows : List Row) → bytes_eq id (codes "dir") ≡ false → dir_row (without id rows) ≡ dir_row rows
without_kept id rows other = kept id (λ _. []) [] rows other (λ r rs e. refl) refl

-- a use of another argument leaves the row of DIR as it is
pub other_used : (id : List ℕ) (how : Reading) (s : ValueSource) (values : List (List ℕ)) (rows : List Row) → bytes_eq id (codes "dir") ≡ false
    → dir_row (with_values id how s values (without id rows)) ≡ dir_row rows
other_used id how s values rows other =
    kept id (more_values s values) _ (without id rows) other (λ r rs e. rw e refl) (rw other refl) ∙ without_kept id rows other

-- and so does a default of another argument
pub other_given : (id : List ℕ) (how : Reading) (s : ValueSource) (values : List (List ℕ)) (rows : List Row) → bytes_eq id (codes "dir") ≡ false
    → dir_row (with_values id how s values rows) ≡ dir_row rows
other_given id how s values rows other = kept id (more_values s values) _ rows other (λ r rs e. rw e refl) (rw other refl)

-- the first use of DIR
pub dir_used : (how : Reading) (s : ValueSource) (word : List ℕ) (rows : List Row) → dir_row rows ≡ None → dir_in (with_values (codes "dir") how s (word ∷ []) (without (codes "dir") rows)) ≡ Some word
dir_used how s word [] none = refl
dir_used how s word (r ∷ rs) none = by (bytes_eq r.id (codes "dir")) refl none (dir_used how s word rs)
  where
    by : (t : Bool) → bytes_eq r.id (codes "dir") ≡ t → dir_row (r ∷ rs) ≡ None
        → (dir_row rs ≡ None → dir_in (with_values (codes "dir") how s (word ∷ []) (without (codes "dir") rs)) ≡ Some word)
        → dir_in (with_values (codes "dir") how s (word ∷ []) (without (codes "dir") (r ∷ rs))) ≡ Some word
    by true is none rest = let never : ◌≡◌ {A = Option Row} (Some r) None = rw is at none in absurd cc
    by false is none rest = rw (is, is, is) (rest (rw is at none))

-- the word of DIR stands in its row
pub dir_of_row : (a b : List Row) → dir_row a ≡ dir_row b → dir_in a ≡ dir_in b
dir_of_row a b same = ap (option_and_then (λ (r : Row). slice_get r.values 0)) same
