-- The first of some projections, taken one after the other.
use Rattle.std.specs.Prelude.{if◌then◌else◌, List, [], ◌∷◌, Option, Some, true}
use Rattle.std.specs.Option.{option_map_or}
use Rattle.db_model.specs.Database.{Shape}
use Rattle.db_model.specs.Mover.{moves_first}

-- each is taken in the place of the first so far, where it is moved out before it
abbrev pub first_from : Option Shape → List Shape → Option Shape
first_from best [] = best
first_from best (s ∷ ss) = first_from (if option_map_or (λ b. moves_first s b) best true then Some s else best) ss
