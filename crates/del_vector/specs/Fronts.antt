-- Reading a delete vector.
use Rattle.std.specs.Prelude.{ℕ, ◌+◌, ◌^◌, ◌&&◌, nat_lt, Bool, true, List, [], ◌∷◌, length, Option, option_map, option_and_then}
use Rattle.col_bytes.specs.Fronts.{vint_at}
use Rattle.col_bytes.specs.Parts.{both, made, counted_at, ended, tested}
use Rattle.del_vector.specs.declared.gaps.Gap.{Gap}
use Rattle.del_vector.specs.declared.mark.Mark.{Mark}

abbrev pub made_gap : ℕ × ℕ → Gap
made_gap x = record { gap = x.0; epoch = x.1 }

unfoldable pub gap_at : List ℕ → Option (Gap × List ℕ)
gap_at bytes = made made_gap (both vint_at vint_at) bytes

-- the marks of some gaps, the first of which is counted from a position
abbrev pub marks_from : ℕ → List Gap → List Mark
marks_from from [] = []
marks_from from (g ∷ gs) = record { position = from + g.gap; epoch = g.epoch } ∷ marks_from (from + g.gap + 1) gs

-- their positions are below 2 ^ 64, and their epochs at least 1
abbrev pub reach : ℕ → List Gap → Bool
reach from [] = true
reach from (g ∷ gs) = nat_lt (from + g.gap) (2 ^ 64) && (nat_lt 0 g.epoch && reach (from + g.gap + 1) gs)

abbrev pub are_gaps : List Gap → Bool
are_gaps gs = nat_lt 0 (length gs) && reach 0 gs

-- the gaps that all of the bytes are
unfoldable pub gaps_of : List ℕ → Option (List Gap)
gaps_of bytes = tested are_gaps (option_and_then ended (counted_at gap_at bytes))

-- the marks that all of the bytes are
abbrev pub marks_of : List ℕ → Option (List Mark)
marks_of bytes = option_map (marks_from 0) (gaps_of bytes)
