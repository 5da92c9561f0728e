-- How a delete vector is spelled.
use Rattle.std.specs.Prelude.{ℕ, ◌+◌, ◌-◌, ◌<◌, ◌^◌, List, [], ◌∷◌, ◌++◌, length}
use Rattle.std.specs.List.{All}
use Rattle.col_bytes.specs.Spellings.{vint, counted}
use Rattle.del_vector.specs.declared.gaps.Gap.{Gap}
use Rattle.del_vector.specs.declared.mark.Mark.{Mark}
use Rattle.del_vector.specs.Marks.{AreMarks}

-- each mark with how many positions lie between it and the one before it; the first stands so far behind this one
abbrev pub gaps_from : ℕ → List Mark → List Gap
gaps_from from [] = []
gaps_from from (m ∷ ms) = record { gap = m.position - from; epoch = m.epoch } ∷ gaps_from (m.position + 1) ms

abbrev pub gap_spelling : Gap → List ℕ
gap_spelling g = vint g.gap ++ vint g.epoch

-- how many marks, and for each its gap and its epoch
abbrev pub spelling : List Mark → List ℕ
spelling ms = counted gap_spelling (gaps_from 0 ms)

-- numbers below 2 ^ 64
abbrev pub FitsMark : Mark → Type 0
FitsMark m = (m.position < 2 ^ 64) × (m.epoch < 2 ^ 64)

-- the marks that have a spelling: some, in order, with numbers below 2 ^ 64
pub record IsSpelled (ms : List Mark) : Type 0 where
  pub some : 0 < length ms
  pub long : length ms < 2 ^ 64
  pub order : AreMarks ms
  pub fits : All FitsMark ms
