-- The verdict on a folder.
use Rattle.std.specs.Prelude.{ℕ, ◌≡◌, ◌⊎◌, List, length}
use Rattle.std.specs.List.{All}
use Rattle.common_laws.specs.Maps.{Contents}
use Rattle.catalog_types.specs.declared.catalogue.Catalogue.{Catalogue}
use Rattle.catalog_types.specs.Reached.{least_lge}
use Rattle.catalog_root.specs.Root.{IsDamage, IsFresh, IsRoot}
use Rattle.col_value.specs.declared.row.Stamped.{Stamped}
use Rattle.audit_model.specs.First.{IsFirst}
use Rattle.audit_model.specs.Listed.{File, Place, file_name, files, places, IsSpelled}
use Rattle.audit_model.specs.Rows.{HasJudged, HoldsHere, IsGood, IsGoodPlace}
use Rattle.audit_model.specs.Pairs.{Pair, in_columns, pairs, IsSamePair}
use Rattle.bag_difference.specs.Differences.{IsLeastDifference}
use Rattle.audit_model.specs.declared.verdict.Verdict.{Verdict}
use Rattle.audit_model.specs.declared.verdict.Verdict.TheVariants.{Yes, File as Damaged, BadRow, Differ}

-- The folder of a catalogue passes: each listed file is its spelling, each stored row that is judged is good, and of each table the
-- projections that are up to date hold the rows of its super projection of least name, in their columns.
pub record PassesAudit (m : Contents) (c : Catalogue) : Type 0 where
  pub files : All (IsSpelled m) (files c)
  pub rows : All (IsGoodPlace m c) (places c)
  pub pairs : All (IsSamePair m c) (pairs c)

-- the first listed file that is absent or not its spelling
pub record IsFirstFile (m : Contents) (c : Catalogue) (name : ℕ) : Type 0 where
  pub file : File
  pub first : IsFirst (IsSpelled m) (files c) file
  pub named : name ≡ file_name file

-- the first row that isn't good, of the first container that has one
pub record IsFirstRow (m : Contents) (c : Catalogue) (table projection : List ℕ) (base pos : ℕ) : Type 0 where
  pub files : All (IsSpelled m) (files c)
  pub at : Place
  pub first : IsFirst (IsGoodPlace m c) (places c) at
  pub rows : List Stamped
  pub held : HoldsHere m at.projection at.container rows
  pub row : Stamped
  pub bad : IsFirst (IsGood c at.table at.projection) rows row
  pub table_is : table ≡ at.table.name
  pub projection_is : projection ≡ at.projection.name
  pub base_is : base ≡ at.container.base
  pub pos_is : pos ≡ length bad.before

-- the first pair that differs, with the least row in which it does and how often that stands in both
pub record IsFirstPair (m : Contents) (c : Catalogue) (table first second : List ℕ) (first_count second_count : ℕ) (row : Stamped) : Type 0 where
  pub files : All (IsSpelled m) (files c)
  pub rows : All (IsGoodPlace m c) (places c)
  pub at : Pair
  pub is : IsFirst (IsSamePair m c) (pairs c) at
  pub xs : List Stamped
  pub ys : List Stamped
  pub one : HasJudged m c at.first xs
  pub other : HasJudged m c at.second ys
  pub difference : IsLeastDifference (in_columns at.first at.second xs) ys row first_count second_count
  pub table_is : table ≡ at.table.name
  pub first_is : first ≡ at.first.name
  pub second_is : second ≡ at.second.name

-- the verdict on the folder of a catalogue: files come before rows, and rows before pairs
abbrev pub IsVerdictOf : Contents → Catalogue → Verdict → Type 0
IsVerdictOf m c (Yes last ahm) = PassesAudit m c × (last ≡ least_lge c) × (ahm ≡ c.ahm)
IsVerdictOf m c (Damaged name) = IsFirstFile m c name
IsVerdictOf m c (BadRow table projection base pos) = IsFirstRow m c table projection base pos
IsVerdictOf m c (Differ table first second first_count second_count row) = IsFirstPair m c table first second first_count second_count row

-- the verdict where there is no catalogue: nothing was ever stored, or a file keeps the folder from opening
abbrev pub IsVerdictWithout : Contents → Verdict → Type 0
IsVerdictWithout m (Yes last ahm) = IsFresh m × (last ≡ 0) × (ahm ≡ 0)
IsVerdictWithout m (Damaged name) = IsDamage m name
IsVerdictWithout m (BadRow table projection base pos) = ⊥
IsVerdictWithout m (Differ table first second first_count second_count row) = ⊥

abbrev pub IsVerdict : Contents → Verdict → Type 0
IsVerdict m verdict = IsVerdictWithout m verdict ⊎ ((v : ℕ) × (c : Catalogue) × IsRoot m v c × IsVerdictOf m c verdict)

-- the folder passes, with this epoch and this mark
abbrev pub IsYes : ℕ → ℕ → Verdict → Type 0
IsYes last ahm (Yes l a) = (l ≡ last) × (a ≡ ahm)
IsYes last ahm (Damaged name) = ⊥
IsYes last ahm (BadRow table projection base pos) = ⊥
IsYes last ahm (Differ table first second first_count second_count row) = ⊥
