-- What is found of pairs of projections whose files hold rows: each is one bag, or the first that isn't is told.
use Rattle.std.specs.Prelude.{ℕ, ◌≡◌, ◌<◌, if◌then◌else◌, List, [], ◌∷◌, length, map, filter, Option, Some, None}
use Rattle.std.specs.List.{All, range_with_len}
use Rattle.common_laws.specs.Maps.{Contents}
use Rattle.catalog_types.specs.declared.catalogue.Projection.{Projection}
use Rattle.catalog_types.specs.declared.catalogue.Table.{Table}
use Rattle.catalog_types.specs.declared.catalogue.Catalogue.{Catalogue}
use Rattle.col_value.specs.declared.row.Stamped.{Stamped}
use Rattle.ros_container.specs.Readable.{IsReadable}
use Rattle.row_history.specs.History.{on_columns}
use Rattle.stored_rows.specs.Held.{Holds}
use Rattle.folder_model.specs.Projections.{ordinals}
use Rattle.bag_difference.specs.Differences.{IsLeastDifference}
use Rattle.audit_model.specs.First.{IsFirst}
use Rattle.audit_model.specs.Listed.{files, places, IsSpelled}
use Rattle.audit_model.specs.Rows.{HasJudgedIn, IsGoodPlace, judged_in}
use Rattle.audit_model.specs.Pairs.{Pair, in_columns, is_other, pair, pairs_with, places_among, super_of, IsSamePairIn}
use Rattle.audit_model.specs.Verdicts.{IsVerdictOf}
use Rattle.audit_model.specs.declared.verdict.Verdict.{Verdict}
use Rattle.audit_model.specs.declared.verdict.Verdict.TheVariants.{Yes, File as Damaged, BadRow, Differ}

-- a projection's containers have files, and its columns are columns of the table
pub record CanRead (t : Table) (p : Projection) : Type 0 where
  pub files : All (IsReadable p.columns) p.containers
  pub columns : All (λ i. i < length t.columns) (ordinals p)

-- and the first of two has the columns of the second
pub record CanCompare (p q : Projection) : Type 0 where
  pub first : All (IsReadable p.columns) p.containers
  pub second : All (IsReadable q.columns) q.containers
  pub columns : All (λ c. c < length p.columns) (places_among p q)

-- all places of a projection's columns
abbrev pub places_in_all : Projection → List ℕ
places_in_all p = range_with_len 0 (length p.columns)

-- the files of both hold rows, and what is judged of the second's is as wide as the second
pub record HasBoth (m : Contents) (epoch mark : ℕ) (p q : Projection) : Type 0 where
  pub one : List Stamped
  pub other : List Stamped
  pub first : Holds m p one
  pub second : Holds m q other
  pub wide : All (λ s. length s.row ≡ length q.columns) (judged_in epoch mark other)

abbrev pub HasBothOf : Contents → ℕ → ℕ → Pair → Type 0
HasBothOf m epoch mark x = HasBoth m epoch mark x.first x.second

-- these are what is judged of both, in the columns of the second
abbrev pub AreBoth : Contents → ℕ → ℕ → Projection → Projection → List Stamped → List Stamped → Type 0
AreBoth m epoch mark p q xs ys =
    (one : List Stamped) (other : List Stamped) → Holds m p one → Holds m q other
    → (xs ≡ in_columns p q (judged_in epoch mark one)) × (ys ≡ map (on_columns (places_in_all q)) (judged_in epoch mark other))

-- the verdict tells two projections of a table and the least row in which two lists differ
abbrev pub Tells : Table → Projection → Projection → List Stamped → List Stamped → Verdict → Type 0
Tells t p q xs ys (Yes last ahm) = ⊥
Tells t p q xs ys (Damaged name) = ⊥
Tells t p q xs ys (BadRow table projection base pos) = ⊥
Tells t p q xs ys (Differ table first second a b row) = IsLeastDifference xs ys row a b × (table ≡ t.name) × (first ≡ p.name) × (second ≡ q.name)

-- a pair that isn't one bag, and its verdict
pub record IsApart (m : Contents) (epoch mark : ℕ) (x : Pair) (verdict : Verdict) : Type 0 where
  pub xs : List Stamped
  pub ys : List Stamped
  pub one : HasJudgedIn m epoch mark x.first xs
  pub other : HasJudgedIn m epoch mark x.second ys
  pub told : Tells x.table x.first x.second (in_columns x.first x.second xs) ys verdict
  pub differ : IsSamePairIn m epoch mark x → ⊥

-- the first of some pairs that isn't one bag
pub record IsFirstApart (m : Contents) (epoch mark : ℕ) (xs : List Pair) (verdict : Verdict) : Type 0 where
  pub at : Pair
  pub first : IsFirst (IsSamePairIn m epoch mark) xs at
  pub apart : IsApart m epoch mark at verdict

-- of one pair
abbrev pub JudgesPair : Option Contents → ℕ → ℕ → Pair → Option Verdict → Type 0
JudgesPair holds epoch mark x None = (m : Contents) → holds ≡ Some m → HasBothOf m epoch mark x → IsSamePairIn m epoch mark x
JudgesPair holds epoch mark x (Some verdict) = (m : Contents) → holds ≡ Some m → HasBothOf m epoch mark x → IsApart m epoch mark x verdict

-- of some
abbrev pub JudgesAll : Option Contents → ℕ → ℕ → List Pair → Option Verdict → Type 0
JudgesAll holds epoch mark xs None = (m : Contents) → holds ≡ Some m → All (HasBothOf m epoch mark) xs → All (IsSamePairIn m epoch mark) xs
JudgesAll holds epoch mark xs (Some verdict) = (m : Contents) → holds ≡ Some m → All (HasBothOf m epoch mark) xs → IsFirstApart m epoch mark xs verdict

-- one projection of a table with another, if that is up to date, and with each of these
abbrev pub pairs_beside : Table → Projection → Projection → List Pair
pairs_beside t p q = if is_other p q then pair t p q ∷ [] else []

abbrev pub pairs_of : Table → Projection → List Projection → List Pair
pairs_of t p ps = map (pair t p) (filter (is_other p) ps)

abbrev pub super_pairs : Table → List Pair
super_pairs t = pairs_with t (super_of t)

-- the verdict where each listed file is its spelling
abbrev pub JudgesBehindFiles : Option Contents → Catalogue → Verdict → Type 0
JudgesBehindFiles holds c verdict = (m : Contents) → holds ≡ Some m → All (IsSpelled m) (files c) → IsVerdictOf m c verdict

-- and each stored row is good
abbrev pub JudgesBehindRows : Option Contents → Catalogue → Verdict → Type 0
JudgesBehindRows holds c verdict = (m : Contents) → holds ≡ Some m → All (IsSpelled m) (files c) → All (IsGoodPlace m c) (places c) → IsVerdictOf m c verdict
