-- The index of a column, in its file or made of a default.
use Rattle.std.proofs.Common.{◌≡◌, ◌<◌, ◌≤◌, ℕ, true, List, length, refl, sym, ◌∙◌, ap, subst, inl, inr, arith}
use Rattle.std.specs.Prelude.{◌⊎◌, ◌==◌, Option, Some, None, MatchOption}
use Rattle.std.proofs.lemmas.Bool.Decides.{nat_tests}
use Rattle.std.proofs.lemmas.List.{length-map}
use Rattle.common_laws.specs.Maps.{Contents}
use Rattle.catalog_types.specs.declared.catalogue.Container.{Container}
use Rattle.catalog_types.specs.declared.catalogue.Projection.{Projection}
use Rattle.col_file.specs.Column.{IsFile}
use Rattle.pos_index.specs.declared.index.PosIndex.{PosIndex}
use Rattle.pos_index.specs.Index.{index_spelling}
use Rattle.ros_container.specs.Encodings.{Written, written_as, written_of, default_at}
use Rattle.ros_container.specs.Files.{index_of, place_of}
use Rattle.container_blocks.specs.Blocks.{IsIndexOfOne, HasIndex}
use Rattle.container_blocks.specs.Parts.{IsIndexAt}
use Rattle.container_blocks.proofs.Columns.{IsLast, IsStored, a_place, no_place, below_last}

-- the place of a column, by what a projection has written
pub place_told : (p : Projection) (k : Container) (i : ℕ) (o : Option ℕ) → o ≡ place_of (length p.columns) k i → place_of (length (written_of p)) k i ≡ o
place_told p k i o is = ap (λ (n : ℕ). place_of n k i) (length-map p.columns written_as) ∙ sym is

pub place_within : (columns : ℕ) (k : Container) (i place : ℕ) → k.stored ≤ columns → place_of columns k i ≡ Some place → place ≤ k.stored
place_within columns k i place most is = by (a_place columns k i place is)
  where
    by : IsLast columns k i place ⊎ IsStored columns k i place → place ≤ k.stored
    by (inl (last, at)) = omega (arith, at)
    by (inr (differs, (lt, at))) = omega (arith, lt, at)

-- a column without a place isn't stored
pub is_behind : (columns : ℕ) (k : Container) (i : ℕ) → i ≤ columns → place_of columns k i ≡ None → (k.stored ≤ i) × (i < columns)
is_behind columns k i le none = let it = no_place columns k i none in (it.0, below_last columns i le it.1)

pub has_file : (es : List Written) (k : Container) (i place : ℕ) (at : PosIndex) (holds : Option Contents) → place_of (length es) k i ≡ Some place → IsIndexAt k place at holds → HasIndex es k i at holds
has_file es k i place at holds is file = subst (λ (o : Option ℕ). MatchOption o (IsIndexOfOne (default_at es i) at) (λ p. IsFile (index_of k.base p) (index_spelling at) holds)) (sym is) file

pub the_file : (es : List Written) (k : Container) (i place : ℕ) (at : PosIndex) (holds : Option Contents) → place_of (length es) k i ≡ Some place → HasIndex es k i at holds → IsIndexAt k place at holds
the_file es k i place at holds is has = subst (λ (o : Option ℕ). MatchOption o (IsIndexOfOne (default_at es i) at) (λ p. IsFile (index_of k.base p) (index_spelling at) holds)) is has

pub has_default : (es : List Written) (k : Container) (i : ℕ) (at : PosIndex) (holds : Option Contents) → place_of (length es) k i ≡ None → IsIndexOfOne (default_at es i) at → HasIndex es k i at holds
has_default es k i at holds is one = subst (λ (o : Option ℕ). MatchOption o (IsIndexOfOne (default_at es i) at) (λ p. IsFile (index_of k.base p) (index_spelling at) holds)) (sym is) one

-- the epochs stand behind the columns that are stored
pub last_place : (columns : ℕ) (k : Container) → place_of columns k columns ≡ Some k.stored
last_place columns k = let same : (columns == columns) ≡ true = grind (arith, nat_tests) in rw same refl
