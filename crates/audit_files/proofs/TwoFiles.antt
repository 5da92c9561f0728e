-- The two files of a column, judged.
use Rattle.std.proofs.Common.{◌≡◌, ℕ, List, [], ◌∷◌, map, refl, sym, ap, subst, ◌∙◌}
use Rattle.std.specs.Prelude.{Option, Some, Result, Ok, Err, IfOk, IfErr}
use Rattle.std.specs.List.{All}
use Rattle.std.specs.FinMap.{get}
use Rattle.std.proofs.lemmas.List.Elements.{All-nil, All-cons}
use Rattle.common_laws.specs.Maps.{Contents}
use Rattle.catalog_types.specs.declared.catalogue.Container.{Container}
use Rattle.catalog_types.specs.declared.catalogue.Projection.{Projection}
use Rattle.col_disk.specs.declared.disk.StoreFault.{StoreFault}
use Rattle.col_disk.specs.declared.disk.StoreFault.TheVariants.{Disk, Damaged, Memory}
use Rattle.col_value.specs.declared.kinds.Encoding.{Encoding}
use Rattle.col_value.specs.declared.value.Value.{Value}
use Rattle.pos_index.specs.declared.index.PosIndex.{PosIndex}
use Rattle.pos_index.specs.Index.{index_spelling, IsIndex, Fits}
use Rattle.col_file.specs.Column.{IsFile, IsNoFile}
use Rattle.col_file.specs.Read.{Blames, SpellsIndex}
use Rattle.col_file.specs.Held.{HasBlocks, HoldsColumn, IsIndexFile}
use Rattle.col_file.proofs.OneColumn.{by_index}
use Rattle.ros_container.specs.Files.{body_of, index_of}
use Rattle.audit_model.specs.Listed.{file, name_of, IsPart, IsSpelled}
use Rattle.audit_files.specs.declared.stored.StoredColumn.{StoredColumn}
use Rattle.audit_files.specs.declared.stored.StoredColumn.TheVariants.{Column, Epochs}
use Rattle.audit_files.specs.Columns.{place_in, encoding_in, index_part, body_part, parts_in, MayStand, HoldsSuch, HoldsNoSuch}
use Rattle.audit_files.specs.Walks.{Faults, Judges}

-- ---- what the two files are, whichever column

-- a column of such values
abbrev HoldsAt : Contents → Projection → Container → StoredColumn → Type 0
HoldsAt m p k x = (vs : List Value) × HoldsColumn (encoding_in p x) (body_of k.base (place_in k x)) (index_of k.base (place_in k x)) k.rows m vs × All (MayStand k x) vs

index_name : (k : Container) (x : StoredColumn) → name_of k (index_part x) ≡ index_of k.base (place_in k x)
index_name k (Column i) = refl
index_name k Epochs = refl

body_name : (k : Container) (x : StoredColumn) → name_of k (body_part x) ≡ body_of k.base (place_in k x)
body_name k (Column i) = refl
body_name k Epochs = refl

index_there : (m : Contents) (p : Projection) (k : Container) (x : StoredColumn) → IsPart m p k (index_part x) → IsIndexFile (index_of k.base (place_in k x)) k.rows m
index_there m p k (Column i) is = is
index_there m p k Epochs is = is

there_index : (m : Contents) (p : Projection) (k : Container) (x : StoredColumn) → IsIndexFile (index_of k.base (place_in k x)) k.rows m → IsPart m p k (index_part x)
there_index m p k (Column i) is = is
there_index m p k Epochs is = is

body_there : (m : Contents) (p : Projection) (k : Container) (x : StoredColumn) → IsPart m p k (body_part x) → HoldsAt m p k x
body_there m p k (Column i) (vs, held) = (vs, held, λ j d lt. tt)
body_there m p k Epochs is = is

there_body : (m : Contents) (p : Projection) (k : Container) (x : StoredColumn) → HoldsAt m p k x → IsPart m p k (body_part x)
there_body m p k (Column i) (vs, held, all) = (vs, held)
there_body m p k Epochs is = is

-- ---- an index that isn't one

pub index_blamed : (p : Projection) (k : Container) (x : StoredColumn) (holds : Option Contents) (index : ℕ) (fault : StoreFault) → index ≡ index_of k.base (place_in k x) → Blames index (IsNoFile index (SpellsIndex k.rows) holds) fault
    → Faults holds (map (file p k) (parts_in x)) fault
index_blamed p k x holds index Disk named given = tt
index_blamed p k x holds index (Damaged name) named given = λ m told. record {
  file = file p k (index_part x);
  first = record {
    before = [];
    after = file p k (body_part x) ∷ [];
    is = refl;
    good = All-nil (IsSpelled m);
    bad = λ is.
        let of = index_there m p k x is in
        given.1 m told (index_spelling of.0) (ap (get m) named ∙ of.4) (of.0, of.1, of.2, of.3, refl);
  };
  named = given.0 ∙ named ∙ sym (index_name k x);
}
index_blamed p k x holds index Memory named given = tt

-- ---- a body, by the index that was read

-- what was read of a column's index
pub record HasIndex (k : Container) (index : ℕ) (at : PosIndex) (holds : Option Contents) : Type 0 where
  pub is : IsIndex at
  pub fits : Fits at
  pub rows : at.rows ≡ k.rows
  pub there : IsFile index (index_spelling at) holds

-- that its names and its encoding are those of the column
pub record IsNamedAs (p : Projection) (k : Container) (x : StoredColumn) (index body : ℕ) (encoding : Encoding) : Type 0 where
  pub index_is : index ≡ index_of k.base (place_in k x)
  pub body_is : body ≡ body_of k.base (place_in k x)
  pub encoding_is : encoding ≡ encoding_in p x

is_index : (p : Projection) (k : Container) (x : StoredColumn) (holds : Option Contents) (index : ℕ) (at : PosIndex) → index ≡ index_of k.base (place_in k x) → HasIndex k index at holds
    → (m : Contents) → holds ≡ Some m → IsPart m p k (index_part x)
is_index p k x holds index at named has m told = there_index m p k x (at, has.is, has.fits, has.rows, ap (get m) (sym named) ∙ has.there m told)

column_is : (p : Projection) (k : Container) (x : StoredColumn) (holds now : Option Contents) (index body : ℕ) (encoding : Encoding) (at : PosIndex) → IsNamedAs p k x index body encoding → HasIndex k index at holds → now ≡ holds
    → HoldsSuch (MayStand k x) encoding body at now → (m : Contents) → holds ≡ Some m → HoldsAt m p k x
column_is p k x holds now index body encoding at names has same (vs, held, all) m told =
    let there = held m (same ∙ told) in (
      vs,
      record {
        at = at;
        is_index = has.is;
        fits = has.fits;
        of_rows = has.rows;
        index_file = ap (get m) (sym names.index_is) ∙ has.there m told;
        bytes = there.0;
        body_file = ap (get m) (sym names.body_is) ∙ there.1;
        blocks = subst (λ (e : Encoding). HasBlocks e k.rows there.0 at.entries vs) names.encoding_is (subst (λ (n : ℕ). HasBlocks encoding n there.0 at.entries vs) has.rows there.2);
      },
      all,
    )

no_column : (p : Projection) (k : Container) (x : StoredColumn) (holds now : Option Contents) (index body : ℕ) (encoding : Encoding) (at : PosIndex) → IsNamedAs p k x index body encoding → HasIndex k index at holds → now ≡ holds
    → HoldsNoSuch (MayStand k x) encoding body at now → (m : Contents) → holds ≡ Some m → HoldsAt m p k x → ⊥
no_column p k x holds now index body encoding at names has same none m told (vs, held, all) =
    let blocks = by_index (encoding_in p x) (body_of k.base (place_in k x)) (index_of k.base (place_in k x)) k.rows m vs at has.is has.fits has.rows (ap (get m) (sym names.index_is) ∙ has.there m told) held in
    none m (same ∙ told) held.bytes (ap (get m) names.body_is ∙ held.body_file) vs (subst (λ (e : Encoding). HasBlocks e at.rows held.bytes at.entries vs) (sym names.encoding_is) blocks) all

body_blamed : (p : Projection) (k : Container) (x : StoredColumn) (holds now : Option Contents) (index body : ℕ) (encoding : Encoding) (at : PosIndex) (fault : StoreFault) → IsNamedAs p k x index body encoding → HasIndex k index at holds → now ≡ holds
    → Blames body (HoldsNoSuch (MayStand k x) encoding body at now) fault → Faults holds (map (file p k) (parts_in x)) fault
body_blamed p k x holds now index body encoding at Disk names has same given = tt
body_blamed p k x holds now index body encoding at (Damaged name) names has same given = λ m told. record {
  file = file p k (body_part x);
  first = record {
    before = file p k (index_part x) ∷ [];
    after = [];
    is = refl;
    good = All-cons (IsSpelled m) (file p k (index_part x)) [] (is_index p k x holds index at names.index_is has m told) (All-nil (IsSpelled m));
    bad = λ is. no_column p k x holds now index body encoding at names has same given.1 m told (body_there m p k x is);
  };
  named = given.0 ∙ names.body_is ∙ sym (body_name k x);
}
body_blamed p k x holds now index body encoding at Memory names has same given = tt

pub column_judged : (p : Projection) (k : Container) (x : StoredColumn) (holds now : Option Contents) (index body : ℕ) (encoding : Encoding) (at : PosIndex) (r : Result (Unit {0}) StoreFault) → IsNamedAs p k x index body encoding → HasIndex k index at holds → now ≡ holds
    → IfOk r (λ _. HoldsSuch (MayStand k x) encoding body at now) → IfErr r (Blames body (HoldsNoSuch (MayStand k x) encoding body at now)) → Judges holds (map (file p k) (parts_in x)) r
column_judged p k x holds now index body encoding at (Ok done) names has same found blamed = λ m told.
    All-cons (IsSpelled m) (file p k (index_part x)) (file p k (body_part x) ∷ []) (is_index p k x holds index at names.index_is has m told)
    (All-cons (IsSpelled m) (file p k (body_part x)) [] (there_body m p k x (column_is p k x holds now index body encoding at names has same found m told)) (All-nil (IsSpelled m)))
column_judged p k x holds now index body encoding at (Err fault) names has same found blamed = body_blamed p k x holds now index body encoding at fault names has same blamed
