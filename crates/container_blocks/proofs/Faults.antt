-- Which file is to blame.
use Rattle.std.proofs.Common.{◌≡◌, ◌+◌, ◌*◌, ◌<◌, ℕ, List, length, sym, ◌∙◌, ap, subst, inl, inr}
use Rattle.std.specs.Prelude.{◌⊎◌, Option, Some, None, Result, Ok, Err, IfErr, IfSome}
use Rattle.std.specs.List.{All, slice_get}
use Rattle.std.proofs.lemmas.List.Elements.{All-take, All-drop}
use Rattle.common_laws.specs.Maps.{Contents}
use Rattle.catalog_types.specs.declared.catalogue.Container.{Container}
use Rattle.col_disk.specs.declared.disk.StoreFault.{StoreFault}
use Rattle.col_disk.specs.declared.disk.StoreFault.TheVariants.{Disk, Damaged, Memory}
use Rattle.col_file.specs.Column.{IsNoFile}
use Rattle.col_file.specs.Read.{Blames, SpellsIndex, IsNoPiece}
use Rattle.col_file.proofs.ByBlocks.{stands}
use Rattle.col_value.specs.declared.kinds.Encoding.{Encoding}
use Rattle.col_value.specs.declared.kinds.Encoding.TheVariants.{Auto}
use Rattle.col_value.specs.declared.value.Value.{Value}
use Rattle.pos_index.specs.declared.index.Entry.{Entry}
use Rattle.pos_index.specs.declared.index.PosIndex.{PosIndex}
use Rattle.pos_index.specs.Built.{nth_block}
use Rattle.ros_container.specs.Encodings.{Written, encoding_at}
use Rattle.ros_container.specs.Files.{body_of, index_of, place_of}
use Rattle.ros_container.specs.Held.{BlamesContainer}
use Rattle.ros_container.specs.Rows.{IsEpochOf}
use Rattle.ros_container.proofs.Stored.{epochs_auto}
use Rattle.container_blocks.specs.Blocks.{IsIndexOf}
use Rattle.container_blocks.specs.Parts.{ArePart, BlamesPart, IsIndexAt}
use Rattle.container_blocks.proofs.Columns.{IsLast, IsStored, a_place}
use Rattle.container_blocks.proofs.OneBlock.{part_of}

-- a file in the place of a column is one of the container's
pub blames_place : (es : List Written) (k : Container) (i place : ℕ) (holds : Option Contents) (fault : StoreFault) → place_of (length es) k i ≡ Some place → BlamesPart holds (encoding_at es i) k place fault → BlamesContainer es k holds fault
blames_place es k i place holds Disk is blamed = tt
blames_place es k i place holds Memory is blamed = tt
blames_place es k i place holds (Damaged q) is blamed = by (a_place (length es) k i place is)
  where
    by : IsLast (length es) k i place ⊎ IsStored (length es) k i place → BlamesContainer es k holds (Damaged q)
    by (inr (differs, (lt, at))) = inl (i, lt, subst (λ (p : ℕ). BlamesPart holds (encoding_at es i) k p (Damaged q)) at blamed)
    by (inl (last, at)) =
        inr (inl (subst (λ (e : Encoding). BlamesPart holds e k k.stored (Damaged q)) (ap (encoding_at es) last ∙ epochs_auto es) (subst (λ (p : ℕ). BlamesPart holds (encoding_at es i) k p (Damaged q)) at blamed)))

-- that of the epochs
pub blames_epochs_at : (es : List Written) (k : Container) (holds : Option Contents) (fault : StoreFault) → BlamesPart holds Auto k k.stored fault → BlamesContainer es k holds fault
blames_epochs_at es k holds (Damaged q) blamed = inr (inl blamed)
blames_epochs_at es k holds Disk blamed = tt
blames_epochs_at es k holds Memory blamed = tt

-- an index that is none
index_blames : (e : Encoding) (k : Container) (place index : ℕ) (holds : Option Contents) (fault : StoreFault) → index ≡ index_of k.base place → Blames index (IsNoFile index (SpellsIndex k.rows) holds) fault → BlamesPart holds e k place fault
index_blames e k place index holds (Damaged q) is given = inl (subst (λ (n : ℕ). (q ≡ n) × IsNoFile n (SpellsIndex k.rows) holds) is given)
index_blames e k place index holds Disk is given = tt
index_blames e k place index holds Memory is given = tt

pub index_blamed : (es : List Written) (k : Container) (i place index : ℕ) (holds : Option Contents) (r : Result PosIndex StoreFault) → place_of (length es) k i ≡ Some place → index ≡ index_of k.base place
    → IfErr r (Blames index (IsNoFile index (SpellsIndex k.rows) holds)) → IfErr r (BlamesContainer es k holds)
index_blamed es k i place index holds (Ok at) there is given = tt
index_blamed es k i place index holds (Err fault) there is given = blames_place es k i place holds fault there (index_blames (encoding_at es i) k place index holds fault is given)

-- a block that is none
no_block : (e : Encoding) (k : Container) (place b : ℕ) (at : PosIndex) (holds : Option Contents) (fault : StoreFault) → IsIndexOf k.rows at → b < length at.entries
    → IfSome (slice_get at.entries b) (λ x. Blames (body_of k.base place) (IsNoPiece e (body_of k.base place) at.rows x (slice_get at.entries (b + 1)) holds) fault) → IsIndexAt k place at holds → BlamesPart holds e k place fault
no_block e k place b at holds Disk is lt given has = tt
no_block e k place b at holds Memory is lt given has = tt
no_block e k place b at holds (Damaged q) is lt given has =
    let s = stands at.entries b lt in
    let one : (q ≡ body_of k.base place) × IsNoPiece e (body_of k.base place) at.rows s.entry (slice_get at.entries (b + 1)) holds =
    subst (λ (o : Option Entry). IfSome o (λ x. Blames (body_of k.base place) (IsNoPiece e (body_of k.base place) at.rows x (slice_get at.entries (b + 1)) holds) (Damaged q))) s.there given in
    inr (
      one.0,
      λ m told. (
        (at, is.is_index, is.fits, is.of_rows, has m told),
        λ vs held.
            let part = part_of e (body_of k.base place) (index_of k.base place) k.rows m vs at b s.entry is (has m told) s.there held in
            one.1 m told held.bytes held.body_file (nth_block b vs, part.values, part.spelled),
      ),
    )

err_some : (P : Entry → StoreFault → Type 0) (o : Option Entry) (fault : StoreFault) → IfSome o (λ x. IfErr {T = List Value} (Err fault) (P x)) → IfSome o (λ x. P x fault)
err_some P None fault given = tt
err_some P (Some x) fault given = given

-- what follows of each fault
pub err_each : {T : Type 0} (P Q : StoreFault → Type 0) (r : Result T StoreFault) → ((fault : StoreFault) → P fault → Q fault) → IfErr r P → IfErr r Q
err_each P Q (Ok v) h given = tt
err_each P Q (Err fault) h given = h fault given

pub part_blamed : (k : Container) (place b : ℕ) (at : PosIndex) (e : Encoding) (body : ℕ) (holds : Option Contents) (r : Result (List Value) StoreFault) → body ≡ body_of k.base place
    → IsIndexOf k.rows at → b < length at.entries → IfSome (slice_get at.entries b) (λ x. IfErr r (Blames body (IsNoPiece e body at.rows x (slice_get at.entries (b + 1)) holds)))
    → IfErr r (λ fault. IsIndexAt k place at holds → BlamesPart holds e k place fault)
part_blamed k place b at e body holds (Ok v) is_body is lt given = tt
part_blamed k place b at e body holds (Err fault) is_body is lt given = λ has.
    no_block e k place b at holds fault is lt
    (subst (λ (n : ℕ). IfSome (slice_get at.entries b) (λ x. Blames n (IsNoPiece e n at.rows x (slice_get at.entries (b + 1)) holds) fault)) is_body
    (err_some (λ (x : Entry). Blames body (IsNoPiece e body at.rows x (slice_get at.entries (b + 1)) holds)) (slice_get at.entries b) fault given)) has

-- a value that is no epoch
pub epochs_blamed : (es : List Written) (k : Container) (b q : ℕ) (at : PosIndex) (holds : Option Contents) (part : List Value) → q ≡ body_of k.base k.stored → IsIndexOf k.rows at → IsIndexAt k k.stored at holds
    → ArePart holds Auto k k.stored b part → (All (IsEpochOf k) part → ⊥) → BlamesContainer es k holds (Damaged q)
epochs_blamed es k b q at holds part is index has are none =
    inr (inr (
      is,
      λ m told. (
        (at, index.is_index, index.fits, index.of_rows, has m told),
        λ vs held all. none (subst (All (IsEpochOf k)) (sym (are m told vs held)) (All-take (IsEpochOf k) 1024 _ (All-drop (IsEpochOf k) (1024 * b) vs all))),
      ),
    ))
