-- Two files hold one list of values.
use Rattle.std.proofs.Common.{◌≡◌, ℕ, List, [], ◌∷◌, ◌++◌, Option, Some, sym, ap₂, subst, ◌∙◌, inr}
use Rattle.std.specs.Prelude.{Result, Ok, Err, IfErr, Vec}
use Rattle.std.specs.declared.alloc.Global.{Global}
use Rattle.std.specs.FinMap.{get}
use Rattle.common_laws.specs.Maps.{Contents}
use Rattle.col_bytes.proofs.Codecs.{some_is}
use Rattle.col_disk.specs.declared.disk.StoreFault.{StoreFault}
use Rattle.col_disk.specs.declared.disk.StoreFault.TheVariants.{Disk, Damaged, Memory}
use Rattle.col_value.specs.declared.kinds.Encoding.{Encoding}
use Rattle.col_value.specs.declared.value.Value.{Value}
use Rattle.block_choice.proofs.Spelled.{one_list as one_block}
use Rattle.pos_index.specs.declared.index.Entry.{Entry}
use Rattle.pos_index.specs.declared.index.PosIndex.{PosIndex}
use Rattle.pos_index.specs.Index.{index_spelling, IsIndex, Fits}
use Rattle.pos_index.proofs.Reading.{one_spelling}
use Rattle.col_file.specs.Column.{IsFile}
use Rattle.col_file.specs.Read.{Blames}
use Rattle.col_file.specs.Held.{HasBlocks, HoldsNoBlocks, HoldsColumn, BlamesColumn}

one_by_blocks : (encoding : Encoding) (rows : ℕ) (bytes : List ℕ) (es : List Entry) (vs ws : List Value) → HasBlocks encoding rows bytes es vs → HasBlocks encoding rows bytes es ws → vs ≡ ws
one_by_blocks encoding rows bytes [] vs ws e f = e ∙ sym f
one_by_blocks encoding rows bytes (e ∷ es) vs ws (block, more, is, spelled, behind, all) (block2, more2, is2, spelled2, behind2, all2) =
    let same : block ≡ block2 = one_block encoding encoding block block2 _ spelled spelled2 in
    let rest : more ≡ more2 = one_by_blocks encoding rows bytes es more more2 behind behind2 in
    all ∙ ap₂ (λ (a b : List Value). a ++ b) same rest ∙ sym all2

-- the blocks of the index that stands in the file
pub by_index : (encoding : Encoding) (body index rows : ℕ) (m : Contents) (vs : List Value) (at : PosIndex) → IsIndex at → Fits at → at.rows ≡ rows → get m index ≡ Some (index_spelling at) → (h : HoldsColumn encoding body index rows m vs) → HasBlocks encoding at.rows h.bytes at.entries vs
by_index encoding body index rows m vs at is fit so_many there h =
    let same : h.at ≡ at = one_spelling h.at at h.is_index is h.fits fit (some_is (index_spelling h.at) (index_spelling at) (sym h.index_file ∙ there)) in
    subst (λ (n : ℕ). HasBlocks encoding n h.bytes at.entries vs) (sym so_many) (subst (λ (x : PosIndex). HasBlocks encoding rows h.bytes x.entries vs) same h.blocks)

pub one_list : (encoding : Encoding) (body index rows : ℕ) (m : Contents) (vs ws : List Value) → HoldsColumn encoding body index rows m vs → HoldsColumn encoding body index rows m ws → vs ≡ ws
one_list encoding body index rows m vs ws h k =
    let mine = by_index encoding body index rows m vs k.at k.is_index k.fits k.of_rows k.index_file h in
    let same : h.bytes ≡ k.bytes = some_is h.bytes k.bytes (sym h.body_file ∙ k.body_file) in
    let theirs : HasBlocks encoding k.at.rows k.bytes k.at.entries ws = subst (λ (n : ℕ). HasBlocks encoding n k.bytes k.at.entries ws) (sym k.of_rows) k.blocks in
    one_by_blocks encoding k.at.rows k.bytes k.at.entries vs ws (subst (λ (b : List ℕ). HasBlocks encoding k.at.rows b k.at.entries vs) same mine) theirs

blames_body : (encoding : Encoding) (body index rows : ℕ) (holds now : Option Contents) (at : PosIndex) (fault : StoreFault) → at.rows ≡ rows → IsIndex at → Fits at → IsFile index (index_spelling at) holds → now ≡ holds
    → Blames body (HoldsNoBlocks encoding body at now) fault → BlamesColumn encoding body index rows holds fault
blames_body encoding body index rows holds now at (Damaged n) so_many is fit there same given =
    inr (
      given.0,
      λ m told. (
        (at, is, fit, so_many, there m told),
        λ vs h. given.1 m (same ∙ told) h.bytes h.body_file (vs, by_index encoding body index rows m vs at is fit so_many (there m told) h),
      ),
    )
blames_body encoding body index rows holds now at Disk so_many is fit there same given = tt
blames_body encoding body index rows holds now at Memory so_many is fit there same given = tt

pub body_blamed : (encoding : Encoding) (body index rows : ℕ) (holds now : Option Contents) (at : PosIndex) (r : Result (Vec Value Global) StoreFault) → at.rows ≡ rows → IsIndex at → Fits at → IsFile index (index_spelling at) holds → now ≡ holds
    → IfErr r (Blames body (HoldsNoBlocks encoding body at now)) → IfErr r (BlamesColumn encoding body index rows holds)
body_blamed encoding body index rows holds now at (Ok v) so_many is fit there same given = tt
body_blamed encoding body index rows holds now at (Err fault) so_many is fit there same given = blames_body encoding body index rows holds now at fault so_many is fit there same given
