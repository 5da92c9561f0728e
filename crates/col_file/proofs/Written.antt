-- The bytes of the first blocks, one block more.
use Rattle.std.proofs.Common.{◌≡◌, ℕ, suc, ◌+◌, List, [], ◌∷◌, ◌++◌, length, Option, Some, None, sym, ap, ◌∙◌, arith}
use Rattle.std.specs.Prelude.{Result, Ok, Err, OnOk, option_map}
use Rattle.std.specs.FinMap.{get, insert}
use Rattle.common_laws.specs.Maps.{Contents}
use Rattle.col_bytes.proofs.Codecs.{some_is}
use Rattle.col_disk.specs.Calls.{WriteLeaves}
use Rattle.col_disk.specs.declared.disk.DiskFault.{DiskFault}
use Rattle.col_disk.proofs.Moving.{insert_elsewhere, insert_there}
use Rattle.col_value.specs.declared.kinds.Encoding.{Encoding}
use Rattle.col_value.specs.declared.value.Value.{Value}
use Rattle.block_choice.specs.Choice.{block_of}
use Rattle.pos_index.specs.Index.{index_spelling}
use Rattle.pos_index.specs.Built.{nth_block}
use Rattle.col_file.specs.Column.{first_blocks, body_spelling, first_places, column_index, IsColumn}

blocks_more : (encoding : Encoding) (k : ℕ) (vs : List Value) → first_blocks encoding (k + 1) vs ≡ first_blocks encoding k vs ++ block_of encoding (nth_block k vs)
blocks_more encoding k vs = let e : k + 1 ≡ suc k = omega arith in ap (λ (n : ℕ). first_blocks encoding n vs) e

places_more : (encoding : Encoding) (k : ℕ) (vs : List Value) → first_places encoding (k + 1) vs ≡ first_places encoding k vs ++ length (first_blocks encoding k vs) ∷ []
places_more encoding k vs = let e : k + 1 ≡ suc k = omega arith in ap (λ (n : ℕ). first_places encoding n vs) e

pub blocks_on : (encoding : Encoding) (k : ℕ) (vs : List Value) (body next : List ℕ) → body ≡ first_blocks encoding k vs → next ≡ body ++ block_of encoding (nth_block k vs) → next ≡ first_blocks encoding (k + 1) vs
blocks_on encoding k vs body next is more = more ∙ ap (λ (b : List ℕ). b ++ block_of encoding (nth_block k vs)) is ∙ sym (blocks_more encoding k vs)

pub places_on : (encoding : Encoding) (k : ℕ) (vs : List Value) (body places next : List ℕ) → body ≡ first_blocks encoding k vs → places ≡ first_places encoding k vs → next ≡ places ++ length body ∷ [] → next ≡ first_places encoding (k + 1) vs
places_on encoding k vs body places next is so_far more =
    more ∙ ap (λ (ps : List ℕ). ps ++ length body ∷ []) so_far ∙ ap (λ (b : List ℕ). first_places encoding k vs ++ length b ∷ []) is ∙ sym (places_more encoding k vs)

-- ---- two files

both_there : (old mid new : Option Contents) (body index : ℕ) (bb ib : List ℕ) → (body ≡ index → ⊥) → mid ≡ option_map (λ m. insert m body bb) old → new ≡ option_map (λ m. insert m index ib) mid
    → (m : Contents) → new ≡ Some m → (get m body ≡ Some bb) × (get m index ≡ Some ib)
both_there None mid new body index bb ib apart first second m told =
    let gone : new ≡ None = second ∙ ap (option_map (λ (c : Contents). insert c index ib)) first in
    absurd (cc)
both_there (Some m0) mid new body index bb ib apart first second m told =
    let now : new ≡ Some (insert (insert m0 body bb) index ib) = second ∙ ap (option_map (λ (c : Contents). insert c index ib)) first in
    let is : m ≡ insert (insert m0 body bb) index ib = some_is m (insert (insert m0 body bb) index ib) (sym told ∙ now) in (
      ap (λ (c : Contents). get c body) is ∙ insert_elsewhere (insert m0 body bb) index ib body apart ∙ insert_there m0 body bb,
      ap (λ (c : Contents). get c index) is ∙ insert_there (insert m0 body bb) index ib,
    )

pub column_there : (encoding : Encoding) (old mid new : Option Contents) (body index : ℕ) (bb ib : List ℕ) (vs : List Value) (r : Result (Unit {0}) DiskFault) → (body ≡ index → ⊥)
    → bb ≡ body_spelling encoding vs → ib ≡ index_spelling (column_index encoding vs) → mid ≡ option_map (λ m. insert m body bb) old → WriteLeaves index ib mid new r → OnOk r (IsColumn encoding body index vs new)
column_there encoding old mid new body index bb ib vs (Err fault) apart eb ei first second = tt
column_there encoding old mid new body index bb ib vs (Ok done) apart eb ei first second = record {
  blocks_file = λ m told. (both_there old mid new body index bb ib apart first second m told).0 ∙ ap (λ (b : List ℕ). Some b) eb;
  index_file = λ m told. (both_there old mid new body index bb ib apart first second m told).1 ∙ ap (λ (b : List ℕ). Some b) ei;
}
