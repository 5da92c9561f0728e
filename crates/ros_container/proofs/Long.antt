-- A column that is held has a value for each row.
use Rattle.std.proofs.Common.{◌≡◌, ◌+◌, ◌*◌, ◌-◌, ◌≤◌, ℕ, true, eqb, List, [], ◌∷◌, length, sym, ◌∙◌, ap, arith, length-append}
use Rattle.std.specs.Prelude.{pos}
use Rattle.std.proofs.lemmas.Bool.{eqb-true}
use Rattle.std.proofs.lemmas.List.{length-map}
use Rattle.common_laws.specs.Maps.{Contents}
use Rattle.catalog_types.specs.declared.catalogue.Container.{Container}
use Rattle.col_file.specs.Held.{HasBlocks, HoldsColumn}
use Rattle.col_file.proofs.ByBlocks.{entries_are}
use Rattle.col_value.specs.declared.kinds.Encoding.{Encoding}
use Rattle.col_value.specs.declared.kinds.Encoding.TheVariants.{Auto}
use Rattle.col_value.specs.declared.row.Asked.{Asked}
use Rattle.col_value.specs.declared.value.Value.{Value}
use Rattle.col_value.specs.declared.value.Value.TheVariants as value
use Rattle.pos_index.specs.declared.index.Entry.{Entry}
use Rattle.pos_index.specs.Index.{follows, are_entries}
use Rattle.pos_index.proofs.Reading.{and_true, index_long}
use Rattle.ros_container.specs.Encodings.{Written}
use Rattle.ros_container.specs.Files.{body_of, index_of}
use Rattle.ros_container.specs.Held.{HoldsContainer}
use Rattle.ros_container.specs.Rows.{epoch_values}

blocks_long : (encoding : Encoding) (rows : ℕ) (bytes : List ℕ) (es : List Entry) (first from : ℕ) (vs : List Value) → are_entries first from es ≡ true → rows ≤ first + 1024 * length es → HasBlocks encoding rows bytes es vs
    → length vs ≡ rows - first
blocks_long encoding rows bytes [] first from vs are room is = let none = ap length is in omega (arith, none, room)
blocks_long encoding rows bytes (e ∷ es) first from vs are room (block, more, is, spelled, behind, all) =
    let a = and_true (follows first from e) (are_entries (first + 1024) (e.place + 1) es) are in
    let f = and_true (eqb e.first first) _ a.0 in
    let at : e.first ≡ first = eqb-true e.first first f.0 in
    let rest : length more ≡ rows - (first + 1024) = blocks_long encoding rows bytes es (first + 1024) (e.place + 1) more a.1 (omega (arith, room)) behind in
    let whole : length vs ≡ length block + length more = ap length all ∙ length-append block more in
    omega (arith, whole, rest, is.long, at)

pub column_long : (encoding : Encoding) (body index rows : ℕ) (m : Contents) (vs : List Value) → HoldsColumn encoding body index rows m vs → length vs ≡ rows
column_long encoding body index rows m vs held =
    let at = held.at in
    let room : rows ≤ 0 + 1024 * length at.entries = omega (arith, index_long at held.is_index, held.of_rows) in
    let long = blocks_long encoding rows held.bytes at.entries 0 0 vs (entries_are at held.is_index) room held.blocks in
    omega (arith, long)

-- and so a container has as many rows as its entry says
pub container_long : (m : Contents) (es : List Written) (k : Container) (rows : List Asked) → HoldsContainer m es k rows → length rows ≡ k.rows
container_long m es k rows held =
    sym (length-map rows (λ (a : Asked). value.Int (pos a.ins))) ∙ column_long Auto (body_of k.base k.stored) (index_of k.base k.stored) k.rows m (epoch_values rows) held.epochs
