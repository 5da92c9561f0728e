-- The values of one block of a column.
use Rattle.std.proofs.Common.{◌≡◌, ◌+◌, ◌*◌, ◌<◌, ◌≤◌, ◌-◌, ◌++◌, ℕ, zero, suc, true, eqb, List, [], ◌∷◌, length, take, drop, refl, sym, ◌∙◌, ap, ap₂, subst, arith}
use Rattle.std.specs.Prelude.{min, replicate, Bool, Option, Some, None, MatchOption, Result, Ok, Err, IfOk, IfSome}
use Rattle.std.specs.FinMap.{get}
use Rattle.std.specs.List.{All, slice_get, list_all}
use Rattle.std.specs.Ordering.{is_le}
use Rattle.std.proofs.Math.Seq.{drop-append-add, take-append_seam}
use Rattle.std.proofs.lemmas.Bool.{eqb-true, and_from}
use Rattle.std.proofs.lemmas.Cmp.{tied_itself}
use Rattle.std.proofs.lemmas.Option.{get_or_from_slice_get, slice_get_within}
use Rattle.std.proofs.lemmas.List.{append-nil, take_all}
use Rattle.std.proofs.lemmas.List.Elements.{All-weaker}
use Rattle.common_laws.specs.Maps.{Contents}
use Rattle.catalog_types.specs.declared.catalogue.Container.{Container}
use Rattle.col_bytes.proofs.Codecs.{some_is}
use Rattle.col_disk.specs.declared.disk.StoreFault.{StoreFault}
use Rattle.col_file.specs.Column.{IsFile}
use Rattle.col_file.specs.Held.{first_of, HasBlocks, HoldsColumn}
use Rattle.col_file.specs.Read.{IsBlock, SpellsPiece, AreValues, piece, is_between}
use Rattle.col_file.proofs.ByBlocks.{Stands, stands, first_at, entries_are}
use Rattle.col_file.proofs.OneColumn.{by_index}
use Rattle.col_value.specs.Laws.{value_total}
use Rattle.col_value.specs.Order.{IsValue, value_cmp}
use Rattle.col_value.specs.declared.kinds.Encoding.{Encoding}
use Rattle.col_value.specs.declared.row.Asked.{Asked}
use Rattle.col_value.specs.declared.value.Value.{Value}
use Rattle.value_bytes.specs.Spelling.{IsSpelled}
use Rattle.block_choice.specs.Choice.{SpellsAs}
use Rattle.block_choice.proofs.Spelled.{one_list}
use Rattle.pos_index.specs.declared.index.Entry.{Entry}
use Rattle.pos_index.specs.declared.index.PosIndex.{PosIndex}
use Rattle.pos_index.specs.Built.{nth_block}
use Rattle.pos_index.specs.Index.{index_spelling, blocks, follows, are_entries}
use Rattle.pos_index.proofs.Building.{spelled_is_value}
use Rattle.pos_index.proofs.Reading.{and_true, index_long}
use Rattle.ros_container.specs.Encodings.{Written, encoding_at, default_at}
use Rattle.ros_container.specs.Files.{body_of, index_of, place_of}
use Rattle.ros_container.specs.Held.{HoldsContainer}
use Rattle.ros_container.specs.Rows.{stored_values}
use Rattle.container_blocks.specs.Blocks.{rows_in, IsIndexOf, IsIndexOfOne, HasIndex}
use Rattle.container_blocks.specs.Parts.{ArePart, IsIndexAt}
use Rattle.container_blocks.proofs.Columns.{column_held, block_values, default_block}

-- the block of an entry in the bytes of a body
pub record IsPart (encoding : Encoding) (rows : ℕ) (bytes : List ℕ) (e : Entry) (next : Option Entry) (vs : List Value) : Type 0 where
  pub values : IsBlock rows e vs
  pub spelled : SpellsAs encoding vs (piece e next bytes)

-- the first block is full where another stands behind it
first_part : (encoding : Encoding) (rows : ℕ) (bytes : List ℕ) (d : Entry) (es : List Entry) (first : ℕ) (vs block more : List Value) → d.first ≡ first → first + 1024 * length (d ∷ es) < rows + 1024 → IsBlock rows d block
    → HasBlocks encoding rows bytes es more → vs ≡ block ++ more → take 1024 vs ≡ block
first_part encoding rows bytes d [] first vs block more at room is behind all =
    let few : length block ≤ 1024 = omega (arith, is.long) in
    ap (take 1024) (all ∙ ap (λ (u : List Value). block ++ u) behind ∙ append-nil block) ∙ take_all 1024 block few
first_part encoding rows bytes d (f ∷ es) first vs block more at room is behind all =
    let full : 1024 ≡ length block = omega (arith, is.long, at, room) in
    ap₂ (λ (n : ℕ) (u : List Value). take n u) full all ∙ take-append_seam block more

next_of : (es : List Entry) → first_of es ≡ slice_get es 0
next_of [] = refl
next_of (e ∷ es) = refl

part_at : (encoding : Encoding) (rows : ℕ) (bytes : List ℕ) (es : List Entry) (first from b : ℕ) (vs : List Value) (e : Entry) → are_entries first from es ≡ true → first + 1024 * length es < rows + 1024 → slice_get es b ≡ Some e
    → HasBlocks encoding rows bytes es vs → IsPart encoding rows bytes e (slice_get es (suc b)) (take 1024 (drop (1024 * b) vs))
part_at encoding rows bytes [] first from b vs e are room there has = absurd cc
part_at encoding rows bytes (d ∷ es) first from zero vs e are room there (block, more, is, spelled, behind, all) =
    let a = and_true (follows first from d) (are_entries (first + 1024) (d.place + 1) es) are in
    let f = and_true (eqb d.first first) _ a.0 in
    let none : 1024 * zero ≡ 0 = omega arith in
    let here : take 1024 (drop (1024 * zero) vs) ≡ block = ap (λ (n : ℕ). take 1024 (drop n vs)) none ∙ first_part encoding rows bytes d es first vs block more (eqb-true d.first first f.0) room is behind all in
    let part : IsPart encoding rows bytes d (first_of es) block = record { values = is; spelled = spelled } in
    subst (λ (x : Entry). IsPart encoding rows bytes x (slice_get es 0) (take 1024 (drop (1024 * zero) vs))) (some_is d e there)
    (subst (λ (n : Option Entry). IsPart encoding rows bytes d n (take 1024 (drop (1024 * zero) vs))) (next_of es) (subst (IsPart encoding rows bytes d (first_of es)) (sym here) part))
part_at encoding rows bytes (d ∷ []) first from (suc b) vs e are room there has = absurd cc
part_at encoding rows bytes (d ∷ g ∷ es) first from (suc b) vs e are room there (block, more, is, spelled, behind, all) =
    let a = and_true (follows first from d) (are_entries (first + 1024) (d.place + 1) (g ∷ es)) are in
    let f = and_true (eqb d.first first) _ a.0 in
    let at : d.first ≡ first = eqb-true d.first first f.0 in
    let full : length block ≡ 1024 = omega (arith, is.long, at, room) in
    let far : 1024 * suc b ≡ length block + 1024 * b = omega (arith, full) in
    let same : drop (1024 * suc b) vs ≡ drop (1024 * b) more = ap₂ (λ (n : ℕ) (ws : List Value). drop n ws) far all ∙ drop-append-add block more (1024 * b) in
    subst (λ (ws : List Value). IsPart encoding rows bytes e (slice_get (g ∷ es) (suc b)) (take 1024 ws)) (sym same)
    (part_at encoding rows bytes (g ∷ es) (first + 1024) (d.place + 1) b more e a.1 (omega (arith, room)) there behind)

-- the block of an index that stands in its file
pub part_of : (e : Encoding) (body index rows : ℕ) (m : Contents) (vs : List Value) (at : PosIndex) (b : ℕ) (x : Entry) → IsIndexOf rows at → get m index ≡ Some (index_spelling at) → slice_get at.entries b ≡ Some x
    → (h : HoldsColumn e body index rows m vs) → IsPart e at.rows h.bytes x (slice_get at.entries (b + 1)) (nth_block b vs)
part_of e body index rows m vs at b x is file there h =
    let up : suc b ≡ b + 1 = omega arith in
    let room : 0 + 1024 * length at.entries < at.rows + 1024 = omega (arith, index_long at is.is_index) in
    subst (λ (n : ℕ). IsPart e at.rows h.bytes x (slice_get at.entries n) (nth_block b vs)) up
    (part_at e at.rows h.bytes at.entries 0 0 b vs x (entries_are at is.is_index) room there (by_index e body index rows m vs at is.is_index is.fits is.of_rows file h))

piece_spells : (encoding : Encoding) (e : Entry) (next : Option Entry) (vs : List Value) (o : Option (List ℕ)) (bytes : List ℕ) → o ≡ Some bytes → SpellsPiece encoding e next vs o → SpellsAs encoding vs (piece e next bytes)
piece_spells encoding e next vs o bytes there spells = subst (SpellsPiece encoding e next vs) there spells

-- the entry of a block, and what was read for it
there_are : (e : Encoding) (body b : ℕ) (at : PosIndex) (holds : Option Contents) (vs : List Value) → (s : Stands at.entries b)
    → IfSome (slice_get at.entries b) (λ x. AreValues e body at.rows x (slice_get at.entries (b + 1)) holds vs) → AreValues e body at.rows s.entry (slice_get at.entries (b + 1)) holds vs
there_are e body b at holds vs s given = subst (λ (o : Option Entry). IfSome o (λ x. AreValues e body at.rows x (slice_get at.entries (b + 1)) holds vs)) s.there given

-- what holds of all elements holds of the one in a place
of_all : {X : Type 0} (P : X → Type 0) (xs : List X) (b : ℕ) (x : X) → slice_get xs b ≡ Some x → All P xs → P x
of_all P xs b x there all = subst P (get_or_from_slice_get xs b x x there) (all b x (slice_get_within xs b x there))

-- what holds of an answer by the entry of a block holds of it
pub ok_each : (P : Entry → List Value → Type 0) (Q : List Value → Type 0) (o : Option Entry) (r : Result (List Value) StoreFault) → ((v : List Value) → IfSome o (λ x. P x v) → Q v) → IfSome o (λ x. IfOk r (P x)) → IfOk r Q
ok_each P Q None (Ok v) h given = h v tt
ok_each P Q (Some x) (Ok v) h given = h v given
ok_each P Q None (Err fault) h given = tt
ok_each P Q (Some x) (Err fault) h given = tt

pub part_found : (k : Container) (place b : ℕ) (at : PosIndex) (e : Encoding) (body : ℕ) (holds : Option Contents) (vs : List Value) → body ≡ body_of k.base place → IsIndexOf k.rows at → b < length at.entries
    → IfSome (slice_get at.entries b) (λ x. AreValues e body at.rows x (slice_get at.entries (b + 1)) holds vs) → IsIndexAt k place at holds → ArePart holds e k place b vs
part_found k place b at e body holds vs is_body is lt given has m told ws held =
    let s = stands at.entries b lt in
    let are = there_are e body b at holds vs s given in
    let part = part_of e (body_of k.base place) (index_of k.base place) k.rows m ws at b s.entry is (has m told) s.there held in
    let file : get m body ≡ Some held.bytes = ap (get m) is_body ∙ held.body_file in
    one_list e e vs (nth_block b ws) (piece s.entry (slice_get at.entries (b + 1)) held.bytes)
    (piece_spells e s.entry (slice_get at.entries (b + 1)) vs (get m body) held.bytes file (are.spelled m told)) part.spelled

pub part_long : (k : Container) (b : ℕ) (at : PosIndex) (e : Encoding) (body : ℕ) (holds : Option Contents) (vs : List Value) → IsIndexOf k.rows at → b < length at.entries
    → IfSome (slice_get at.entries b) (λ x. AreValues e body at.rows x (slice_get at.entries (b + 1)) holds vs) → length vs ≡ min 1024 (k.rows - 1024 * b)
part_long k b at e body holds vs is lt given =
    let s = stands at.entries b lt in
    let are = there_are e body b at holds vs s given in
    let first : s.entry.first ≡ 0 + 1024 * b = first_at at.entries b 0 0 s.entry (entries_are at is.is_index) s.there in
    omega (arith, are.values.long, first, is.of_rows)

pub part_values : (b : ℕ) (at : PosIndex) (e : Encoding) (body : ℕ) (holds : Option Contents) (vs : List Value) → b < length at.entries
    → IfSome (slice_get at.entries b) (λ x. AreValues e body at.rows x (slice_get at.entries (b + 1)) holds vs) → All IsValue vs
part_values b at e body holds vs lt given =
    let are = there_are e body b at holds vs (stands at.entries b lt) given in
    All-weaker IsSpelled IsValue spelled_is_value vs are.values.values.values

pub in_entries : (rows b : ℕ) (at : PosIndex) → IsIndexOf rows at → b < blocks rows → b < length at.entries
in_entries rows b at is lt = subst (λ (n : ℕ). b < n) (sym (index_long at is.is_index ∙ ap blocks is.of_rows)) lt

-- a value that is repeated lies between itself and itself
all_repeated : (p : Value → Bool) (n : ℕ) (v : Value) → p v ≡ true → list_all p (replicate n v) ≡ true
all_repeated p zero v is = refl
all_repeated p (suc n) v is = and_from (p v) (list_all p (replicate n v)) is (all_repeated p n v is)

between_itself : (e : Entry) (v : Value) → e.least ≡ v → e.greatest ≡ v → is_between e v ≡ true
between_itself e v least greatest =
    and_from (is_le (value_cmp e.least v)) (is_le (value_cmp v e.greatest)) (ap (λ (x : Value). is_le (value_cmp x v)) least ∙ ap is_le (tied_itself value_total v))
    (ap (λ (x : Value). is_le (value_cmp v x)) greatest ∙ ap is_le (tied_itself value_total v))

-- the values of a block lie between those of its entry
pub lie_between : (m : Contents) (es : List Written) (k : Container) (i b : ℕ) (at : PosIndex) (rows : List Asked) → i ≤ length es → IsIndexOf k.rows at → HasIndex es k i at (Some m) → HoldsContainer m es k rows → b < blocks k.rows
    → IfSome (slice_get at.entries b) (λ e. list_all (is_between e) (stored_values (length es) i (rows_in b rows)) ≡ true)
lie_between m es k i b at rows le is has held lt = by (place_of (length es) k i) refl has
  where
    s : Stands at.entries b
    s = stands at.entries b (in_entries k.rows b at is lt)

    by : (o : Option ℕ) → place_of (length es) k i ≡ o → MatchOption o (IsIndexOfOne (default_at es i) at) (λ place. IsFile (index_of k.base place) (index_spelling at) (Some m))
        → IfSome (slice_get at.entries b) (λ e. list_all (is_between e) (stored_values (length es) i (rows_in b rows)) ≡ true)
    by (Some place) there file =
        let part = part_of (encoding_at es i) (body_of k.base place) (index_of k.base place) k.rows m (stored_values (length es) i rows) at b s.entry is (file m refl) s.there (column_held es k m i place rows there held) in
        subst (λ (o : Option Entry). IfSome o (λ e. list_all (is_between e) (stored_values (length es) i (rows_in b rows)) ≡ true)) (sym s.there)
        (subst (λ (vs : List Value). list_all (is_between s.entry) vs ≡ true) (block_values (length es) i b rows) part.values.between)
    by None none all =
        let here = of_all (λ (e : Entry). (e.least ≡ default_at es i) × (e.greatest ≡ default_at es i)) at.entries b s.entry s.there all in
        let values = default_block (Some m) es k i b (replicate (min 1024 (k.rows - 1024 * b)) (default_at es i)) none le refl m refl rows held in
        subst (λ (o : Option Entry). IfSome o (λ e. list_all (is_between e) (stored_values (length es) i (rows_in b rows)) ≡ true)) (sym s.there)
        (subst (λ (vs : List Value). list_all (is_between s.entry) vs ≡ true) values
        (all_repeated (is_between s.entry) (min 1024 (k.rows - 1024 * b)) (default_at es i) (between_itself s.entry (default_at es i) here.0 here.1)))
