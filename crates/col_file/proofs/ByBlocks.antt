-- Reading the blocks of a column one after the other.
use Rattle.std.proofs.Common.{◌≡◌, ℕ, zero, suc, ◌+◌, ◌*◌, ◌<◌, ◌≤◌, true, eqb, ltb, List, [], ◌∷◌, ◌++◌, length, drop, Option, Some, None, refl, sym, ap, subst, ◌∙◌, append_assoc, arith}
use Rattle.std.specs.Prelude.{min, ◌&&◌, IfSome}
use Rattle.std.specs.List.{All, slice_get}
use Rattle.std.proofs.lemmas.List.Elements.{All-nil, All-append, All-weaker}
use Rattle.std.specs.FinMap.{get}
use Rattle.std.proofs.Math.ListN.{drop_of_length-le}
use Rattle.std.proofs.lemmas.List.{length-append}
use Rattle.std.proofs.lemmas.Bool.{eqb-true, ltb-true}
use Rattle.std.proofs.lemmas.List.{append-nil}
use Rattle.common_laws.specs.Maps.{Contents}
use Rattle.col_bytes.proofs.Codecs.{some_is}
use Rattle.col_disk.specs.declared.disk.StoreFault.{StoreFault}
use Rattle.col_value.specs.Order.{IsValue}
use Rattle.col_value.specs.declared.kinds.Encoding.{Encoding}
use Rattle.col_value.specs.declared.value.Value.{Value}
use Rattle.value_bytes.specs.Spelling.{IsSpelled}
use Rattle.block_choice.specs.Choice.{SpellsAs}
use Rattle.pos_index.specs.declared.index.Entry.{Entry}
use Rattle.pos_index.specs.declared.index.PosIndex.{PosIndex}
use Rattle.pos_index.specs.Index.{follows, are_entries, starts_at_zero, blocks, IsIndex}
use Rattle.pos_index.proofs.Building.{spelled_is_value}
use Rattle.pos_index.proofs.Reading.{and_true, index_long}
use Rattle.col_file.specs.Read.{Blames, IsNoPiece, SpellsBlock, SpellsPiece, piece, AreValues}
use Rattle.col_file.specs.Held.{first_of, HasBlocks, HoldsBlocks, HoldsNoBlocks, GoesOn}
use Rattle.col_file.proofs.Blocks.{blames}

-- ---- the entry of block k, and those behind it

pub record Stands (es : List Entry) (k : ℕ) : Type 0 where
  pub entry : Entry
  pub there : slice_get es k ≡ Some entry
  pub behind : drop k es ≡ entry ∷ drop (suc k) es
  pub next : first_of (drop (suc k) es) ≡ slice_get es (suc k)

pub stands : (es : List Entry) (k : ℕ) → k < length es → Stands es k
stands [] k lt = absurd (omega (arith, lt))
stands (e ∷ []) zero lt = record { entry = e; there = refl; behind = refl; next = refl }
stands (e ∷ f ∷ es) zero lt = record { entry = e; there = refl; behind = refl; next = refl }
stands (e ∷ es) (suc k) lt =
    let s = stands es k (omega (arith, lt)) in
    record { entry = s.entry; there = s.there; behind = s.behind; next = s.next }

pub first_at : (es : List Entry) (k first from : ℕ) (e : Entry) → are_entries first from es ≡ true → slice_get es k ≡ Some e → e.first ≡ first + 1024 * k
first_at [] k first from e are there = absurd cc
first_at (d ∷ es) zero first from e are there =
    let a = and_true (follows first from d) (are_entries (first + 1024) (d.place + 1) es) are in
    let b = and_true (eqb d.first first) _ a.0 in
    let same : d ≡ e = some_is d e there in
    let is : d.first ≡ first = eqb-true d.first first b.0 in
    let is_e : e.first ≡ d.first = ap (λ (x : Entry). x.first) (sym same) in
    omega (arith, is, is_e)
first_at (d ∷ es) (suc k) first from e are there =
    let a = and_true (follows first from d) (are_entries (first + 1024) (d.place + 1) es) are in
    let h : e.first ≡ (first + 1024) + 1024 * k = first_at es k (first + 1024) (d.place + 1) e a.1 there in
    omega (arith, h)

pub entries_are : (x : PosIndex) → IsIndex x → are_entries 0 0 x.entries ≡ true
entries_are x is =
    let one = and_true (ltb 0 x.rows) (eqb (length x.entries) (blocks x.rows) && (starts_at_zero x.entries && are_entries 0 0 x.entries)) is in
    let two = and_true (eqb (length x.entries) (blocks x.rows)) (starts_at_zero x.entries && are_entries 0 0 x.entries) one.1 in
    (and_true (starts_at_zero x.entries) (are_entries 0 0 x.entries) two.1).1

pub some_rows : (x : PosIndex) → IsIndex x → 0 < x.rows
some_rows x is = ltb-true 0 x.rows (and_true (ltb 0 x.rows) (eqb (length x.entries) (blocks x.rows) && (starts_at_zero x.entries && are_entries 0 0 x.entries)) is).0

-- ---- what the first k blocks gave

pub record SoFar (encoding : Encoding) (body : ℕ) (at : PosIndex) (k : ℕ) (holds : Option Contents) (vs : List Value) : Type 0 where
  pub there : (m : Contents) → holds ≡ Some m → 0 < k → (bytes : List ℕ) × (get m body ≡ Some bytes)
  pub held : (m : Contents) → holds ≡ Some m → (bytes : List ℕ) → get m body ≡ Some bytes → (more : List Value) → HasBlocks encoding at.rows bytes (drop k at.entries) more → HasBlocks encoding at.rows bytes at.entries (vs ++ more)
  pub long : length vs ≡ min (1024 * k) at.rows
  pub values : All IsValue vs

pub started : (encoding : Encoding) (body : ℕ) (at : PosIndex) (holds : Option Contents) → SoFar encoding body at 0 holds []
started encoding body at holds = record {
  there = λ m told some. absurd (omega (arith, some));
  held = λ m told bytes there more has. has;
  long = omega arith;
  values = All-nil IsValue;
}

some_file : (encoding : Encoding) (e : Entry) (next : Option Entry) (vs : List Value) (o : Option (List ℕ)) → SpellsPiece encoding e next vs o → (bytes : List ℕ) × (o ≡ Some bytes)
some_file encoding e next vs None spells = absurd spells
some_file encoding e next vs (Some bytes) spells = (bytes, refl)

piece_spells : (encoding : Encoding) (e : Entry) (next : Option Entry) (vs : List Value) (o : Option (List ℕ)) (bytes : List ℕ) → o ≡ Some bytes → SpellsPiece encoding e next vs o → SpellsAs encoding vs (piece e next bytes)
piece_spells encoding e next vs o bytes there spells = subst (SpellsPiece encoding e next vs) there spells

pub goes_on : (encoding : Encoding) (body : ℕ) (at : PosIndex) (k : ℕ) (holds now : Option Contents) (vs new : List Value) → IsIndex at → k < length at.entries → now ≡ holds → SoFar encoding body at k holds vs
    → IfSome (slice_get at.entries k) (λ e. GoesOn encoding body at.rows e (slice_get at.entries (k + 1)) now vs new) → SoFar encoding body at (k + 1) holds new
goes_on encoding body at k holds now vs new is lt same so_far given =
    let s = stands at.entries k lt in
    let up : k + 1 ≡ suc k = omega arith in
    let one : GoesOn encoding body at.rows s.entry (slice_get at.entries (k + 1)) now vs new = subst (λ (o : Option Entry). IfSome o (λ e. GoesOn encoding body at.rows e (slice_get at.entries (k + 1)) now vs new)) s.there given in
    let block : List Value = one.0 in
    let are : AreValues encoding body at.rows s.entry (slice_get at.entries (k + 1)) now block = one.1 in
    let next : first_of (drop (suc k) at.entries) ≡ slice_get at.entries (k + 1) = s.next ∙ ap (slice_get at.entries) (sym up) in
    let first : s.entry.first ≡ 0 + 1024 * k = first_at at.entries k 0 0 s.entry (entries_are at is) s.there in
    let size : length new ≡ length vs + length block = ap length one.2 ∙ length-append vs block in
    record {
      there = λ m told some. some_file encoding s.entry (slice_get at.entries (k + 1)) block (get m body) (are.spelled m (same ∙ told));
      held = λ m told bytes there more has.
          let spelled : SpellsAs encoding block (piece s.entry (first_of (drop (suc k) at.entries)) bytes) =
          subst (λ (n : Option Entry). SpellsAs encoding block (piece s.entry n bytes)) (sym next) (piece_spells encoding s.entry (slice_get at.entries (k + 1)) block (get m body) bytes there (are.spelled m (same ∙ told))) in
          let behind : HasBlocks encoding at.rows bytes (drop (suc k) at.entries) more = subst (λ (n : ℕ). HasBlocks encoding at.rows bytes (drop n at.entries) more) up has in
          let here : HasBlocks encoding at.rows bytes (s.entry ∷ drop (suc k) at.entries) (block ++ more) = (block, more, are.values, spelled, behind, refl) in
          let whole = so_far.held m told bytes there (block ++ more) (subst (λ (es : List Entry). HasBlocks encoding at.rows bytes es (block ++ more)) (sym s.behind) here) in
          subst (HasBlocks encoding at.rows bytes at.entries) (sym (append_assoc vs block more) ∙ ap (λ (us : List Value). us ++ more) (sym one.2)) whole;
      long = omega (arith, size, first, so_far.long, are.values.long);
      values = subst (All IsValue) (sym one.2) (All-append IsValue vs block so_far.values (All-weaker IsSpelled IsValue spelled_is_value block are.values.values.values));
    }

pub ended : (encoding : Encoding) (body : ℕ) (at : PosIndex) (k : ℕ) (holds : Option Contents) (vs : List Value) → IsIndex at → length at.entries ≤ k → SoFar encoding body at k holds vs → HoldsBlocks encoding body at holds vs
ended encoding body at k holds vs is le so_far m told =
    let some : 0 < k = omega (arith, le, index_long at is, some_rows at is) in
    let file = so_far.there m told some in
    let none : drop k at.entries ≡ [] = drop_of_length-le at.entries le in
    let nothing : HasBlocks encoding at.rows file.0 (drop k at.entries) [] = subst (λ (es : List Entry). HasBlocks encoding at.rows file.0 es []) (sym none) refl in
    (file.0, file.1, subst (HasBlocks encoding at.rows file.0 at.entries) (append-nil vs) (so_far.held m told file.0 file.1 [] nothing))

-- ---- a block that isn't there

from_block : (encoding : Encoding) (rows : ℕ) (bytes : List ℕ) (es : List Entry) (k : ℕ) (vs : List Value) → HasBlocks encoding rows bytes es vs → (more : List Value) × HasBlocks encoding rows bytes (drop k es) more
from_block encoding rows bytes es zero vs has = (vs, has)
from_block encoding rows bytes [] (suc k) vs has = (vs, has)
from_block encoding rows bytes (e ∷ es) (suc k) vs (block, more, is, spelled, behind, all) = from_block encoding rows bytes es k more behind

pub none_there : (encoding : Encoding) (body : ℕ) (at : PosIndex) (k : ℕ) (holds now : Option Contents) (fault : StoreFault) → k < length at.entries → now ≡ holds
    → IfSome (slice_get at.entries k) (λ e. Blames body (IsNoPiece encoding body at.rows e (slice_get at.entries (k + 1)) now) fault) → Blames body (HoldsNoBlocks encoding body at holds) fault
none_there encoding body at k holds now fault lt same given =
    let s = stands at.entries k lt in
    let up : k + 1 ≡ suc k = omega arith in
    let next : first_of (drop (suc k) at.entries) ≡ slice_get at.entries (k + 1) = s.next ∙ ap (slice_get at.entries) (sym up) in
    let one : Blames body (IsNoPiece encoding body at.rows s.entry (slice_get at.entries (k + 1)) now) fault = subst (λ (o : Option Entry). IfSome o (λ e. Blames body (IsNoPiece encoding body at.rows e (slice_get at.entries (k + 1)) now) fault)) s.there given in
    blames body (IsNoPiece encoding body at.rows s.entry (slice_get at.entries (k + 1)) now) (HoldsNoBlocks encoding body at holds) fault
    (λ none m told bytes there held.
    let from = from_block encoding at.rows bytes at.entries k held.0 held.1 in
    let here : HasBlocks encoding at.rows bytes (s.entry ∷ drop (suc k) at.entries) from.0 = subst (λ (es : List Entry). HasBlocks encoding at.rows bytes es from.0) s.behind from.1 in
    let spells : SpellsBlock encoding at.rows s.entry (piece s.entry (slice_get at.entries (k + 1)) bytes) = (here.0, here.2, subst (λ (n : Option Entry). SpellsAs encoding here.0 (piece s.entry n bytes)) next here.3) in
    none m (same ∙ told) bytes there spells) one
