-- The blocks of a body, judged one after the other.
use Rattle.std.proofs.Common.{◌≡◌, ℕ, zero, suc, ◌+◌, ◌<◌, ◌≤◌, List, [], ◌∷◌, ◌++◌, length, drop, refl, sym, ap, subst, ◌∙◌, arith}
use Rattle.std.specs.Prelude.{Option, Some, None, IfSome}
use Rattle.std.specs.List.{All, slice_get}
use Rattle.std.proofs.lemmas.List.Elements.{All-nil, All-append}
use Rattle.common_laws.specs.Maps.{Contents}
use Rattle.col_disk.specs.declared.disk.StoreFault.{StoreFault}
use Rattle.col_disk.specs.declared.disk.StoreFault.TheVariants.{Damaged}
use Rattle.col_value.specs.declared.kinds.Encoding.{Encoding}
use Rattle.col_value.specs.declared.value.Value.{Value}
use Rattle.block_choice.specs.Choice.{SpellsAs}
use Rattle.block_choice.proofs.Spelled.{one_list}
use Rattle.pos_index.specs.declared.index.Entry.{Entry}
use Rattle.pos_index.specs.declared.index.PosIndex.{PosIndex}
use Rattle.pos_index.specs.Index.{IsIndex}
use Rattle.col_file.specs.Read.{Blames, IsNoPiece, SpellsPiece, AreValues, piece}
use Rattle.col_file.specs.Held.{first_of, GoesOn, HasBlocks}
use Rattle.col_file.proofs.Blocks.{blames}
use Rattle.col_file.proofs.ByBlocks.{SoFar, stands, started, goes_on, ended}
use Rattle.audit_model.proofs.Lists.{all_left, all_right}
use Rattle.audit_files.specs.Columns.{HoldsSuch, HoldsNoSuch, HasSuchBlock, HasNoSuchBlock}

-- ---- one block

pub such_block : (P : Value → Type 0) (encoding : Encoding) (body rows : ℕ) (o next : Option Entry) (holds : Option Contents) (vs : List Value) → IfSome o (λ e. AreValues encoding body rows e next holds vs) → All P vs
    → IfSome o (λ e. HasSuchBlock P encoding body rows e next holds)
such_block P encoding body rows None next holds vs are all = tt
such_block P encoding body rows (Some e) next holds vs are all = (vs, are, all)

-- a block with a value that may not stand there is the only one of its bytes
pub no_such_block : (P : Value → Type 0) (encoding : Encoding) (body rows : ℕ) (o next : Option Entry) (holds : Option Contents) (vs : List Value) → IfSome o (λ e. AreValues encoding body rows e next holds vs) → (All P vs → ⊥)
    → IfSome o (λ e. Blames body (HasNoSuchBlock P encoding body rows e next holds) (Damaged body))
no_such_block P encoding body rows None next holds vs are not = tt
no_such_block P encoding body rows (Some e) next holds vs are not = (
  refl,
  λ m told bytes there ws block spelled all.
      let mine : SpellsAs encoding vs (piece e next bytes) = subst (SpellsPiece encoding e next vs) there (are.spelled m told) in
      not (subst (All P) (sym (one_list encoding encoding vs ws (piece e next bytes) mine spelled)) all),
)

-- where there is no block, there is none of such values
pub no_block : (P : Value → Type 0) (encoding : Encoding) (body rows : ℕ) (o next : Option Entry) (holds : Option Contents) (fault : StoreFault) → IfSome o (λ e. Blames body (IsNoPiece encoding body rows e next holds) fault)
    → IfSome o (λ e. Blames body (HasNoSuchBlock P encoding body rows e next holds) fault)
no_block P encoding body rows None next holds fault none = tt
no_block P encoding body rows (Some e) next holds fault none =
    blames body (IsNoPiece encoding body rows e next holds) (HasNoSuchBlock P encoding body rows e next holds) fault (λ no_piece m told bytes there vs block spelled all. no_piece m told bytes there (vs, block, spelled)) none

-- ---- the blocks so far

abbrev pub SuchSoFar : (Value → Type 0) → Encoding → ℕ → PosIndex → ℕ → Option Contents → Type 0
SuchSoFar P encoding body at k holds = (vs : List Value) × SoFar encoding body at k holds vs × All P vs

pub such_started : (P : Value → Type 0) (encoding : Encoding) (body : ℕ) (at : PosIndex) (holds : Option Contents) → SuchSoFar P encoding body at 0 holds
such_started P encoding body at holds = ([], started encoding body at holds, All-nil P)

pub such_on : (P : Value → Type 0) (encoding : Encoding) (body : ℕ) (at : PosIndex) (k : ℕ) (holds now : Option Contents) → IsIndex at → k < length at.entries → now ≡ holds → SuchSoFar P encoding body at k holds
    → IfSome (slice_get at.entries k) (λ e. HasSuchBlock P encoding body at.rows e (slice_get at.entries (k + 1)) now) → SuchSoFar P encoding body at (k + 1) holds
such_on P encoding body at k holds now is lt same so_far given =
    let s = stands at.entries k lt in
    let next = slice_get at.entries (k + 1) in
    let here : HasSuchBlock P encoding body at.rows s.entry next now = subst (λ (o : Option Entry). IfSome o (λ e. HasSuchBlock P encoding body at.rows e next now)) s.there given in
    let vs : List Value = so_far.0 in
    let block : List Value = here.0 in
    let added : GoesOn encoding body at.rows s.entry next now vs (vs ++ block) = (block, here.1, refl) in
    let on : IfSome (slice_get at.entries k) (λ e. GoesOn encoding body at.rows e next now vs (vs ++ block)) = subst (λ (o : Option Entry). IfSome o (λ e. GoesOn encoding body at.rows e next now vs (vs ++ block))) (sym s.there) added in
    (vs ++ block, goes_on encoding body at k holds now vs (vs ++ block) is lt same so_far.1 on, All-append P vs block so_far.2 here.2)

pub such_ended : (P : Value → Type 0) (encoding : Encoding) (body : ℕ) (at : PosIndex) (k : ℕ) (holds : Option Contents) → IsIndex at → length at.entries ≤ k → SuchSoFar P encoding body at k holds → HoldsSuch P encoding body at holds
such_ended P encoding body at k holds is le so_far = (so_far.0, ended encoding body at k holds so_far.0 is le so_far.1, so_far.2)

-- ---- a block that isn't there

from_block : (P : Value → Type 0) (encoding : Encoding) (rows : ℕ) (bytes : List ℕ) (es : List Entry) (k : ℕ) (vs : List Value) → HasBlocks encoding rows bytes es vs → All P vs → (more : List Value) × HasBlocks encoding rows bytes (drop k es) more × All P more
from_block P encoding rows bytes es zero vs has all = (vs, has, all)
from_block P encoding rows bytes [] (suc k) vs has all = (vs, has, all)
from_block P encoding rows bytes (e ∷ es) (suc k) vs (block, more, is, spelled, behind, joined) all = from_block P encoding rows bytes es k more behind (all_right P block more (subst (All P) joined all))

pub none_such : (P : Value → Type 0) (encoding : Encoding) (body : ℕ) (at : PosIndex) (k : ℕ) (holds now : Option Contents) (fault : StoreFault) → k < length at.entries → now ≡ holds
    → IfSome (slice_get at.entries k) (λ e. Blames body (HasNoSuchBlock P encoding body at.rows e (slice_get at.entries (k + 1)) now) fault) → Blames body (HoldsNoSuch P encoding body at holds) fault
none_such P encoding body at k holds now fault lt same given =
    let s = stands at.entries k lt in
    let up : k + 1 ≡ suc k = omega arith in
    let next : first_of (drop (suc k) at.entries) ≡ slice_get at.entries (k + 1) = s.next ∙ ap (slice_get at.entries) (sym up) in
    let one : Blames body (HasNoSuchBlock P encoding body at.rows s.entry (slice_get at.entries (k + 1)) now) fault = subst (λ (o : Option Entry). IfSome o (λ e. Blames body (HasNoSuchBlock P encoding body at.rows e (slice_get at.entries (k + 1)) now) fault)) s.there given in
    blames body (HasNoSuchBlock P encoding body at.rows s.entry (slice_get at.entries (k + 1)) now) (HoldsNoSuch P encoding body at holds) fault
    (λ none m told bytes there vs held all.
    let from = from_block P encoding at.rows bytes at.entries k vs held all in
    let here : HasBlocks encoding at.rows bytes (s.entry ∷ drop (suc k) at.entries) from.0 = subst (λ (es : List Entry). HasBlocks encoding at.rows bytes es from.0) s.behind from.1 in
    let front : All P here.0 = all_left P here.0 here.1 (subst (All P) here.5 from.2) in
    none m (same ∙ told) bytes there here.0 here.2 (subst (λ (n : Option Entry). SpellsAs encoding here.0 (piece s.entry n bytes)) next here.3) front) one
