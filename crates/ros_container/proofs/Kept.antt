-- What is held goes on being held where other files change.
use Rattle.std.proofs.Common.{◌≡◌, ℕ, ◌*◌, ◌+◌, ◌<◌, List, refl, sym, ◌∙◌, ap, inl, inr, arith}
use Rattle.std.specs.Prelude.{Option, Some, None}
use Rattle.std.specs.FinMap.{get}
use Rattle.common_laws.specs.Maps.{Contents}
use Rattle.col_disk.proofs.Moving.{changed_kept}
use Rattle.col_disk.specs.Calls.{Stepped}
use Rattle.col_disk.specs.Moved.{Changed, NoName, Named, Either}
use Rattle.col_file.specs.Held.{HoldsColumn}
use Rattle.col_value.specs.declared.kinds.Encoding.{Encoding}
use Rattle.col_value.specs.declared.row.Asked.{Asked}
use Rattle.col_value.specs.declared.value.Value.{Value}
use Rattle.catalog_types.specs.declared.catalogue.Container.{Container}
use Rattle.ros_container.specs.Encodings.{Written}
use Rattle.ros_container.specs.Files.{body_of, index_of, IsFileOf}
use Rattle.ros_container.specs.Held.{HoldsContainer}

-- the two files of a column are as they were
pub column_kept : (encoding : Encoding) (body index rows : ℕ) (m n : Contents) (vs : List Value) → get n body ≡ get m body → get n index ≡ get m index → HoldsColumn encoding body index rows m vs → HoldsColumn encoding body index rows n vs
column_kept encoding body index rows m n vs same_body same_index held = record {
  at = held.at;
  is_index = held.is_index;
  fits = held.fits;
  of_rows = held.of_rows;
  index_file = same_index ∙ held.index_file;
  bytes = held.bytes;
  body_file = same_body ∙ held.body_file;
  blocks = held.blocks;
}

-- the files of column i are files of the container
pub is_body : (base columns i : ℕ) → i < columns + 1 → IsFileOf base columns (body_of base i)
is_body base columns i lt = (2 * i, omega arith, refl)

pub is_index : (base columns i : ℕ) → i < columns + 1 → IsFileOf base columns (index_of base i)
is_index base columns i lt = (2 * i + 1, omega arith, omega arith)

pub is_file : (base columns i : ℕ) → i < columns + 1 → (q : ℕ) → Either (Named (body_of base i)) (Named (index_of base i)) q → IsFileOf base columns q
is_file base columns i lt q (inl is) = (2 * i, omega arith, is)
is_file base columns i lt q (inr is) = (2 * i + 1, omega arith, omega arith)

-- the files of a container are as they were
pub rows_kept : (m n : Contents) (written : List Written) (k : Container) (rows : List Asked) → ((q : ℕ) → IsFileOf k.base k.stored q → get n q ≡ get m q) → HoldsContainer m written k rows → HoldsContainer n written k rows
rows_kept m n written k rows same held = record {
  each = λ i lt. column_kept _ _ _ _ m n _ (same _ (is_body k.base k.stored i (omega arith))) (same _ (is_index k.base k.stored i (omega arith))) (held.each i lt);
  defaults = held.defaults;
  epochs = column_kept _ _ _ _ m n _ (same _ (is_body k.base k.stored k.stored (omega arith))) (same _ (is_index k.base k.stored k.stored (omega arith))) held.epochs;
  wide = held.wide;
  within = held.within;
}

-- two other files changed
pub still_held : (encoding : Encoding) (base i j rows : ℕ) (vs : List Value) (old new : Option Contents) → j < i → Stepped (Changed (Either (Named (body_of base i)) (Named (index_of base i))) NoName) old new
    → ((m : Contents) → old ≡ Some m → HoldsColumn encoding (body_of base j) (index_of base j) rows m vs) → (n : Contents) → new ≡ Some n → HoldsColumn encoding (body_of base j) (index_of base j) rows n vs
still_held encoding base i j rows vs None None lt step held n told = absurd (cc)
still_held encoding base i j rows vs None (Some t) lt step held n told = absurd step
still_held encoding base i j rows vs (Some m) None lt step held n told = absurd step
still_held encoding base i j rows vs (Some m) (Some t) lt step held n told = there t step told
  where
    W : ℕ → Type 0
    W = Either (Named (body_of base i)) (Named (index_of base i))

    not_body : W (body_of base j) → ⊥
    not_body (inl is) = omega arith
    not_body (inr is) = omega arith

    not_index : W (index_of base j) → ⊥
    not_index (inl is) = omega arith
    not_index (inr is) = omega arith

    there : (t : Contents) → Changed W NoName m t → ◌≡◌ {A = Option Contents} (Some t) (Some n) → HoldsColumn encoding (body_of base j) (index_of base j) rows n vs
    there t changed told =
        let same : t ≡ n = cc in
        column_kept _ _ _ _ m n vs
        (ap (λ (c : Contents). get c (body_of base j)) (sym same) ∙ changed_kept W NoName m t _ not_body (λ is. is) changed)
        (ap (λ (c : Contents). get c (index_of base j)) (sym same) ∙ changed_kept W NoName m t _ not_index (λ is. is) changed)
        (held m refl)
