use Rattle.std.proofs.Common.{◌≡◌, ℕ, ◌≤◌, ◌<◌, sym, ◌∙◌, length, inl, inr, arith}
use Rattle.std.specs.Prelude.{◌⊎◌}
use Rattle.ros_container.specs.Rows.{column_values}
use Rattle.ros_container.proofs.SameRows.{same_rows}
use Rattle.ros_container.proofs.laws.one_container.Goals as goal

pub returns : goal.returns
returns c m written k xs ys first second =
    same_rows (length written) xs ys first.wide second.wide (λ i lt. by i lt (stored_or_not i)) (c.one_column.ensures _ _ _ _ m _ _ first.epochs second.epochs)
  where
    stored_or_not : (i : ℕ) → (i < k.stored) ⊎ (k.stored ≤ i)
    stored_or_not i = grind arith

    by : (i : ℕ) → i < length written → (i < k.stored) ⊎ (k.stored ≤ i) → column_values i xs ≡ column_values i ys
    by i lt (inl stored) = c.one_column.ensures _ _ _ _ m _ _ (first.each i stored) (second.each i stored)
    by i lt (inr behind) = first.defaults i behind lt ∙ sym (second.defaults i behind lt)
