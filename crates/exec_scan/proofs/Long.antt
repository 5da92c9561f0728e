-- How many rows a block of a container has.
use Rattle.std.proofs.Common.{◌≡◌, ℕ, ◌-◌, ◌*◌, List, length, drop, min, ap, ◌∙◌}
use Rattle.std.proofs.lemmas.List.{length-drop, length-take}
use Rattle.catalog_types.specs.declared.catalogue.Container.{Container}
use Rattle.common_laws.specs.Maps.{Contents}
use Rattle.col_value.specs.declared.row.Asked.{Asked}
use Rattle.ros_container.specs.Encodings.{Written}
use Rattle.ros_container.specs.Held.{HoldsContainer}
use Rattle.container_blocks.specs.Blocks.{rows_in}
use Rattle.ros_container.proofs.Long.{container_long}

pub block_long : (m : Contents) (es : List Written) (k : Container) (b : ℕ) (rows : List Asked) → HoldsContainer m es k rows → length (rows_in b rows) ≡ min 1024 (k.rows - 1024 * b)
block_long m es k b rows held = length-take 1024 (drop (1024 * b) rows) ∙ ap (min 1024) (length-drop (1024 * b) rows ∙ ap (λ (n : ℕ). n - 1024 * b) (container_long m es k rows held))
