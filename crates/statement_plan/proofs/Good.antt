-- The last good epoch of a catalogue's tables without rows.
use Rattle.std.proofs.Common.{◌≡◌, ◌++◌, ℕ, List, [], ◌∷◌, None, map, refl, sym, ap, ◌∙◌}
use Rattle.std.specs.Prelude.{fold, unwrap_or}
use Rattle.std.proofs.lemmas.List.Concat.{flat_map-cons}
use Rattle.catalog_types.specs.declared.catalogue.Table as kept
use Rattle.catalog_types.specs.Reached.{earlier, table_reached}
use Rattle.db_model.specs.Database.{Shape, Table}
use Rattle.db_model.specs.Epochs.{all_shapes, least_or}
use Rattle.folder_model.specs.Projections.{shape_of}
use Rattle.folder_model.proofs.LastGoods.{kept_good, kept_shapes, lges}
use Rattle.statement_plan.specs.Bare.{bare_table}

bare_shapes : (ts : List kept.Table) → all_shapes (map bare_table ts) ≡ kept_shapes ts
bare_shapes [] = refl
bare_shapes (t ∷ ts) =
    flat_map-cons (λ (u : Table). u.shapes) (bare_table t) (map bare_table ts)
    ∙ ap (λ (ss : List Shape). map shape_of t.projections ++ ss) (bare_shapes ts)
    ∙ sym (flat_map-cons (λ (u : kept.Table). map shape_of u.projections) t ts)

pub bare_good : (last : ℕ) (ts : List kept.Table) → least_or last (lges (all_shapes (map bare_table ts))) ≡ unwrap_or (fold (λ e t. earlier e (table_reached t)) None ts) last
bare_good last ts = ap (λ (ss : List Shape). least_or last (lges ss)) (bare_shapes ts) ∙ kept_good last ts
