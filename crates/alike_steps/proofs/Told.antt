-- What EXPLAIN and the functions print over alike states.
use Rattle.std.proofs.Common.{◌≡◌, ◌++◌, ℕ, List, [], ◌∷◌, map, filter, refl, ap, ap₂, ◌∙◌}
use Rattle.std.specs.Prelude.{zip, codes, Option, Some, None}
use Rattle.std.specs.List.{AllZip, flat_map}
use Rattle.std.specs.Option.{option_map_or}
use Rattle.sql_tree.specs.declared.query.Query.{Query}
use Rattle.sql_tree.specs.declared.query.Source.{Source}
use Rattle.sql_bound.specs.declared.query.BoundQuery.{BoundQuery}
use Rattle.sql_bound.specs.declared.query.FromItem.{FromItem}
use Rattle.sql_binding.specs.Sight.{item_name}
use Rattle.db_model.specs.Alike.{AreAlikeStates}
use Rattle.db_model.specs.Choice.{chosen_for}
use Rattle.db_model.specs.Database.{Shape, Table}
use Rattle.db_model.specs.Epochs.{last_good, least_or}
use Rattle.db_model.specs.Printing.{explain_text, scan_line}
use Rattle.db_model.specs.State.{State}
use Rattle.db_model.specs.Views.{bound_in, source_tables, table_found}
use Rattle.one_text.proofs.OneQuery.{bound_same}
use Rattle.alike_steps.proofs.Tables.{AreAlikeFound, AreAlikeTables, found_both, shapes_same}
use Rattle.alike_steps.proofs.Zipped.{BothThere}

abbrev Found : Type 0
Found = ℕ × Table

sources_zip : (mark : ℕ) (ts us : List Table) → AreAlikeTables mark ts us → (sources : List Source)
    → AllZip (AreAlikeFound mark) (flat_map (λ (s : Source). option_map_or (λ e. e ∷ []) (table_found s.table ts) []) sources) (flat_map (λ (s : Source). option_map_or (λ e. e ∷ []) (table_found s.table us) []) sources)
sources_zip mark ts us alike [] = tt
sources_zip mark ts us alike (s ∷ sources) = by (table_found s.table ts) (table_found s.table us) (found_both mark s.table ts us alike) (sources_zip mark ts us alike sources)
  where
    rest_of : List Table → List Found
    rest_of vs = flat_map (λ (x : Source). option_map_or (λ e. e ∷ []) (table_found x.table vs) []) sources

    by : (x y : Option Found) → BothThere (AreAlikeFound mark) x y → AllZip (AreAlikeFound mark) (rest_of ts) (rest_of us) → AllZip (AreAlikeFound mark) (option_map_or (λ e. e ∷ []) x [] ++ rest_of ts) (option_map_or (λ e. e ∷ []) y [] ++ rest_of us)
    by None None both rest = rest
    by None (Some f) both rest = absurd both
    by (Some e) None both rest = absurd both
    by (Some e) (Some f) both rest = (both, rest)

-- the line of a FROM item, by the projections of its table
abbrev line_by : BoundQuery → Source → FromItem → List Shape → List ℕ
line_by q source item shapes = codes "SCAN " ++ (item_name source ++ (codes " " ++ (option_map_or (λ s. s.name) (chosen_for q item shapes) [] ++ codes "\n")))

lines_same : (mark : ℕ) (q : BoundQuery) (sources : List Source) (items : List FromItem) (es fs : List Found) → AllZip (AreAlikeFound mark) es fs → flat_map (scan_line q) (zip sources (zip items es)) ≡ flat_map (scan_line q) (zip sources (zip items fs))
lines_same mark q [] items es fs alike = refl
lines_same mark q (s ∷ sources) [] es fs alike = refl
lines_same mark q (s ∷ sources) (i ∷ items) [] [] alike = refl
lines_same mark q (s ∷ sources) (i ∷ items) [] (f ∷ fs) alike = absurd alike
lines_same mark q (s ∷ sources) (i ∷ items) (e ∷ es) [] alike = absurd alike
lines_same mark q (s ∷ sources) (i ∷ items) (e ∷ es) (f ∷ fs) (here, more) =
    ap₂ (λ (shapes : List Shape) (lines : List ℕ). line_by q s i shapes ++ lines) here.table.shapes (lines_same mark q sources items es fs more)

pub explain_same : (a b : State) (q : Query) → AreAlikeStates a b → explain_text a q ≡ explain_text b q
explain_same a b q alike =
    ap (λ (tree : BoundQuery). flat_map (scan_line tree) (zip q.sources (zip tree.sources (source_tables a.database.tables q)))) (bound_same a b q alike)
    ∙ lines_same a.database.ahm (bound_in b q) q.sources (bound_in b q).sources (source_tables a.database.tables q) (source_tables b.database.tables q)
    (sources_zip a.database.ahm a.database.tables b.database.tables alike.database.tables q.sources)

pub good_same : (a b : State) → AreAlikeStates a b → last_good a.database ≡ last_good b.database
good_same a b alike =
    ap₂ (λ (last : ℕ) (shapes : List Shape). least_or last (map (λ s. s.lge) (filter (λ s. s.fresh) shapes))) alike.database.last (shapes_same a.database.ahm a.database.tables b.database.tables alike.database.tables)
