-- A folder that was opened has all its data on disk up to its newest epoch.
use Rattle.std.proofs.Common.{◌≡◌, ◌≤◌, ℕ, Bool, true, false, cond, List, [], ◌∷◌, map, refl, sym, ◌∙◌, ap, subst, arith}
use Rattle.std.specs.List.{All, AllZip}
use Rattle.std.proofs.lemmas.List.Elements.{All-cons, All-nil}
use Rattle.common_laws.specs.Maps.{Contents}
use Rattle.catalog_types.specs.declared.catalogue.Projection.{Projection}
use Rattle.catalog_types.specs.declared.catalogue.Table as kept
use Rattle.catalog_root.specs.declared.found.Found.{Found}
use Rattle.catalog_root.specs.declared.found.Found.TheVariants.{Fresh, Root}
use Rattle.db_model.specs.Database.{Database, Shape, Table}
use Rattle.db_model.specs.Epochs.{last_good, moved_shape}
use Rattle.db_laws.proofs.Goods.{IsGood, Reaches, TableReaches, good_itself, good_least}
use Rattle.folder_model.specs.Projections.{shape_of}
use Rattle.folder_model.specs.Reopening.{IsTableAt, Reopens, ReopensBy}

moved_reaches : (epoch : ℕ) (s : Shape) → Reaches epoch (moved_shape epoch s)
moved_reaches epoch s = by s.fresh refl
  where
    by : (b : Bool) → s.fresh ≡ b → Reaches epoch (cond b (record s { lge = epoch }) s)
    by true is = λ fresh. omega arith
    by false is = λ fresh. absurd (cc)

all_reach : (epoch : ℕ) (ps : List Projection) → All (Reaches epoch) (map (λ p. moved_shape epoch (shape_of p)) ps)
all_reach epoch [] = All-nil (Reaches epoch)
all_reach epoch (p ∷ ps) = All-cons (Reaches epoch) (moved_shape epoch (shape_of p)) (map (λ q. moved_shape epoch (shape_of q)) ps) (moved_reaches epoch (shape_of p)) (all_reach epoch ps)

tables_reach : (m : Contents) (mark epoch : ℕ) (ts : List kept.Table) (us : List Table) → AllZip (IsTableAt m mark epoch) ts us → All (TableReaches epoch) us
tables_reach m mark epoch [] [] all = All-nil (TableReaches epoch)
tables_reach m mark epoch [] (u ∷ us) all = absurd all
tables_reach m mark epoch (t ∷ ts) [] all = absurd all
tables_reach m mark epoch (t ∷ ts) (u ∷ us) (here, more) =
    All-cons (TableReaches epoch) u us (subst (All (Reaches epoch)) (sym here.shapes) (all_reach epoch t.projections)) (tables_reach m mark epoch ts us more)

both_ways : (a b : ℕ) → a ≤ b → b ≤ a → a ≡ b
both_ways a b le ge = omega (arith, le, ge)

pub opened_good : (m : Contents) (d : Database) → Reopens m d → last_good d ≡ d.last
opened_good m d reopens = by reopens.root reopens.is_cut
  where
    by : (found : Found) → ReopensBy m found d → last_good d ≡ d.last
    by Fresh is = ap last_good is ∙ sym (ap (λ (e : Database). e.last) is)
    by (Root v c) is =
        let good : IsGood d.last d = record {
          closed = omega arith;
          tables = subst (λ (n : ℕ). All (TableReaches n) d.tables) (sym is.last) (tables_reach m c.ahm _ c.tables d.tables is.tables);
        } in
        both_ways (last_good d) d.last (good_itself d reopens.sound).closed (good_least d.last d good)
