-- A database stays sound where a table goes.
use Rattle.std.proofs.Common.{ℕ, ◌++◌, Bool, true, false, cond, List, [], ◌∷◌, filter, refl, sym, subst}
use Rattle.std.specs.List.{All, AllPairs}
use Rattle.std.proofs.lemmas.List.Concat.{flat_map-cons}
use Rattle.std.proofs.lemmas.List.Elements.{All-append, All-filter, All-weaker}
use Rattle.db_model.specs.Database.{Database, Table}
use Rattle.db_model.specs.Events.{is_not_named}
use Rattle.db_model.specs.Sound.{IsSoundTable, names_of, all_names, IsSoundDatabase}
use Rattle.sound_laws.proofs.Pairs.{pairs_front, pairs_back, pairs_across, pairs_join, all_front, all_back}
use Rattle.sound_laws.proofs.Created.{Differ, table_still}

names_kept : (P : List ℕ → Type 0) (p : Table → Bool) (ts : List Table) → All P (all_names ts) → All P (all_names (filter p ts))
names_kept P p [] all = all
names_kept P p (t ∷ ts) all = by (p t) (names_kept P p ts (all_back P (names_of t) (all_names ts) both))
  where
    both : All P (names_of t ++ all_names ts)
    both = subst (All P) (flat_map-cons names_of t ts) all

    by : (b : Bool) → All P (all_names (filter p ts)) → All P (all_names (cond b (t ∷ filter p ts) (filter p ts)))
    by true more = subst (All P) (sym (flat_map-cons names_of t (filter p ts))) (All-append P (names_of t) (all_names (filter p ts)) (all_front P (names_of t) (all_names ts) both) more)
    by false more = more

pairs_kept : (p : Table → Bool) (ts : List Table) → AllPairs Differ (all_names ts) → AllPairs Differ (all_names (filter p ts))
pairs_kept p [] pairs = pairs
pairs_kept p (t ∷ ts) pairs = by (p t) (pairs_kept p ts (pairs_back Differ (names_of t) (all_names ts) both))
  where
    both : AllPairs Differ (names_of t ++ all_names ts)
    both = subst (AllPairs Differ) (flat_map-cons names_of t ts) pairs

    by : (b : Bool) → AllPairs Differ (all_names (filter p ts)) → AllPairs Differ (all_names (cond b (t ∷ filter p ts) (filter p ts)))
    by true more =
        subst (AllPairs Differ) (sym (flat_map-cons names_of t (filter p ts)))
        (pairs_join Differ (names_of t) (all_names (filter p ts)) (pairs_front Differ (names_of t) (all_names ts) both) more
        (All-weaker (λ n. All (Differ n) (all_names ts)) (λ n. All (Differ n) (all_names (filter p ts))) (λ n all. names_kept (Differ n) p ts all) (names_of t) (pairs_across Differ (names_of t) (all_names ts) both)))
    by false more = more

abbrev pub without_named : List ℕ → Database → Database
without_named name d = record d { tables = filter (λ t. is_not_named name t.name) d.tables }

pub dropped_sound : (d : Database) (name : List ℕ) → IsSoundDatabase d → IsSoundDatabase (without_named name d)
dropped_sound d name sound = record {
  names = pairs_kept (λ t. is_not_named name t.name) d.tables sound.names;
  tables =
      All-weaker (IsSoundTable d) (IsSoundTable (without_named name d)) (λ t is. table_still d (without_named name d) t refl refl is) (filter (λ t. is_not_named name t.name) d.tables)
      (All-filter (λ t. is_not_named name t.name) (IsSoundTable d) d.tables sound.tables);
  mark = sound.mark;
}
