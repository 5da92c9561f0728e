-- A table that goes, and what the store stands for without it.
use Rattle.std.proofs.Common.{◌≡◌, ℕ, zero, suc, ◌++◌, Bool, true, false, cond, List, [], ◌∷◌, map, filter, refl, sym, ◌∙◌, ap, subst}
use Rattle.std.specs.Prelude.{not, bytes_eq, IsSomeAnd}
use Rattle.std.specs.List.{All, AllPairs, slice_get, remove}
use Rattle.std.proofs.lemmas.List.Concat.{flat_map-cons}
use Rattle.std.proofs.lemmas.List.Elements.{All-head, All-tail, All-append, All-filter, All-weaker}
use Rattle.std.proofs.lemmas.Slice.Eq.{bytes_eq-Decides}
use Rattle.common_laws.specs.Maps.{Contents}
use Rattle.catalog_types.specs.declared.catalogue.Table as kept
use Rattle.catalog_types.specs.declared.catalogue.Catalogue.{Catalogue}
use Rattle.db_model.specs.Database.{Database, Table}
use Rattle.db_model.specs.Events.{is_not_named}
use Rattle.db_model.specs.Sound.{IsSoundTable, names_of, all_names, IsSoundDatabase}
use Rattle.sound_laws.proofs.Pairs.{pairs_front, pairs_back, pairs_across, pairs_join, all_front, all_back}
use Rattle.sound_laws.proofs.Created.{Differ, table_still}
use Rattle.sound_laws.proofs.Changes.{NamesDiffer, names_differ}
use Rattle.stored_rows.specs.Stored.{Projected}
use Rattle.folder_model.specs.Tables.{StandForTables, AreDatabase}
use Rattle.table_store.specs.Creating.{without_table, dropped}

pub map_remove : {X Y : Type 0} (f : X → Y) (xs : List X) (i : ℕ) → map f (remove xs i) ≡ remove (map f xs) i
map_remove f [] zero = refl
map_remove f [] (suc i) = refl
map_remove f (x ∷ xs) zero = refl
map_remove {X} {Y} f (x ∷ xs) (suc i) = ap (λ (ys : List Y). f x ∷ ys) (map_remove f xs i)

-- ---- one name is gone

others_kept : (name : List ℕ) (us : List Table) → All (λ u. Differ name u.name) us → filter (λ t. is_not_named name t.name) us ≡ us
others_kept name [] apart = refl
others_kept name (u ∷ us) apart = by (bytes_eq u.name name) refl (others_kept name us (All-tail (λ v. Differ name v.name) u us apart))
  where
    by : (b : Bool) → bytes_eq u.name name ≡ b → filter (λ t. is_not_named name t.name) us ≡ us → cond (not b) (u ∷ filter (λ t. is_not_named name t.name) us) (filter (λ t. is_not_named name t.name) us) ≡ u ∷ us
    by false is rest = ap (λ (vs : List Table). u ∷ vs) rest
    by true is rest =
        let same : u.name ≡ name = (bytes_eq-Decides u.name name).0 is in
        let off : bytes_eq name u.name ≡ false = All-head (λ v. Differ name v.name) u us apart in
        let on : bytes_eq name u.name ≡ true = (bytes_eq-Decides name u.name).1 (sym same) in
        absurd (cc)

named_removed : (name : List ℕ) (us : List Table) (i : ℕ) → NamesDiffer us → IsSomeAnd (slice_get us i) (λ u. u.name ≡ name) → filter (λ t. is_not_named name t.name) us ≡ remove us i
named_removed name [] i differ there = absurd there
named_removed name (u ∷ us) zero (here, more) there =
    ap (λ (b : Bool). cond (not b) (u ∷ filter (λ t. is_not_named name t.name) us) (filter (λ t. is_not_named name t.name) us)) ((bytes_eq-Decides u.name name).1 there)
    ∙ others_kept name us (subst (λ (n : List ℕ). All (λ v. Differ n v.name) us) there here)
named_removed name (u ∷ us) (suc i) (here, more) there =
    ap (λ (b : Bool). cond (not b) (u ∷ filter (λ t. is_not_named name t.name) us) (filter (λ t. is_not_named name t.name) us)) (apart us i here there)
    ∙ ap (λ (vs : List Table). u ∷ vs) (named_removed name us i more there)
  where
    apart : (vs : List Table) (k : ℕ) → All (λ v. Differ u.name v.name) vs → IsSomeAnd (slice_get vs k) (λ v. v.name ≡ name) → bytes_eq u.name name ≡ false
    apart [] k all at = absurd at
    apart (v ∷ vs) zero all at = subst (λ (n : List ℕ). bytes_eq u.name n ≡ false) at (All-head (λ w. Differ u.name w.name) v vs all)
    apart (v ∷ vs) (suc k) all at = apart vs k (All-tail (λ w. Differ u.name w.name) v vs all) at

-- ---- the database stays sound

names_kept : (P : List ℕ → Type 0) (p : Table → Bool) (ts : List Table) → All P (all_names ts) → All P (all_names (filter p ts))
names_kept P p [] all = all
names_kept P p (t ∷ ts) all = by (p t) (names_kept P p ts (all_back P (names_of t) (all_names ts) both))
  where
    both : All P (names_of t ++ all_names ts)
    both = subst (All P) (flat_map-cons names_of t ts) all

    by : (b : Bool) → All P (all_names (filter p ts)) → All P (all_names (cond b (t ∷ filter p ts) (filter p ts)))
    by true more = subst (All P) (sym (flat_map-cons names_of t (filter p ts))) (All-append P (names_of t) (all_names (filter p ts)) (all_front P (names_of t) (all_names ts) both) more)
    by false more = more

pairs_kept : (p : Table → Bool) (ts : List Table) → AllPairs Differ (all_names ts) → AllPairs Differ (all_names (filter p ts))
pairs_kept p [] pairs = pairs
pairs_kept p (t ∷ ts) pairs = by (p t) (pairs_kept p ts (pairs_back Differ (names_of t) (all_names ts) both))
  where
    both : AllPairs Differ (names_of t ++ all_names ts)
    both = subst (AllPairs Differ) (flat_map-cons names_of t ts) pairs

    by : (b : Bool) → AllPairs Differ (all_names (filter p ts)) → AllPairs Differ (all_names (cond b (t ∷ filter p ts) (filter p ts)))
    by true more =
        subst (AllPairs Differ) (sym (flat_map-cons names_of t (filter p ts)))
        (pairs_join Differ (names_of t) (all_names (filter p ts)) (pairs_front Differ (names_of t) (all_names ts) both) more
        (All-weaker (λ n. All (Differ n) (all_names ts)) (λ n. All (Differ n) (all_names (filter p ts))) (λ n all. names_kept (Differ n) p ts all) (names_of t) (pairs_across Differ (names_of t) (all_names ts) both)))
    by false more = more

pub dropped_sound : (d : Database) (name : List ℕ) → IsSoundDatabase d → IsSoundDatabase (dropped name d)
dropped_sound d name sound = record {
  names = pairs_kept (λ t. is_not_named name t.name) d.tables sound.names;
  tables =
      All-weaker (IsSoundTable d) (IsSoundTable (dropped name d)) (λ t is. table_still d (dropped name d) t refl refl is) (filter (λ t. is_not_named name t.name) d.tables)
      (All-filter (λ t. is_not_named name t.name) (IsSoundTable d) d.tables sound.tables);
  mark = sound.mark;
}

-- ---- what the store stands for

stand_removed : (m : Contents) (mark : ℕ) (ts : List kept.Table) (pss : List (List Projected)) (us : List Table) (i : ℕ) → StandForTables m mark ts pss us → StandForTables m mark (remove ts i) (remove pss i) (remove us i)
stand_removed m mark [] [] [] zero stand = tt
stand_removed m mark [] [] [] (suc i) stand = tt
stand_removed m mark [] [] (u ∷ us) i stand = absurd stand
stand_removed m mark [] (ps ∷ pss) us i stand = absurd stand
stand_removed m mark (t ∷ ts) [] us i stand = absurd stand
stand_removed m mark (t ∷ ts) (ps ∷ pss) [] i stand = absurd stand
stand_removed m mark (t ∷ ts) (ps ∷ pss) (u ∷ us) zero (here, more) = more
stand_removed m mark (t ∷ ts) (ps ∷ pss) (u ∷ us) (suc i) (here, more) = (here, stand_removed m mark ts pss us i more)

named_there : (m : Contents) (mark : ℕ) (ts : List kept.Table) (pss : List (List Projected)) (us : List Table) (i : ℕ) (name : List ℕ) → StandForTables m mark ts pss us → IsSomeAnd (slice_get ts i) (λ t. t.name ≡ name)
    → IsSomeAnd (slice_get us i) (λ u. u.name ≡ name)
named_there m mark [] pss us i name stand there = absurd there
named_there m mark (t ∷ ts) [] us i name stand there = absurd stand
named_there m mark (t ∷ ts) (ps ∷ pss) [] i name stand there = absurd stand
named_there m mark (t ∷ ts) (ps ∷ pss) (u ∷ us) zero name (here, more) there = here.name ∙ there
named_there m mark (t ∷ ts) (ps ∷ pss) (u ∷ us) (suc i) name (here, more) there = named_there m mark ts pss us i name more there

pub dropped_are : (m : Contents) (c : Catalogue) (stores : List (List Projected)) (d : Database) (name : List ℕ) (place : ℕ) → IsSoundDatabase d → IsSomeAnd (slice_get c.tables place) (λ t. t.name ≡ name)
    → AreDatabase m c stores d → AreDatabase m (without_table c.last place c) (remove stores place) (dropped name d)
dropped_are m c stores d name place sound there are = record {
  last = are.last;
  ahm = are.ahm;
  tables =
      subst (StandForTables m c.ahm (remove c.tables place) (remove stores place)) (sym (named_removed name d.tables place (names_differ d sound) (named_there m c.ahm c.tables stores d.tables place name are.tables there)))
      (stand_removed m c.ahm c.tables stores d.tables place are.tables);
}
