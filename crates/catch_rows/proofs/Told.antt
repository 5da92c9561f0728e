-- What a projection tells of its table, in a store that stands for a database.
use Rattle.std.proofs.Common.{◌≡◌, ◌≤◌, ℕ, List, [], ◌∷◌, map, length, Option, Some, None, refl, sym, ap, ◌∙◌, subst}
use Rattle.std.specs.Prelude.{IsSomeAnd, option_map}
use Rattle.std.proofs.lemmas.Option.{same_Some, slice_get-map}
use Rattle.std.specs.List.{All, AllZip, slice_get}
use Rattle.std.proofs.lemmas.List.Elements.{All-filter, All-head, All-tail, All-weaker}
use Rattle.common_laws.specs.Bags.{SameBag}
use Rattle.common_laws.specs.Maps.{Contents}
use Rattle.col_disk.specs.declared.disk.Disk.{Ghosts}
use Rattle.col_value.specs.declared.row.Stamped.{Stamped}
use Rattle.col_value.specs.Order.{IsRow}
use Rattle.row_history.specs.History.{is_retained, retained}
use Rattle.catalog_types.specs.declared.catalogue.Container.{Container}
use Rattle.catalog_types.specs.declared.catalogue.Table as kept
use Rattle.db_model.specs.Database.{Database, Table}
use Rattle.db_model.specs.Sound.{IsSoundTable, RowFits}
use Rattle.stored_rows.specs.Held.{HoldsVector, Holds}
use Rattle.stored_rows.specs.Stored.{Beside, Projected, Stores, IsLoaded, IsUnmarked}
use Rattle.stored_rows.proofs.ReadRows.{stored_held}
use Rattle.proj_store.specs.Loaded.{Loaded}
use Rattle.proj_store.specs.Reading.{HasVectors}
use Rattle.store_commit.specs.Seen.{Seen, Stands}
use Rattle.row_matching.specs.Keeping.{history}
use Rattle.row_matching.specs.Seeing.{IsSource}
use Rattle.row_matching.proofs.Answered.{IsAt}
use Rattle.row_matching.proofs.Bags.{OneList, all_at, source_stores}
use Rattle.row_matching.proofs.Kept.{history_found}
use Rattle.catch_rows.specs.Sharing.{IsPart, HasAllOnDisk}

pub found_of : {X : Type 0} (o : Option X) (P : X → Type 0) → IsSomeAnd o P → (x : X) × (o ≡ Some x) × P x
found_of None P is = absurd is
found_of (Some x) P is = (x, refl, is)

no_marks : (m : Contents) (ks : List Container) (bs : List Beside) → All (λ b. b.fresh ≡ []) bs → AllZip (λ k b. HoldsVector m k b.held) ks bs → AllZip (IsUnmarked m) ks bs
no_marks m [] [] none vectors = tt
no_marks m [] (b ∷ bs) none vectors = absurd vectors
no_marks m (k ∷ ks) [] none vectors = absurd vectors
no_marks m (k ∷ ks) (b ∷ bs) none (here, more) = ((here, All-head (λ x. x.fresh ≡ []) b bs none), no_marks m ks bs (All-tail (λ x. x.fresh ≡ []) b bs none) more)

-- a projection of which nothing is in memory alone stores what its files hold
quiet_held : (m : Contents) (p : Projected) (rows : List Stamped) → HasAllOnDisk p → HasVectors m p → Stores m p rows → Holds m p.entry rows
quiet_held m p rows quiet vectors stores = stored_held m p rows loaded stores
  where
    loaded : IsLoaded m p
    loaded = record { beside = no_marks m p.entry.containers p.beside quiet.marks vectors; unsaved = quiet.unsaved }

-- The rows that a projection's files hold are the retained ones of its table in a database.
pub record TellsOf (m : Contents) (mark : ℕ) (places : List (Option ℕ)) (p : Projected) (rows : List Stamped) : Type 0 where
  pub stored : List Stamped
  pub held : Holds m p.entry stored
  pub bag : SameBag (history mark places stored) (retained mark rows)
  pub valid : All (λ s. IsRow s.row) (retained mark rows)

pub told_of : OneList → ((m : Contents) (p : Projected) (rows : List Stamped) → Stores m p rows → HasVectors m p) → {D : Type 0} (disk : Ghosts D) (now : D) (s : Seen) (d : Database) (table mark count : ℕ) (places : List (Option ℕ)) (t : kept.Table) (p : Loaded)
    → IsPart s table t p → length t.columns ≡ count → IsSource count places p.stored → HasAllOnDisk p.stored → Stands disk s now d → d.ahm ≤ mark
    → (m : Contents) × (disk.holds now ≡ Some m) × (u : Table) × (slice_get d.tables table ≡ Some u) × TellsOf m mark places p.stored u.rows
told_of one vectors disk now s d table mark count places t p part many source quiet stands le =
    let m = stands.files in
    let told = stands.quiet.told_is in
    let at : IsAt s table part.place count places t part.parts p = record {
      table = part.table_is;
      beside = part.parts_are;
      part = part.is;
      source = subst (λ (o : Option Loaded). IsSomeAnd o (λ x. IsSource count places x.stored)) (sym part.is) source;
      many = sym many;
    } in
    let own : IsSource (length t.columns) places p.stored = subst (λ (n : ℕ). IsSource n places p.stored) (sym many) source in
    let (stored, stores) = source_stores m s.catalogue s.stores d table part.place (length t.columns) t (map (λ (x : Loaded). x.stored) part.parts) p.stored places stands.are part.table_is part.parts_are (stored_place part.parts part.place p part.is) own in
    let same : (n : Contents) → disk.holds now ≡ Some n → HasVectors n p.stored → Stores n p.stored stored = λ n is vs. subst (λ (x : Contents). Stores x p.stored stored) (one_told (disk.holds now) m n told is) stores in
    let (u, there, bag) = found_of (slice_get d.tables table) (λ v. SameBag (history mark places stored) (retained mark v.rows))
    (history_found one disk now s table part.place count mark places t part.parts p stored (history mark places stored) d at same (λ all. refl) stands le) in
    let sound : IsSoundTable d u = all_at (IsSoundTable d) d.tables table u stands.sound.tables there in (
      m,
      told,
      u,
      there,
      record {
        stored = stored;
        held = quiet_held m p.stored stored quiet (vectors m p.stored stored stores) stores;
        bag = bag;
        valid = All-filter (is_retained mark) (λ s. IsRow s.row) u.rows (All-weaker (λ s. RowFits u.columns s.row) (λ s. IsRow s.row) (λ s fits. fits.values) u.rows sound.rows);
      },
    )
  where
    one_told : (o : Option Contents) (x y : Contents) → o ≡ Some x → o ≡ Some y → x ≡ y
    one_told o x y first second = same_Some x y (sym first ∙ second)

    stored_place : (parts : List Loaded) (place : ℕ) (q : Loaded) → slice_get parts place ≡ Some q → slice_get (map (λ (x : Loaded). x.stored) parts) place ≡ Some q.stored
    stored_place parts place q is = slice_get-map (λ (x : Loaded). x.stored) parts place ∙ ap (λ (o : Option Loaded). option_map (λ x. x.stored) o) is
