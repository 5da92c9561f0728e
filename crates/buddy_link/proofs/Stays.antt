-- What a running store's catalogue tells of the state that it is, and that reading leaves it.
use Rattle.std.proofs.Common.{◌≡◌, ℕ, Bool, true, false, cond, List, [], ◌∷◌, length, arith, Some, sym, ap, ◌∙◌, refl, subst}
use Rattle.std.specs.Prelude.{bytes_eq, find, max, option_map}
use Rattle.common_laws.specs.Maps.{Contents}
use Rattle.col_disk.specs.Moved.{Moved, NoName}
use Rattle.col_disk.specs.declared.disk.Disk.{Ghosts}
use Rattle.col_value.specs.declared.column.Column.{Column}
use Rattle.catalog_types.specs.declared.catalogue.Catalogue.{Catalogue}
use Rattle.catalog_types.specs.declared.catalogue.Table as kept
use Rattle.catalog_root.specs.declared.found.Found.{Found}
use Rattle.catalog_root.specs.declared.found.Found.TheVariants.{Fresh, Root}
use Rattle.catalog_root.specs.Root.{Opens}
use Rattle.stored_rows.specs.Stored.{Projected}
use Rattle.folder_model.specs.Standing.{IsRootOf}
use Rattle.folder_model.specs.Tables.{StandForTables}
use Rattle.folder_model.proofs.Committing.{stands_moved}
use Rattle.db_model.specs.Database.{Table, table_named}
use Rattle.db_model.specs.State.{State}
use Rattle.store_core.specs.Running.{Running, IsState}
use Rattle.store_core.proofs.Doing.{work_kept}
use Rattle.catch_model.specs.Caught.{columns_of, later_mark}
use Rattle.catch_schemas.specs.Schemas.{columns_in, AreAscending}
use Rattle.buddy_link.specs.Linking.{mark_between}

-- reading alone leaves the store the same state
pub state_stays : {D : Type 0} (disk : Ghosts D) (old new : D) (r : Running) (s : State) → Moved disk NoName NoName old new → disk.holds new ≡ disk.holds old → IsState disk r old s → IsState disk r new s
state_stays disk old new r s moved kept here = record {
  database = stands_moved disk {W = NoName} {R = NoName} {old = old} {new = new} r.seen.catalogue r.seen.stores s.database here.database (λ q no. absurd no) (λ q no. absurd no) moved;
  sessions = here.sessions;
  current = here.current;
  asked = here.asked;
  next = here.next;
  busy = here.busy;
  parts = here.parts;
  work = work_kept disk r.mover.work old new kept here.work;
  sound = here.sound;
}

-- ---- the tables stand in the order of their names

root_ascends : (m : Contents) (c : Catalogue) (root : Found) → Opens m root → IsRootOf c root → AreAscending c.tables
root_ascends m c Fresh opens (tables, last, ahm) = subst AreAscending (sym tables) tt
root_ascends m c (Root v r) opens (tables, ahm, below, last) = subst AreAscending tables opens.valid.ascending

pub tables_ascend : {D : Type 0} (disk : Ghosts D) (now : D) (r : Running) (s : State) → IsState disk r now s → AreAscending r.seen.catalogue.tables
tables_ascend disk now r s here =
    let stands = here.database in
    root_ascends stands.files r.seen.catalogue stands.root (stands.quiet.every stands.files (disk.laws.shows now stands.files stands.quiet.told_is)).opens stands.is_root

-- ---- the tables of the state are those of the catalogue

columns_stand : (m : Contents) (mark : ℕ) (name : List ℕ) (ts : List kept.Table) (pss : List (List Projected)) (us : List Table) → StandForTables m mark ts pss us → columns_in name ts ≡ option_map (λ u. u.columns) (table_named name us)
columns_stand m mark name [] [] [] stand = refl
columns_stand m mark name [] [] (u ∷ us) stand = absurd stand
columns_stand m mark name [] (ps ∷ pss) us stand = absurd stand
columns_stand m mark name (t ∷ ts) [] us stand = absurd stand
columns_stand m mark name (t ∷ ts) (ps ∷ pss) [] stand = absurd stand
columns_stand m mark name (t ∷ ts) (ps ∷ pss) (u ∷ us) (here, more) =
    by (bytes_eq t.name name) (columns_stand m mark name ts pss us more)
    ∙ ap (λ (n : List ℕ). option_map (λ (v : Table). v.columns) (cond (bytes_eq n name) (Some u) (table_named name us))) (sym here.name)
  where
    by : (b : Bool) → columns_in name ts ≡ option_map (λ u. u.columns) (table_named name us)
        → option_map (λ (v : kept.Table). v.columns) (cond b (Some t) (find (λ v. bytes_eq v.name name) ts)) ≡ option_map (λ (v : Table). v.columns) (cond b (Some u) (table_named name us))
    by true rest = ap (λ (cs : List Column). Some cs) (sym here.columns)
    by false rest = rest

pub columns_told : {D : Type 0} (disk : Ghosts D) (now : D) (r : Running) (s : State) (name : List ℕ) → IsState disk r now s → columns_in name r.seen.catalogue.tables ≡ columns_of name s.database
columns_told disk now r s name here = columns_stand here.database.files r.seen.catalogue.ahm name r.seen.catalogue.tables r.seen.stores s.database.tables here.database.are.tables

long_stand : (m : Contents) (mark : ℕ) (ts : List kept.Table) (pss : List (List Projected)) (us : List Table) → StandForTables m mark ts pss us → length ts ≡ length us
long_stand m mark [] [] [] stand = refl
long_stand m mark [] [] (u ∷ us) stand = absurd stand
long_stand m mark [] (ps ∷ pss) us stand = absurd stand
long_stand m mark (t ∷ ts) [] us stand = absurd stand
long_stand m mark (t ∷ ts) (ps ∷ pss) [] stand = absurd stand
long_stand m mark (t ∷ ts) (ps ∷ pss) (u ∷ us) (here, more) = let rest = long_stand m mark ts pss us more in omega (arith, rest)

pub length_told : {D : Type 0} (disk : Ghosts D) (now : D) (r : Running) (s : State) → IsState disk r now s → length r.seen.catalogue.tables ≡ length s.database.tables
length_told disk now r s here = long_stand here.database.files r.seen.catalogue.ahm r.seen.catalogue.tables r.seen.stores s.database.tables here.database.are.tables

-- the later mark of two stores is that of their states
pub mark_told : {A B : Type 0} (behind : Ghosts A) (ahead : Ghosts B) (at : A) (from : B) (r t : Running) (a b : State) → IsState behind r at a → IsState ahead t from b → mark_between r t ≡ later_mark a.database b.database
mark_told behind ahead at from r t a b here there =
    ap (λ (n : ℕ). max n t.seen.catalogue.ahm) (sym here.database.are.ahm) ∙ ap (λ (n : ℕ). max a.database.ahm n) (sym there.database.are.ahm)
