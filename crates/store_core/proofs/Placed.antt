-- A moveout of the first projection that is behind, by its place: what it leaves of a database.
use Rattle.std.proofs.Common.{◌≡◌, ◌<◌, ◌≤◌, ◌+◌, ◌++◌, ℕ, zero, suc, Bool, true, cond, List, [], ◌∷◌, length, map, filter, get_or, refl, sym, ◌∙◌, ap, subst, arith}
use Rattle.std.specs.Prelude.{nat_lt, Option, Some, None}
use Rattle.std.specs.List.{All, slice_get}
use Rattle.std.specs.declared.cmp.Ordering.{Ordering}
use Rattle.std.specs.Ordering.{nat_cmp, on, then_cmp}
use Rattle.std.specs.Cmp.Lexicographic.{slice_cmp, nat_list_cmp_total}
use Rattle.std.specs.Cmp.{IsTotalOrder, nat_cmp_total, on_total, then_total}
use Rattle.std.proofs.lemmas.List.{length-append}
use Rattle.std.proofs.lemmas.List.Elements.{All-append, All-cons, All-filter, All-head, All-nil, All-tail, All-weaker, filter-append, filter_passes}
use Rattle.db_model.specs.Database.{Database, Shape, Table, is_behind}
use Rattle.db_model.specs.Epochs.{all_shapes, cut, cut_table, moved_shape}
use Rattle.db_model.specs.Mover.{behind, first_behind, reached_to, MovesFirst}
use Rattle.db_model.specs.Sound.{IsSoundDatabase}
use Rattle.db_model.specs.State.{State}
use Rattle.db_laws.proofs.Goods.{IsGood, Reaches, TableReaches}
use Rattle.row_history.specs.History.{cut_rows}
use Rattle.sound_laws.specs.Moves.{change_at, moved_at, reached_at, reached_in}
use Rattle.sound_laws.proofs.Moved.{moved_sound}
use Rattle.mover_policy.specs.First.{first_in}
use Rattle.mover_policy.proofs.ByName.{moved_by_name}
use Rattle.mover_policy.proofs.Least.{some_least}
use Rattle.table_store.proofs.Counted.{count_moved as counted_at, StandsAt}
use Rattle.store_core.proofs.First.{and_left, found_in}

-- ---- some projection is the first, where any is behind

abbrev cmp : Shape → Shape → Ordering
cmp = then_cmp (on (λ x. x.lge) nat_cmp) (on (λ x. x.name) (slice_cmp nat_cmp))

cmp_total : IsTotalOrder cmp
cmp_total = then_total (on_total (λ x. x.lge) nat_cmp_total) (on_total (λ x. x.name) nat_list_cmp_total)

pub none_behind : (ss : List Shape) → first_in ss ≡ None → ss ≡ []
none_behind [] none = refl
none_behind (s ∷ ss) none = absurd (some_least cmp cmp_total s ss none)

-- ---- where a projection stands

abbrev Stands : List Table → Shape → Type 0
Stands ts s = (i : ℕ) × (j : ℕ) × StandsAt ts i j s

pub got : {X : Type 0} (xs : List X) (k : ℕ) (d : X) → k < length xs → slice_get xs k ≡ Some (get_or xs k d)
got [] k d lt = absurd (omega (arith, lt))
got (x ∷ xs) zero d lt = refl
got (x ∷ xs) (suc k) d lt = got xs k d (omega (arith, lt))

all_stand : (ts : List Table) → All (Stands ts) (all_shapes ts)
all_stand [] = All-nil (Stands [])
all_stand (t ∷ ts) =
    All-append (Stands (t ∷ ts)) t.shapes (all_shapes ts) (λ k d lt. (0, k, got t.shapes k d lt))
    (All-weaker (Stands ts) (Stands (t ∷ ts)) (λ s at. (suc at.0, at.1, at.2)) (all_shapes ts) (all_stand ts))

-- ---- a moveout by its place

-- a projection that was behind was moved out
pub record MovedAt (old new : Database) : Type 0 where
  pub table : ℕ
  pub place : ℕ
  pub shape : Shape
  pub there : StandsAt old.tables table place shape
  pub behind : is_behind old.last shape ≡ true
  pub is : new ≡ moved_at table place old

pub first_moved : (o : Option Shape) (old new : State) → IsSoundDatabase old.database → first_behind old.database ≡ o → MovesFirst o old new → MovedAt old.database new.database
first_moved None old new sound is moves = absurd moves
first_moved (Some s) old new sound is moves =
    let d = old.database in
    let (i, j, there) = found_in (Stands d.tables) _ (behind d) s (All-filter (is_behind d.last) (Stands d.tables) (all_shapes d.tables) (all_stand d.tables)) is in
    record {
      table = i;
      place = j;
      shape = s;
      there = there;
      behind = found_in (λ x. is_behind d.last x ≡ true) _ (behind d) s (filter_passes (is_behind d.last) (all_shapes d.tables)) is;
      is = ap (λ (x : State). x.database) moves.same ∙ sym (moved_by_name d i j s sound there);
    }

pub moved_last : (d e : Database) → MovedAt d e → e.last ≡ d.last
moved_last d e moved = ap (λ (x : Database). x.last) moved.is

pub sound_moved : (d e : Database) → MovedAt d e → IsSoundDatabase d → IsSoundDatabase e
sound_moved d e moved sound = subst IsSoundDatabase (sym moved.is) (moved_sound d moved.table moved.place sound)

-- ---- a cut doesn't see it

shape_cut : (epoch last : ℕ) (s : Shape) → s.fresh ≡ true → moved_shape epoch (reached_to last s) ≡ moved_shape epoch s
shape_cut epoch last s is = ap (λ (b : Bool). shape_with s b) (sym is) ∙ sym (ap (λ (b : Bool). cond b (record s { lge = epoch }) s) is)
  where
    shape_with : Shape → Bool → Shape
    shape_with x b = record x { fresh = b; lge = epoch }

shapes_cut : (epoch last : ℕ) (ss : List Shape) (j : ℕ) (s : Shape) → slice_get ss j ≡ Some s → s.fresh ≡ true → map (moved_shape epoch) (change_at j (reached_to last) ss) ≡ map (moved_shape epoch) ss
shapes_cut epoch last [] j s none is = absurd (cc)
shapes_cut epoch last (x ∷ ss) zero s at is = let same : x ≡ s = cc in ap (λ (y : Shape). y ∷ map (moved_shape epoch) ss) (shape_cut epoch last x (ap (λ (y : Shape). y.fresh) same ∙ is))
shapes_cut epoch last (x ∷ ss) (suc j) s at is = ap (λ (ys : List Shape). moved_shape epoch x ∷ ys) (shapes_cut epoch last ss j s at is)

abbrev cut_with : ℕ → Table → List Shape → Table
cut_with epoch t ss = record t { rows = cut_rows epoch t.rows; shapes = ss }

pub tables_cut : (epoch last : ℕ) (ts : List Table) (i j : ℕ) (s : Shape) → StandsAt ts i j s → s.fresh ≡ true → map (cut_table epoch) (change_at i (reached_in last j) ts) ≡ map (cut_table epoch) ts
tables_cut epoch last [] i j s at is = absurd at
tables_cut epoch last (t ∷ ts) zero j s at is = ap (λ (ss : List Shape). cut_with epoch t ss ∷ map (cut_table epoch) ts) (shapes_cut epoch last t.shapes j s at is)
tables_cut epoch last (t ∷ ts) (suc i) j s at is = ap (λ (us : List Table). cut_table epoch t ∷ us) (tables_cut epoch last ts i j s at is)

-- the projection at a place is on disk up to another epoch
pub cut_reached : (epoch upto : ℕ) (d : Database) (i j : ℕ) (s : Shape) → StandsAt d.tables i j s → s.fresh ≡ true → cut epoch (reached_at upto i j d) ≡ cut epoch d
cut_reached epoch upto d i j s at is = ap (λ (ts : List Table). cut_tables ts) (tables_cut epoch upto d.tables i j s at is)
  where
    cut_tables : List Table → Database
    cut_tables ts = record d { tables = ts; last = epoch }

pub cut_moved : (epoch : ℕ) (d e : Database) → MovedAt d e → cut epoch e ≡ cut epoch d
cut_moved epoch d e moved =
    ap (cut epoch) moved.is ∙ cut_reached epoch d.last d moved.table moved.place moved.shape moved.there (and_left moved.shape.fresh (nat_lt moved.shape.lge d.last) moved.behind)

-- ---- it reaches no less

pub all_change : {X : Type 0} (P : X → Type 0) (i : ℕ) (f : X → X) (xs : List X) → ((x : X) → P x → P (f x)) → All P xs → All P (change_at i f xs)
all_change P i f [] keeps all = All-nil P
all_change P zero f (x ∷ xs) keeps all = All-cons P (f x) xs (keeps x (All-head P x xs all)) (All-tail P x xs all)
all_change P (suc i) f (x ∷ xs) keeps all = All-cons P x (change_at i f xs) (All-head P x xs all) (all_change P i f xs keeps (All-tail P x xs all))

pub good_reached : (n epoch : ℕ) (d : Database) (i j : ℕ) → n ≤ epoch → IsGood n d → IsGood n (reached_at epoch i j d)
good_reached n epoch d i j le good = record {
  closed = good.closed;
  tables = all_change (TableReaches n) i (reached_in epoch j) d.tables (λ t here. all_change (Reaches n) j (reached_to epoch) t.shapes (λ s told. λ fresh. le) here) good.tables;
}

pub good_moved : (n : ℕ) (d e : Database) → MovedAt d e → IsGood n d → IsGood n e
good_moved n d e moved good = subst (IsGood n) (sym moved.is) (good_reached n d.last d moved.table moved.place good.closed good)

-- ---- one less is behind

pub joined : (last : ℕ) (xs ys : List Shape) → length (filter (is_behind last) (xs ++ ys)) ≡ length (filter (is_behind last) xs) + length (filter (is_behind last) ys)
joined last xs ys = ap length (filter-append (is_behind last) xs ys) ∙ length-append (filter (is_behind last) xs) (filter (is_behind last) ys)

pub count_moved : (d e : Database) → MovedAt d e → length (behind e) + 1 ≡ length (behind d)
count_moved d e moved = ap (λ (x : Database). length (behind x) + 1) moved.is ∙ counted_at d moved.table moved.place moved.shape moved.there moved.behind
