-- A job on the projection at a place is one on the projection of its name.
use Rattle.std.proofs.Common.{◌≡◌, ℕ, zero, suc, ◌≤◌, ◌++◌, Bool, true, cond, List, [], ◌∷◌, map, refl, sym, ap, ap₂, subst}
use Rattle.std.specs.Prelude.{bytes_eq, Contains, Option, Some, None, IsSomeAnd}
use Rattle.std.specs.List.{All, AllPairs, slice_get}
use Rattle.std.proofs.lemmas.List.Concat.{flat_map-cons}
use Rattle.std.proofs.lemmas.List.Elements.{All-contains_itself, All-head, All-tail}
use Rattle.std.proofs.lemmas.Slice.Eq.{bytes_eq-Decides}
use Rattle.db_model.specs.Database.{Shape, Table, Database}
use Rattle.db_model.specs.Epochs.{all_shapes}
use Rattle.db_model.specs.Mover.{change_shape, change_shape_of, with_change, reached_to, Rises}
use Rattle.db_model.specs.Sound.{names_of, all_names, IsSoundDatabase}
use Rattle.db_laws.proofs.Goods.{shapes_apart}
use Rattle.sound_laws.specs.Moves.{change_at, moved_at, reached_at}
use Rattle.sound_laws.proofs.Pairs.{pairs_head, pairs_tail, pairs_front, pairs_back, pairs_across, all_front, all_back}
use Rattle.sound_laws.proofs.Created.{Differ, differ_turned}

named_itself : (n : List ℕ) → bytes_eq n n ≡ true
named_itself n = (bytes_eq-Decides n n).1 refl

-- ---- projections of other names stay

other_still : (name : List ℕ) (f : Shape → Shape) (s : Shape) → Differ name s.name → change_shape name f s ≡ s
other_still name f s other = ap (λ (b : Bool). cond b (f s) s) (differ_turned name s.name other)

others_still : (name : List ℕ) (f : Shape → Shape) (ss : List Shape) → All (Differ name) (map (λ s. s.name) ss) → map (change_shape name f) ss ≡ ss
others_still name f [] apart = refl
others_still name f (s ∷ ss) apart =
    ap₂ (λ (x : Shape) (xs : List Shape). x ∷ xs) (other_still name f s (All-head (Differ name) s.name (map (λ x. x.name) ss) apart))
    (others_still name f ss (All-tail (Differ name) s.name (map (λ x. x.name) ss) apart))

tables_still : (name : List ℕ) (f : Shape → Shape) (ts : List Table) → All (Differ name) (all_names ts) → map (change_shape_of name f) ts ≡ ts
tables_still name f [] apart = refl
tables_still name f (t ∷ ts) apart =
    let both : All (Differ name) (names_of t ++ all_names ts) = subst (All (Differ name)) (flat_map-cons names_of t ts) apart in
    let shapes : All (Differ name) (map (λ s. s.name) t.shapes) = all_front (Differ name) (map (λ s. s.name) t.shapes) (all_names ts) (All-tail (Differ name) t.name (map (λ s. s.name) t.shapes ++ all_names ts) both) in
    ap₂ (λ (ss : List Shape) (us : List Table). (record t { shapes = ss }) ∷ us) (others_still name f t.shapes shapes) (tables_still name f ts (all_back (Differ name) (names_of t) (all_names ts) both))

-- ---- in one table

shape_moved : (f : Shape → Shape) (ss : List Shape) (j : ℕ) (s : Shape) → AllPairs Differ (map (λ x. x.name) ss) → slice_get ss j ≡ Some s → map (change_shape s.name f) ss ≡ change_at j f ss
shape_moved f [] j s pairs none = absurd (cc)
shape_moved f (x ∷ ss) zero s pairs here =
    let same : x ≡ s = cc in
    let name : bytes_eq x.name s.name ≡ true = subst (λ (y : Shape). bytes_eq x.name y.name ≡ true) same (named_itself x.name) in
    ap₂ (λ (b : Bool) (xs : List Shape). cond b (f x) x ∷ xs) name
    (others_still s.name f ss (subst (λ (y : Shape). All (Differ y.name) (map (λ z. z.name) ss)) same (pairs_head Differ x.name (map (λ z. z.name) ss) pairs)))
shape_moved f (x ∷ ss) (suc j) s pairs there =
    ap₂ (λ (y : Shape) (ys : List Shape). y ∷ ys)
    (other_still s.name f x (differ_turned x.name s.name (at ss j (pairs_head Differ x.name (map (λ z. z.name) ss) pairs) there)))
    (shape_moved f ss j s (pairs_tail Differ x.name (map (λ z. z.name) ss) pairs) there)
  where
    at : (xs : List Shape) (k : ℕ) → All (Differ x.name) (map (λ z. z.name) xs) → slice_get xs k ≡ Some s → Differ x.name s.name
    at [] k apart none = absurd (cc)
    at (y ∷ ys) zero apart is = let same : y ≡ s = cc in subst (λ (z : Shape). Differ x.name z.name) same (All-head (Differ x.name) y.name (map (λ z. z.name) ys) apart)
    at (y ∷ ys) (suc k) apart is = at ys k (All-tail (Differ x.name) y.name (map (λ z. z.name) ys) apart) is

-- ---- in all tables

own_names : (t : Table) (ts : List Table) → AllPairs Differ (all_names (t ∷ ts)) → AllPairs Differ (map (λ s. s.name) t.shapes)
own_names t ts pairs =
    pairs_tail Differ t.name (map (λ s. s.name) t.shapes) (pairs_front Differ (names_of t) (all_names ts) (subst (AllPairs Differ) (flat_map-cons names_of t ts) pairs))

-- a projection's name is none of those of the other tables
name_across : (t : Table) (ts : List Table) (j : ℕ) (s : Shape) → AllPairs Differ (all_names (t ∷ ts)) → slice_get t.shapes j ≡ Some s → All (Differ s.name) (all_names ts)
name_across t ts j s pairs there =
    at t.shapes j (All-tail (λ n. All (Differ n) (all_names ts)) t.name (map (λ x. x.name) t.shapes) (pairs_across Differ (names_of t) (all_names ts) (subst (AllPairs Differ) (flat_map-cons names_of t ts) pairs))) there
  where
    at : (xs : List Shape) (k : ℕ) → All (λ n. All (Differ n) (all_names ts)) (map (λ x. x.name) xs) → slice_get xs k ≡ Some s → All (Differ s.name) (all_names ts)
    at [] k apart none = absurd (cc)
    at (y ∷ ys) zero apart is = let same : y ≡ s = cc in subst (λ (z : Shape). All (Differ z.name) (all_names ts)) same (All-head (λ n. All (Differ n) (all_names ts)) y.name (map (λ x. x.name) ys) apart)
    at (y ∷ ys) (suc k) apart is = at ys k (All-tail (λ n. All (Differ n) (all_names ts)) y.name (map (λ x. x.name) ys) apart) is

-- of a later table's projection
name_behind : (t : Table) (ts : List Table) (i j : ℕ) (s : Shape) → AllPairs Differ (all_names (t ∷ ts)) → IsSomeAnd (slice_get ts i) (λ u. slice_get u.shapes j ≡ Some s) → All (Differ s.name) (map (λ x. x.name) t.shapes)
name_behind t ts i j s pairs there = turned (map (λ x. x.name) t.shapes) (All-tail (λ n. All (Differ n) (all_names ts)) t.name (map (λ x. x.name) t.shapes) (pairs_across Differ (names_of t) (all_names ts) (subst (AllPairs Differ) (flat_map-cons names_of t ts) pairs)))
  where
    of_shape : (P : List ℕ → Type 0) (xs : List Shape) (k : ℕ) → All P (map (λ x. x.name) xs) → slice_get xs k ≡ Some s → P s.name
    of_shape P [] k all none = absurd (cc)
    of_shape P (y ∷ ys) zero all is = let same : y ≡ s = cc in subst (λ (z : Shape). P z.name) same (All-head P y.name (map (λ x. x.name) ys) all)
    of_shape P (y ∷ ys) (suc k) all is = of_shape P ys k (All-tail P y.name (map (λ x. x.name) ys) all) is

    of_table : (P : List ℕ → Type 0) (us : List Table) (k : ℕ) → All P (all_names us) → IsSomeAnd (slice_get us k) (λ u. slice_get u.shapes j ≡ Some s) → P s.name
    of_table P [] k all at = absurd at
    of_table P (u ∷ us) zero all at =
        of_shape P u.shapes j (all_front P (map (λ x. x.name) u.shapes) (all_names us) (All-tail P u.name (map (λ x. x.name) u.shapes ++ all_names us) (subst (All P) (flat_map-cons names_of u us) all))) at
    of_table P (u ∷ us) (suc k) all at = of_table P us k (all_back P (names_of u) (all_names us) (subst (All P) (flat_map-cons names_of u us) all)) at

    turned : (ns : List (List ℕ)) → All (λ n. All (Differ n) (all_names ts)) ns → All (Differ s.name) ns
    turned ns all k d lt = differ_turned _ s.name (of_table (Differ _) ts i (all k d lt) there)

tables_moved : (f : Shape → Shape) (ts : List Table) (i j : ℕ) (s : Shape) → AllPairs Differ (all_names ts) → IsSomeAnd (slice_get ts i) (λ t. slice_get t.shapes j ≡ Some s)
    → map (change_shape_of s.name f) ts ≡ change_at i (λ t. record t { shapes = change_at j f t.shapes }) ts
tables_moved f [] i j s pairs there = absurd there
tables_moved f (t ∷ ts) zero j s pairs there =
    ap₂ (λ (ss : List Shape) (us : List Table). (record t { shapes = ss }) ∷ us) (shape_moved f t.shapes j s (own_names t ts pairs) there) (tables_still s.name f ts (name_across t ts j s pairs there))
tables_moved f (t ∷ ts) (suc i) j s pairs there =
    ap₂ (λ (ss : List Shape) (us : List Table). (record t { shapes = ss }) ∷ us) (others_still s.name f t.shapes (name_behind t ts i j s pairs there))
    (tables_moved f ts i j s (pairs_back Differ (names_of t) (all_names ts) (subst (AllPairs Differ) (flat_map-cons names_of t ts) pairs)) there)

pub reached_by_name : (d : Database) (epoch i j : ℕ) (s : Shape) → IsSoundDatabase d → IsSomeAnd (slice_get d.tables i) (λ t. slice_get t.shapes j ≡ Some s)
    → reached_at epoch i j d ≡ with_change s.name (reached_to epoch) d
reached_by_name d epoch i j s sound there =
    ap (λ (ts : List Table). record d { tables = ts }) (sym (tables_moved (reached_to epoch) d.tables i j s sound.names there))

pub moved_by_name : (d : Database) (i j : ℕ) (s : Shape) → IsSoundDatabase d → IsSomeAnd (slice_get d.tables i) (λ t. slice_get t.shapes j ≡ Some s) → moved_at i j d ≡ with_change s.name (reached_to d.last) d
moved_by_name d i j s sound there = reached_by_name d d.last i j s sound there

-- ---- a rise

all_at : {X : Type 0} (P : X → Type 0) (xs : List X) (i : ℕ) (x : X) → All P xs → slice_get xs i ≡ Some x → P x
all_at P [] i x all none = absurd (cc)
all_at P (y ∷ xs) zero x all is = let same : y ≡ x = cc in subst P same (All-head P y xs all)
all_at P (y ∷ xs) (suc i) x all is = all_at P xs i x (All-tail P y xs all) is

shape_there : (ts : List Table) (i j : ℕ) (s : Shape) → IsSomeAnd (slice_get ts i) (λ t. slice_get t.shapes j ≡ Some s) → Contains (all_shapes ts) s
shape_there ts i j s there = by (slice_get ts i) refl there
  where
    among : All (λ t. All (Contains (all_shapes ts)) t.shapes) ts
    among = shapes_apart (Contains (all_shapes ts)) ts (All-contains_itself (all_shapes ts))

    by : (o : Option Table) → slice_get ts i ≡ o → IsSomeAnd o (λ t. slice_get t.shapes j ≡ Some s) → Contains (all_shapes ts) s
    by None at none = absurd none
    by (Some t) at is = all_at (Contains (all_shapes ts)) t.shapes j s (all_at (λ u. All (Contains (all_shapes ts)) u.shapes) ts i t among at) is

pub rises_by_name : (d : Database) (epoch i j : ℕ) (s : Shape) → IsSoundDatabase d → IsSomeAnd (slice_get d.tables i) (λ t. slice_get t.shapes j ≡ Some s)
    → s.fresh ≡ true → s.lge ≤ epoch → epoch ≤ d.last → Rises d (reached_at epoch i j d)
rises_by_name d epoch i j s sound there fresh from to = record {
  shape = s;
  epoch = epoch;
  there = shape_there d.tables i j s there;
  fresh = fresh;
  from = from;
  to = to;
  same = reached_by_name d epoch i j s sound there;
}
