-- The catalogues that come next: with a table more, a table less, another in the place of one, and another mark.
use Rattle.std.proofs.Common.{◌≡◌, ◌≢◌, ℕ, zero, suc, ◌<◌, ◌≤◌, List, [], ◌∷◌, ◌++◌, map, get_or, take, drop, length, refl, sym, ◌∙◌, ap, subst, inl, inr, arith, length-append}
use Rattle.std.specs.Prelude.{◌⊎◌}
use Rattle.std.specs.List.{All, Contains, flat_map, insert, remove, slice_index_or}
use Rattle.std.proofs.lemmas.List.{take-append-drop, append-nil}
use Rattle.std.proofs.lemmas.List.Elements.{All-nil, All-cons, All-head, All-tail, All-weaker, All-same, Contains-append_left, All-contains_itself}
use Rattle.catalog_types.specs.declared.catalogue.Projection.{Projection}
use Rattle.catalog_types.specs.declared.catalogue.Table.{Table}
use Rattle.catalog_types.specs.declared.catalogue.Catalogue.{Catalogue}
use Rattle.catalog_types.specs.declared.span.Span.{Span}
use Rattle.catalog_types.specs.Lists.{Pairwise}
use Rattle.catalog_types.specs.Names.{IsBelow, names_of}
use Rattle.catalog_types.specs.Numbers.{projection_spans, table_spans}
use Rattle.catalog_types.specs.Parts.{HasReached, IsTable}
use Rattle.catalog_types.specs.Valid.{IsValid}
use Rattle.catalog_types.proofs.Pairs.{all_append, all_flat, all_map, pairs_append}
use Rattle.catalog_laws.specs.Going.{alone, later, AreDrawn, GoesOn, HaveReached, IsFree, IsOwn, Joins}
use Rattle.catalog_laws.proofs.Drawn.{flat_contains}
use Rattle.catalog_laws.proofs.Keeping.{all_reached_later, all_reached_mark, reached_later, table_kept}
use Rattle.catalog_laws.proofs.Nexts.{next_valid}

-- ---- lists with one element more, less or another

pub split_here : {X : Type 0} (xs : List X) (i : ℕ) (x : X) → i < length xs → x ≡ get_or xs i x → xs ≡ take i xs ++ (x ∷ drop (suc i) xs)
split_here [] i x lt is = absurd (omega (arith, lt))
split_here {X} (y ∷ xs) zero x lt is = ap (λ (z : X). z ∷ xs) (sym is)
split_here {X} (y ∷ xs) (suc i) x lt is = ap (λ (zs : List X). y ∷ zs) (split_here xs i x (omega (arith, lt)) is)

pairs_less : {X : Type 0} (R : X → X → Type 0) (front old back : List X) → Pairwise R (front ++ (old ++ back)) → Pairwise R (front ++ back)
pairs_less R front old back pairs =
    let a = (pairs_append R front (old ++ back)).0 pairs in
    let b = (pairs_append R old back).0 a.1 in
    (pairs_append R front back).1 (a.0, b.1, λ k d lt. ((all_append (R (get_or front k d)) old back).0 (a.2 k d lt)).1)

all_less : {X : Type 0} (P : X → Type 0) (front old back : List X) → All P (front ++ (old ++ back)) → All P (front ++ back)
all_less P front old back all =
    let a = (all_append P front (old ++ back)).0 all in
    (all_append P front back).1 (a.0, ((all_append P old back).0 a.1).1)

flat_less : {X Y : Type 0} (P : Y → Type 0) (f : X → List Y) (front old back : List X) → All P (flat_map f (front ++ (old ++ back))) → All P (flat_map f (front ++ back))
flat_less P f front old back all = (all_flat P f (front ++ back)).1 (all_less (λ x. All P (f x)) front old back ((all_flat P f (front ++ (old ++ back))).0 all))

one_flat : {X Y : Type 0} (P : Y → Type 0) (f : X → List Y) (x : X) → All P (f x) → All P (flat_map f (x ∷ []))
one_flat P f x all = (all_flat P f (x ∷ [])).1 (All-cons (λ y. All P (f y)) x [] all (All-nil (λ y. All P (f y))))

-- ---- a table that is valid alone

own_table : (c : Catalogue) (last next : ℕ) (t : Table) (tables : List Table) → IsValid (alone last c.ahm next t) → All (IsTable (later last next tables c)) (t ∷ [])
own_table c last next t tables valid = All-cons (IsTable n) t [] (table_kept (alone last c.ahm next t) n t (omega arith) reached own) (All-nil (IsTable n))
  where
    n : Catalogue
    n = later last next tables c

    own : IsTable (alone last c.ahm next t) t
    own = All-head (IsTable (alone last c.ahm next t)) t [] valid.tables

    reached : All (HasReached (later last next tables c)) t.projections
    reached = λ k d lt. reached_later (alone last c.ahm next t) (later last next tables c) (slice_index_or t.projections k d) (omega arith) refl (own.projections k d lt).reached

-- tables that stay
still : (c : Catalogue) (last next : ℕ) (tables front old back : List Table) → IsValid c → GoesOn c last next → c.tables ≡ front ++ (old ++ back) → All (λ t. All (HasReached (later last next tables c)) t.projections) (front ++ back)
still c last next tables front old back valid goes is =
    all_reached_later c (later last next tables c) (front ++ back) goes.epoch refl (all_less (IsTable c) front old back (All-same (IsTable c) _ _ (sym is) valid.tables))

-- ---- a table more

pub with_one_more : (c : Catalogue) (last next place : ℕ) (t : Table) → IsValid c → GoesOn c last next → Joins c place t → IsValid (alone last c.ahm next t) → AreDrawn c.next [] (table_spans t) → IsValid (later last next (insert c.tables place t) c)
with_one_more c last next place t valid goes joins own drawn =
    next_valid c (later last next (insert c.tables place t) c) front [] (t ∷ []) back valid (record {
      was = sym parts;
      is = refl;
      goes = goes;
      mark = omega (arith, valid.mark, goes.epoch);
      most = omega (arith, joins.few, length-append front (t ∷ back), length-append front back, ap length parts);
      reached = still c last next (insert c.tables place t) front [] back valid goes (sym parts);
      tables = own_table c last next t (insert c.tables place t) own;
      ascending = (pairs_append (λ t u. IsBelow t.name u.name) front (t ∷ back)).1 (ascends.0, (joins.place.behind, ascends.1), λ k d lt. All-cons (λ u. IsBelow (get_or front k d).name u.name) t back (joins.place.before k d lt) (ascends.2 k d lt));
      names = one_flat (λ m. Contains [] m ⊎ All (λ o. m ≢ o) (flat_map names_of (front ++ back))) names_of t
          (All-weaker (IsFree c.tables) (λ m. Contains [] m ⊎ All (λ o. m ≢ o) (flat_map names_of (front ++ back))) (λ m is. inr (subst (λ (ts : List Table). IsFree ts m) (sym parts) is)) (names_of t) joins.names);
      names_once = own.names_once;
      numbers = one_flat (λ s. Contains [] s ⊎ (c.next ≤ s.first)) table_spans t drawn;
      numbers_once = own.numbers_once;
    })
  where
    front : List Table
    front = take place c.tables

    back : List Table
    back = drop place c.tables

    parts : take place c.tables ++ drop place c.tables ≡ c.tables
    parts = take-append-drop place c.tables

    ascends : Pairwise (λ t u. IsBelow t.name u.name) (take place c.tables) × Pairwise (λ t u. IsBelow t.name u.name) (drop place c.tables) × All (λ t. All (λ u. IsBelow t.name u.name) (drop place c.tables)) (take place c.tables)
    ascends = (pairs_append (λ t u. IsBelow t.name u.name) (take place c.tables) (drop place c.tables)).0 (subst (Pairwise (λ t u. IsBelow t.name u.name)) (sym parts) valid.ascending)

-- ---- a table less

pub with_one_less : (c : Catalogue) (last next place : ℕ) (t : Table) → IsValid c → GoesOn c last next → place < length c.tables → t ≡ get_or c.tables place t → IsValid (later last next (remove c.tables place) c)
with_one_less c last next place t valid goes lt there =
    next_valid c (later last next (remove c.tables place) c) (take place c.tables) (t ∷ []) [] (drop (suc place) c.tables) valid (record {
      was = parts;
      is = refl;
      goes = goes;
      mark = omega (arith, valid.mark, goes.epoch);
      most = omega (arith, valid.most, length-append (take place c.tables) (t ∷ drop (suc place) c.tables), length-append (take place c.tables) (drop (suc place) c.tables), ap length parts);
      reached = still c last next (remove c.tables place) (take place c.tables) (t ∷ []) (drop (suc place) c.tables) valid goes parts;
      tables = All-nil (IsTable (later last next (remove c.tables place) c));
      ascending = pairs_less (λ t u. IsBelow t.name u.name) (take place c.tables) (t ∷ []) (drop (suc place) c.tables) (subst (Pairwise (λ t u. IsBelow t.name u.name)) parts valid.ascending);
      names = All-nil (λ m. Contains (flat_map names_of (t ∷ [])) m ⊎ All (λ o. m ≢ o) (flat_map names_of (take place c.tables ++ drop (suc place) c.tables)));
      names_once = tt;
      numbers = All-nil (λ s. Contains (flat_map table_spans (t ∷ [])) s ⊎ (c.next ≤ s.first));
      numbers_once = tt;
    })
  where
    parts : c.tables ≡ take place c.tables ++ (t ∷ drop (suc place) c.tables)
    parts = split_here c.tables place t lt there

-- ---- another table of the same name

pub with_another : (c : Catalogue) (last next place : ℕ) (t u : Table) → IsValid c → GoesOn c last next → place < length c.tables → t ≡ get_or c.tables place t → IsValid (alone last c.ahm next u) → u.name ≡ t.name
    → All (λ m. Contains (names_of t) m ⊎ IsFree c.tables m) (names_of u) → AreDrawn c.next (table_spans t) (table_spans u)
    → IsValid (later last next (take place c.tables ++ u ∷ drop (suc place) c.tables) c)
with_another c last next place t u valid goes lt there own same names drawn =
    next_valid c (later last next (front ++ u ∷ back) c) front (t ∷ []) (u ∷ []) back valid (record {
      was = parts;
      is = refl;
      goes = goes;
      mark = omega (arith, valid.mark, goes.epoch);
      most = omega (arith, valid.most, length-append front (t ∷ back), length-append front (u ∷ back), ap length parts);
      reached = still c last next (front ++ u ∷ back) front (t ∷ []) back valid goes parts;
      tables = own_table c last next u (front ++ u ∷ back) own;
      ascending = (pairs_append (λ t u. IsBelow t.name u.name) front (u ∷ back)).1 (
        ascends.0,
        (subst (λ (n : List ℕ). All (λ x. IsBelow n x.name) back) (sym same) ascends.1.0, ascends.1.1),
        λ k d less. All-cons (λ x. IsBelow (get_or front k d).name x.name) u back (subst (IsBelow (get_or front k d).name) (sym same) (All-head (λ x. IsBelow (get_or front k d).name x.name) t back (ascends.2 k d less)))
            (All-tail (λ x. IsBelow (get_or front k d).name x.name) t back (ascends.2 k d less)),
      );
      names = one_flat (λ m. Contains (flat_map names_of (t ∷ [])) m ⊎ All (λ o. m ≢ o) (flat_map names_of (front ++ back))) names_of u
          (All-weaker (λ m. Contains (names_of t) m ⊎ IsFree c.tables m) (λ m. Contains (flat_map names_of (t ∷ [])) m ⊎ All (λ o. m ≢ o) (flat_map names_of (front ++ back))) name_kept (names_of u) names);
      names_once = own.names_once;
      numbers = one_flat (λ s. Contains (flat_map table_spans (t ∷ [])) s ⊎ (c.next ≤ s.first)) table_spans u
          (All-weaker (λ s. Contains (table_spans t) s ⊎ (c.next ≤ s.first)) (λ s. Contains (flat_map table_spans (t ∷ [])) s ⊎ (c.next ≤ s.first)) number_kept (table_spans u) drawn);
      numbers_once = own.numbers_once;
    })
  where
    front : List Table
    front = take place c.tables

    back : List Table
    back = drop (suc place) c.tables

    parts : c.tables ≡ take place c.tables ++ (t ∷ drop (suc place) c.tables)
    parts = split_here c.tables place t lt there

    ascends : Pairwise (λ t u. IsBelow t.name u.name) (take place c.tables) × Pairwise (λ t u. IsBelow t.name u.name) (t ∷ drop (suc place) c.tables) × All (λ x. All (λ u. IsBelow x.name u.name) (t ∷ drop (suc place) c.tables)) (take place c.tables)
    ascends = (pairs_append (λ t u. IsBelow t.name u.name) (take place c.tables) (t ∷ drop (suc place) c.tables)).0 (subst (Pairwise (λ t u. IsBelow t.name u.name)) parts valid.ascending)

    name_kept : (m : List ℕ) → Contains (names_of t) m ⊎ IsFree c.tables m → Contains (flat_map names_of (t ∷ [])) m ⊎ All (λ o. m ≢ o) (flat_map names_of (take place c.tables ++ drop (suc place) c.tables))
    name_kept m (inl has) = inl (Contains-append_left (names_of t) [] m has)
    name_kept m (inr free) = inr (flat_less (λ o. m ≢ o) names_of (take place c.tables) (t ∷ []) (drop (suc place) c.tables) (subst (λ (ts : List Table). IsFree ts m) parts free))

    number_kept : (s : Span) → Contains (table_spans t) s ⊎ (c.next ≤ s.first) → Contains (flat_map table_spans (t ∷ [])) s ⊎ (c.next ≤ s.first)
    number_kept s (inl has) = inl (Contains-append_left (table_spans t) [] s has)
    number_kept s (inr le) = inr le

-- ---- a table with other projections

pub all_own : (c : Catalogue) (t : Table) → All (IsOwn c t) t.projections
all_own c t = λ k d lt. record { name = inl (names k d lt); numbers = λ j e below. inl (spans k d lt j e below) }
  where
    names : All (λ p. Contains (names_of t) p.name) t.projections
    names = (all_map (Contains (names_of t)) (λ p. p.name) t.projections).0 (All-tail (Contains (names_of t)) t.name (map (λ p. p.name) t.projections) (All-contains_itself (names_of t)))

    spans : All (λ p. All (Contains (table_spans t)) (projection_spans p)) t.projections
    spans = (all_flat (Contains (table_spans t)) projection_spans t.projections).0 (All-contains_itself (table_spans t))

-- an entry in the place of another, of its name
pub next_own : (c : Catalogue) (t : Table) (j : ℕ) (old new : Projection) → j < length t.projections → old ≡ get_or t.projections j old → new.name ≡ old.name → AreDrawn c.next (projection_spans old) (projection_spans new) → IsOwn c t new
next_own c t j old new lt there name numbers = record {
  name = inl (subst (Contains (names_of t)) (ap (λ (p : Projection). p.name) (sym there) ∙ sym name) (names j old lt));
  numbers = All-weaker (λ s. Contains (projection_spans old) s ⊎ (c.next ≤ s.first)) (λ s. Contains (table_spans t) s ⊎ (c.next ≤ s.first)) wider (projection_spans new) numbers;
}
  where
    names : All (λ p. Contains (names_of t) p.name) t.projections
    names = (all_map (Contains (names_of t)) (λ p. p.name) t.projections).0 (All-tail (Contains (names_of t)) t.name (map (λ p. p.name) t.projections) (All-contains_itself (names_of t)))

    wider : (s : Span) → Contains (projection_spans old) s ⊎ (c.next ≤ s.first) → Contains (table_spans t) s ⊎ (c.next ≤ s.first)
    wider s (inl has) = inl (flat_contains projection_spans t.projections j old s lt (sym there) has)
    wider s (inr le) = inr le

-- an entry without containers
pub bare_own : (c : Catalogue) (t : Table) (p : Projection) → IsFree c.tables p.name → projection_spans p ≡ [] → IsOwn c t p
bare_own c t p free none = record {
  name = inr free;
  numbers = subst (AreDrawn c.next (table_spans t)) (sym none) (All-nil (λ s. Contains (table_spans t) s ⊎ (c.next ≤ s.first)));
}

pub with_other_projections : (c : Catalogue) (last next place : ℕ) (t u : Table) → IsValid c → GoesOn c last next → place < length c.tables → t ≡ get_or c.tables place t → IsValid (alone last c.ahm next u) → u.name ≡ t.name
    → All (IsOwn c t) u.projections → IsValid (later last next (take place c.tables ++ u ∷ drop (suc place) c.tables) c)
with_other_projections c last next place t u valid goes lt there own same all = with_another c last next place t u valid goes lt there own same names numbers
  where
    names : All (λ m. Contains (names_of t) m ⊎ IsFree c.tables m) (names_of u)
    names =
        All-cons (λ m. Contains (names_of t) m ⊎ IsFree c.tables m) u.name (map (λ p. p.name) u.projections) (inl (0, omega arith, sym same))
        ((all_map (λ m. Contains (names_of t) m ⊎ IsFree c.tables m) (λ p. p.name) u.projections).1 (λ k d less. (all k d less).name))

    numbers : AreDrawn c.next (table_spans t) (table_spans u)
    numbers = (all_flat (λ s. Contains (table_spans t) s ⊎ (c.next ≤ s.first)) projection_spans u.projections).1 (λ k d less. (all k d less).numbers)

-- ---- another ancient history mark

pub with_another_mark : (c : Catalogue) (last next mark : ℕ) → IsValid c → GoesOn c last next → mark ≤ last → HaveReached mark c.tables → IsValid (record { last = last; ahm = mark; next = next; tables = c.tables })
with_another_mark c last next mark valid goes within reached =
    next_valid c n c.tables [] [] [] valid (record {
      was = sym (append-nil c.tables);
      is = sym (append-nil c.tables);
      goes = goes;
      mark = within;
      most = valid.most;
      reached = All-same (λ t. All (HasReached n) t.projections) _ _ (append-nil c.tables) (all_reached_mark c n c.tables goes.epoch reached valid.tables);
      tables = All-nil (IsTable n);
      ascending = valid.ascending;
      names = All-nil (λ m. Contains [] m ⊎ All (λ o. m ≢ o) (flat_map names_of (c.tables ++ [])));
      names_once = tt;
      numbers = All-nil (λ s. Contains [] s ⊎ (c.next ≤ s.first));
      numbers_once = tt;
    })
  where
    n : Catalogue
    n = record { last = last; ahm = mark; next = next; tables = c.tables }
