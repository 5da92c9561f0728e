-- The last good epoch of what a catalogue stands for is the least epoch that an up-to-date projection of it has reached.
use Rattle.std.proofs.Common.{◌≡◌, ℕ, ◌≤◌, ◌++◌, Bool, true, false, cond, List, [], ◌∷◌, map, filter, Option, Some, None, refl, sym, ap, ap₂, ◌∙◌, arith, subst}
use Rattle.std.specs.Prelude.{min, fold, unwrap_or}
use Rattle.std.specs.Bool.{OnTrue}
use Rattle.std.specs.List.{All, flat_map}
use Rattle.std.proofs.lemmas.List.{map-append}
use Rattle.std.proofs.lemmas.List.Concat.{flat_map-cons}
use Rattle.std.proofs.lemmas.List.Elements.{filter-append, All-cons, All-nil, All-weaker}
use Rattle.std.proofs.lemmas.Grind.{fold-append}
use Rattle.common_laws.specs.Maps.{Contents}
use Rattle.catalog_types.specs.declared.catalogue.Projection.{Projection}
use Rattle.catalog_types.specs.declared.catalogue.Table as kept
use Rattle.catalog_types.specs.declared.catalogue.Catalogue.{Catalogue}
use Rattle.catalog_types.specs.Reached.{earlier, reached, table_reached, all_reached, least_lge}
use Rattle.db_model.specs.Database.{Database, Table, Shape}
use Rattle.db_model.specs.Epochs.{all_shapes, least_or, last_good}
use Rattle.db_model.specs.Sound.{ReachesMark, IsSoundShape, IsSoundTable, IsSoundDatabase}
use Rattle.db_laws.proofs.Goods.{Reaches, TableReaches, good_least}
use Rattle.stored_rows.specs.Stored.{Projected}
use Rattle.folder_model.specs.Projections.{shape_of}
use Rattle.folder_model.specs.Tables.{StandForTables, AreDatabase}

-- ---- the least of some epochs that may be there

abbrev pub Below : Option ℕ → Option ℕ → Type 0
Below least None = Unit {0}
Below None (Some b) = ⊥
Below (Some a) (Some b) = a ≤ b

below_itself : (o : Option ℕ) → Below o o
below_itself None = tt
below_itself (Some a) = omega arith

below_left : (a b : Option ℕ) → Below (earlier a b) a
below_left None b = tt
below_left (Some a) None = omega arith
below_left (Some a) (Some b) = omega arith

below_right : (a b : Option ℕ) → Below (earlier a b) b
below_right None None = tt
below_right None (Some b) = omega arith
below_right (Some a) None = tt
below_right (Some a) (Some b) = omega arith

below_chain : (a b c : Option ℕ) → Below a b → Below b c → Below a c
below_chain a b None first second = tt
below_chain None None (Some c) first second = second
below_chain (Some a) None (Some c) first second = absurd second
below_chain None (Some b) (Some c) first second = absurd first
below_chain (Some a) (Some b) (Some c) first second = omega (arith, first, second)

below_first : {X : Type 0} (f : X → Option ℕ) (e : Option ℕ) (xs : List X) → Below (fold (λ a x. earlier a (f x)) e xs) e
below_first f e [] = below_itself e
below_first f e (x ∷ xs) = below_chain _ (earlier e (f x)) e (below_first f (earlier e (f x)) xs) (below_left e (f x))

below_each : {X : Type 0} (f : X → Option ℕ) (e : Option ℕ) (xs : List X) → All (λ x. Below (fold (λ a x. earlier a (f x)) e xs) (f x)) xs
below_each {X} f e [] = All-nil (λ x. Below e (f x))
below_each {X} f e (x ∷ xs) =
    All-cons (λ y. Below (fold (λ a z. earlier a (f z)) (earlier e (f x)) xs) (f y)) x xs
    (below_chain _ (earlier e (f x)) (f x) (below_first f (earlier e (f x)) xs) (below_right e (f x))) (below_each f (earlier e (f x)) xs)

-- the epoch to which recovery goes is at most what each up-to-date projection has reached
below_lge : (e : Option ℕ) (other : ℕ) (p : Projection) → Below e (reached p) → p.fresh ≡ true → unwrap_or e other ≤ p.lge
below_lge e other p below fresh = by e (subst (Below e) (ap (λ (b : Bool). cond b (Some p.lge) None) fresh) below)
  where
    by : (o : Option ℕ) → Below o (Some p.lge) → unwrap_or o other ≤ p.lge
    by None is = absurd is
    by (Some a) is = is

pub good_below : (c : Catalogue) → All (λ t. All (λ p. p.fresh ≡ true → least_lge c ≤ p.lge) t.projections) c.tables
good_below c =
    All-weaker (λ t. Below (all_reached c) (table_reached t)) (λ t. All (λ p. p.fresh ≡ true → least_lge c ≤ p.lge) t.projections)
    (λ t below.
    All-weaker (λ p. Below (table_reached t) (reached p)) (λ p. p.fresh ≡ true → least_lge c ≤ p.lge)
    (λ p is. below_lge (all_reached c) c.last p (below_chain (all_reached c) (table_reached t) (reached p) below is))
    t.projections (below_each reached None t.projections))
    c.tables (below_each table_reached None c.tables)

-- ---- the least over all shapes

abbrev pub lges : List Shape → List ℕ
lges ss = map (λ s. s.lge) (filter (λ s. s.fresh) ss)

abbrev least_from : Option ℕ → List ℕ → Option ℕ
least_from e ns = fold (λ a n. earlier a (Some n)) e ns

earlier_joins : (a b c : Option ℕ) → earlier a (earlier b c) ≡ earlier (earlier a b) c
earlier_joins None b c = refl
earlier_joins (Some a) None c = refl
earlier_joins (Some a) (Some b) None = refl
earlier_joins (Some a) (Some b) (Some c) = ap (λ (n : ℕ). Some n) (omega arith)

earlier_none : (e : Option ℕ) → earlier e None ≡ e
earlier_none None = refl
earlier_none (Some a) = refl

least_after : (e a : Option ℕ) (ns : List ℕ) → earlier e (least_from a ns) ≡ least_from (earlier e a) ns
least_after e a [] = refl
least_after e a (n ∷ ns) = least_after e (earlier a (Some n)) ns ∙ ap (λ (o : Option ℕ). least_from o ns) (earlier_joins e a (Some n))

lges_more : (s : Shape) (ss : List Shape) (b : Bool) → s.fresh ≡ b → lges (s ∷ ss) ≡ map (λ x. x.lge) (cond b (s ∷ filter (λ x. x.fresh) ss) (filter (λ x. x.fresh) ss))
lges_more s ss b is = ap (λ (c : Bool). map (λ (x : Shape). x.lge) (cond c (s ∷ filter (λ x. x.fresh) ss) (filter (λ x. x.fresh) ss))) is

shapes_reached : (e : Option ℕ) (ps : List Projection) → fold (λ a p. earlier a (reached p)) e ps ≡ least_from e (lges (map shape_of ps))
shapes_reached e [] = refl
shapes_reached e (p ∷ ps) = by p.fresh refl (λ o. shapes_reached o ps)
  where
    by : (b : Bool) → p.fresh ≡ b → ((o : Option ℕ) → fold (λ a x. earlier a (reached x)) o ps ≡ least_from o (lges (map shape_of ps)))
        → fold (λ a x. earlier a (reached x)) (earlier e (reached p)) ps ≡ least_from e (lges (shape_of p ∷ map shape_of ps))
    by true is rest =
        ap (λ (o : Option ℕ). fold (λ a x. earlier a (reached x)) (earlier e o) ps) (ap (λ (b : Bool). cond b (Some p.lge) None) is)
        ∙ rest (earlier e (Some p.lge)) ∙ sym (ap (least_from e) (lges_more (shape_of p) (map shape_of ps) true is))
    by false is rest =
        ap (λ (o : Option ℕ). fold (λ a x. earlier a (reached x)) (earlier e o) ps) (ap (λ (b : Bool). cond b (Some p.lge) None) is)
        ∙ ap (λ (o : Option ℕ). fold (λ a x. earlier a (reached x)) o ps) (earlier_none e)
        ∙ rest e ∙ sym (ap (least_from e) (lges_more (shape_of p) (map shape_of ps) false is))

lges_append : (xs ys : List Shape) → lges (xs ++ ys) ≡ lges xs ++ lges ys
lges_append xs ys = ap (map (λ (s : Shape). s.lge)) (filter-append (λ s. s.fresh) xs ys) ∙ map-append (λ (s : Shape). s.lge) (filter (λ s. s.fresh) xs) (filter (λ s. s.fresh) ys)

-- the shapes of the projections of a catalogue's tables
abbrev pub kept_shapes : List kept.Table → List Shape
kept_shapes ts = flat_map (λ t. map shape_of t.projections) ts

tables_reached : (e : Option ℕ) (ts : List kept.Table) → fold (λ a t. earlier a (table_reached t)) e ts ≡ least_from e (lges (kept_shapes ts))
tables_reached e [] = refl
tables_reached e (t ∷ ts) =
    let here = lges (map shape_of t.projections) in
    let first : earlier e (table_reached t) ≡ least_from e here =
    ap (earlier e) (shapes_reached None t.projections) ∙ least_after e None here ∙ ap (λ (o : Option ℕ). least_from o here) (earlier_none e) in
    ap (λ (o : Option ℕ). fold (λ a x. earlier a (table_reached x)) o ts) first
    ∙ tables_reached (least_from e here) ts
    ∙ sym (fold-append (λ a n. earlier a (Some n)) e here (lges (kept_shapes ts)))
    ∙ ap (least_from e) (sym (lges_append (map shape_of t.projections) (kept_shapes ts)) ∙ sym (ap lges (flat_map-cons (λ (x : kept.Table). map shape_of x.projections) t ts)))

least_some : (n : ℕ) (ns : List ℕ) → least_from (Some n) ns ≡ Some (fold min n ns)
least_some n [] = refl
least_some n (m ∷ ns) = least_some (min n m) ns

least_is : (other : ℕ) (ns : List ℕ) → unwrap_or (least_from None ns) other ≡ least_or other ns
least_is other [] = refl
least_is other (n ∷ ns) = ap (λ (o : Option ℕ). unwrap_or o other) (least_some n ns)

same_shapes : (m : Contents) (mark : ℕ) (ts : List kept.Table) (pss : List (List Projected)) (us : List Table) → StandForTables m mark ts pss us → all_shapes us ≡ kept_shapes ts
same_shapes m mark [] [] [] stand = refl
same_shapes m mark [] [] (u ∷ us) stand = absurd stand
same_shapes m mark [] (ps ∷ pss) us stand = absurd stand
same_shapes m mark (t ∷ ts) [] us stand = absurd stand
same_shapes m mark (t ∷ ts) (ps ∷ pss) [] stand = absurd stand
same_shapes m mark (t ∷ ts) (ps ∷ pss) (u ∷ us) (here, more) =
    flat_map-cons (λ (x : Table). x.shapes) u us ∙ ap₂ (λ (xs ys : List Shape). xs ++ ys) here.shapes (same_shapes m mark ts pss us more)
    ∙ sym (flat_map-cons (λ (x : kept.Table). map shape_of x.projections) t ts)

-- of a catalogue's tables as of their shapes
pub kept_good : (last : ℕ) (ts : List kept.Table) → least_or last (lges (kept_shapes ts)) ≡ unwrap_or (fold (λ e t. earlier e (table_reached t)) None ts) last
kept_good last ts = sym (least_is last (lges (kept_shapes ts))) ∙ ap (λ (o : Option ℕ). unwrap_or o last) (sym (tables_reached None ts))

pub good_same : (m : Contents) (c : Catalogue) (stores : List (List Projected)) (d : Database) → AreDatabase m c stores d → last_good d ≡ least_lge c
good_same m c stores d are =
    ap₂ (λ (n : ℕ) (ss : List Shape). least_or n (lges ss)) are.last (same_shapes m c.ahm c.tables stores d.tables are.tables)
    ∙ kept_good c.last c.tables

-- ---- it isn't before the ancient history mark

told : (b : Bool) {P : Type 0} → OnTrue b P → b ≡ true → P
told true p is = p
told false p is = absurd (cc)

pub mark_below_good : (d : Database) → IsSoundDatabase d → d.ahm ≤ last_good d
mark_below_good d sound =
    good_least d.ahm d (record {
      closed = sound.mark;
      tables =
          All-weaker (IsSoundTable d) (TableReaches d.ahm)
          (λ t is. All-weaker (IsSoundShape d) (Reaches d.ahm) (λ s h fresh. (told s.fresh {P = ReachesMark d s} h fresh).mark) t.shapes is.shapes) d.tables sound.tables;
    })
