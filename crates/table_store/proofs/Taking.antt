-- Rows of the table that a projection takes themselves.
use Rattle.std.proofs.Common.{◌≡◌, ℕ, zero, suc, ◌+◌, ◌<◌, ◌≤◌, ◌++◌, Bool, true, false, List, [], ◌∷◌, length, map, get_or, refl, sym, ◌∙◌, ap, ap₂, subst, arith, append_assoc}
use Rattle.std.specs.Prelude.{◌==◌, ◌&&◌, Option, Some, None, IfSome}
use Rattle.std.specs.List.{list_all, enumerate_from}
use Rattle.std.proofs.Math.Seq.{get_or-append_seam}
use Rattle.std.proofs.lemmas.Bool.Decides.{Decides-eqb}
use Rattle.std.proofs.lemmas.List.{get_or-map, get_or_default, length-map, length-append}
use Rattle.col_value.specs.declared.value.Value.{Value}
use Rattle.col_value.specs.declared.value.Value.TheVariants.{Null}
use Rattle.catalog_types.specs.declared.catalogue.ProjColumn.{ProjColumn}
use Rattle.sound_laws.specs.Moves.{change_at}
use Rattle.stored_rows.specs.Stored.{Projected}
use Rattle.proj_store.specs.Loaded.{Loaded}
use Rattle.table_store.specs.Held.{projections_of}
use Rattle.table_store.specs.Changing.{Ready, with_coming, all_coming, is_at, in_order, AreWhole, AreWholeAt}

-- ---- rows with all columns of a projection

both : (a b : Bool) → (a && b) ≡ true → (a ≡ true) × (b ≡ true)
both true b is = (refl, is)
both false b is = absurd (cc)

columns_are : (columns : List ProjColumn) (k : ℕ) (front row : List Value) → list_all (λ e. e.1.ordinal == e.0) (enumerate_from k columns) ≡ true → length row ≡ length columns → length front ≡ k
    → map (λ i. get_or (front ++ row) i Null) (map (λ c. c.ordinal) columns) ≡ row
columns_are [] k front [] order long at = refl
columns_are [] k front (v ∷ row) order long at = absurd (omega (arith, long))
columns_are (c ∷ columns) k front [] order long at = absurd (omega (arith, long))
columns_are (c ∷ columns) k front (v ∷ row) order long at =
    let (here, rest) = both (c.ordinal == k) (list_all (λ (e : ℕ × ProjColumn). e.1.ordinal == e.0) (enumerate_from (k + 1) columns)) order in
    let place : c.ordinal ≡ length front = (Decides-eqb c.ordinal k).0 here ∙ sym at in
    let value : get_or (front ++ v ∷ row) c.ordinal Null ≡ v = ap (λ (n : ℕ). get_or (front ++ v ∷ row) n Null) place ∙ get_or-append_seam front v row Null in
    let more : map (λ i. get_or (front ++ v ∷ row) i Null) (map (λ (d : ProjColumn). d.ordinal) columns) ≡ row =
    subst (λ (values : List Value). map (λ i. get_or values i Null) (map (λ (d : ProjColumn). d.ordinal) columns) ≡ row) (append_assoc front (v ∷ []) row)
    (columns_are columns (k + 1) (front ++ v ∷ []) row rest (omega (arith, long)) (omega (arith, at, length-append front (v ∷ [])))) in
    ap₂ (λ (w : Value) (ws : List Value). w ∷ ws) value more

pub rows_whole : (p : Projected) (rows : List (List Value)) → in_order p.entry.columns ≡ true → list_all (λ row. length row == length p.entry.columns) rows ≡ true → AreWhole rows p
rows_whole p [] order long = refl
rows_whole p (row ∷ rows) order long =
    let (here, rest) = both (length row == length p.entry.columns) (list_all (λ (r : List Value). length r == length p.entry.columns) rows) long in
    ap₂ (λ (r : List Value) (rs : List (List Value)). r ∷ rs) (columns_are p.entry.columns 0 [] row order ((Decides-eqb (length row) (length p.entry.columns)).0 here) refl) (rows_whole p rows order rest)

-- ---- the projection at a place

stored_at : (stores : List Loaded) (i : ℕ) (x : Loaded) → i < length stores → x ≡ get_or stores i x → x.stored ≡ get_or (projections_of stores) i x.stored
stored_at stores i x lt is = ap (λ (p : Loaded). p.stored) is ∙ sym (get_or-map (λ (p : Loaded). p.stored) stores i x x.stored lt)

pub whole_at : (rows : List (List Value)) (stores : List Loaded) (i : ℕ) (x : Loaded) → i < length stores → x ≡ get_or stores i x → AreWhole rows x.stored → AreWholeAt rows (projections_of stores) i
whole_at rows stores i x lt is whole = λ p there.
    subst (AreWhole rows)
    (stored_at stores i x lt is ∙ get_or_default (projections_of stores) i x.stored p (omega (arith, lt, length-map stores (λ (q : Loaded). q.stored))) ∙ sym there) whole

pub takes_whole : (rows : List (List Value)) (before now : List Loaded) (taker : Option ℕ) (i : ℕ) (x : Loaded) → projections_of now ≡ projections_of before → IfSome taker (AreWholeAt rows (projections_of before))
    → i < length now → x ≡ get_or now i x → is_at taker i ≡ true → AreWhole rows x.stored
takes_whole rows before now None i x same whole lt is at = absurd (cc)
takes_whole rows before now (Some place) i x same whole lt is at =
    whole x.stored
    (stored_at now i x lt is ∙ ap (λ (ps : List Projected). get_or ps i x.stored) same ∙ ap (λ (n : ℕ). get_or (projections_of before) n x.stored) (sym ((Decides-eqb place i).0 at)))

-- ---- what is ready, with the rows that come

not_coming : (rows : List (List Value)) (o : Option Ready) → with_coming false rows o ≡ o
not_coming rows None = refl
not_coming rows (Some r) = refl

pub change_out : {X : Type 0} (i : ℕ) (f : X → X) (xs : List X) → length xs ≤ i → change_at i f xs ≡ xs
change_out i f [] past = refl
change_out zero f (x ∷ xs) past = absurd (omega (arith, past))
change_out {X} (suc i) f (x ∷ xs) past = ap (λ (ys : List X). x ∷ ys) (change_out i f xs (omega (arith, past)))

change_last : {X : Type 0} (f : X → X) (xs : List X) (x : X) → change_at (length xs) f (xs ++ x ∷ []) ≡ xs ++ f x ∷ []
change_last f [] x = refl
change_last {X} f (y ∷ xs) x = ap (λ (ys : List X). y ∷ ys) (change_last f xs x)

change_before : {X : Type 0} (i : ℕ) (f : X → X) (xs : List X) (x : X) → (i ≡ length xs → ⊥) → change_at i f (xs ++ x ∷ []) ≡ change_at i f xs ++ x ∷ []
change_before zero f [] x apart = absurd (apart refl)
change_before (suc i) f [] x apart = refl
change_before zero f (y ∷ xs) x apart = refl
change_before {X} (suc i) f (y ∷ xs) x apart = ap (λ (ys : List X). y ∷ ys) (change_before i f xs x (λ same. apart (ap suc same)))

pub coming_none : (taker : Option ℕ) (rows : List (List Value)) (os : List (Option Ready)) → os ≡ [] → all_coming taker rows os ≡ []
coming_none None rows os is = is
coming_none (Some place) rows os is = ap (change_at place (with_coming true rows)) is

-- one more was made ready
pub coming_push : (taker : Option ℕ) (rows : List (List Value)) (os : List (Option Ready)) (o : Option Ready) (i : ℕ) → length os ≡ i
    → all_coming taker rows (os ++ o ∷ []) ≡ all_coming taker rows os ++ with_coming (is_at taker i) rows o ∷ []
coming_push None rows os o i long = ap (λ (q : Option Ready). os ++ q ∷ []) (sym (not_coming rows o))
coming_push (Some place) rows os o i long = by (place == i) refl
  where
    f : Option Ready → Option Ready
    f = with_coming true rows

    by : (b : Bool) → (place == i) ≡ b → change_at place f (os ++ o ∷ []) ≡ change_at place f os ++ with_coming b rows o ∷ []
    by true is =
        let at : place ≡ length os = (Decides-eqb place i).0 is ∙ sym long in
        subst (λ (n : ℕ). change_at n f (os ++ o ∷ []) ≡ change_at n f os ++ f o ∷ []) (sym at)
        (change_last f os o ∙ ap (λ (qs : List (Option Ready)). qs ++ f o ∷ []) (sym (change_out (length os) f os (omega arith))))
    by false is =
        change_before place f os o (λ same. let yes : (place == i) ≡ true = (Decides-eqb place i).1 (same ∙ long) in absurd (cc))
        ∙ ap (λ (q : Option Ready). change_at place f os ++ q ∷ []) (sym (not_coming rows o))
