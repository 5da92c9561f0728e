-- Columns of window values, one after another, and the rows beside them.
use Rattle.std.proofs.Common.{◌≡◌, ◌++◌, ℕ, ◌+◌, ◌<◌, ◌≤◌, List, [], ◌∷◌, length, map, get_or, take, sym, ap, ap₂, ◌∙◌, arith, subst}
use Rattle.std.specs.Prelude.{zip}
use Rattle.std.specs.List.{All}
use Rattle.std.proofs.lemmas.List.{map-append, take_all, take_more}
use Rattle.std.proofs.lemmas.List.Elements.{All-push}
use Rattle.std.proofs.lemmas.Slice.Zip.{get_or-zip, length-zip}
use Rattle.col_value.specs.declared.value.Value.{Value}
use Rattle.sql_bound.specs.declared.query.Aggregate.{Aggregate}
use Rattle.sql_bound.specs.declared.query.BoundQuery.{BoundQuery}
use Rattle.sql_bound.specs.declared.query.BoundWindow.{BoundWindow}
use Rattle.exec_window.specs.Partitions.{HasGreatPartition}
use Rattle.query_run.specs.Windows.{HasGreatWindow}

-- what is mapped goes on with one more
pub mapped_more : {X Y : Type 0} (f : X → Y) (xs : List X) (i : ℕ) (x : X) (y : Y) (out next : List Y) → i < length xs → x ≡ get_or xs i x → y ≡ f x → next ≡ out ++ y ∷ [] → out ≡ map f (take i xs) → next ≡ map f (take (i + 1) xs)
mapped_more {X} {Y} f xs i x y out next h at is more before =
    more ∙ ap₂ (λ (o : List Y) (v : Y). o ++ v ∷ []) before is ∙ sym (map-append f (take i xs) (x ∷ [])) ∙ ap (λ (z : X). map f (take i xs ++ z ∷ [])) at ∙ ap (map f) (sym (take_more xs i x h))

pub mapped_all : {X Y : Type 0} (f : X → Y) (xs : List X) (i : ℕ) (out : List Y) → length xs ≤ i → out ≡ map f (take i xs) → out ≡ map f xs
mapped_all f xs i out h before = before ∙ ap (map f) (take_all i xs h)

module _ (ws : List BoundWindow) (aggs : List Aggregate) (i : ℕ) where
  pub pair_inside : i < length ws → i < length aggs → i < length (zip ws aggs)
  pair_inside h g = omega (arith, length-zip ws aggs)

  pub pair_at : (w : BoundWindow) (a : Aggregate) → i < length ws → w ≡ get_or ws i w → i < length aggs → a ≡ get_or aggs i a → (w, a) ≡ get_or (zip ws aggs) i (w, a)
  pair_at w a h is g are = ap₂ (λ (x : BoundWindow) (y : Aggregate). (x, y)) is are ∙ sym (get_or-zip ws aggs i (w, a) h g)

  pub pairs_past : length ws ≤ i → length (zip ws aggs) ≤ i
  pairs_past h = omega (arith, length-zip ws aggs)

  pub pairs_gone : length aggs ≤ i → length (zip ws aggs) ≤ i
  pairs_gone h = omega (arith, length-zip ws aggs)

-- no partition's sum is too great in a column
abbrev pub Fits : List (List Value) → BoundWindow × Aggregate → Type 0
Fits rows p = HasGreatPartition p.0 p.1 rows → ⊥

pub fit_more : (rows : List (List Value)) (ps : List (BoundWindow × Aggregate)) (i : ℕ) (p : BoundWindow × Aggregate) → i < length ps → p ≡ get_or ps i p → (HasGreatPartition p.0 p.1 rows → ⊥) → All (Fits rows) (take i ps) → All (Fits rows) (take (i + 1) ps)
fit_more rows ps i p h at fits before =
    subst (All (λ z. HasGreatPartition z.0 z.1 rows → ⊥)) (ap (λ (z : BoundWindow × Aggregate). take i ps ++ z ∷ []) at ∙ sym (take_more ps i p h)) (All-push (λ z. HasGreatPartition z.0 z.1 rows → ⊥) (take i ps) p before fits)

pub all_fit : (q : BoundQuery) (rows : List (List Value)) (i : ℕ) → length (zip q.windows q.aggs) ≤ i → All (Fits rows) (take i (zip q.windows q.aggs)) → HasGreatWindow q rows → ⊥
all_fit q rows i h fits (p, (k, lt, same), great) =
    let all : All (λ z. HasGreatPartition z.0 z.1 rows → ⊥) (zip q.windows q.aggs) = subst (All (λ z. HasGreatPartition z.0 z.1 rows → ⊥)) (take_all i (zip q.windows q.aggs) h) fits in
    subst (λ (z : BoundWindow × Aggregate). HasGreatPartition z.0 z.1 rows → ⊥) same (all k p lt) great

pub one_great : (q : BoundQuery) (rows : List (List Value)) (i : ℕ) (w : BoundWindow) (a : Aggregate) → i < length (zip q.windows q.aggs) → (w, a) ≡ get_or (zip q.windows q.aggs) i (w, a) → HasGreatPartition w a rows → HasGreatWindow q rows
one_great q rows i w a h at great = ((w, a), (i, h, sym at), great)
