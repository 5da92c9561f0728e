-- The next catalogue is valid.
use Rattle.std.proofs.Common.{◌≡◌, ◌≢◌, ℕ, ◌+◌, ◌^◌, ◌<◌, ◌≤◌, Bool, true, false, List, ◌++◌, sym, ◌∙◌, ap, subst, inl, inr, arith}
use Rattle.std.specs.Prelude.{◌⊎◌}
use Rattle.std.specs.Bool.{OnTrue}
use Rattle.std.specs.List.{All, Contains, flat_map}
use Rattle.std.proofs.lemmas.List.Concat.{flat_map-append}
use Rattle.std.proofs.lemmas.List.Elements.{All-weaker, All-same}
use Rattle.catalog_types.specs.declared.catalogue.Table.{Table}
use Rattle.catalog_types.specs.declared.catalogue.Catalogue.{Catalogue}
use Rattle.catalog_types.specs.declared.span.Span.{Span}
use Rattle.catalog_types.specs.Lists.{Pairwise}
use Rattle.catalog_types.specs.Names.{names_of}
use Rattle.catalog_types.specs.Numbers.{AreApart, HasNumbersOnce, store_count, table_spans}
use Rattle.catalog_types.specs.Parts.{IsTable}
use Rattle.catalog_types.specs.Reached.{is_past, least_lge}
use Rattle.catalog_types.specs.Valid.{IsValid}
use Rattle.catalog_types.proofs.Pairs.{all_append}
use Rattle.catalog_laws.specs.Going.{IsNext}
use Rattle.catalog_laws.proofs.Apart.{apart_too}
use Rattle.catalog_laws.proofs.Fitting.{IsInside}
use Rattle.catalog_laws.proofs.Counting.{all_inside, numbers_below}
use Rattle.catalog_laws.proofs.Keeping.{tables_kept}
use Rattle.catalog_laws.proofs.Replacing.{swapped}

flat_three : {X Y : Type 0} (f : X → List Y) (xs ys zs : List X) → flat_map f (xs ++ (ys ++ zs)) ≡ flat_map f xs ++ (flat_map f ys ++ flat_map f zs)
flat_three f xs ys zs = flat_map-append f xs (ys ++ zs) ∙ ap (λ (r : List _). flat_map f xs ++ r) (flat_map-append f ys zs)

-- the same over lists that are joined out of others
pub flat_swapped : {X Y : Type 0} (R : Y → Y → Type 0) → ((x y : Y) → R x y → R y x) → (f : X → List Y) (front old new back : List X) → Pairwise R (flat_map f (front ++ (old ++ back))) → Pairwise R (flat_map f new)
    → All (λ x. Contains (flat_map f old) x ⊎ All (R x) (flat_map f (front ++ back))) (flat_map f new) → Pairwise R (flat_map f (front ++ (new ++ back)))
flat_swapped R back_too f front old new back was once each =
    subst (Pairwise R) (sym (flat_three f front new back))
    (swapped R back_too (flat_map f front) (flat_map f old) (flat_map f new) (flat_map f back) (subst (Pairwise R) (flat_three f front old back) was) once
    (subst (λ (r : List _). All (λ x. Contains (flat_map f old) x ⊎ All (R x) r) (flat_map f new)) (flat_map-append f front back) each))

differ_too : {X : Type 0} (x y : X) → x ≢ y → y ≢ x
differ_too x y differ is = differ (sym is)

-- numbers that were drawn are apart from all that were there
drawn_apart : (next : ℕ) (s : Span) (spans : List Span) → All (IsInside 0 next) spans → next ≤ s.first → All (AreApart s) spans
drawn_apart next s spans inside le = All-weaker (IsInside 0 next) (AreApart s) (λ r is. inr (omega (arith, is.2, le))) spans inside

pub next_valid : (c n : Catalogue) (front old new back : List Table) → IsValid c → IsNext c n front old new back → IsValid n
next_valid c n front old new back valid next = record {
  most = next.most;
  tables = all;
  ascending = next.ascending;
  names_once = names;
  mark = next.mark;
  last = next.goes.epochs;
  numbers_once = numbers;
  next = omega (arith, next.goes.numbers);
  room = on (is_past n (least_lge n)) room;
}
  where
    whole : All (IsTable c) front × All (IsTable c) (old ++ back)
    whole = (all_append (IsTable c) front (old ++ back)).0 (All-same (IsTable c) _ _ (sym next.was) valid.tables)

    rest : All (IsTable c) (front ++ back)
    rest = (all_append (IsTable c) front back).1 (whole.0, ((all_append (IsTable c) old back).0 whole.1).1)

    kept : All (IsTable n) front × All (IsTable n) back
    kept = (all_append (IsTable n) front back).0 (tables_kept c n (front ++ back) next.goes.number next.reached rest)

    all : All (IsTable n) n.tables
    all = All-same (IsTable n) _ _ next.is ((all_append (IsTable n) front (new ++ back)).1 (kept.0, (all_append (IsTable n) new back).1 (next.tables, kept.1)))

    names : Pairwise ◌≢◌ (flat_map names_of n.tables)
    names =
        subst (λ (ts : List Table). Pairwise ◌≢◌ (flat_map names_of ts)) (sym next.is)
        (flat_swapped ◌≢◌ differ_too names_of front old new back (subst (λ (ts : List Table). Pairwise ◌≢◌ (flat_map names_of ts)) next.was valid.names_once) next.names_once next.names)

    drawn : (s : Span) → Contains (flat_map table_spans old) s ⊎ (c.next ≤ s.first) → Contains (flat_map table_spans old) s ⊎ All (AreApart s) (flat_map table_spans (front ++ back))
    drawn s (inl there) = inl there
    drawn s (inr le) = inr (drawn_apart c.next s (flat_map table_spans (front ++ back)) (all_inside c (front ++ back) rest) le)

    numbers : HasNumbersOnce n.tables
    numbers =
        subst HasNumbersOnce (sym next.is)
        (flat_swapped AreApart apart_too table_spans front old new back (subst HasNumbersOnce next.was valid.numbers_once) next.numbers_once
        (All-weaker (λ s. Contains (flat_map table_spans old) s ⊎ (c.next ≤ s.first)) (λ s. Contains (flat_map table_spans old) s ⊎ All (AreApart s) (flat_map table_spans (front ++ back))) drawn (flat_map table_spans new) next.numbers))

    room : n.next + store_count n + 1 < 2 ^ 62
    room = let most = numbers_below n all numbers in omega (arith, most, next.goes.numbers)

    on : (b : Bool) → n.next + store_count n + 1 < 2 ^ 62 → OnTrue b (n.next + store_count n + 1 < 2 ^ 62)
    on true is = is
    on false is = tt
