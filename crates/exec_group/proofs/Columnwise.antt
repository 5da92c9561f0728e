-- What each aggregate keeps in the groups, after rows were put to them.
use Rattle.std.proofs.Common.{◌≡◌, ℕ, zero, suc, ◌+◌, ◌-◌, ◌<◌, ◌≤◌, ◌++◌, ◌||◌, Bool, true, false, if◌then◌else◌, List, [], ◌∷◌, length, get_or, map, position, replicate, set, take, Option, Some, None, refl, sym, ap, ap₂, ◌∙◌, arith, subst}
use Rattle.std.specs.List.{All, list_any}
use Rattle.std.proofs.lemmas.List.{append_assoc, append-nil, get_or-map, length-append, length-map, map-append, take_more}
use Rattle.std.proofs.lemmas.List.Quantifiers.{position-Some}
use Rattle.col_value.specs.declared.value.Value.{Value}
use Rattle.col_value.specs.declared.wide.Wide.{Wide}
use Rattle.row_keys.proofs.Apart.{changed, one_changed}
use Rattle.row_keys.specs.Keys.{AreApart}
use Rattle.sql_bound.specs.declared.query.Aggregate.{Aggregate}
use Rattle.sql_bound.specs.declared.query.BoundQuery.{BoundQuery}
use Rattle.sql_bound.specs.Outputs.{group_keys, keys_of, members, same_keys}
use Rattle.exec_group.specs.Accumulators.{accumulated, accumulated_over, argument_in, taken}
use Rattle.exec_group.specs.Columns.{each_put, padded, put_at, put_each, row_of, taken_at}
use Rattle.exec_group.specs.Groups.{Held, kept_in, met, met_one, HoldsGroups, IsPut}
use Rattle.exec_group.specs.declared.accumulator.Accumulator.{Accumulator}
use Rattle.exec_group.specs.declared.accumulator.Accumulator.TheVariants.{TooGreat}
use Rattle.exec_group.proofs.Entering.{Groups, first, rest}
use Rattle.exec_group.proofs.Keys.{groups_apart, groups_more, members_more, no_members}
use Rattle.exec_group.proofs.More.{no_values, row_taken}
use Rattle.exec_group.proofs.Together.{Column}

-- ---- groups more

-- the keys `ks` are those found and so many more, in which nothing is kept
record IsGrown (f : List Value → Accumulator) (x : Accumulator) (found ks : Groups) : Type 0 where
  more : ℕ
  is : map f ks ≡ map f found ++ replicate more x
  long : length ks ≡ length found + more
  absent : (k : List Value) → list_any (λ g. same_keys g k) ks ≡ false → list_any (λ g. same_keys g k) found ≡ false

one_more : (n : ℕ) (x : Accumulator) → replicate n x ++ x ∷ [] ≡ replicate (suc n) x
one_more zero x = refl
one_more (suc n) x = ap (λ (xs : Column). x ∷ xs) (one_more n x)

any_in_front : (p : List Value → Bool) (ks more : Groups) → list_any p (ks ++ more) ≡ false → list_any p ks ≡ false
any_in_front p [] more e = refl
any_in_front p (k ∷ ks) more e = elim (p k) as (λ b. (b || list_any p (ks ++ more)) ≡ false → (b || list_any p ks) ≡ false) [
  | true ↦ λ h. h
  | false ↦ λ h. any_in_front p ks more h
] e

padded_is : (f : List Value → Accumulator) (x : Accumulator) (found ks : Groups) → IsGrown f x found ks → padded (length ks) x (map f found) ≡ map f ks
padded_is f x found ks grown =
    let many : length ks - length (map f found) ≡ grown.more = omega (arith, grown.long, length-map found f) in
    ap (λ (n : ℕ). map f found ++ replicate n x) many ∙ sym grown.is

module _ {X : Type 0} (row : X → List Value) (q : BoundQuery) where
  abbrev key : X → List Value
  key x = keys_of q.keys (row x)

  met_groups : (xs : List X) (rows : Groups) → met key xs (group_keys q.keys rows) ≡ group_keys q.keys (rows ++ map row xs)
  met_groups [] rows = ap (group_keys q.keys) (sym (append-nil rows))
  met_groups (x ∷ xs) rows =
      ap (met key xs) (sym (groups_more q.keys rows (row x))) ∙ met_groups xs (rows ++ row x ∷ []) ∙ ap (group_keys q.keys) (append_assoc rows (row x ∷ []) (map row xs))

  module _ (a : Aggregate) where
    abbrev fresh : Accumulator
    fresh = accumulated a.kind 0 []

    abbrev kept : Groups → List Value → Accumulator
    kept rows group = accumulated_over (members q.keys group rows) a

    none_kept : (rows : Groups) (x : X) → list_any (λ g. same_keys g (key x)) (group_keys q.keys rows) ≡ false → kept rows (key x) ≡ fresh
    none_kept rows x none =
        ap (λ (m : Groups). accumulated_over m a) (no_members q.keys rows (row x) none) ∙ ap (accumulated a.kind 0) (no_values a.arg)

    grows : (rows : Groups) (xs : List X) (ks : Groups) → IsGrown (kept rows) fresh (group_keys q.keys rows) ks → IsGrown (kept rows) fresh (group_keys q.keys rows) (met key xs ks)
    grows rows [] ks grown = grown
    grows rows (x ∷ xs) ks grown =
        grows rows xs (met_one ks (key x))
        (elim (list_any (λ g. same_keys g (key x)) ks) as (λ b. list_any (λ g. same_keys g (key x)) ks ≡ b → IsGrown (kept rows) fresh (group_keys q.keys rows) (if b then ks else ks ++ key x ∷ [])) [
          | true ↦ λ e. grown
          | false ↦ λ e. record {
            more = suc grown.more;
            is =
                map-append (kept rows) ks (key x ∷ [])
                ∙ ap₂ (λ (c : Column) (y : Accumulator). c ++ y ∷ []) grown.is (none_kept rows x (grown.absent (key x) e))
                ∙ append_assoc (map (kept rows) (group_keys q.keys rows)) (replicate grown.more fresh) (fresh ∷ [])
                ∙ ap (λ (c : Column). map (kept rows) (group_keys q.keys rows) ++ c) (one_more grown.more fresh);
            long = omega (arith, grown.long, length-append ks (key x ∷ []));
            absent = λ k h. grown.absent k (any_in_front (λ g. same_keys g k) ks (key x ∷ []) h);
          }
        ] refl)

    begun : (rows : Groups) (xs : List X) → padded (length (met key xs (group_keys q.keys rows))) fresh (map (kept rows) (group_keys q.keys rows)) ≡ map (kept rows) (met key xs (group_keys q.keys rows))
    begun rows xs =
        padded_is (kept rows) fresh (group_keys q.keys rows) (met key xs (group_keys q.keys rows))
        (grows rows xs (group_keys q.keys rows) (record {
          more = 0;
          is = sym (append-nil (map (kept rows) (group_keys q.keys rows)));
          long = omega arith;
          absent = λ k h. h;
        }))

    -- ---- a row more

    kept_more : (rows : Groups) (x : X) (group : List Value) → kept (rows ++ row x ∷ []) group ≡ changed (key x) (kept rows) (λ g. taken (kept rows g) (argument_in a.arg (row x))) group
    kept_more rows x group =
        ap (λ (m : Groups). accumulated_over m a) (members_more q.keys group rows (row x))
        ∙ elim (same_keys group (key x)) as (λ b. accumulated_over (members q.keys group rows ++ (if b then row x ∷ [] else [])) a ≡ (if b then taken (kept rows group) (argument_in a.arg (row x)) else kept rows group)) [
          | true ↦ sym (row_taken (members q.keys group rows) (row x) a)
          | false ↦ ap (λ (m : Groups). accumulated_over m a) (append-nil (members q.keys group rows))
        ]

    all_kept : (rows : Groups) (x : X) (groups : Groups) → map (kept (rows ++ row x ∷ [])) groups ≡ map (changed (key x) (kept rows) (λ g. taken (kept rows g) (argument_in a.arg (row x)))) groups
    all_kept rows x [] = refl
    all_kept rows x (g ∷ groups) = ap₂ (λ (y : Accumulator) (ys : Column). y ∷ ys) (kept_more rows x g) (all_kept rows x groups)

    module _ (groups : Groups) (apart : AreApart groups) where
      row_put : (rows : Groups) (x : X) (g : ℕ) → position (λ k. same_keys k (key x)) groups ≡ Some g → put_at (map (kept rows) groups) g (argument_in a.arg (row x)) ≡ map (kept (rows ++ row x ∷ [])) groups
      row_put rows x g e =
          let at = position-Some (λ k. same_keys k (key x)) groups g [] e in
          ap (λ (y : Accumulator). set (map (kept rows) groups) g (taken y (argument_in a.arg (row x)))) (get_or-map (kept rows) groups g [] TooGreat at.0)
          ∙ one_changed (key x) (kept rows) (λ k. taken (kept rows k) (argument_in a.arg (row x))) groups g apart at.0 at.1
          ∙ sym (all_kept rows x groups)

      rows_put : (rows : Groups) (xs : List X) (gs : List ℕ) → map Some gs ≡ map (λ x. position (λ k. same_keys k (key x)) groups) xs
          → put_each (λ x. argument_in a.arg (row x)) gs xs (map (kept rows) groups) ≡ map (kept (rows ++ map row xs)) groups
      rows_put rows [] [] e = ap (λ (r : Groups). map (kept r) groups) (sym (append-nil rows))
      rows_put rows [] (g ∷ gs) e = absurd cc
      rows_put rows (x ∷ xs) [] e = absurd cc
      rows_put rows (x ∷ xs) (g ∷ gs) e =
          ap (put_each (λ y. argument_in a.arg (row y)) gs xs) (row_put rows x g (sym (ap first e)))
          ∙ rows_put (rows ++ row x ∷ []) xs gs (ap rest e)
          ∙ ap (λ (r : Groups). map (kept r) groups) (append_assoc rows (row x ∷ []) (map row xs))

  module _ (rows : Groups) (xs : List X) (gs : List ℕ) where
    abbrev after : Groups
    after = met key xs (group_keys q.keys rows)

    each_done : (there : map Some gs ≡ map (λ x. position (λ k. same_keys k (key x)) after) xs) (aggs : List Aggregate)
        → each_put row (length after) gs xs aggs (map (kept_in q.keys rows (group_keys q.keys rows)) aggs) ≡ map (kept_in q.keys (rows ++ map row xs) after) aggs
    each_done there [] = refl
    each_done there (a ∷ aggs) =
        let apart : AreApart after = subst AreApart (sym (met_groups xs rows)) (groups_apart q.keys (rows ++ map row xs)) in
        ap₂ (λ (c : Column) (cs : List Column). c ∷ cs)
        (ap (put_each (λ x. argument_in a.arg (row x)) gs xs) (begun a rows xs) ∙ rows_put a after apart rows xs gs there)
        (each_done there aggs)

    put_done : (h new : Held) → new.keys ≡ met key xs h.keys → map Some gs ≡ map (λ x. position (λ k. same_keys k (key x)) new.keys) xs → new.columns ≡ each_put row (length new.keys) gs xs q.aggs h.columns → HoldsGroups q rows h
        → HoldsGroups q (rows ++ map row xs) new
    put_done h new keys there columns held =
        let now : new.keys ≡ after = keys ∙ ap (met key xs) held.keys in
        let all = met_groups xs rows in
        record {
          keys = now ∙ all;
          columns =
              columns ∙ ap₂ (λ (ks : Groups) (cs : List Column). each_put row (length ks) gs xs q.aggs cs) now held.columns
              ∙ each_done (there ∙ ap (λ (ks : Groups). map (λ x. position (λ k. same_keys k (key x)) ks) xs) now) q.aggs
              ∙ ap (λ (ks : Groups). map (kept_in q.keys (rows ++ map row xs) ks) q.aggs) all;
        }

  pub held_put : (rows : Groups) (xs : List X) (h new : Held) → IsPut row q.keys q.aggs xs h new → HoldsGroups q rows h → HoldsGroups q (rows ++ map row xs) new
  held_put rows xs h new put held = put_done rows xs put.places h new put.keys_met put.there put.taken held
