-- The keys of groups, each met once.
use Rattle.std.proofs.Common.{◌≡◌, ℕ, ◌++◌, ◌||◌, not, Bool, true, false, cond, if◌then◌else◌, List, [], ◌∷◌, map, filter, refl, sym, ap, ◌∙◌}
use Rattle.std.proofs.lemmas.List.{append-nil, map-append}
use Rattle.std.proofs.lemmas.List.Elements.{filter-append}
use Rattle.std.specs.List.{list_any}
use Rattle.col_value.specs.declared.value.Value.{Value}
use Rattle.row_keys.proofs.Apart.{any_filtered, either_false, none_filtered, none_left, same_back, same_equal}
use Rattle.row_keys.specs.Keys.{AreApart}
use Rattle.sql_bound.specs.Outputs.{distinct, group_keys, keys_of, members, same_keys}

-- one key more
module _ (x key : List Value) where
  kept : same_keys x key ≡ false → (o : List Value) → not (same_keys x o) ≡ false → same_keys o key ≡ false
  kept e o h =
      elim (same_keys o key) as (λ b. same_keys o key ≡ b → b ≡ false) [
        | true ↦ λ s. sym (both (same_keys x o) h) ∙ ap (same_keys x) (same_equal o key s) ∙ e
        | false ↦ λ s. refl
      ] refl
    where
      both : (b : Bool) → not b ≡ false → b ≡ true
      both true g = refl
      both false g = cc

  one_more : (found all : List (List Value)) → all ≡ (if list_any (λ g. same_keys g key) found then found else found ++ key ∷ []) → x ∷ filter (λ o. not (same_keys x o)) all
      ≡ (if list_any (λ g. same_keys g key) (x ∷ filter (λ o. not (same_keys x o)) found) then x ∷ filter (λ o. not (same_keys x o)) found else (x ∷ filter (λ o. not (same_keys x o)) found) ++ key ∷ [])
  one_more found all is =
      let left = filter (λ o. not (same_keys x o)) found in
      let goes_on : (b : Bool) → list_any (λ g. same_keys g key) found ≡ b → all ≡ (if b then found else found ++ key ∷ []) =
      λ b e. is ∙ ap (λ (t : Bool). if t then found else found ++ key ∷ []) e in
      elim (same_keys x key) as (λ s. same_keys x key ≡ s → x ∷ filter (λ o. not (same_keys x o)) all ≡ (if s || list_any (λ g. same_keys g key) left then x ∷ left else (x ∷ left) ++ key ∷ [])) [
        | true ↦ λ s.
            ap (λ (l : List (List Value)). x ∷ l)
            (elim (list_any (λ g. same_keys g key) found) as (λ b. list_any (λ g. same_keys g key) found ≡ b → filter (λ o. not (same_keys x o)) all ≡ left) [
              | true ↦ λ e. ap (filter (λ o. not (same_keys x o))) (goes_on true e)
              | false ↦ λ e.
                  ap (filter (λ o. not (same_keys x o))) (goes_on false e) ∙ filter-append (λ o. not (same_keys x o)) found (key ∷ [])
                  ∙ ap (λ (b : Bool). left ++ cond (not b) (key ∷ []) []) s ∙ append-nil left
            ] refl)
        | false ↦ λ s.
            let same = any_filtered (λ g. same_keys g key) (λ o. not (same_keys x o)) (kept s) found in
            elim (list_any (λ g. same_keys g key) found) as (λ b. list_any (λ g. same_keys g key) found ≡ b → x ∷ filter (λ o. not (same_keys x o)) all ≡ (if list_any (λ g. same_keys g key) left then x ∷ left else (x ∷ left) ++ key ∷ [])) [
              | true ↦ λ e.
                  ap (λ (l : List (List Value)). x ∷ filter (λ o. not (same_keys x o)) l) (goes_on true e)
                  ∙ ap (λ (b : Bool). if b then x ∷ left else (x ∷ left) ++ key ∷ []) (sym (same ∙ e))
              | false ↦ λ e.
                  ap (λ (l : List (List Value)). x ∷ filter (λ o. not (same_keys x o)) l) (goes_on false e)
                  ∙ ap (λ (l : List (List Value)). x ∷ l) (filter-append (λ o. not (same_keys x o)) found (key ∷ []) ∙ ap (λ (b : Bool). left ++ cond (not b) (key ∷ []) []) s)
                  ∙ ap (λ (b : Bool). if b then x ∷ left else (x ∷ left) ++ key ∷ []) (sym (same ∙ e))
            ] refl
      ] refl

distinct_more : (ks : List (List Value)) (key : List Value) → distinct (ks ++ key ∷ []) ≡ (if list_any (λ g. same_keys g key) (distinct ks) then distinct ks else distinct ks ++ key ∷ [])
distinct_more [] key = refl
distinct_more (x ∷ ks) key = one_more x key (distinct ks) (distinct (ks ++ key ∷ [])) (distinct_more ks key)

-- the keys of the groups after a row more
pub groups_more : (keys : List ℕ) (rows : List (List Value)) (row : List Value) → group_keys keys (rows ++ row ∷ [])
    ≡ (if list_any (λ g. same_keys g (keys_of keys row)) (group_keys keys rows) then group_keys keys rows else group_keys keys rows ++ keys_of keys row ∷ [])
groups_more [] rows row = refl
groups_more (k ∷ ks) rows row =
    ap distinct (map-append (keys_of (k ∷ ks)) rows (row ∷ [])) ∙ distinct_more (map (keys_of (k ∷ ks)) rows) (keys_of (k ∷ ks) row)

apart_filtered : (p : List Value → Bool) (ks : List (List Value)) → AreApart ks → AreApart (filter p ks)
apart_filtered p [] a = tt
apart_filtered p (k ∷ ks) a =
    elim (p k) as (λ b. AreApart (cond b (k ∷ filter p ks) (filter p ks))) [
      | true ↦ (none_filtered (same_keys k) p ks a.0, apart_filtered p ks a.1)
      | false ↦ apart_filtered p ks a.1
    ]

distinct_apart : (ks : List (List Value)) → AreApart (distinct ks)
distinct_apart [] = tt
distinct_apart (k ∷ ks) = (none_left (same_keys k) (distinct ks), apart_filtered (λ o. not (same_keys k o)) (distinct ks) (distinct_apart ks))

pub groups_apart : (keys : List ℕ) (rows : List (List Value)) → AreApart (group_keys keys rows)
groups_apart [] rows = (refl, tt)
groups_apart (k ∷ ks) rows = distinct_apart (map (keys_of (k ∷ ks)) rows)

-- a key that no group has is no row's
unseen : (ks : List (List Value)) (key : List Value) → list_any (λ g. same_keys g key) (distinct ks) ≡ false → list_any (λ g. same_keys g key) ks ≡ false
unseen [] key e = refl
unseen (x ∷ ks) key e =
    let each = either_false (same_keys x key) (list_any (λ g. same_keys g key) (filter (λ o. not (same_keys x o)) (distinct ks))) e in
    let rest = sym (any_filtered (λ g. same_keys g key) (λ o. not (same_keys x o)) (kept x key each.0) (distinct ks)) ∙ each.1 in
    ap (λ (b : Bool). b || list_any (λ g. same_keys g key) ks) each.0 ∙ unseen ks key rest

no_row : (keys : List ℕ) (key : List Value) (rows : List (List Value)) → list_any (λ g. same_keys g key) (map (keys_of keys) rows) ≡ false → members keys key rows ≡ []
no_row keys key [] e = refl
no_row keys key (row ∷ rows) e =
    let each = either_false (same_keys (keys_of keys row) key) (list_any (λ g. same_keys g key) (map (keys_of keys) rows)) e in
    ap (λ (b : Bool). cond b (row ∷ members keys key rows) (members keys key rows)) (same_back key (keys_of keys row) ∙ each.0) ∙ no_row keys key rows each.1

pub no_members : (keys : List ℕ) (rows : List (List Value)) (row : List Value) → list_any (λ g. same_keys g (keys_of keys row)) (group_keys keys rows) ≡ false → members keys (keys_of keys row) rows ≡ []
no_members [] rows row e = cc
no_members (k ∷ ks) rows row e = no_row (k ∷ ks) (keys_of (k ∷ ks) row) rows (unseen (map (keys_of (k ∷ ks)) rows) (keys_of (k ∷ ks) row) e)

-- the rows of a group after a row more
pub members_more : (keys : List ℕ) (group : List Value) (rows : List (List Value)) (row : List Value) → members keys group (rows ++ row ∷ []) ≡ members keys group rows ++ (if same_keys group (keys_of keys row) then row ∷ [] else [])
members_more keys group rows row = filter-append (λ r. same_keys group (keys_of keys r)) rows (row ∷ [])
