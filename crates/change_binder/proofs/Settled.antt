-- The columns that were set before a place, the last first.
use Rattle.std.proofs.Common.{◌≡◌, refl, sym, ap, ◌∙◌, ℕ, ◌+◌, ◌<◌, List, [], ◌∷◌, ◌++◌, length, get_or, take, drop, Bool, true, false, Some}
use Rattle.std.specs.Prelude.{◌||◌, ◌&&◌, bytes_eq}
use Rattle.std.specs.Cmp.Lexicographic.{pointwise}
use Rattle.std.specs.List.{list_any}
use Rattle.std.proofs.lemmas.List.{at_drop_more, take_more}
use Rattle.sql_tree.specs.declared.statement.Setting.{Setting}
use Rattle.sql_binding.specs.Firsts.{first_of, given_where}
use Rattle.sql_binding.specs.Changes.{set_twice_behind}
use Rattle.sql_binding.specs.Projections.{are_same_names, has_twice}

abbrev pub columns_before : List Setting → List (List ℕ) → List (List ℕ)
columns_before [] before = before
columns_before (s ∷ rest) before = columns_before rest (s.column ∷ before)

one_more : (settings : List Setting) (s : Setting) (before : List (List ℕ)) → columns_before (settings ++ s ∷ []) before ≡ s.column ∷ columns_before settings before
one_more [] s before = refl
one_more (t ∷ rest) s before = one_more rest s (t.column ∷ before)

turned : (a b c : Bool) → (a || (b || c)) ≡ ((b || a) || c)
turned true true c = refl
turned true false c = refl
turned false true c = refl
turned false false c = refl

any_before : (name : List ℕ) (settings : List Setting) (before : List (List ℕ))
    → list_any (λ n. bytes_eq n name) (columns_before settings before) ≡ (list_any (λ s. bytes_eq s.column name) settings || list_any (λ n. bytes_eq n name) before)
any_before name [] before = refl
any_before name (s ∷ rest) before =
    any_before name rest (s.column ∷ before)
    ∙ turned (list_any (λ (t : Setting). bytes_eq t.column name) rest) (bytes_eq s.column name) (list_any (λ (n : List ℕ). bytes_eq n name) before)

or_false : (a : Bool) → (a || false) ≡ a
or_false true = refl
or_false false = refl

-- at a place: set before, or what comes behind it
pub set_at : (settings : List Setting) (i : ℕ) (s : Setting) → i < length settings → s ≡ get_or settings i s
    → set_twice_behind (columns_before (take i settings) []) (drop i settings)
    ≡ first_of (given_where (list_any (λ t. bytes_eq t.column s.column) (take i settings)) s.column) (set_twice_behind (columns_before (take (i + 1) settings) []) (drop (i + 1) settings))
set_at settings i s h e =
    let before = columns_before (take i settings) [] in
    let rest = drop (i + 1) settings in
    at_drop_more (λ (ss : List Setting). set_twice_behind before ss) settings i s h
    ∙ (ap (λ (t : Setting). first_of (given_where (list_any (λ n. bytes_eq n t.column) before) t.column) (set_twice_behind (t.column ∷ before) rest)) (sym e)
    ∙ (ap (λ (b : Bool). first_of (given_where b s.column) (set_twice_behind (s.column ∷ before) rest)) (any_before s.column (take i settings) [] ∙ or_false (list_any (λ (t : Setting). bytes_eq t.column s.column) (take i settings)))
    ∙ ap (λ (b : List (List ℕ)). first_of (given_where (list_any (λ (t : Setting). bytes_eq t.column s.column) (take i settings)) s.column) (set_twice_behind b rest))
    (sym (ap (λ (ss : List Setting). columns_before ss []) (take_more settings i s h) ∙ (one_more (take i settings) (get_or settings i s) [] ∙ ap (λ (t : Setting). t.column ∷ before) (sym e))))))

-- a name at a place: behind it, or what comes behind it
pub twice_at : (names : List (List ℕ)) (i : ℕ) (n : List ℕ) → i < length names → n ≡ get_or names i n
    → has_twice (drop i names) ≡ (list_any (λ m. bytes_eq m n) (drop (i + 1) names) || has_twice (drop (i + 1) names))
twice_at names i n h e =
    at_drop_more (λ (ns : List (List ℕ)). has_twice ns) names i n h
    ∙ ap (λ (x : List ℕ). list_any (λ m. bytes_eq m x) (drop (i + 1) names) || has_twice (drop (i + 1) names)) (sym e)

-- two lists of names that are told apart name by name
pub same_names : (a b : List (List ℕ)) → are_same_names a b ≡ pointwise bytes_eq a b
same_names [] [] = refl
same_names [] (n ∷ ns) = refl
same_names (m ∷ ms) [] = refl
same_names (m ∷ ms) (n ∷ ns) = ap (λ (e : Bool). bytes_eq m n && e) (same_names ms ns)

-- a column that wasn't set before, and one that was
pub set_passed : (settings : List Setting) (i : ℕ) (s : Setting) → i < length settings → s ≡ get_or settings i s → list_any (λ t. bytes_eq t.column s.column) (take i settings) ≡ false
    → set_twice_behind (columns_before (take i settings) []) (drop i settings) ≡ set_twice_behind [] settings
    → set_twice_behind (columns_before (take (i + 1) settings) []) (drop (i + 1) settings) ≡ set_twice_behind [] settings
set_passed settings i s h e isnt before =
    sym (set_at settings i s h e
    ∙ ap (λ (b : Bool). first_of (given_where b s.column) (set_twice_behind (columns_before (take (i + 1) settings) []) (drop (i + 1) settings))) isnt) ∙ before

pub set_found : (settings : List Setting) (i : ℕ) (s : Setting) (name : List ℕ) → i < length settings → s ≡ get_or settings i s → list_any (λ t. bytes_eq t.column s.column) (take i settings) ≡ true
    → name ≡ s.column → set_twice_behind (columns_before (take i settings) []) (drop i settings) ≡ set_twice_behind [] settings
    → Some name ≡ set_twice_behind [] settings
set_found settings i s name h e was is before =
    ap (λ (n : List ℕ). Some n) is
    ∙ sym (set_at settings i s h e
    ∙ ap (λ (b : Bool). first_of (given_where b s.column) (set_twice_behind (columns_before (take (i + 1) settings) []) (drop (i + 1) settings))) was) ∙ before
