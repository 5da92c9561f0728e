-- A set of names that were seen.
use Rattle.std.proofs.Common.{◌≡◌, ℕ, ◌+◌, ◌<◌, ◌||◌, ◌++◌, List, [], ◌∷◌, length, get_or, take, drop, Bool, true, false, cond, map, refl, sym, ◌∙◌, ap, subst}
use Rattle.std.specs.Prelude.{Option, Some, bytes_eq}
use Rattle.std.specs.List.{list_any}
use Rattle.std.specs.Ordering.{nat_cmp}
use Rattle.std.specs.Cmp.Lexicographic.{slice_cmp}
use Rattle.std.specs.BTreeSet.{BTreeSet}
use Rattle.std.specs.BTreeSet as sorted
use Rattle.std.proofs.lemmas.Map.Text.{is_eq-slice_cmp}
use Rattle.std.proofs.lemmas.List.{map-append, take_more, drop_more}
use Rattle.col_value.specs.declared.column.Column.{Column}
use Rattle.db_model.specs.Refusing.{repeated_behind}

-- the set has just the names of these columns
abbrev pub HasNames : BTreeSet (List ℕ) → List Column → Type 0
HasNames s cs = (q : List ℕ) → sorted.contains (slice_cmp nat_cmp) s q ≡ list_any (λ n. bytes_eq n q) (map (λ c. c.name) cs)

or_cond : (a b : Bool) → (a || b) ≡ cond a true b
or_cond true b = refl
or_cond false b = refl

last_of_more : (here last : Bool) (all front : Bool) → all ≡ cond last true front → (here || all) ≡ cond last true (here || front)
last_of_more true true all front is = refl
last_of_more true false all front is = refl
last_of_more false last all front is = is

last_name : (q : List ℕ) (cs : List Column) (c : Column)
    → list_any (λ n. bytes_eq n q) (map (λ c. c.name) (cs ++ c ∷ [])) ≡ cond (bytes_eq c.name q) true (list_any (λ n. bytes_eq n q) (map (λ c. c.name) cs))
last_name q [] c = or_cond (bytes_eq c.name q) false
last_name q (d ∷ cs) c =
    last_of_more (bytes_eq d.name q) (bytes_eq c.name q) (list_any (λ (n : List ℕ). bytes_eq n q) (map (λ (e : Column). e.name) (cs ++ c ∷ [])))
    (list_any (λ (n : List ℕ). bytes_eq n q) (map (λ (e : Column). e.name) cs)) (last_name q cs c)

one_more : (s n : BTreeSet (List ℕ)) (name : List ℕ) (cs : List Column) (c : Column)
    → name ≡ c.name → sorted.Updates (slice_cmp nat_cmp) s n name true → HasNames s cs → HasNames n (cs ++ c ∷ [])
one_more s n name cs c is updates had q =
    updates.0 q
    ∙ ap (λ (b : Bool). cond b true (sorted.contains (slice_cmp nat_cmp) s q)) (is_eq-slice_cmp name q)
    ∙ ap (λ (k : List ℕ). cond (bytes_eq k q) true (sorted.contains (slice_cmp nat_cmp) s q)) is
    ∙ ap (λ (b : Bool). cond (bytes_eq c.name q) true b) (had q)
    ∙ sym (last_name q cs c)

-- whether the set has the name of a column is whether it stands before
stands_before : (s : BTreeSet (List ℕ)) (name : List ℕ) (b : Bool) (cs : List Column) (c : Column)
    → HasNames s cs → name ≡ c.name → sorted.contains (slice_cmp nat_cmp) s name ≡ b → list_any (λ n. bytes_eq n c.name) (map (λ c. c.name) cs) ≡ b
stands_before s name b cs c had is there =
    sym (had c.name) ∙ ap (λ (k : List ℕ). sorted.contains (slice_cmp nat_cmp) s k) (sym is) ∙ there

found_before : (s : BTreeSet (List ℕ)) (name : List ℕ) (cs ds : List Column) (c : Column) (all : Option (List ℕ))
    → HasNames s cs → name ≡ c.name → sorted.contains (slice_cmp nat_cmp) s name ≡ true → repeated_behind (map (λ c. c.name) cs) (c ∷ ds) ≡ all → Some c.name ≡ all
found_before s name cs ds c all had is there rest =
    sym (ap (λ (b : Bool). cond b (Some c.name) (repeated_behind (map (λ (e : Column). e.name) cs ++ c.name ∷ []) ds)) (stands_before s name true cs c had is there)) ∙ rest

not_before : (s : BTreeSet (List ℕ)) (name : List ℕ) (cs ds : List Column) (c : Column) (all : Option (List ℕ))
    → HasNames s cs → name ≡ c.name → sorted.contains (slice_cmp nat_cmp) s name ≡ false → repeated_behind (map (λ c. c.name) cs) (c ∷ ds) ≡ all
    → repeated_behind (map (λ c. c.name) (cs ++ c ∷ [])) ds ≡ all
not_before s name cs ds c all had is there rest =
    ap (λ (before : List (List ℕ)). repeated_behind before ds) (map-append (λ (e : Column). e.name) cs (c ∷ []))
    ∙ sym (ap (λ (b : Bool). cond b (Some c.name) (repeated_behind (map (λ (e : Column). e.name) cs ++ c.name ∷ []) ds)) (stands_before s name false cs c had is there)) ∙ rest

split_at : (columns : List Column) (i : ℕ) (x : Column) → i < length columns → x ≡ get_or columns i x → drop i columns ≡ x ∷ drop (i + 1) columns
split_at columns i x fits is =
    drop_more columns i x fits ∙ ap (λ (y : Column). y ∷ drop (i + 1) columns) (sym is)

joined_at : (columns : List Column) (i : ℕ) (x : Column) → i < length columns → x ≡ get_or columns i x → take i columns ++ x ∷ [] ≡ take (i + 1) columns
joined_at columns i x fits is =
    ap (λ (y : Column). take i columns ++ y ∷ []) is ∙ sym (take_more columns i x fits)

-- the column at a place whose name stands before it
pub repeated_at : (s : BTreeSet (List ℕ)) (name : List ℕ) (columns : List Column) (i : ℕ) (x : Column) (all : Option (List ℕ))
    → i < length columns → x ≡ get_or columns i x → name ≡ x.name
    → HasNames s (take i columns) → repeated_behind (map (λ c. c.name) (take i columns)) (drop i columns) ≡ all
    → sorted.contains (slice_cmp nat_cmp) s name ≡ true → Some x.name ≡ all
repeated_at s name columns i x all fits is called had rest there =
    found_before s name (take i columns) (drop (i + 1) columns) x all had called there
    (subst (λ (cs : List Column). repeated_behind (map (λ (c : Column). c.name) (take i columns)) cs ≡ all) (split_at columns i x fits is) rest)

-- the column at a place whose name is new
pub rest_at : (s : BTreeSet (List ℕ)) (name : List ℕ) (columns : List Column) (i : ℕ) (x : Column) (all : Option (List ℕ))
    → i < length columns → x ≡ get_or columns i x → name ≡ x.name
    → HasNames s (take i columns) → repeated_behind (map (λ c. c.name) (take i columns)) (drop i columns) ≡ all
    → sorted.contains (slice_cmp nat_cmp) s name ≡ false → repeated_behind (map (λ c. c.name) (take (i + 1) columns)) (drop (i + 1) columns) ≡ all
rest_at s name columns i x all fits is called had rest there =
    subst (λ (cs : List Column). repeated_behind (map (λ (c : Column). c.name) cs) (drop (i + 1) columns) ≡ all) (joined_at columns i x fits is)
    (not_before s name (take i columns) (drop (i + 1) columns) x all had called there
    (subst (λ (cs : List Column). repeated_behind (map (λ (c : Column). c.name) (take i columns)) cs ≡ all) (split_at columns i x fits is) rest))

pub names_at : (s n : BTreeSet (List ℕ)) (name : List ℕ) (columns : List Column) (i : ℕ) (x : Column)
    → i < length columns → x ≡ get_or columns i x → name ≡ x.name
    → HasNames s (take i columns) → sorted.Updates (slice_cmp nat_cmp) s n name true → HasNames n (take (i + 1) columns)
names_at s n name columns i x fits is called had updates =
    subst (λ (cs : List Column). HasNames n cs) (joined_at columns i x fits is) (one_more s n name (take i columns) x called updates had)
