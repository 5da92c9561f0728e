-- Rows of a block that may be wanted, fewer after each column.
use Rattle.std.proofs.Common.{◌≡◌, ℕ, suc, ◌+◌, ◌*◌, ◌≤◌, ◌<◌, ◌++◌, Bool, true, false, cond, List, [], ◌∷◌, length, drop, get_or, replicate, set, nat_lt, refl, sym, ap, ◌∙◌, subst, arith}
use Rattle.std.specs.Prelude.{Option, Some, None, IfSome, IsSome, ◌==◌, ◌≢◌, nat_eq}
use Rattle.std.specs.List.{Any}
use Rattle.std.proofs.Math.ListN.{get_or-append}
use Rattle.std.proofs.Math.Seq.{get_or-append_seam}
use Rattle.std.proofs.lemmas.Bool.Decides.{nat_tests}
use Rattle.std.proofs.lemmas.List.Elements.{All-drop, All-take}
use Rattle.std.proofs.lemmas.List.{get_or-map, get_or-replicate, get_or-set_other, get_or-set_same, get_or_default, get_or_past, length-append, length-map, length-replicate}
use Rattle.common_laws.specs.Maps.{Contents}
use Rattle.catalog_types.specs.declared.catalogue.Container.{Container}
use Rattle.col_value.specs.declared.row.Asked.{Asked}
use Rattle.col_value.specs.declared.value.Value.{Value}
use Rattle.col_value.specs.declared.value.Value.TheVariants as value
use Rattle.ros_container.specs.Encodings.{Written}
use Rattle.ros_container.specs.Held.{HoldsContainer}
use Rattle.ros_container.specs.Rows.{column_values, epoch_values, stored_values, AreWide}
use Rattle.container_blocks.specs.Blocks.{AreBlock, rows_in}
use Rattle.wanted_rows.specs.Picked.{blank}
use Rattle.proj_store.specs.Candidates.{AreRead, HaveRows, IsUnwanted, Narrows, NarrowsBy, Stays, columns_in, row_of, values_in}

-- ---- a list that grows place by place

pub each_more : {X : Type 0} (f : ℕ → X) (out next : List X) (x d : X) (i : ℕ) → next ≡ out ++ x ∷ [] → length out ≡ i → x ≡ f i → ((j : ℕ) → j < length out → get_or out j d ≡ f j) → (j : ℕ) → j < length next → get_or next j d ≡ f j
each_more {X} f out next x d i is long one was j lt = ap (λ (xs : List X). get_or xs j d) is ∙ by (nat_lt j (length out)) refl
  where
    by : (b : Bool) → nat_lt j (length out) ≡ b → get_or (out ++ x ∷ []) j d ≡ f j
    by true e =
        let less : j < length out = grind (arith, nat_tests) in
        get_or-append out (x ∷ []) d j less ∙ was j less
    by false e =
        let past : length out ≤ j = grind (arith, nat_tests) in
        let at : length out ≡ j = omega (arith, past, lt, ap length is, length-append out (x ∷ [])) in
        let same : i ≡ j = omega (arith, at, long) in
        subst (λ (n : ℕ). get_or (out ++ x ∷ []) n d ≡ f j) at (get_or-append_seam out x [] d ∙ one ∙ ap f same)

pub long_more : {X : Type 0} (out next : List X) (x : X) (i : ℕ) → next ≡ out ++ x ∷ [] → length out ≡ i → length next ≡ i + 1
long_more out next x i is long = omega (arith, ap length is, length-append out (x ∷ []), long)

-- ---- row by row

-- rows from place i on are as they were, those before it are narrowed
pub record NarrowsUpto (column : ℕ) (vs : List Value) (need : Asked → ℕ) (i : ℕ) (old new : List Bool) : Type 0 where
  pub long : length new ≡ length old
  pub done : (j : ℕ) → j < i → j < length old → Stays column (get_or vs j value.Null) need (get_or old j false) (get_or new j false)
  pub rest : (j : ℕ) → i ≤ j → get_or new j false ≡ get_or old j false

-- ---- over the rows of a container

stays_only : (column : ℕ) (v : Value) (need : Asked → ℕ) (old new : Bool) → Stays column v need old new → new ≡ true → old ≡ true
stays_only column v need old true stays e = stays.only
stays_only column v need old false stays e = absurd (cc)

stays_gone : (column : ℕ) (v : Value) (need : Asked → ℕ) (old new : Bool) → Stays column v need old new → old ≡ true → new ≡ false → IsUnwanted column v need
stays_gone column v need old true stays was e = absurd (cc)
stays_gone column v need old false stays was e = stays.gone was

pub column_is : (columns i : ℕ) (rows : List Asked) → i < columns → stored_values columns i rows ≡ column_values i rows
column_is columns i rows lt =
    let other : (i == columns) ≡ false = grind (arith, nat_tests) in
    ap (λ (b : Bool). cond b (epoch_values rows) (column_values i rows)) other

pub block_values : (holds : Option Contents) (es : List Written) (k : Container) (b i : ℕ) (vs : List Value) → i < length es → AreBlock holds es k i b vs → (m : Contents) → holds ≡ Some m → (rows : List Asked) → HoldsContainer m es k rows
    → vs ≡ column_values i (rows_in b rows)
block_values holds es k b i vs lt are m told rows holding = are m told rows holding ∙ column_is (length es) i (rows_in b rows) lt

value_here : (i j : ℕ) (xs : List Asked) (vs : List Value) → vs ≡ column_values i xs → j < length vs → get_or (get_or xs j blank).row i value.Null ≡ get_or vs j value.Null
value_here i j xs vs is lt =
    let room : j < length xs = omega (arith, lt, ap length is, length-map xs (λ a. get_or a.row i value.Null)) in
    sym (ap (λ (ws : List Value). get_or ws j value.Null) is ∙ get_or-map (λ a. get_or a.row i value.Null) xs j blank value.Null room)

pub narrows_column : (holds : Option Contents) (es : List Written) (k : Container) (b i : ℕ) (vs : List Value) (need : Asked → ℕ) (old new : List Bool) → i < length es → length old ≡ length vs
    → NarrowsBy i vs need old new → AreBlock holds es k i b vs → Narrows holds es k b need old new
narrows_column holds es k b i vs need old new lt long each are = record {
  only = λ j here e. stays_only i (get_or vs j value.Null) need (get_or old j false) (get_or new j false) (each j here) e;
  gone = λ m told rows holding j here was e.
      let q = get_or (rows_in b rows) j blank in
      stays_gone i (get_or vs j value.Null) need (get_or old j false) (get_or new j false) (each j here) was e q
      (value_here i j (rows_in b rows) vs (block_values holds es k b i vs lt are m told rows holding) (omega (arith, here, long)));
}

pub narrows_none : (holds : Option Contents) (es : List Written) (k : Container) (b : ℕ) (need : Asked → ℕ) (alive : List Bool) → Narrows holds es k b need alive alive
narrows_none holds es k b need alive = record { only = λ j here e. e; gone = λ m told rows holding j here was e. absurd (cc) }

pub narrows_join : (holds now : Option Contents) (es : List Written) (k : Container) (b : ℕ) (need : Asked → ℕ) (old mid new : List Bool) → now ≡ holds → length mid ≡ length old → Narrows holds es k b need old mid → Narrows now es k b need mid new → Narrows holds es k b need old new
narrows_join holds now es k b need old mid new same long one two = record {
  only = λ j here e. one.only j here (two.only j (omega (arith, here, long)) e);
  gone = λ m told rows holding j here was e. by m told rows holding j here was e (get_or mid j false) refl;
}
  where
    by : (m : Contents) → holds ≡ Some m → (rows : List Asked) → HoldsContainer m es k rows → (j : ℕ) → j < length old → get_or old j false ≡ true → get_or new j false ≡ false → (a : Bool) → get_or mid j false ≡ a → need (get_or (rows_in b rows) j blank) ≡ 0
    by m told rows holding j here was e true is = two.gone m (same ∙ told) rows holding j (omega (arith, here, long)) is e
    by m told rows holding j here was e false is = one.gone m told rows holding j here was is

-- ---- the columns that are read so far

abbrev absent : Option (List Value)
absent = None

pub read_none : (holds : Option Contents) (es : List Written) (k : Container) (b n : ℕ) (columns : List (Option (List Value))) → columns ≡ replicate n None → AreRead holds es k b columns
read_none holds es k b n columns is i =
    subst (λ (cs : List (Option (List Value))). IfSome (get_or cs i None) (AreBlock holds es k i b)) (sym is)
    (subst (λ (o : Option (List Value)). IfSome o (AreBlock holds es k i b)) (sym (none_at n i)) tt)
  where
    none_at : (n i : ℕ) → get_or (replicate n absent) i None ≡ None
    none_at n i = by (nat_lt i n) refl
      where
        by : (b : Bool) → nat_lt i n ≡ b → get_or (replicate n absent) i None ≡ None
        by true e = let less : i < n = grind (arith, nat_tests) in get_or-replicate n i absent None less
        by false e = let past : n ≤ i = grind (arith, nat_tests) in get_or_past (replicate n absent) i absent (omega (arith, past, length-replicate n absent))

pub read_same : (holds now : Option Contents) (es : List Written) (k : Container) (b : ℕ) (columns : List (Option (List Value))) → now ≡ holds → AreRead now es k b columns → AreRead holds es k b columns
read_same holds now es k b columns same are = subst (λ (h : Option Contents). AreRead h es k b columns) same are

-- one column more
pub read_set : (holds now : Option Contents) (es : List Written) (k : Container) (b i : ℕ) (columns : List (Option (List Value))) (was new : Option (List Value)) → now ≡ holds → i < length columns → was ≡ get_or columns i None
    → (IfSome was (AreBlock now es k i b) → IfSome new (AreBlock now es k i b)) → AreRead holds es k b columns → AreRead holds es k b (set columns i new)
read_set holds now es k b i columns was new same lt is step are j = by (nat_eq j i) refl
  where
    by : (e : Bool) → nat_eq j i ≡ e → IfSome (get_or (set columns i new) j None) (AreBlock holds es k j b)
    by true e =
        let at : i ≡ j = grind (arith, nat_tests) in
        let before : IfSome was (AreBlock now es k i b) =
        subst (λ (o : Option (List Value)). IfSome o (AreBlock now es k i b)) (sym is) (subst (λ (h : Option Contents). IfSome (get_or columns i None) (AreBlock h es k i b)) (sym same) (are i)) in
        let after : IfSome new (AreBlock holds es k i b) = subst (λ (h : Option Contents). IfSome new (AreBlock h es k i b)) same (step before) in
        subst (λ (n : ℕ). IfSome (get_or (set columns i new) n None) (AreBlock holds es k n b)) at
        (subst (λ (o : Option (List Value)). IfSome o (AreBlock holds es k i b)) (sym (get_or-set_same columns i new None lt)) after)
    by false e =
        let other : j ≢ i = grind (arith, nat_tests) in
        subst (λ (o : Option (List Value)). IfSome o (AreBlock holds es k j b)) (sym (get_or-set_other columns i j new None other)) (are j)

pub there_set : (columns : List (Option (List Value))) (i : ℕ) (new : Option (List Value)) → i < length columns → IsSome new → ((j : ℕ) → j < i → IsSome (get_or columns j None)) → (j : ℕ) → j < i + 1 → IsSome (get_or (set columns i new) j None)
there_set columns i new lt some was j less = by (nat_eq j i) refl
  where
    by : (e : Bool) → nat_eq j i ≡ e → IsSome (get_or (set columns i new) j None)
    by true e =
        let at : i ≡ j = grind (arith, nat_tests) in
        subst (λ (n : ℕ). IsSome (get_or (set columns i new) n None)) at (subst (λ (o : Option (List Value)). IsSome o) (sym (get_or-set_same columns i new None lt)) some)
    by false e =
        let other : j ≢ i = grind (arith, nat_tests) in
        let before : j < i = grind (arith, nat_tests) in
        subst (λ (o : Option (List Value)). IsSome o) (sym (get_or-set_other columns i j new None other)) (was j before)

same_items : (xs ys : List Value) → length xs ≡ length ys → ((j : ℕ) → j < length xs → get_or xs j value.Null ≡ get_or ys j value.Null) → xs ≡ ys
same_items [] [] long each = refl
same_items [] (y ∷ ys) long each = absurd (omega (arith, long))
same_items (x ∷ xs) [] long each = absurd (omega (arith, long))
same_items (x ∷ xs) (y ∷ ys) long each =
    let first : x ≡ y = each 0 (omega arith) in
    let rest : xs ≡ ys = same_items xs ys (omega (arith, long)) (λ j lt. each (suc j) (omega (arith, lt))) in
    cc

wide_block : (n b : ℕ) (rows : List Asked) → AreWide n rows → AreWide n (rows_in b rows)
wide_block n b rows wide = All-take (λ (a : Asked). length a.row ≡ n) 1024 (drop (1024 * b) rows) (All-drop (λ (a : Asked). length a.row ≡ n) (1024 * b) rows wide)

pub rows_there : (holds : Option Contents) (es : List Written) (k : Container) (b : ℕ) (alive : List Bool) (columns : List (Option (List Value))) → length columns ≡ length es
    → ((m : Contents) → holds ≡ Some m → (rows : List Asked) → HoldsContainer m es k rows → length alive ≤ length (rows_in b rows)) → ((j : ℕ) → j < length columns → IsSome (get_or columns j None)) → AreRead holds es k b columns
    → HaveRows holds es k b alive (columns_in columns)
rows_there holds es k b alive columns many room there are m told rows holding i lt e =
    let xs = rows_in b rows in
    let in_rows : i < length xs = omega (arith, lt, room m told rows holding) in
    let a = get_or xs i blank in
    let each = columns_in columns in
    let as_many : length each ≡ length columns = length-map columns values_in in
    let long : length (row_of each i) ≡ length each = length-map each (λ c. get_or c i value.Null) in
    same_items (row_of each i) a.row (omega (arith, long, as_many, many, wide_block (length es) b rows holding.wide i blank in_rows))
    (λ j less.
    let in_each : j < length each = omega (arith, less, long) in
    let in_columns : j < length columns = omega (arith, in_each, as_many) in
    get_or-map (λ c. get_or c i value.Null) each j [] value.Null in_each
    ∙ ap (λ (c : List Value). get_or c i value.Null) (get_or-map values_in columns j None [] in_columns ∙ column_at j (omega (arith, in_columns, many)) (get_or columns j None) (there j in_columns) (are j))
    ∙ get_or-map (λ x. get_or x.row j value.Null) xs i blank value.Null in_rows)
  where
    column_at : (j : ℕ) → j < length es → (o : Option (List Value)) → IsSome o → IfSome o (AreBlock holds es k j b) → values_in o ≡ column_values j (rows_in b rows)
    column_at j own None some is = absurd (cc)
    column_at j own (Some vs) some is = block_values holds es k b j vs own is m told rows holding

pub rows_same : (holds now : Option Contents) (es : List Written) (k : Container) (b : ℕ) (alive : List Bool) (columns : List (List Value)) → now ≡ holds → HaveRows now es k b alive columns → HaveRows holds es k b alive columns
rows_same holds now es k b alive columns same have = subst (λ (h : Option Contents). HaveRows h es k b alive columns) same have

pub none_there : (holds : Option Contents) (es : List Written) (k : Container) (b : ℕ) (alive : List Bool) (columns : List (List Value)) → (Any (λ a. a ≡ true) alive → ⊥) → HaveRows holds es k b alive columns
none_there holds es k b alive columns none m told rows holding i lt e = absurd (none (i, true, lt, get_or_default alive i true false lt ∙ e, refl))
