-- What an epoch changed becomes pending, table by table, over a running store.
use Rattle.std.proofs.Common.{◌≡◌, ◌+◌, ◌-◌, ◌≤◌, ◌<◌, ◌++◌, ◌||◌, ℕ, zero, suc, Bool, true, false, cond, List, [], ◌∷◌, map, length, get_or, set, take, Some, None, refl, sym, ap, ◌∙◌, arith, subst}
use Rattle.std.specs.Prelude.{bytes_eq}
use Rattle.std.specs.List.{All, AllZip}
use Rattle.std.proofs.lemmas.Bool.Decides.{nat_tests}
use Rattle.std.proofs.lemmas.List.{take_more}
use Rattle.std.proofs.lemmas.List.Elements.{All-cons, All-head, All-nil, All-tail}
use Rattle.common_laws.specs.Bags.{SameBag}
use Rattle.common_laws.proofs.BagLaws.{bag_length}
use Rattle.col_disk.specs.declared.disk.Disk.{Ghosts}
use Rattle.col_value.specs.declared.row.Asked.{Asked}
use Rattle.col_value.specs.declared.value.Value.{Value}
use Rattle.col_value.specs.Order.{IsRow}
use Rattle.db_model.specs.Database.{Database, Table, table_named}
use Rattle.db_model.specs.Events.{change_of}
use Rattle.db_model.specs.Sound.{IsSound, IsSoundDatabase}
use Rattle.db_model.specs.State.{Changes, State}
use Rattle.sound_laws.proofs.Changes.{found_all, names_differ, NamesDiffer}
use Rattle.sound_laws.proofs.Created.{Differ}
use Rattle.txn_core.specs.Marking.{marked}
use Rattle.store_core.specs.Running.{Running, IsState}
use Rattle.store_core.specs.Sessions.{own_of, rows_given, with_marked, with_own}
use Rattle.catch_model.specs.Added.{deleted_in, inserted_in}
use Rattle.catch_laws.specs.Replay.{IsAt, Pends}
use Rattle.catch_laws.proofs.Pending.{pends_more, pends_none, pends_skip}
use Rattle.catch_tables.specs.Keyed.{Changed, delete_of, has_change_in, is_some_row, of_epoch, row_of, AreRows}
use Rattle.catch_tables.specs.declared.epochs.Keyed.{Keyed}
use Rattle.buddy_link.specs.Replaying.{all_pended, pended, IsOrderedOf}

-- the law of a store whose session is given changes
abbrev pub Given : {D : Type 0} → Ghosts D → D → Type 0
Given disk now = (r : Running) (state : State) (name : List ℕ) (rows : List (List Value)) (deletes : List Asked) → IsState disk r now state → IsSound (rows_given name rows deletes state) → IsState disk (with_marked name rows deletes r) now (rows_given name rows deletes state)

-- a state in which what an epoch changed in some tables is pending
pub record IsPended {D : Type 0} (disk : Ghosts D) (mark : ℕ) (start b : Database) (n : ℕ) (done : List Table) (r : Running) (now : D) : Type 0 where
  pub state : State
  pub here : IsState disk r now state
  pub pends : Pends mark start b n done state

no_row : (ks : List Keyed) → is_some_row ks ≡ false → length ks ≡ 0
no_row ks none = grind (arith, nat_tests)

empty_bag : {X Y : Type 0} (f : X → Y) (xs : List X) (ys : List Y) → length xs ≡ 0 → SameBag (map f xs) ys → ys ≡ []
empty_bag f [] [] none same = refl
empty_bag f [] (y ∷ ys) none same = let long = bag_length [] (y ∷ ys) same in absurd (cc)
empty_bag f (x ∷ xs) ys none same = absurd (cc)

neither : (a b : Bool) → (a || b) ≡ false → (a ≡ false) × (b ≡ false)
neither true b is = absurd (cc)
neither false b is = (refl, is)

one_pended : {D : Type 0} (disk : Ghosts D) (now : D) → Given disk now → (mark after n : ℕ) (start b : Database) (t : Table) (c : Changed) (done : List Table) (r : Running) → after ≤ n → IsSoundDatabase b → IsOrderedOf after t c → table_named t.name b.tables ≡ Some t → table_named t.name done ≡ None
    → IsPended disk mark start b n done r now → IsPended disk mark start b n (done ++ t ∷ []) (pended (n + 1) c r) now
one_pended disk now given mark after n start b t c done r le sound ordered there fresh was = by (has_change_in (n + 1) c) refl
  where
    inserts : SameBag (map row_of (of_epoch (n + 1) c.inserts)) (inserted_in (n + 1) t.rows)
    inserts = ordered.inserts (n + 1) (omega (arith, le))

    deletes : SameBag (map delete_of (of_epoch (n + 1) c.deletes)) (deleted_in (n + 1) t.rows)
    deletes = ordered.deletes (n + 1) (omega (arith, le))

    by : (x : Bool) → has_change_in (n + 1) c ≡ x → IsPended disk mark start b n (done ++ t ∷ []) (cond x (with_marked c.name (map row_of (of_epoch (n + 1) c.inserts)) (map delete_of (of_epoch (n + 1) c.deletes)) r) r) now
    by true is =
        let more = pends_more mark start b n done was.state t (map row_of (of_epoch (n + 1) c.inserts)) (map delete_of (of_epoch (n + 1) c.deletes)) was.here.sound sound was.pends there fresh inserts deletes in
        subst (λ (name : List ℕ). IsPended disk mark start b n (done ++ t ∷ []) (with_marked name (map row_of (of_epoch (n + 1) c.inserts)) (map delete_of (of_epoch (n + 1) c.deletes)) r) now) (sym ordered.name) (record {
          state = rows_given t.name (map row_of (of_epoch (n + 1) c.inserts)) (map delete_of (of_epoch (n + 1) c.deletes)) was.state;
          here = given r was.state t.name (map row_of (of_epoch (n + 1) c.inserts)) (map delete_of (of_epoch (n + 1) c.deletes)) was.here more.0;
          pends = more.1;
        })
    by false is =
        let (no_inserts, no_deletes) = neither (is_some_row (of_epoch (n + 1) c.inserts)) (is_some_row (of_epoch (n + 1) c.deletes)) is in
        record {
          state = was.state;
          here = was.here;
          pends = pends_skip mark start b n done was.state t was.pends fresh (empty_bag row_of (of_epoch (n + 1) c.inserts) (inserted_in (n + 1) t.rows) (no_row (of_epoch (n + 1) c.inserts) no_inserts) inserts)
              (empty_bag delete_of (of_epoch (n + 1) c.deletes) (deleted_in (n + 1) t.rows) (no_row (of_epoch (n + 1) c.deletes) no_deletes) deletes);
        }

-- a table isn't among those before it
not_before : (done : List Table) (t : Table) (ts : List Table) → NamesDiffer (done ++ t ∷ ts) → table_named t.name done ≡ None
not_before [] t ts names = refl
not_before (u ∷ done) t ts (here, more) =
    ap (λ (x : Bool). cond x (Some u) (table_named t.name done)) (in_front done here) ∙ not_before done t ts more
  where
    in_front : (us : List Table) → All (λ v. Differ u.name v.name) (us ++ t ∷ ts) → bytes_eq u.name t.name ≡ false
    in_front [] all = All-head (λ v. Differ u.name v.name) t ts all
    in_front (v ∷ us) all = in_front us (All-tail (λ w. Differ u.name w.name) v (us ++ t ∷ ts) all)

rest_pended : {D : Type 0} (disk : Ghosts D) (now : D) → Given disk now → (mark after n : ℕ) (start b : Database) (ts done : List Table) (cs : List Changed) (r : Running) → after ≤ n → IsSoundDatabase b → NamesDiffer (done ++ ts) → All (λ t. table_named t.name b.tables ≡ Some t) ts → AllZip (IsOrderedOf after) ts cs
    → IsPended disk mark start b n done r now → IsPended disk mark start b n (done ++ ts) (all_pended (n + 1) cs r) now
rest_pended disk now given mark after n start b [] done [] r le sound names there ordered was = subst (λ (us : List Table). IsPended disk mark start b n us r now) (sym (nothing done)) was
  where
    nothing : (us : List Table) → us ++ [] ≡ us
    nothing [] = refl
    nothing (u ∷ us) = ap (λ (vs : List Table). u ∷ vs) (nothing us)
rest_pended disk now given mark after n start b [] done (c ∷ cs) r le sound names there ordered was = absurd ordered
rest_pended disk now given mark after n start b (t ∷ ts) done [] r le sound names there ordered was = absurd ordered
rest_pended disk now given mark after n start b (t ∷ ts) done (c ∷ cs) r le sound names there (here, more) was =
    let joined : (done ++ t ∷ []) ++ ts ≡ done ++ t ∷ ts = joins done in
    subst (λ (us : List Table). IsPended disk mark start b n us (all_pended (n + 1) (c ∷ cs) r) now) joined
    (rest_pended disk now given mark after n start b ts (done ++ t ∷ []) cs (pended (n + 1) c r) le sound (subst NamesDiffer (sym joined) names) (All-tail (λ u. table_named u.name b.tables ≡ Some u) t ts there) more
    (one_pended disk now given mark after n start b t c done r le sound here (All-head (λ u. table_named u.name b.tables ≡ Some u) t ts there) (not_before done t ts names) was))
  where
    joins : (us : List Table) → (us ++ t ∷ []) ++ ts ≡ us ++ t ∷ ts
    joins [] = refl
    joins (u ∷ us) = ap (λ (vs : List Table). u ∷ vs) (joins us)

-- what an epoch changed in all tables is pending
pub whole_pended : {D : Type 0} (disk : Ghosts D) (now : D) → Given disk now → (mark after n : ℕ) (start b : Database) (cs : List Changed) (r : Running) (s : State) → after ≤ n → IsSoundDatabase b → AllZip (IsOrderedOf after) b.tables cs → IsState disk r now s → IsAt mark start b n s
    → IsPended disk mark start b n b.tables (all_pended (n + 1) cs r) now
whole_pended disk now given mark after n start b cs r s le sound ordered here at =
    rest_pended disk now given mark after n start b b.tables [] cs r le sound (names_differ b sound) (found_all b.tables (names_differ b sound)) ordered (record { state = s; here = here; pends = pends_none mark start b n s here.sound at })

-- ---- the other sessions are as they were

set_twice : {X : Type 0} (xs : List X) (k : ℕ) (x y : X) → set (set xs k x) k y ≡ set xs k y
set_twice [] zero x y = refl
set_twice [] (suc k) x y = refl
set_twice (z ∷ zs) zero x y = refl
set_twice (z ∷ zs) (suc k) x y = ap (λ ws. z ∷ ws) (set_twice zs k x y)

pub dropped_pended : (n : ℕ) (c : Changed) (r : Running) → with_own [] (pended n c r) ≡ with_own [] r
dropped_pended n c r = by (has_change_in n c)
  where
    by : (x : Bool) → with_own [] (cond x (with_marked c.name (map row_of (of_epoch n c.inserts)) (map delete_of (of_epoch n c.deletes)) r) r) ≡ with_own [] r
    by true = ap (λ (ss : List (List Changes)). record r { sessions = ss }) (set_twice r.sessions (r.current - 1) (change_of c.name (marked (map row_of (of_epoch n c.inserts)) (map delete_of (of_epoch n c.deletes))) (own_of r)) [])
    by false = refl

-- ---- one table more

folded : (n : ℕ) (tables : List Changed) (c : Changed) (r : Running) → all_pended n (tables ++ c ∷ []) r ≡ pended n c (all_pended n tables r)
folded n [] c r = refl
folded n (t ∷ tables) c r = folded n tables c (pended n t r)

pub pended_more : (n i : ℕ) (tables : List Changed) (c : Changed) (start mid new : Running) → i < length tables → c ≡ get_or tables i c → mid ≡ all_pended n (take i tables) start → new ≡ pended n c mid → new ≡ all_pended n (take (i + 1) tables) start
pended_more n i tables c start mid new lt at was is =
    is ∙ ap (pended n c) was ∙ sym (folded n (take i tables) c start) ∙ sym (ap (λ (cs : List Changed). all_pended n cs start) (take_more tables i c lt ∙ ap (λ (d : Changed). take i tables ++ d ∷ []) (sym at)))

pub dropped_more : (n : ℕ) (c : Changed) (start mid new : Running) → with_own [] mid ≡ with_own [] start → new ≡ pended n c mid → with_own [] new ≡ with_own [] start
dropped_more n c start mid new was is = ap (with_own []) is ∙ dropped_pended n c mid ∙ was

-- rows that are copied are rows of a table
pub rows_valid : (ks : List Keyed) (rows : List (List Value)) → rows ≡ map row_of ks → AreRows ks → All IsRow rows
rows_valid ks rows is valid = subst (λ (rs : List (List Value)). All IsRow rs) (sym is) (each ks valid)
  where
    each : (xs : List Keyed) → AreRows xs → All IsRow (map row_of xs)
    each [] all = All-nil IsRow
    each (x ∷ xs) all = All-cons IsRow (row_of x) (map row_of xs) (All-head (λ k. IsRow (row_of k)) x xs all) (each xs (All-tail (λ k. IsRow (row_of k)) x xs all))
