-- COMMIT and COPY over alike states: what is retained of the tables that a commit makes is one bag.
use Rattle.std.proofs.Common.{◌≡◌, ℕ, zero, suc, ◌+◌, ◌-◌, ◌<◌, ◌++◌, not, Bool, true, false, cond, List, [], ◌∷◌, map, filter, get_or, length, refl, sym, ap, ap₂, ◌∙◌, arith, subst}
use Rattle.std.specs.Prelude.{Some, None, bytes_eq, codes, count_by, slice_index_or, slice_set}
use Rattle.std.specs.List.{All, AllZip}
use Rattle.std.specs.Fmt.{decimal}
use Rattle.std.proofs.lemmas.List.Elements.{All-cons, All-head, All-nil, All-tail, filter-append}
use Rattle.common_laws.specs.Bags.{SameBag}
use Rattle.common_laws.proofs.BagLaws.{bag_map, bag_refl, count_append, count_cons}
use Rattle.col_value.specs.declared.row.Asked.{Asked}
use Rattle.col_value.specs.declared.row.Stamped.{Stamped}
use Rattle.col_value.specs.declared.value.Value.{Value}
use Rattle.row_history.specs.History.{inserted_at, is_retained, mark_all, retained, stamped, Within}
use Rattle.row_history.proofs.Histories.{bag_retained}
use Rattle.row_history.proofs.Taking.{mark_takes}
use Rattle.catalog_types.specs.Lists.{Pairwise}
use Rattle.db_model.specs.Alike.{AreAlikeChanges, AreAlikeStates, IsAlikeTable}
use Rattle.db_model.specs.Answers.{commit_line}
use Rattle.db_model.specs.Database.{Table}
use Rattle.db_model.specs.Events.{changes_committed, rows_pending}
use Rattle.db_model.specs.Printing.{commit_text, copy_text}
use Rattle.db_model.specs.Sound.{IsSound, IsSoundSession}
use Rattle.db_model.specs.State.{Changes, State, commit_changes, committed, has_changes, joined, own_changes, pending_deletes, pending_rows, with_changes, with_rows}
use Rattle.sound_laws.specs.Commits.{commit_table}
use Rattle.sound_laws.proofs.Changes as base
use Rattle.sound_laws.proofs.Created.{Differ}
use Rattle.alike_laws.proofs.Changes.{Alike, deletes_alike, has_alike}
use Rattle.alike_laws.proofs.Refused.{own_alike, put_alike}
use Rattle.alike_laws.specs.Reordered.{AreAlikeSessions}
use Rattle.alike_steps.proofs.Rows.{pending_bag}
use Rattle.alike_steps.proofs.Tables.{AreAlikeTables}

-- ---- a session's changes that can be committed

abbrev Once : List Changes → Type 0
Once cs = Pairwise (λ c e. Differ c.table e.table) cs

abbrev NamesDiffer : List Table → Type 0
NamesDiffer ts = Pairwise (λ t u. Differ t.name u.name) ts

abbrev LieWithin : List Changes → List Table → Type 0
LieWithin cs ts = All (λ t. Within (pending_deletes t.name cs) t.rows) ts

-- no two changes are of one table, no two tables have one name, and what is deleted lies within the rows of its table
pub record CanCommit (cs : List Changes) (ts : List Table) : Type 0 where
  once : Once cs
  names : NamesDiffer ts
  within : LieWithin cs ts

pub can_commit : (state : State) → IsSound state → CanCommit (own_changes state) state.database.tables
can_commit state sound =
    let eight = sound.eight in
    let first = sound.first in
    let last = sound.current in
    let session : IsSoundSession state.database (own_changes state) = sound.sessions (state.current - 1) [] (omega (arith, eight, first, last)) in
    record {
      once = base.pairs_wise (λ c e. Differ c.table e.table) (own_changes state) session.once;
      names = base.names_differ state.database sound.database;
      within = base.all_within state.database (own_changes state) state.database.tables (base.found_all state.database.tables (base.names_differ state.database sound.database)) session.each;
    }

-- ---- the same of alike changes and tables

gone_bag : (mark : ℕ) (cs es : List Changes) (t u : Table) → Alike cs es → IsAlikeTable mark t u → SameBag (pending_deletes t.name cs) (pending_deletes u.name es)
gone_bag mark cs es t u alike same = subst (λ (n : List ℕ). SameBag (pending_deletes t.name cs) (pending_deletes n es)) same.name (deletes_alike t.name cs es alike)

-- that names differ is a fact of the names
module _ {X : Type 0} (R : X → X → Type 0) (name : X → List ℕ) (same : (x y : X) → R x y → name x ≡ name y) where
  apart_zip : (m n : List ℕ) (xs ys : List X) → m ≡ n → AllZip R xs ys → All (λ x. Differ m (name x)) xs → All (λ y. Differ n (name y)) ys
  apart_zip m n [] [] is alike all = All-nil (λ y. Differ n (name y))
  apart_zip m n [] (y ∷ ys) is alike all = absurd alike
  apart_zip m n (x ∷ xs) [] is alike all = absurd alike
  apart_zip m n (x ∷ xs) (y ∷ ys) is (here, more) all =
      All-cons (λ z. Differ n (name z)) y ys (sym (ap₂ bytes_eq is (same x y here)) ∙ All-head (λ z. Differ m (name z)) x xs all) (apart_zip m n xs ys is more (All-tail (λ z. Differ m (name z)) x xs all))

  wise_zip : (xs ys : List X) → AllZip R xs ys → Pairwise (λ x z. Differ (name x) (name z)) xs → Pairwise (λ x z. Differ (name x) (name z)) ys
  wise_zip [] [] alike wise = tt
  wise_zip [] (y ∷ ys) alike wise = absurd alike
  wise_zip (x ∷ xs) [] alike wise = absurd alike
  wise_zip (x ∷ xs) (y ∷ ys) (here, more) (apart, wise) = (apart_zip (name x) (name y) xs ys (same x y here) more apart, wise_zip xs ys more wise)

kept_none : (mark : ℕ) (asked : List Asked) → retained mark (map (stamped None) asked) ≡ map (stamped None) asked
kept_none mark [] = refl
kept_none mark (a ∷ asked) = ap (λ (ss : List Stamped). stamped None a ∷ ss) (kept_none mark asked)

-- what passes a test and what doesn't are all
parted : {X : Type 0} (p : X → Bool) (xs : List X) → SameBag xs (filter p xs ++ filter (λ x. not (p x)) xs)
parted p [] = bag_refl []
parted {X} p (x ∷ xs) = by (p x) (parted p xs)
  where
    yes : List X
    yes = filter p xs

    nay : List X
    nay = filter (λ z. not (p z)) xs

    by : (b : Bool) → SameBag xs (yes ++ nay) → SameBag (x ∷ xs) (cond b (x ∷ yes) yes ++ cond (not b) (x ∷ nay) nay)
    by true same = record { counts = λ q. omega (arith, count_cons q x xs, count_cons q x (yes ++ nay), same.counts q) }
    by false same = record { counts = λ q. omega (arith, count_cons q x xs, count_append q yes (x ∷ nay), count_append q yes nay, count_cons q x nay, same.counts q) }

-- what lies within the rows of a table lies within the rows of an alike one
within_zip : (mark : ℕ) (gone out : List Asked) (rows others : List Stamped) → SameBag gone out → SameBag (retained mark rows) (retained mark others) → Within gone rows → Within out others
within_zip mark gone out rows others fewer same (rest, bag) =
    let was : List Asked → List Stamped = λ xs. map (stamped None) xs in
    let dead : List Stamped = filter (λ s. not (is_retained mark s)) others in
    let split : retained mark (was gone ++ rest) ≡ was gone ++ retained mark rest = filter-append (is_retained mark) (was gone) rest ∙ ap (λ (ss : List Stamped). ss ++ retained mark rest) (kept_none mark gone) in
    let kept : SameBag (retained mark rows) (was gone ++ retained mark rest) = subst (SameBag (retained mark rows)) split (bag_retained mark rows (was gone ++ rest) bag) in
    let here : SameBag (was gone) (was out) = bag_map (stamped None) gone out fewer in
    let all : SameBag others (retained mark others ++ dead) = parted (is_retained mark) others in (
      retained mark rest ++ dead,
      record {
        counts = λ q.
            omega (
              arith,
              all.counts q,
              count_append q (retained mark others) dead,
              same.counts q,
              kept.counts q,
              count_append q (was gone) (retained mark rest),
              here.counts q,
              count_append q (was out) (retained mark rest ++ dead),
              count_append q (retained mark rest) dead,
            );
      },
    )

lie_zip : (mark : ℕ) (cs es : List Changes) (ts us : List Table) → Alike cs es → AreAlikeTables mark ts us → LieWithin cs ts → LieWithin es us
lie_zip mark cs es [] [] alike same within = All-nil (λ u. Within (pending_deletes u.name es) u.rows)
lie_zip mark cs es [] (u ∷ us) alike same within = absurd same
lie_zip mark cs es (t ∷ ts) [] alike same within = absurd same
lie_zip mark cs es (t ∷ ts) (u ∷ us) alike (here, more) within =
    All-cons (λ v. Within (pending_deletes v.name es) v.rows) u us
    (within_zip mark (pending_deletes t.name cs) (pending_deletes u.name es) t.rows u.rows (gone_bag mark cs es t u alike here) here.rows (All-head (λ v. Within (pending_deletes v.name cs) v.rows) t ts within))
    (lie_zip mark cs es ts us alike more (All-tail (λ v. Within (pending_deletes v.name cs) v.rows) t ts within))

can_zip : (mark : ℕ) (cs es : List Changes) (ts us : List Table) → Alike cs es → AreAlikeTables mark ts us → CanCommit cs ts → CanCommit es us
can_zip mark cs es ts us alike same can = record {
  once = wise_zip AreAlikeChanges (λ c. c.table) (λ c e both. both.table) cs es alike can.once;
  names = wise_zip (IsAlikeTable mark) (λ t. t.name) (λ t u both. both.name) ts us same can.names;
  within = lie_zip mark cs es ts us alike same can.within;
}

-- ---- a commit

kept_joined : (mark : ℕ) (p : Stamped → Bool) (xs ys : List Stamped) → count_by p (retained mark (xs ++ ys)) ≡ count_by p (retained mark xs) + count_by p (retained mark ys)
kept_joined mark p xs ys = ap (λ (ss : List Stamped). count_by p ss) (filter-append (is_retained mark) xs ys) ∙ count_append p (retained mark xs) (retained mark ys)

-- of alike rows the same are marked
marked_bag : (mark epoch : ℕ) (gone out : List Asked) (rows others : List Stamped) → SameBag gone out → SameBag (retained mark rows) (retained mark others) → Within gone rows → Within out others
    → SameBag (retained mark (mark_all epoch gone rows)) (retained mark (mark_all epoch out others))
marked_bag mark epoch gone out rows others fewer same within also =
    let was : List Asked → List Stamped = λ xs. map (stamped None) xs in
    let now : List Asked → List Stamped = λ xs. map (stamped (Some epoch)) xs in
    let left : List Stamped = mark_all epoch gone rows in
    let beside : List Stamped = mark_all epoch out others in
    let one : SameBag (retained mark (now gone ++ rows)) (retained mark (was gone ++ left)) = bag_retained mark (now gone ++ rows) (was gone ++ left) (mark_takes epoch gone rows within) in
    let two : SameBag (retained mark (now out ++ others)) (retained mark (was out ++ beside)) = bag_retained mark (now out ++ others) (was out ++ beside) (mark_takes epoch out others also) in
    let before : SameBag (retained mark (was gone)) (retained mark (was out)) = bag_retained mark (was gone) (was out) (bag_map (stamped None) gone out fewer) in
    let after : SameBag (retained mark (now gone)) (retained mark (now out)) = bag_retained mark (now gone) (now out) (bag_map (stamped (Some epoch)) gone out fewer) in
    record {
      counts = λ p.
          omega (
            arith,
            one.counts p,
            two.counts p,
            before.counts p,
            after.counts p,
            same.counts p,
            kept_joined mark p (now gone) rows,
            kept_joined mark p (was gone) left,
            kept_joined mark p (now out) others,
            kept_joined mark p (was out) beside,
          );
    }

table_zip : (mark epoch : ℕ) (cs es : List Changes) (t u : Table) → Alike cs es → IsAlikeTable mark t u → Within (pending_deletes t.name cs) t.rows → Within (pending_deletes u.name es) u.rows
    → IsAlikeTable mark (commit_table epoch cs t) (commit_table epoch es u)
table_zip mark epoch cs es t u alike same within also =
    let new : List (List Value) → List Stamped = λ rows. map (inserted_at epoch) rows in
    let marked : SameBag (retained mark (mark_all epoch (pending_deletes t.name cs) t.rows)) (retained mark (mark_all epoch (pending_deletes u.name es) u.rows)) =
    marked_bag mark epoch (pending_deletes t.name cs) (pending_deletes u.name es) t.rows u.rows (gone_bag mark cs es t u alike same) same.rows within also in
    let inserted : SameBag (retained mark (new (pending_rows t.name cs))) (retained mark (new (pending_rows u.name es))) =
    bag_retained mark (new (pending_rows t.name cs)) (new (pending_rows u.name es)) (bag_map (inserted_at epoch) (pending_rows t.name cs) (pending_rows u.name es) (pending_bag mark cs es t u alike same)) in
    record {
      name = same.name;
      columns = same.columns;
      shapes = same.shapes;
      rows = record {
        counts = λ p.
            omega (
              arith,
              marked.counts p,
              inserted.counts p,
              kept_joined mark p (mark_all epoch (pending_deletes t.name cs) t.rows) (new (pending_rows t.name cs)),
              kept_joined mark p (mark_all epoch (pending_deletes u.name es) u.rows) (new (pending_rows u.name es)),
            );
      };
    }

tables_zip : (mark epoch : ℕ) (cs es : List Changes) (ts us : List Table) → Alike cs es → AreAlikeTables mark ts us → LieWithin cs ts → LieWithin es us → AreAlikeTables mark (map (commit_table epoch cs) ts) (map (commit_table epoch es) us)
tables_zip mark epoch cs es [] [] alike same within also = tt
tables_zip mark epoch cs es [] (u ∷ us) alike same within also = absurd same
tables_zip mark epoch cs es (t ∷ ts) [] alike same within also = absurd same
tables_zip mark epoch cs es (t ∷ ts) (u ∷ us) alike (here, more) within also = (
  table_zip mark epoch cs es t u alike here (All-head (λ v. Within (pending_deletes v.name cs) v.rows) t ts within) (All-head (λ v. Within (pending_deletes v.name es) v.rows) u us also),
  tables_zip mark epoch cs es ts us alike more (All-tail (λ v. Within (pending_deletes v.name cs) v.rows) t ts within) (All-tail (λ v. Within (pending_deletes v.name es) v.rows) u us also),
)

-- alike changes, committed, make alike tables of alike ones
commit_zip : (mark epoch other : ℕ) (cs es : List Changes) (ts us : List Table) → epoch ≡ other → Alike cs es → AreAlikeTables mark ts us → CanCommit cs ts → AreAlikeTables mark (commit_changes epoch cs ts) (commit_changes other es us)
commit_zip mark epoch other cs es ts us is alike same can =
    let also : CanCommit es us = can_zip mark cs es ts us alike same can in
    subst (λ (xs : List Table). AreAlikeTables mark xs (commit_changes other es us)) (sym (base.all_committed epoch cs ts can.once can.names))
    (subst (λ (xs : List Table). AreAlikeTables mark (map (commit_table epoch cs) ts) xs) (sym (base.all_committed other es us also.once also.names))
    (subst (λ (n : ℕ). AreAlikeTables mark (map (commit_table epoch cs) ts) (map (commit_table n es) us)) is (tables_zip mark epoch cs es ts us alike same can.within also.within)))

pub committed_zip : (a b : State) → AreAlikeStates a b → CanCommit (own_changes a) a.database.tables → AreAlikeStates (changes_committed a) (changes_committed b)
committed_zip a b alike can = by (has_changes (own_changes a)) (has_changes (own_changes b)) (has_alike (own_changes a) (own_changes b) own)
  where
    own : Alike (own_changes a) (own_changes b)
    own = own_alike a b alike.sessions alike.current

    none : AreAlikeSessions (with_changes [] a).sessions (with_changes [] b).sessions
    none = put_alike a b [] [] alike.sessions alike.current tt

    by : (x y : Bool) → x ≡ y → AreAlikeStates (with_changes [] (cond x (record a { database = committed (own_changes a) a.database }) a)) (with_changes [] (cond y (record b { database = committed (own_changes b) b.database }) b))
    by true true is = record {
      database = record {
        last = ap (λ (n : ℕ). n + 1) alike.database.last;
        ahm = alike.database.ahm;
        tables =
            commit_zip a.database.ahm (a.database.last + 1) (b.database.last + 1) (own_changes a) (own_changes b) a.database.tables b.database.tables (ap (λ (n : ℕ). n + 1) alike.database.last) own
            alike.database.tables can;
      };
      sessions = none;
      current = alike.current;
      asked = alike.asked;
    }
    by true false is = absurd (cc)
    by false true is = absurd (cc)
    by false false is = record { database = alike.database; sessions = none; current = alike.current; asked = alike.asked }

-- what a COMMIT prints
pub commit_texts : (a b : State) → AreAlikeStates a b → commit_text a ≡ commit_text b
commit_texts a b alike =
    ap₂ (λ (x : Bool) (n : ℕ). cond x (commit_line (n + 1)) (codes "COMMIT\n")) (has_alike (own_changes a) (own_changes b) (own_alike a b alike.sessions alike.current)) alike.database.last

pub copy_texts : (a b : State) (count : ℕ) → AreAlikeStates a b → copy_text a count ≡ copy_text b count
copy_texts a b count alike =
    ap₂ (λ (x : Bool) (n : ℕ). codes "COPY " ++ (decimal count ++ cond x (codes " EPOCH " ++ (decimal (n + 1) ++ codes "\n")) (codes "\n")))
    (has_alike (own_changes a) (own_changes b) (own_alike a b alike.sessions alike.current)) alike.database.last

-- ---- rows that join what is pending, and are committed

still_gone : (n name : List ℕ) (rows : List (List Value)) (cs : List Changes) → pending_deletes n cs ≡ pending_deletes n (with_rows name rows cs)
still_gone n name rows [] = by (bytes_eq name n)
  where
    none : List Asked
    none = []

    by : (b : Bool) → none ≡ cond b none none
    by true = refl
    by false = refl
still_gone n name rows (c ∷ cs) = by (bytes_eq c.table name) (still_gone n name rows cs)
  where
    by : (b : Bool) → pending_deletes n cs ≡ pending_deletes n (with_rows name rows cs) → pending_deletes n (c ∷ cs) ≡ pending_deletes n (cond b (joined c rows ∷ cs) (c ∷ with_rows name rows cs))
    by true rest = refl
    by false rest = ap (cond (bytes_eq c.table n) c.deletes) rest

apart_joined : (n name : List ℕ) (rows : List (List Value)) (cs : List Changes) → Differ n name → All (λ c. Differ n c.table) cs → All (λ c. Differ n c.table) (with_rows name rows cs)
apart_joined n name rows [] off all = All-cons (λ c. Differ n c.table) (record { table = name; exclusive = false; rows = rows; deletes = [] }) [] off (All-nil (λ c. Differ n c.table))
apart_joined n name rows (c ∷ cs) off all = by (bytes_eq c.table name) (apart_joined n name rows cs off (All-tail (λ x. Differ n x.table) c cs all))
  where
    first : Differ n c.table
    first = All-head (λ x. Differ n x.table) c cs all

    by : (b : Bool) → All (λ x. Differ n x.table) (with_rows name rows cs) → All (λ x. Differ n x.table) (cond b (joined c rows ∷ cs) (c ∷ with_rows name rows cs))
    by true rest = All-cons (λ x. Differ n x.table) (joined c rows) cs first (All-tail (λ x. Differ n x.table) c cs all)
    by false rest = All-cons (λ x. Differ n x.table) c (with_rows name rows cs) first rest

once_joined : (name : List ℕ) (rows : List (List Value)) (cs : List Changes) → Once cs → Once (with_rows name rows cs)
once_joined name rows [] once = (All-nil (λ c. Differ name c.table), tt)
once_joined name rows (c ∷ cs) (apart, once) = by (bytes_eq c.table name) refl (once_joined name rows cs once)
  where
    by : (b : Bool) → bytes_eq c.table name ≡ b → Once (with_rows name rows cs) → Once (cond b (joined c rows ∷ cs) (c ∷ with_rows name rows cs))
    by true is rest = (apart, once)
    by false is rest = (apart_joined c.table name rows cs is apart, rest)

lie_joined : (name : List ℕ) (rows : List (List Value)) (cs : List Changes) (ts : List Table) → LieWithin cs ts → LieWithin (with_rows name rows cs) ts
lie_joined name rows cs ts within = λ k t lt. subst (λ (gone : List Asked). Within gone (get_or ts k t).rows) (still_gone (get_or ts k t).name name rows cs) (within k t lt)

pub can_join : (name : List ℕ) (rows : List (List Value)) (cs : List Changes) (ts : List Table) → CanCommit cs ts → CanCommit (with_rows name rows cs) ts
can_join name rows cs ts can = record { once = once_joined name rows cs can.once; names = can.names; within = lie_joined name rows cs ts can.within }

set_there : (sessions : List (List Changes)) (i : ℕ) (changes : List Changes) → i < length sessions → slice_index_or (slice_set sessions i changes) i [] ≡ changes
set_there [] i changes lt = absurd (omega (arith, lt))
set_there (s ∷ sessions) zero changes lt = refl
set_there (s ∷ sessions) (suc i) changes lt = set_there sessions i changes (omega (arith, lt))

pub can_load : (state : State) (name : List ℕ) (rows : List (List Value)) → IsSound state → CanCommit (own_changes (rows_pending name rows state)) (rows_pending name rows state).database.tables
can_load state name rows sound =
    let eight = sound.eight in
    let first = sound.first in
    let last = sound.current in
    subst (λ (cs : List Changes). CanCommit cs state.database.tables) (sym (set_there state.sessions (state.current - 1) (with_rows name rows (own_changes state)) (omega (arith, eight, first, last))))
    (can_join name rows (own_changes state) state.database.tables (can_commit state sound))
