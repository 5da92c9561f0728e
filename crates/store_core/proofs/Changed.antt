-- Rows that a DELETE and an UPDATE change, over a running store.
use Rattle.std.proofs.Common.{◌≡◌, ◌++◌, ℕ, Bool, true, false, cond, not, List, [], ◌∷◌, filter, refl, sym, ap, subst}
use Rattle.std.specs.Prelude.{bytes_eq}
use Rattle.common_laws.specs.Bags.{SameBag}
use Rattle.common_laws.proofs.BagLaws.{bag_append, bag_filter, bag_refl}
use Rattle.col_disk.specs.declared.disk.Disk.{Ghosts}
use Rattle.col_value.specs.declared.row.Asked.{Asked}
use Rattle.col_value.specs.declared.value.Value.{Value}
use Rattle.sql_bound.specs.declared.expr.Expr.{Expr}
use Rattle.sql_bound.specs.Outputs.{is_kept}
use Rattle.db_model.specs.Alike.{AreAlikeChanges}
use Rattle.db_model.specs.Database.{Table}
use Rattle.db_model.specs.Events.{change_of, marked_changes, rows_marked, untouched}
use Rattle.db_model.specs.Sound.{IsSound, IsSoundSession}
use Rattle.db_model.specs.State.{Changes, State, own_changes, pending_rows}
use Rattle.db_model.specs.Views.{committed_view}
use Rattle.state_laws.proofs.Events.{own_is_sound}
use Rattle.txn_core.specs.Marking.{marked}
use Rattle.row_matching.specs.Matching.{CanMatch, committed_matches}
use Rattle.alike_laws.proofs.Changes.{Alike, changes_turned, pending_alike}
use Rattle.alike_laws.proofs.Sound.{session_alike}
use Rattle.store_core.specs.Running.{Running, IsState}
use Rattle.store_core.specs.Sessions.{own_of, rows_given, with_marked}
use Rattle.store_core.proofs.Sessions.{changed, own_alike}

-- ---- what is looked at

pub can_match : {D : Type 0} (disk : Ghosts D) (r : Running) (now : D) (state : State) (changes : List Changes) → changes ≡ own_of r → IsState disk r now state → CanMatch disk r.seen now changes state.database
can_match disk r now state changes own here = record {
  stands = here.database;
  session =
      subst (IsSoundSession state.database) (sym own)
      (session_alike state.database (own_changes state) (own_of r) (changes_turned (own_of r) (own_changes state) (own_alike disk r now state here)) (own_is_sound state here.sound));
}

pub own_is_alike : {D : Type 0} (disk : Ghosts D) (r : Running) (now : D) (state : State) (changes : List Changes) → changes ≡ own_of r → IsState disk r now state → Alike changes (own_changes state)
own_is_alike disk r now state changes own here = subst (λ (cs : List Changes). Alike cs (own_changes state)) (sym own) (own_alike disk r now state here)

-- ---- what is changed

abbrev others : List Expr → List (List Value) → List (List Value)
others keep rows = filter (λ row. not (is_kept keep row)) rows

one_marked : (keep : List Expr) (seen deletes : List Asked) (rows news : List (List Value)) (c e : Changes) → AreAlikeChanges c e → SameBag rows (others keep e.rows ++ news) → SameBag deletes (filter (λ a. is_kept keep a.row) seen)
    → AreAlikeChanges (marked rows deletes c) (marked_changes keep seen news e)
one_marked keep seen deletes rows news c e same made gone = record {
  table = same.table;
  exclusive = refl;
  rows = made;
  deletes = bag_append c.deletes deletes e.deletes (filter (λ a. is_kept keep a.row) seen) same.deletes gone;
}

none_yet : (name : List ℕ) → AreAlikeChanges (untouched name) (untouched name)
none_yet name = record { table = refl; exclusive = refl; rows = bag_refl []; deletes = bag_refl [] }

all_marked : (keep : List Expr) (seen deletes : List Asked) (rows news : List (List Value)) (name : List ℕ) (cs es : List Changes) → Alike cs es → SameBag rows (others keep (pending_rows name es) ++ news) → SameBag deletes (filter (λ a. is_kept keep a.row) seen)
    → Alike (change_of name (marked rows deletes) cs) (change_of name (marked_changes keep seen news) es)
all_marked keep seen deletes rows news name [] [] alike made gone = (one_marked keep seen deletes rows news (untouched name) (untouched name) (none_yet name) made gone, tt)
all_marked keep seen deletes rows news name [] (e ∷ es) alike made gone = absurd alike
all_marked keep seen deletes rows news name (c ∷ cs) [] alike made gone = absurd alike
all_marked keep seen deletes rows news name (c ∷ cs) (e ∷ es) (here, more) made gone =
    by (bytes_eq c.table name) (bytes_eq e.table name) (ap (λ (n : List ℕ). bytes_eq n name) here.table) made
    (λ rest. all_marked keep seen deletes rows news name cs es more rest gone)
  where
    store : List Changes → List Changes
    store xs = change_of name (marked rows deletes) xs

    state : List Changes → List Changes
    state xs = change_of name (marked_changes keep seen news) xs

    by : (b d : Bool) → b ≡ d → SameBag rows (others keep (cond d e.rows (pending_rows name es)) ++ news) → (SameBag rows (others keep (pending_rows name es) ++ news) → Alike (store cs) (state es))
        → Alike (cond b (marked rows deletes c ∷ cs) (c ∷ store cs)) (cond d (marked_changes keep seen news e ∷ es) (e ∷ state es))
    by true true is own rest = (one_marked keep seen deletes rows news c e here own gone, more)
    by true false is own rest = absurd (cc)
    by false true is own rest = absurd (cc)
    by false false is own rest = (here, rest own)

pub marked_stands : {D : Type 0} (disk : Ghosts D) (r : Running) (now : D) (state : State) (keep : List Expr) (t : Table) (left made news : List (List Value)) (deletes : List Asked) → IsState disk r now state → left ≡ others keep (pending_rows t.name (own_of r)) → SameBag made news
    → SameBag deletes (committed_matches keep state.database.last (own_changes state) t) → IsSound (rows_marked keep news t state) → IsState disk (with_marked t.name (left ++ made) deletes r) now (rows_marked keep news t state)
marked_stands disk r now state keep t left made news deletes here left_is same gone sound =
    let own = own_alike disk r now state here in
    let seen = committed_view state.database.last (own_changes state) t in
    let rest : SameBag left (others keep (pending_rows t.name (own_changes state))) =
    subst (λ (xs : List (List Value)). SameBag xs (others keep (pending_rows t.name (own_changes state)))) (sym left_is)
    (bag_filter (λ row. not (is_kept keep row)) (pending_rows t.name (own_of r)) (pending_rows t.name (own_changes state)) (pending_alike t.name (own_of r) (own_changes state) own)) in
    changed disk r now state (change_of t.name (marked (left ++ made) deletes) (own_of r)) (change_of t.name (marked_changes keep seen news) (own_changes state))
    (all_marked keep seen deletes (left ++ made) news t.name (own_of r) (own_changes state) own (bag_append left made (others keep (pending_rows t.name (own_changes state))) news rest same) gone) here sound

-- ---- what is given

one_given : (rows : List (List Value)) (deletes : List Asked) (c e : Changes) → AreAlikeChanges c e → AreAlikeChanges (marked rows deletes c) (marked rows deletes e)
one_given rows deletes c e same = record {
  table = same.table;
  exclusive = refl;
  rows = bag_refl rows;
  deletes = bag_append c.deletes deletes e.deletes deletes same.deletes (bag_refl deletes);
}

all_given : (rows : List (List Value)) (deletes : List Asked) (name : List ℕ) (cs es : List Changes) → Alike cs es → Alike (change_of name (marked rows deletes) cs) (change_of name (marked rows deletes) es)
all_given rows deletes name [] [] alike = (one_given rows deletes (untouched name) (untouched name) (none_yet name), tt)
all_given rows deletes name [] (e ∷ es) alike = absurd alike
all_given rows deletes name (c ∷ cs) [] alike = absurd alike
all_given rows deletes name (c ∷ cs) (e ∷ es) (here, more) =
    by (bytes_eq c.table name) (bytes_eq e.table name) (ap (λ (n : List ℕ). bytes_eq n name) here.table) (all_given rows deletes name cs es more)
  where
    given : List Changes → List Changes
    given xs = change_of name (marked rows deletes) xs

    by : (b d : Bool) → b ≡ d → Alike (given cs) (given es) → Alike (cond b (marked rows deletes c ∷ cs) (c ∷ given cs)) (cond d (marked rows deletes e ∷ es) (e ∷ given es))
    by true true is rest = (one_given rows deletes c e here, more)
    by true false is rest = absurd (cc)
    by false true is rest = absurd (cc)
    by false false is rest = (here, rest)

pub given_stands : {D : Type 0} (disk : Ghosts D) (r : Running) (now : D) (state : State) (name : List ℕ) (rows : List (List Value)) (deletes : List Asked) → IsState disk r now state → IsSound (rows_given name rows deletes state)
    → IsState disk (with_marked name rows deletes r) now (rows_given name rows deletes state)
given_stands disk r now state name rows deletes here sound =
    changed disk r now state (change_of name (marked rows deletes) (own_of r)) (change_of name (marked rows deletes) (own_changes state))
    (all_given rows deletes name (own_of r) (own_changes state) (own_alike disk r now state here)) here sound
