-- Alike changes, and what events make of them.
use Rattle.std.proofs.Common.{◌≡◌, ℕ, zero, suc, Bool, true, false, cond, List, [], ◌∷◌, map, filter, length, refl, sym, ap, ap₂, ◌∙◌}
use Rattle.std.specs.Prelude.{bytes_eq, not, ◌||◌, slice_set, slice_index_or}
use Rattle.std.specs.List.{AllZip}
use Rattle.common_laws.specs.Bags.{SameBag}
use Rattle.common_laws.proofs.BagLaws.{bag_append, bag_length, bag_refl, bag_sym}
use Rattle.col_value.specs.declared.value.Value.{Value}
use Rattle.db_model.specs.Alike.{AreAlikeChanges}
use Rattle.db_model.specs.Events.{change_of, is_not_named, untouched}
use Rattle.db_model.specs.State.{Changes, has_changes, is_empty, joined, pending_deletes, pending_rows, with_rows}
use Rattle.alike_laws.specs.Reordered.{AreAlikeSessions}

abbrev pub Alike : List Changes → List Changes → Type 0
Alike cs es = AllZip AreAlikeChanges cs es

-- ---- the same changes

pub change_itself : (c : Changes) → AreAlikeChanges c c
change_itself c = record { table = refl; exclusive = refl; rows = bag_refl c.rows; deletes = bag_refl c.deletes }

pub changes_themselves : (cs : List Changes) → Alike cs cs
changes_themselves [] = tt
changes_themselves (c ∷ cs) = (change_itself c, changes_themselves cs)

pub sessions_themselves : (sessions : List (List Changes)) → AreAlikeSessions sessions sessions
sessions_themselves [] = tt
sessions_themselves (cs ∷ sessions) = (changes_themselves cs, sessions_themselves sessions)

change_turned : (c e : Changes) → AreAlikeChanges c e → AreAlikeChanges e c
change_turned c e same = record { table = sym same.table; exclusive = sym same.exclusive; rows = bag_sym c.rows e.rows same.rows; deletes = bag_sym c.deletes e.deletes same.deletes }

pub changes_turned : (cs es : List Changes) → Alike cs es → Alike es cs
changes_turned [] [] alike = tt
changes_turned [] (e ∷ es) alike = absurd alike
changes_turned (c ∷ cs) [] alike = absurd alike
changes_turned (c ∷ cs) (e ∷ es) (here, more) = (change_turned c e here, changes_turned cs es more)

-- ---- what is pending

pub pending_alike : (name : List ℕ) (cs es : List Changes) → Alike cs es → SameBag (pending_rows name cs) (pending_rows name es)
pending_alike name [] [] alike = bag_refl []
pending_alike name [] (e ∷ es) alike = absurd alike
pending_alike name (c ∷ cs) [] alike = absurd alike
pending_alike name (c ∷ cs) (e ∷ es) (here, more) = by (bytes_eq c.table name) (bytes_eq e.table name) (ap (λ (n : List ℕ). bytes_eq n name) here.table) (pending_alike name cs es more)
  where
    by : (b d : Bool) → b ≡ d → SameBag (pending_rows name cs) (pending_rows name es) → SameBag (cond b c.rows (pending_rows name cs)) (cond d e.rows (pending_rows name es))
    by true true is rest = here.rows
    by true false is rest = absurd (cc)
    by false true is rest = absurd (cc)
    by false false is rest = rest

pub deletes_alike : (name : List ℕ) (cs es : List Changes) → Alike cs es → SameBag (pending_deletes name cs) (pending_deletes name es)
deletes_alike name [] [] alike = bag_refl []
deletes_alike name [] (e ∷ es) alike = absurd alike
deletes_alike name (c ∷ cs) [] alike = absurd alike
deletes_alike name (c ∷ cs) (e ∷ es) (here, more) = by (bytes_eq c.table name) (bytes_eq e.table name) (ap (λ (n : List ℕ). bytes_eq n name) here.table) (deletes_alike name cs es more)
  where
    by : (b d : Bool) → b ≡ d → SameBag (pending_deletes name cs) (pending_deletes name es) → SameBag (cond b c.deletes (pending_deletes name cs)) (cond d e.deletes (pending_deletes name es))
    by true true is rest = here.deletes
    by true false is rest = absurd (cc)
    by false true is rest = absurd (cc)
    by false false is rest = rest

-- ---- one session's

pub changes_at : (cs es : List (List Changes)) (i : ℕ) → AreAlikeSessions cs es → Alike (slice_index_or cs i []) (slice_index_or es i [])
changes_at [] [] i alike = tt
changes_at [] (e ∷ es) i alike = absurd alike
changes_at (c ∷ cs) [] i alike = absurd alike
changes_at (c ∷ cs) (e ∷ es) zero (here, more) = here
changes_at (c ∷ cs) (e ∷ es) (suc i) (here, more) = changes_at cs es i more

pub set_alike : (ss os : List (List Changes)) (i : ℕ) (mine own : List Changes) → AreAlikeSessions ss os → Alike mine own → AreAlikeSessions (slice_set ss i mine) (slice_set os i own)
set_alike [] [] zero mine own alike same = tt
set_alike [] [] (suc i) mine own alike same = tt
set_alike [] (o ∷ os) i mine own alike same = absurd alike
set_alike (s ∷ ss) [] i mine own alike same = absurd alike
set_alike (s ∷ ss) (o ∷ os) zero mine own (here, more) same = (same, more)
set_alike (s ∷ ss) (o ∷ os) (suc i) mine own (here, more) same = (here, set_alike ss os i mine own more same)

-- ---- what events make of them

joined_alike : (rows : List (List Value)) (c e : Changes) → AreAlikeChanges c e → AreAlikeChanges (joined c rows) (joined e rows)
joined_alike rows c e same = record { table = same.table; exclusive = same.exclusive; rows = bag_append c.rows rows e.rows rows same.rows (bag_refl rows); deletes = same.deletes }

pub rows_alike : (name : List ℕ) (rows : List (List Value)) (cs es : List Changes) → Alike cs es → Alike (with_rows name rows cs) (with_rows name rows es)
rows_alike name rows [] [] alike = (change_itself (record { table = name; exclusive = false; rows = rows; deletes = [] }), tt)
rows_alike name rows [] (e ∷ es) alike = absurd alike
rows_alike name rows (c ∷ cs) [] alike = absurd alike
rows_alike name rows (c ∷ cs) (e ∷ es) (here, more) = by (bytes_eq c.table name) (bytes_eq e.table name) (ap (λ (n : List ℕ). bytes_eq n name) here.table) (rows_alike name rows cs es more)
  where
    by : (b d : Bool) → b ≡ d → Alike (with_rows name rows cs) (with_rows name rows es) → Alike (cond b (joined c rows ∷ cs) (c ∷ with_rows name rows cs)) (cond d (joined e rows ∷ es) (e ∷ with_rows name rows es))
    by true true is rest = (joined_alike rows c e here, more)
    by true false is rest = absurd (cc)
    by false true is rest = absurd (cc)
    by false false is rest = (here, rest)

-- changes of one table changed, by two changes that keep what is alike
pub change_alike : (name : List ℕ) (f g : Changes → Changes) → ((c e : Changes) → AreAlikeChanges c e → AreAlikeChanges (f c) (g e)) → (cs es : List Changes) → Alike cs es → Alike (change_of name f cs) (change_of name g es)
change_alike name f g keeps [] [] alike = (keeps (untouched name) (untouched name) (change_itself (untouched name)), tt)
change_alike name f g keeps [] (e ∷ es) alike = absurd alike
change_alike name f g keeps (c ∷ cs) [] alike = absurd alike
change_alike name f g keeps (c ∷ cs) (e ∷ es) (here, more) = by (bytes_eq c.table name) (bytes_eq e.table name) (ap (λ (n : List ℕ). bytes_eq n name) here.table) (change_alike name f g keeps cs es more)
  where
    by : (b d : Bool) → b ≡ d → Alike (change_of name f cs) (change_of name g es) → Alike (cond b (f c ∷ cs) (c ∷ change_of name f cs)) (cond d (g e ∷ es) (e ∷ change_of name g es))
    by true true is rest = (keeps c e here, more)
    by true false is rest = absurd (cc)
    by false true is rest = absurd (cc)
    by false false is rest = (here, rest)

-- the changes of other tables
pub others_alike : (name : List ℕ) (cs es : List Changes) → Alike cs es → Alike (filter (λ c. is_not_named name c.table) cs) (filter (λ c. is_not_named name c.table) es)
others_alike name [] [] alike = tt
others_alike name [] (e ∷ es) alike = absurd alike
others_alike name (c ∷ cs) [] alike = absurd alike
others_alike name (c ∷ cs) (e ∷ es) (here, more) = by (is_not_named name c.table) (is_not_named name e.table) (ap (is_not_named name) here.table) (others_alike name cs es more)
  where
    others : List Changes → List Changes
    others xs = filter (λ x. is_not_named name x.table) xs

    by : (b d : Bool) → b ≡ d → Alike (others cs) (others es) → Alike (cond b (c ∷ others cs) (others cs)) (cond d (e ∷ others es) (others es))
    by true true is rest = (here, rest)
    by true false is rest = absurd (cc)
    by false true is rest = absurd (cc)
    by false false is rest = rest

-- no session has changes
abbrev pub none_of : List (List Changes) → List (List Changes)
none_of sessions = map (λ changes. []) sessions

pub none_alike : (ss os : List (List Changes)) → AreAlikeSessions ss os → none_of ss ≡ none_of os
none_alike [] [] alike = refl
none_alike [] (o ∷ os) alike = absurd alike
none_alike (s ∷ ss) [] alike = absurd alike
none_alike (s ∷ ss) (o ∷ os) (here, more) = ap (λ (xs : List (List Changes)). [] ∷ xs) (none_alike ss os more)

pub as_many : (ss os : List (List Changes)) → AreAlikeSessions ss os → length ss ≡ length os
as_many [] [] alike = refl
as_many [] (o ∷ os) alike = absurd alike
as_many (s ∷ ss) [] alike = absurd alike
as_many (s ∷ ss) (o ∷ os) (here, more) = ap suc (as_many ss os more)

-- ---- whether something is pending

empty_by_length : {X Y : Type 0} (xs : List X) (ys : List Y) → length xs ≡ length ys → is_empty xs ≡ is_empty ys
empty_by_length [] [] same = refl
empty_by_length [] (y ∷ ys) same = absurd (cc)
empty_by_length (x ∷ xs) [] same = absurd (cc)
empty_by_length (x ∷ xs) (y ∷ ys) same = refl

pub empty_alike : {X : Type 0} (xs ys : List X) → SameBag xs ys → is_empty xs ≡ is_empty ys
empty_alike xs ys same = empty_by_length xs ys (bag_length xs ys same)

abbrev either_some : Bool → Bool → Bool → Bool
either_some rows deletes more = (not rows || not deletes) || more

pub has_alike : (cs es : List Changes) → Alike cs es → has_changes cs ≡ has_changes es
has_alike [] [] alike = refl
has_alike [] (e ∷ es) alike = absurd alike
has_alike (c ∷ cs) [] alike = absurd alike
has_alike (c ∷ cs) (e ∷ es) (here, more) =
    ap₂ (λ (r d : Bool). either_some r d (has_changes cs)) (empty_alike c.rows e.rows here.rows) (empty_alike c.deletes e.deletes here.deletes)
    ∙ ap (either_some (is_empty e.rows) (is_empty e.deletes)) (has_alike cs es more)
