-- Over alike changes the same statements are refused.
use Rattle.std.proofs.Common.{◌≡◌, ℕ, ◌-◌, ◌+◌, Bool, true, false, cond, List, [], ◌∷◌, refl, ap, ap₂, ◌∙◌, subst}
use Rattle.std.specs.Prelude.{Option, Some, is_some, option_map, find, bytes_eq, not, ◌==◌, ◌&&◌, ◌||◌, nat_le, slice_set, slice_index_or}
use Rattle.std.specs.List.{enumerate_from}
use Rattle.std.specs.Option.{option_map_or}
use Rattle.common_laws.proofs.BagLaws.{bag_length}
use Rattle.col_value.specs.declared.value.Value.{Value}
use Rattle.db_model.specs.Events.{rows_pending}
use Rattle.db_model.specs.Locks.{changes_on, excludes, holder}
use Rattle.db_model.specs.Refusals.{joining_limit, locked}
use Rattle.db_model.specs.Refusing.{commit_refusal, rows_limit}
use Rattle.db_model.specs.State.{Changes, State, own_changes, pending_rows, with_changes, with_rows}
use Rattle.sql_binding.specs.Firsts.{refused_where}
use Rattle.sql_tree.specs.declared.refusal.Refusal.{Refusal}
use Rattle.alike_laws.specs.Reordered.{AreAlikeSessions}
use Rattle.alike_laws.proofs.Changes.{Alike, changes_at, has_alike, pending_alike, rows_alike, set_alike}

-- ---- locks

held_alike : (name : List ℕ) (want : Bool) (cs es : List Changes) → Alike cs es → excludes name want cs ≡ excludes name want es
held_alike name want [] [] alike = refl
held_alike name want [] (e ∷ es) alike = absurd alike
held_alike name want (c ∷ cs) [] alike = absurd alike
held_alike name want (c ∷ cs) (e ∷ es) (here, more) = by (bytes_eq c.table name) (bytes_eq e.table name) (ap (λ (n : List ℕ). bytes_eq n name) here.table) (held_alike name want cs es more)
  where
    of : Option Changes → Bool
    of held = option_map_or (λ x. x.exclusive || want) held false

    by : (b d : Bool) → b ≡ d → excludes name want cs ≡ excludes name want es → of (cond b (Some c) (changes_on name cs)) ≡ of (cond d (Some e) (changes_on name es))
    by true true is rest = ap (λ (x : Bool). x || want) here.exclusive
    by true false is rest = absurd (cc)
    by false true is rest = absurd (cc)
    by false false is rest = rest

abbrev pub Numbered : Type 0
Numbered = ℕ × List Changes

abbrev keeps_from : ℕ → List ℕ → Bool → Numbered → Bool
keeps_from current name want e = not (e.0 == current) && excludes name want e.1

abbrev holder_of : Option Numbered → Option ℕ
holder_of found = option_map (λ e. e.0) found

-- what tells nothing of alike changes apart finds the same session
found_alike : (p : Numbered → Bool) → ((n : ℕ) (s o : List Changes) → Alike s o → p (n, s) ≡ p (n, o)) → (n : ℕ) (ss os : List (List Changes)) → AreAlikeSessions ss os
    → holder_of (find p (enumerate_from n ss)) ≡ holder_of (find p (enumerate_from n os))
found_alike p same n [] [] alike = refl
found_alike p same n [] (o ∷ os) alike = absurd alike
found_alike p same n (s ∷ ss) [] alike = absurd alike
found_alike p same n (s ∷ ss) (o ∷ os) (here, more) = by (p (n, s)) (p (n, o)) (same n s o here) (found_alike p same (n + 1) ss os more)
  where
    rest_of : List (List Changes) → Option Numbered
    rest_of xs = find p (enumerate_from (n + 1) xs)

    by : (b d : Bool) → b ≡ d → holder_of (rest_of ss) ≡ holder_of (rest_of os) → holder_of (cond b (Some (n, s)) (rest_of ss)) ≡ holder_of (cond d (Some (n, o)) (rest_of os))
    by true true is rest = refl
    by true false is rest = absurd (cc)
    by false true is rest = absurd (cc)
    by false false is rest = rest

pub locked_alike : (a b : State) (name : List ℕ) (want : Bool) → AreAlikeSessions a.sessions b.sessions → a.current ≡ b.current → locked a name want ≡ locked b name want
locked_alike a b name want alike current =
    ap (option_map Refusal.Locked)
    (found_alike (keeps_from a.current name want) (λ n s o here. ap (λ (held : Bool). not (n == a.current) && held) (held_alike name want s o here)) 1 a.sessions b.sessions alike)
    ∙ ap (λ (n : ℕ). option_map Refusal.Locked (holder_of (find (keeps_from n name want) (enumerate_from 1 b.sessions)))) current

holds_alike : (name : List ℕ) (cs es : List Changes) → Alike cs es → is_some (changes_on name cs) ≡ is_some (changes_on name es)
holds_alike name [] [] alike = refl
holds_alike name [] (e ∷ es) alike = absurd alike
holds_alike name (c ∷ cs) [] alike = absurd alike
holds_alike name (c ∷ cs) (e ∷ es) (here, more) = by (bytes_eq c.table name) (bytes_eq e.table name) (ap (λ (n : List ℕ). bytes_eq n name) here.table) (holds_alike name cs es more)
  where
    by : (b d : Bool) → b ≡ d → is_some (changes_on name cs) ≡ is_some (changes_on name es) → is_some (cond b (Some c) (changes_on name cs)) ≡ is_some (cond d (Some e) (changes_on name es))
    by true true is rest = refl
    by true false is rest = absurd (cc)
    by false true is rest = absurd (cc)
    by false false is rest = rest

pub holder_alike : (a b : State) (name : List ℕ) → AreAlikeSessions a.sessions b.sessions → holder a name ≡ holder b name
holder_alike a b name alike = found_alike (λ e. is_some (changes_on name e.1)) (λ n s o here. holds_alike name s o here) 1 a.sessions b.sessions alike

-- ---- the limit on rows

pub own_alike : (a b : State) → AreAlikeSessions a.sessions b.sessions → a.current ≡ b.current → Alike (own_changes a) (own_changes b)
own_alike a b alike current = subst (λ (n : ℕ). Alike (own_changes a) (slice_index_or b.sessions (n - 1) [])) current (changes_at a.sessions b.sessions (a.current - 1) alike)

pub joining_alike : (a b : State) (name : List ℕ) (more : ℕ) → AreAlikeSessions a.sessions b.sessions → a.current ≡ b.current → joining_limit a name more ≡ joining_limit b name more
joining_alike a b name more alike current =
    ap (λ (n : ℕ). rows_limit (n + more))
    (bag_length (pending_rows name (own_changes a)) (pending_rows name (own_changes b)) (pending_alike name (own_changes a) (own_changes b) (own_alike a b alike current)))

-- ---- commits

abbrev commits_by : ℕ → Bool → Option Refusal
commits_by last has = refused_where (has && nat_le 9223372036854775807 last) Refusal.EpochsSpent

pub commit_alike : (a b : State) → AreAlikeSessions a.sessions b.sessions → a.current ≡ b.current → a.database.last ≡ b.database.last → commit_refusal a ≡ commit_refusal b
commit_alike a b alike current last = ap₂ commits_by last (has_alike (own_changes a) (own_changes b) (own_alike a b alike current))

pub put_alike : (a b : State) (mine own : List Changes) → AreAlikeSessions a.sessions b.sessions → a.current ≡ b.current → Alike mine own → AreAlikeSessions (with_changes mine a).sessions (with_changes own b).sessions
put_alike a b mine own alike current same =
    subst (λ (n : ℕ). AreAlikeSessions (with_changes mine a).sessions (slice_set b.sessions (n - 1) own)) current (set_alike a.sessions b.sessions (a.current - 1) mine own alike same)

-- a COPY's rows join what is pending before they are committed
pub load_alike : (a b : State) (name : List ℕ) (rows : List (List Value)) → AreAlikeSessions a.sessions b.sessions → a.current ≡ b.current → a.database.last ≡ b.database.last
    → commit_refusal (rows_pending name rows a) ≡ commit_refusal (rows_pending name rows b)
load_alike a b name rows alike current last =
    commit_alike (rows_pending name rows a) (rows_pending name rows b)
    (put_alike a b (with_rows name rows (own_changes a)) (with_rows name rows (own_changes b)) alike current (rows_alike name rows (own_changes a) (own_changes b) (own_alike a b alike current)))
    current last
