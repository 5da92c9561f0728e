-- A session that is named is one of the eight.
use Rattle.std.proofs.Common.{◌≡◌, ℕ, ◌≤◌, inl, inr, List, Bool, true, false, cond, refl, sym, subst, arith}
use Rattle.std.specs.Prelude.{Option, Some, None, nat_le, ◌&&◌}
use Rattle.std.proofs.lemmas.Option.{same_Some}
use Rattle.sql_words.specs.Symbols.{Symbol}
use Rattle.sql_tree.specs.declared.statement.Statement.{Statement}
use Rattle.sql_tree.specs.Symbols.{kept, number_of}
use Rattle.sql_tree.specs.Spells.{Creates, Alters, Drops, Inserts, Deletes, Updates, Copies, Selects, SelectsAt, Explains, Sessions, Controls, Spells}

-- a session that is named has a number from 1 to 8
abbrev pub NamesASession : Statement → Type 0
NamesASession (Statement.Session n) = (1 ≤ n) × (n ≤ 8)
NamesASession s = Unit {0}

within : (m : ℕ) → (nat_le 1 m && nat_le m 8) ≡ true → (1 ≤ m) × (m ≤ 8)
within m is = (grind (arith, is), grind (arith, is))

kept_within : (o : Option ℕ) (n : ℕ) → kept (λ k. nat_le 1 k && nat_le k 8) o ≡ Some n → (1 ≤ n) × (n ≤ 8)
kept_within None n is = absurd (cc)
kept_within (Some m) n is = by (nat_le 1 m && nat_le m 8) refl is
  where
    by : (b : Bool) → (nat_le 1 m && nat_le m 8) ≡ b → cond b (Some m) None ≡ Some n → (1 ≤ n) × (n ≤ 8)
    by true in_range same = subst (λ (k : ℕ). (1 ≤ k) × (k ≤ 8)) (same_Some m n same) (within m in_range)
    by false none same = absurd (cc)

leaf : (s v : Statement) → s ≡ v → NamesASession v → NamesASession s
leaf s v same is = subst NamesASession (sym same) is

creates : (front : List Symbol) (s : Statement) → Creates front s → NamesASession s
creates front s (r, b, inl (r2, b2, (a, t, c, j, one, (a2, cs, c2, j2, two, (e, same))))) = leaf s _ same tt
creates front s (r, b, inr (r2, b2, (a, p, c, j, one, (a2, ps, c2, j2, two, (r3, b3, (r4, b4, (a3, ns, c3, j3, three, (r5, b5, (a4, t, c4, j4, four, (a5, o, c5, j5, five, (e, same))))))))))) = leaf s _ same tt

drops : (front : List Symbol) (s : Statement) → Drops front s → NamesASession s
drops front s (r, b, inl (r2, b2, (a, t, c, j, one, (e, same)))) = leaf s _ same tt
drops front s (r, b, inr (r2, b2, (a, t, c, j, one, (e, same)))) = leaf s _ same tt

inserts : (front : List Symbol) (s : Statement) → Inserts front s → NamesASession s
inserts front s (r, b, (r2, b2, (a, t, c, j, one, (r3, b3, (a2, rows, c2, j2, two, (e, same)))))) = leaf s _ same tt

alters : (front : List Symbol) (s : Statement) → Alters front s → NamesASession s
alters front s (r, b, (r2, b2, (a, t, c, j, one, (r3, b3, (r4, b4, (a2, column, c2, j2, two, (r5, b5, (a3, d, c3, j3, three, (e, same))))))))) = leaf s _ same tt

deletes : (front : List Symbol) (s : Statement) → Deletes front s → NamesASession s
deletes front s (r, b, (r2, b2, (a, t, c, j, one, (a2, w, c2, j2, two, (e, same))))) = leaf s _ same tt

updates : (front : List Symbol) (s : Statement) → Updates front s → NamesASession s
updates front s (r, b, (a, t, c, j, one, (r2, b2, (a2, ss, c2, j2, two, (a3, w, c3, j3, three, (e, same)))))) = leaf s _ same tt

copies : (front : List Symbol) (s : Statement) → Copies front s → NamesASession s
copies front s (r, b, (a, t, c, j, one, (r2, b2, (a2, f, c2, j2, two, (e, same))))) = leaf s _ same tt

selects : (front : List Symbol) (s : Statement) → Selects front s → NamesASession s
selects front s (r, b, inl (a, f, c, j, one, (e, same))) = leaf s _ same tt
selects front s (r, b, inr (a, q, c, j, one, (e, same))) = leaf s _ same tt

selects_at : (front : List Symbol) (s : Statement) → SelectsAt front s → NamesASession s
selects_at front s (r, b, (r2, b2, (a, at, c, j, one, (r3, b3, (a2, q, c2, j2, two, (e, same)))))) = leaf s _ same tt

explains : (front : List Symbol) (s : Statement) → Explains front s → NamesASession s
explains front s (r, b, (r2, b2, (a, q, c, j, one, (e, same)))) = leaf s _ same tt

sessions : (front : List Symbol) (s : Statement) → Sessions front s → NamesASession s
sessions front s (r, b, (a, n, c, j, (t, is, picked), (e, same))) = leaf s _ same (kept_within (number_of t) n picked)

controls : (front : List Symbol) (s : Statement) → Controls front s → NamesASession s
controls front s (inl (r, b, (e, same))) = leaf s _ same tt
controls front s (inr (inl (r, b, (e, same)))) = leaf s _ same tt
controls front s (inr (inr (inl session))) = sessions front s session
controls front s (inr (inr (inr (r, b, (e, same))))) = leaf s _ same tt

pub names_a_session : (front : List Symbol) (s : Statement) → Spells front s → NamesASession s
names_a_session front s (inl is) = creates front s is
names_a_session front s (inr (inl is)) = alters front s is
names_a_session front s (inr (inr (inl is))) = drops front s is
names_a_session front s (inr (inr (inr (inl is)))) = inserts front s is
names_a_session front s (inr (inr (inr (inr (inl is))))) = deletes front s is
names_a_session front s (inr (inr (inr (inr (inr (inl is)))))) = updates front s is
names_a_session front s (inr (inr (inr (inr (inr (inr (inl is))))))) = copies front s is
names_a_session front s (inr (inr (inr (inr (inr (inr (inr (inl is)))))))) = selects front s is
names_a_session front s (inr (inr (inr (inr (inr (inr (inr (inr (inl is))))))))) = selects_at front s is
names_a_session front s (inr (inr (inr (inr (inr (inr (inr (inr (inr (inl is)))))))))) = explains front s is
names_a_session front s (inr (inr (inr (inr (inr (inr (inr (inr (inr (inr is)))))))))) = controls front s is
