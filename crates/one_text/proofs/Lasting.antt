-- How far the numbers rise in a script.
use Rattle.std.proofs.Common.{◌≡◌, ℕ, ◌≤◌, ◌<◌, ◌+◌, ◌*◌, Bool, true, false, cond, List, [], ◌∷◌, length, refl, sym, arith, subst, inl, inr}
use Rattle.std.specs.Prelude.{Option, Some, None, nat_lt, ◌==◌}
use Rattle.std.specs.Option.{option_map_or}
use Rattle.std.proofs.lemmas.Bool.Decides.{nat_tests}
use Rattle.sql_words.specs.Texts.{statement_texts}
use Rattle.sql_tree.specs.declared.refusal.Refusal.{Refusal}
use Rattle.sql_tree.specs.declared.statement.Delete.{Delete}
use Rattle.sql_tree.specs.declared.statement.Function.{Function}
use Rattle.sql_tree.specs.declared.statement.Statement.{Statement}
use Rattle.sql_tree.specs.declared.statement.Update.{Update}
use Rattle.db_model.specs.Database.{Shape, Table}
use Rattle.db_model.specs.Epochs.{last_good, rises}
use Rattle.db_model.specs.Events.{changes_committed, rows_deleted, rows_loaded, rows_pending, rows_updated}
use Rattle.db_model.specs.Leaving.{CallLeaves, CopyLeaves, MarkLeaves, RefusedCallLeaves, RefusedLeaves, StatementLeaves}
use Rattle.db_model.specs.Loading.{Files}
use Rattle.db_model.specs.Mover.{GoesOn, MayBegin, MoverSteps, MovesOrBegins, StepsOn, StepsUnless, first_behind}
use Rattle.db_model.specs.Numbers.{DrawsWithin, are_spent, most_drawn}
use Rattle.db_model.specs.Run.{EndsUnless, RunTexts, Setting}
use Rattle.db_model.specs.State.{State, committed, has_changes, own_changes, with_changes}
use Rattle.db_model.specs.Step.{Effect, RefusedTextLeaves, Step}
use Rattle.db_model.specs.Views.{table_found}
use Rattle.one_text.specs.Lasting.{ShortScriptsHaveOneText, NumbersLast}
use Rattle.one_text.proofs.OneScript.{passed, scripts_once}
use Rattle.one_text.proofs.OneStep.{OneList, OneReading}

-- ---- each step draws as an event may

at_most : (m n k : ℕ) → m ≡ n → m ≤ n + k
at_most m n k same = omega (arith, same)

at_least : (m n : ℕ) → m ≡ n → n ≤ m
at_least m n same = omega (arith, same)

still : (a x : State) → x.next ≡ a.next → x.parts ≡ a.parts → DrawsWithin a x
still a x next parts = record {
  from = at_least x.next a.next next;
  to = at_most x.next a.next (most_drawn a.parts) next;
  parts = at_most x.parts a.parts 2 parts;
}

-- what an event leaves that draws nothing
undrawn : (a x y : State) → x ≡ y → y.next ≡ a.next → y.parts ≡ a.parts → DrawsWithin a x
undrawn a x y is next parts = subst (λ (s : State). DrawsWithin a s) (sym is) (still a y next parts)

committed_still : (a : State) → DrawsWithin a (changes_committed a)
committed_still a = by (has_changes (own_changes a))
  where
    by : (b : Bool) → DrawsWithin a (with_changes [] (cond b (record a { database = committed (own_changes a) a.database }) a))
    by true = still a _ refl refl
    by false = still a _ refl refl

deleted_still : (d : Delete) (a : State) (found : Option (ℕ × Table)) → DrawsWithin a (option_map_or (rows_deleted d a) found a)
deleted_still d a None = still a _ refl refl
deleted_still d a (Some e) = still a _ refl refl

updated_still : (u : Update) (a : State) (found : Option (ℕ × Table)) → DrawsWithin a (option_map_or (rows_updated u a) found a)
updated_still u a None = still a _ refl refl
updated_still u a (Some e) = still a _ refl refl

-- of an event that leaves this
left_by : (a x y : State) → x ≡ y → DrawsWithin a y → DrawsWithin a x
left_by a x y is draws = subst (λ (s : State). DrawsWithin a s) (sym is) draws

copy_draws : (a : State) (found : Option (ℕ × Table)) (held : Option (List ℕ)) (x : State) → CopyLeaves a found held x → DrawsWithin a x
copy_draws a None held x leaves = absurd leaves
copy_draws a (Some e) None x leaves = absurd leaves
copy_draws a (Some e) (Some bytes) x (rows, loads, is) =
    let draws = committed_still (rows_pending e.1.name rows a) in
    left_by a x (rows_loaded e.1.name rows a) is (record { from = draws.from; to = draws.to; parts = draws.parts })

mark_draws : (b : Bool) (mark : ℕ) (a x : State) → MarkLeaves b mark a x → DrawsWithin a x
mark_draws true mark a x is = is.drawn
mark_draws false mark a x is = undrawn a x a is refl refl

call_draws : (a : State) (f : Function) (x : State) → CallLeaves a f x → DrawsWithin a x
call_draws a Function.Lge x is = undrawn a x a is refl refl
call_draws a Function.Ahm x is = undrawn a x a is refl refl
call_draws a Function.Current x is = undrawn a x a is refl refl
call_draws a Function.MakeAhmNow x is = mark_draws (rises (last_good a.database) a.database) (last_good a.database) a x is
call_draws a (Function.SetAhm m) x is = mark_draws (rises m a.database) m a x is
call_draws a Function.Moveout x is = is.drawn
call_draws a Function.Mergeout x is = is.drawn
call_draws a (Function.Purge table) x is = is.drawn
call_draws a (Function.Refresh table) x is = is.drawn
call_draws a Function.StartRefresh x is = undrawn a x _ is refl refl

goes_draws : (b : Bool) (a x : State) → GoesOn b a x → DrawsWithin a x
goes_draws true a x (made, installs, is) = is.drawn
goes_draws false a x is = undrawn a x _ is refl refl

begins_draws : (a x : State) → MayBegin a x → DrawsWithin a x
begins_draws a x (inl (none, is)) = undrawn a x a is refl refl
begins_draws a x (inr (steps, least, most, is)) = is.drawn

moves_draws : (o : Option Shape) (a x : State) → MovesOrBegins o a x → DrawsWithin a x
moves_draws (Some s) a x is = is.drawn
moves_draws None a x begins = begins_draws a x begins

on_draws : (b : Bool) (a x : State) → StepsOn b a x → DrawsWithin a x
on_draws true a x goes = goes_draws (a.busy == 1) a x goes
on_draws false a x moves = moves_draws (first_behind a.database) a x moves

unless_draws : (b : Bool) (a x : State) → StepsUnless b a x → DrawsWithin a x
unless_draws true a x is = undrawn a x a is refl refl
unless_draws false a x steps = on_draws (nat_lt 0 a.busy) a x steps

pub mover_draws : (a x : State) → MoverSteps a x → DrawsWithin a x
mover_draws a x steps = unless_draws (are_spent a) a x steps

left_draws : (a : State) (files : Files) (s : Statement) (x : State) → StatementLeaves a files s x → DrawsWithin a x
left_draws a files (Statement.CreateTable name columns) x is = is.drawn
left_draws a files (Statement.CreateProjection q) x is = is.drawn
left_draws a files (Statement.DropTable name) x is = is.drawn
left_draws a files (Statement.DropProjection name) x is = is.drawn
left_draws a files (Statement.Insert i) x is = undrawn a x _ is refl refl
left_draws a files (Statement.Delete d) x is = left_by a x _ is (deleted_still d a (table_found d.table a.database.tables))
left_draws a files (Statement.Update u) x is = left_by a x _ is (updated_still u a (table_found u.table a.database.tables))
left_draws a files (Statement.AddColumn c) x is = is.drawn
left_draws a files (Statement.Copy table file) x is = copy_draws a (table_found table a.database.tables) (files file) x is
left_draws a files Statement.Commit x is = left_by a x (changes_committed a) is (committed_still a)
left_draws a files Statement.Rollback x is = undrawn a x _ is refl refl
left_draws a files (Statement.Select at q) x is = undrawn a x a is refl refl
left_draws a files (Statement.Explain q) x is = undrawn a x a is refl refl
left_draws a files (Statement.Call f) x is = call_draws a f x is
left_draws a files (Statement.Session m) x is = undrawn a x _ is refl refl
left_draws a files Statement.Step x is = mover_draws a x is

refused_call_draws : (a : State) (f : Function) (x : State) → RefusedCallLeaves a f x → DrawsWithin a x
refused_call_draws a Function.Lge x is = undrawn a x a is refl refl
refused_call_draws a Function.Ahm x is = undrawn a x a is refl refl
refused_call_draws a Function.Current x is = undrawn a x a is refl refl
refused_call_draws a Function.MakeAhmNow x is = undrawn a x a is refl refl
refused_call_draws a (Function.SetAhm m) x is = undrawn a x a is refl refl
refused_call_draws a Function.Moveout x (inl is) = undrawn a x a is refl refl
refused_call_draws a Function.Moveout x (inr some) = some.drawn
refused_call_draws a Function.Mergeout x (inl is) = undrawn a x a is refl refl
refused_call_draws a Function.Mergeout x (inr some) = some.drawn
refused_call_draws a (Function.Purge table) x (inl is) = undrawn a x a is refl refl
refused_call_draws a (Function.Purge table) x (inr some) = some.drawn
refused_call_draws a (Function.Refresh table) x (inl is) = undrawn a x a is refl refl
refused_call_draws a (Function.Refresh table) x (inr some) = some.drawn
refused_call_draws a Function.StartRefresh x is = undrawn a x a is refl refl

refused_draws : (a : State) (s : Statement) (x : State) → RefusedLeaves a s x → DrawsWithin a x
refused_draws a (Statement.CreateTable name columns) x is = undrawn a x a is refl refl
refused_draws a (Statement.CreateProjection q) x is = undrawn a x a is refl refl
refused_draws a (Statement.DropTable name) x is = undrawn a x a is refl refl
refused_draws a (Statement.DropProjection name) x is = undrawn a x a is refl refl
refused_draws a (Statement.Insert i) x is = undrawn a x a is refl refl
refused_draws a (Statement.Delete d) x is = undrawn a x a is refl refl
refused_draws a (Statement.Update u) x is = undrawn a x a is refl refl
refused_draws a (Statement.AddColumn c) x is = undrawn a x a is refl refl
refused_draws a (Statement.Copy table file) x is = undrawn a x a is refl refl
refused_draws a Statement.Commit x is = undrawn a x a is refl refl
refused_draws a Statement.Rollback x is = undrawn a x a is refl refl
refused_draws a (Statement.Select at q) x is = undrawn a x a is refl refl
refused_draws a (Statement.Explain q) x is = undrawn a x a is refl refl
refused_draws a (Statement.Call f) x is = refused_call_draws a f x is
refused_draws a (Statement.Session m) x is = undrawn a x a is refl refl
refused_draws a Statement.Step x is = undrawn a x a is refl refl

text_draws : (a : State) (read : Option Statement) (x : State) → RefusedTextLeaves a read x → DrawsWithin a x
text_draws a None x is = undrawn a x a is refl refl
text_draws a (Some s) x is = refused_draws a s x is

effect_draws : (a : State) (files : Files) (read : Option Statement) (why : Option Refusal) (text : List ℕ) (x : State) → Effect a files read why text x → DrawsWithin a x
effect_draws a files read (Some refusal) text x (is, leaves) = text_draws a read x leaves
effect_draws a files (Some s) None text x (is, leaves) = left_draws a files s x leaves
effect_draws a files None None text x is = absurd is

pub step_draws : (serves : Statement → Bool) (a : State) (files : Files) (text printed : List ℕ) (why : Option Refusal) (x : State) → Step serves a files text printed why x → DrawsWithin a x
step_draws serves a files text printed why x step = effect_draws a files step.read why printed x step.effect

-- ---- how far they rise in so many

-- the numbers after so many events: while a projection has at most 10,240 containers, an event of n events before it draws at most
-- 2^22 * 10243 * (2 * n + 2051) numbers
record IsEarly (n : ℕ) (s : State) : Type 0 where
  pub parts : s.parts ≤ 2048 + 2 * n
  pub next : s.next ≤ 36028797018963968 + 42962255872 * (n * n + 2050 * n)

times : (a b c : ℕ) → a ≤ b → a * c ≤ b * c
times a b c le = grind (arith, le)

-- the square of the containers and three more
squared : (p n : ℕ) → p ≤ 2048 + 2 * n → n ≤ 4096 → (p + 3) * (p + 3) ≤ 10243 * (2 * n + 2051)
squared p n few early = over ((p + 3) * (p + 3)) (10243 * (p + 3)) (p + 3) (2 * n + 2051) (times (p + 3) 10243 (p + 3) (omega (arith, few, early))) refl (omega (arith, few))
  where
    over : (q r c d : ℕ) → q ≤ r → r ≡ 10243 * c → c ≤ d → q ≤ 10243 * d
    over q r c d le is more = omega (arith, le, is, more)

risen : (next old q n : ℕ) → next ≤ old + 4194304 * q → q ≤ 10243 * (2 * n + 2051) → old ≤ 36028797018963968 + 42962255872 * (n * n + 2050 * n) → next ≤ 36028797018963968 + 42962255872 * ((n + 1) * (n + 1) + 2050 * (n + 1))
risen next old q n upto most from = summed (n * n) ((n + 1) * (n + 1)) refl (spread n)
  where
    spread : (m : ℕ) → (m + 1) * (m + 1) ≡ m * m + 2 * m + 1
    spread m = grind arith

    summed : (s t : ℕ) → s ≡ n * n → t ≡ n * n + 2 * n + 1 → next ≤ 36028797018963968 + 42962255872 * (t + 2050 * (n + 1))
    summed s t is also = linear (n * n) t also from
      where
        linear : (r u : ℕ) → u ≡ r + 2 * n + 1 → old ≤ 36028797018963968 + 42962255872 * (r + 2050 * n) → next ≤ 36028797018963968 + 42962255872 * (u + 2050 * (n + 1))
        linear r u same before = omega (arith, same, before, upto, most)

later : (n : ℕ) (a x : State) → n ≤ 4096 → IsEarly n a → DrawsWithin a x → IsEarly (n + 1) x
later n a x early was draws =
    let few = was.parts in
    let more = draws.parts in
    record {
      parts = omega (arith, few, more);
      next = risen x.next a.next ((a.parts + 3) * (a.parts + 3)) n draws.to (squared a.parts n was.parts early) was.next;
    }

-- numbers are left then
unspent : (n : ℕ) (s : State) → n ≤ 4097 → IsEarly n s → are_spent s ≡ false
unspent n s early is = by (are_spent s) refl
  where
    square : n * n ≤ 4097 * 4097
    square = below (n * n) (4097 * n) (4097 * 4097) (times n 4097 n early) (omega (arith, early))
      where
        below : (a b c : ℕ) → a ≤ b → b ≤ c → a ≤ c
        below a b c first second = omega (arith, first, second)

    far : (q : ℕ) → q ≤ 16785409 → s.next ≤ 36028797018963968 + 42962255872 * (q + 2050 * n) → s.next < 1152921504606846976
    far q most upto = omega (arith, most, upto, early)

    by : (b : Bool) → are_spent s ≡ b → are_spent s ≡ false
    by true at = let lt = far (n * n) square is.next in absurd (grind (arith, nat_tests))
    by false at = at

texts_early : (setting : Setting) (texts : List (List ℕ)) (n : ℕ) (a : State) (printed : List ℕ) (refused : Bool) (x : State) → setting.steps ≡ 0 → length texts + n ≤ 4096 → IsEarly n a
    → RunTexts setting a texts printed refused x → (m : ℕ) × (m ≤ 4096) × IsEarly m x
texts_early setting [] n a printed refused x none few was (p_is, r_is, is) = (n, omega (arith, few), subst (λ (s : State). IsEarly n s) (sym is) was)
texts_early setting (text ∷ more) n a printed refused x none few was (first, why, mid, rest, behind, passes, ran, p_is, r_is) =
    let step = passed setting a text first why mid none passes in
    let draws = step_draws setting.serves a setting.files text first why mid step in
    texts_early setting more (n + 1) mid rest behind x none (omega (arith, few)) (later n a mid (omega (arith, few)) was draws) ran

ends_early : (halts : Bool) (n : ℕ) (a x : State) → n ≤ 4096 → IsEarly n a → EndsUnless halts a x → are_spent x ≡ false
ends_early true n a x few was is = unspent n x (omega (arith, few)) (subst (λ (s : State). IsEarly n s) (sym is) was)
ends_early false n a x few was (stopped, moves) =
    let drawn = moves.drawn in
    unspent (n + 1) x (omega (arith, few)) (later n a x few was (record { from = drawn.from; to = drawn.to; parts = drawn.parts }))

pub numbers_last : NumbersLast
numbers_last setting start script printed refused new none few fresh (mid, ran, ends) =
    let next = fresh.next in
    let parts = fresh.parts in
    let (m, most, early) = texts_early setting (statement_texts script) 0 start printed refused mid none (omega (arith, few)) (record { parts = omega (arith, parts); next = omega (arith, next) }) ran in
    ends_early setting.halts m mid new most early ends

pub short_scripts_once : OneReading → OneList → ShortScriptsHaveOneText
short_scripts_once reading list setting start begin script printed other refused also new left none few quiet fresh beginning same ran again =
    scripts_once reading list setting start begin script printed other refused also new left none quiet same ran again
    (numbers_last setting start script printed refused new none few fresh ran) (numbers_last setting begin script other also left none few beginning again)
