-- The symbols that carry values are good.
use Rattle.std.proofs.Common.{◌≡◌, ℕ, false, true, List, [], Some, codes, refl, arith}
use Rattle.col_value.specs.Days.{date_of, ten}
use Rattle.sql_words.specs.declared.token.Sign.{Sign}
use Rattle.sql_words.specs.Symbols.{Symbol}
use Rattle.sql_words.specs.Words.{key_in, key_of, piece_of}
use Rattle.sql_tree.specs.declared.statement.Function.{Function}
use Rattle.sql_tree.specs.declared.tree.Cmp.{Cmp}
use Rattle.sql_tree.specs.Phrases.{One, Says}
use Rattle.sql_tree.specs.Symbols.{IsDate, name_of, text_of, number_of, width_of, session_of, task_named, task_of, table_named, table_of, compares, cmp_of}
use Rattle.sql_phrases.specs.Readings.{one}
use Rattle.sql_phrases.specs.Dates.{day_in}
use Rattle.sql_phrases.specs.Classes.{in_set, name_classes, text_classes, number_classes, cmp_classes}
use Rattle.sql_phrases.proofs.Dates.{date_said, date_read}
use Rattle.sql_phrases.proofs.Goods.{Good, good_one, good_alike}

name_only : (u : Symbol) (w : List ℕ) → name_of u ≡ Some w → in_set name_classes u ≡ true
name_only (Symbol.Keyword k) w h = cc
name_only (Symbol.Name n) w h = refl
name_only (Symbol.Number n) w h = cc
name_only (Symbol.Text t) w h = cc
name_only (Symbol.Mark s) w h = cc
name_only (Symbol.Command b) w h = cc
name_only Symbol.Unknown w h = cc

pub good_name : Good (One name_of) (one name_of) name_classes false []
good_name = good_one name_of name_classes (Symbol.Name []) [] refl name_only

text_only : (u : Symbol) (w : List ℕ) → text_of u ≡ Some w → in_set text_classes u ≡ true
text_only (Symbol.Keyword k) w h = cc
text_only (Symbol.Name n) w h = cc
text_only (Symbol.Number n) w h = cc
text_only (Symbol.Text t) w h = refl
text_only (Symbol.Mark s) w h = cc
text_only (Symbol.Command b) w h = cc
text_only Symbol.Unknown w h = cc

pub good_text : Good (One text_of) (one text_of) text_classes false []
good_text = good_one text_of text_classes (Symbol.Text []) [] refl text_only

day_only : (u : Symbol) (w : ℕ) → day_in u ≡ Some w → in_set text_classes u ≡ true
day_only (Symbol.Keyword k) w h = cc
day_only (Symbol.Name n) w h = cc
day_only (Symbol.Number n) w h = cc
day_only (Symbol.Text t) w h = refl
day_only (Symbol.Mark s) w h = cc
day_only (Symbol.Command b) w h = cc
day_only Symbol.Unknown w h = cc

first_day : day_in (Symbol.Text (ten (date_of 1))) ≡ Some 1
first_day = date_read (Symbol.Text (ten (date_of 1))) 1 ((omega arith, omega arith), refl)

pub good_date : Good (Says IsDate) (one day_in) text_classes false []
good_date = good_alike (λ front n (t, e, h). (t, e, date_said t n h)) (λ front n (t, e, h). (t, e, date_read t n h)) (good_one day_in text_classes (Symbol.Text (ten (date_of 1))) 1 first_day day_only)

number_only : (u : Symbol) (w : ℕ) → number_of u ≡ Some w → in_set number_classes u ≡ true
number_only (Symbol.Keyword k) w h = cc
number_only (Symbol.Name n) w h = cc
number_only (Symbol.Number n) w h = refl
number_only (Symbol.Text t) w h = cc
number_only (Symbol.Mark s) w h = cc
number_only (Symbol.Command b) w h = cc
number_only Symbol.Unknown w h = cc

pub good_number : Good (One number_of) (one number_of) number_classes false []
good_number = good_one number_of number_classes (Symbol.Number 0) 0 refl number_only

width_only : (u : Symbol) (w : ℕ) → width_of u ≡ Some w → in_set number_classes u ≡ true
width_only (Symbol.Keyword k) w h = cc
width_only (Symbol.Name n) w h = cc
width_only (Symbol.Number n) w h = refl
width_only (Symbol.Text t) w h = cc
width_only (Symbol.Mark s) w h = cc
width_only (Symbol.Command b) w h = cc
width_only Symbol.Unknown w h = cc

pub good_width : Good (One width_of) (one width_of) number_classes false []
good_width = good_one width_of number_classes (Symbol.Number 1) 1 refl width_only

session_only : (u : Symbol) (w : ℕ) → session_of u ≡ Some w → in_set number_classes u ≡ true
session_only (Symbol.Keyword k) w h = cc
session_only (Symbol.Name n) w h = cc
session_only (Symbol.Number n) w h = refl
session_only (Symbol.Text t) w h = cc
session_only (Symbol.Mark s) w h = cc
session_only (Symbol.Command b) w h = cc
session_only Symbol.Unknown w h = cc

pub good_session : Good (One session_of) (one session_of) number_classes false []
good_session = good_one session_of number_classes (Symbol.Number 1) 1 refl session_only

task_only : (u : Symbol) (w : Function) → task_of u ≡ Some w → in_set text_classes u ≡ true
task_only (Symbol.Keyword k) w h = cc
task_only (Symbol.Name n) w h = cc
task_only (Symbol.Number n) w h = cc
task_only (Symbol.Text t) w h = refl
task_only (Symbol.Mark s) w h = cc
task_only (Symbol.Command b) w h = cc
task_only Symbol.Unknown w h = cc

some_task : task_named (codes "moveout") ≡ Some Function.Moveout
unfolding task_named
some_task = refl

pub good_task : Good (One task_of) (one task_of) text_classes false []
good_task = good_one task_of text_classes (Symbol.Text (codes "moveout")) Function.Moveout some_task task_only

table_only : (u : Symbol) (w : List ℕ) → table_of u ≡ Some w → in_set text_classes u ≡ true
table_only (Symbol.Keyword k) w h = cc
table_only (Symbol.Name n) w h = cc
table_only (Symbol.Number n) w h = cc
table_only (Symbol.Text t) w h = refl
table_only (Symbol.Mark s) w h = cc
table_only (Symbol.Command b) w h = cc
table_only Symbol.Unknown w h = cc

some_table : table_named (codes "t") ≡ Some (codes "t")
unfolding table_named piece_of key_of key_in
some_table = refl

pub good_table : Good (One table_of) (one table_of) text_classes false []
good_table = good_one table_of text_classes (Symbol.Text (codes "t")) (codes "t") some_table table_only

sign_compares : (s : Sign) (w : Cmp) → compares s ≡ Some w → in_set cmp_classes (Symbol.Mark s) ≡ true
sign_compares Sign.Open w h = cc
sign_compares Sign.Close w h = cc
sign_compares Sign.Comma w h = cc
sign_compares Sign.Dot w h = cc
sign_compares Sign.Star w h = cc
sign_compares Sign.Plus w h = cc
sign_compares Sign.Minus w h = cc
sign_compares Sign.Equal w h = refl
sign_compares Sign.NotEqual w h = refl
sign_compares Sign.Less w h = refl
sign_compares Sign.AtMost w h = refl
sign_compares Sign.Greater w h = refl
sign_compares Sign.AtLeast w h = refl

cmp_only : (u : Symbol) (w : Cmp) → cmp_of u ≡ Some w → in_set cmp_classes u ≡ true
cmp_only (Symbol.Keyword k) w h = cc
cmp_only (Symbol.Name n) w h = cc
cmp_only (Symbol.Number n) w h = cc
cmp_only (Symbol.Text t) w h = cc
cmp_only (Symbol.Mark s) w h = sign_compares s w h
cmp_only (Symbol.Command b) w h = cc
cmp_only Symbol.Unknown w h = cc

pub good_cmp : Good (One cmp_of) (one cmp_of) cmp_classes false []
good_cmp = good_one cmp_of cmp_classes (Symbol.Mark Sign.Equal) Cmp.Eq refl cmp_only
