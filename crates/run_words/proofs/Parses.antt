-- What clap's answer says of the words.
use Rattle.std.proofs.Common.{arith, ◌≡◌, ◌==◌, suc, cond, Bool, true, false, length, List, [], ◌∷◌, Option, None, refl, sym, ap, subst, ◌∙◌, inl, inr}
use Rattle.std.proofs.lemmas.Bool.{eqb-true}
use Rattle.clap.specs.Kinds.{HasKind, Kinds}
use Rattle.clap.specs.Faults.{fault_of, is_simple_and_free}
use Rattle.clap.specs.Simple.{HasMatchesOf, matches_of}
use Rattle.clap.specs.Values.{kind_of}
use Rattle.clap.specs.Walk.{is_empty}
use Rattle.clap.specs.Words.{App, Text, found_of, rows_of}
use Rattle.clap.specs.declared.error.Error.{Error}
use Rattle.clap.specs.declared.error.kind.ErrorKind.TheVariants.{OutOfMemory}
use Rattle.clap.specs.declared.parser.matches.ArgMatches.{ArgMatches}
use Rattle.run_words.specs.Command.{vert}
use Rattle.run_words.specs.Words.{Wanted, asked_for, wanted}

told_for : (kinds : Kinds) (asked : Option Wanted) → kinds ≡ [] → cond (is_empty kinds) asked None ≡ asked
told_for kinds asked is = ap (λ (k : Kinds). cond (is_empty k) asked None) is

-- the matches are those of the words, and clap finds no fault
pub taken : (app : App) (words : List Text) (m : ArgMatches) → app ≡ vert → HasMatchesOf app words m → (is_simple_and_free app ≡ true → fault_of app words ≡ []) → asked_for (rows_of (found_of m)) ≡ wanted words
taken app words m is has none =
    let own = subst (λ (a : App). HasMatchesOf a words m) is has in
    let free = subst (λ (a : App). is_simple_and_free a ≡ true → fault_of a words ≡ []) is none in
    ap asked_for (own refl).0 ∙ sym (told_for (fault_of vert words) (asked_for (matches_of vert words)) (free refl))

refused_for : (kinds : Kinds) (asked : Option Wanted) (e : Error) → HasKind kinds e → (kind_of e ≡ OutOfMemory → ⊥) → cond (is_empty kinds) asked None ≡ None
refused_for [] asked e (inl short) other = absurd (other short)
refused_for [] asked e (inr never) other = absurd never
refused_for (k ∷ kinds) asked e has other = by (suc (length kinds) == 0) refl
  where
    by : (t : Bool) → (suc (length kinds) == 0) ≡ t → cond (suc (length kinds) == 0) asked None ≡ None
    by true is = let never : suc (length kinds) ≡ 0 = eqb-true _ 0 is in absurd (omega (arith, never))
    by false is = rw is refl

-- a fault that isn't want of memory is one of theirs
pub refused : (app : App) (words : List Text) (e : Error) → app ≡ vert → (is_simple_and_free app ≡ true → HasKind (fault_of app words) e) → (kind_of e ≡ OutOfMemory → ⊥) → wanted words ≡ None
refused app words e is has other =
    refused_for (fault_of vert words) (asked_for (matches_of vert words)) e (subst (λ (a : App). is_simple_and_free a ≡ true → HasKind (fault_of a words) e) is has refl) other
