-- Changes that are alike to sound ones are sound.
use Rattle.std.proofs.Common.{◌≡◌, ℕ, ◌++◌, false, List, [], ◌∷◌, refl, sym, ap, ap₂, ◌∙◌, length, map}
use Rattle.std.specs.Prelude.{None, bytes_eq}
use Rattle.std.specs.List.{All, AllPairs}
use Rattle.std.proofs.lemmas.List.Elements.{All-head, All-tail, All-cons, All-nil}
use Rattle.std.proofs.lemmas.List.Kept.{AllPairs-cons}
use Rattle.std.proofs.lemmas.List.Sorted.{All-permutation}
use Rattle.common_laws.specs.Bags.{SameBag}
use Rattle.common_laws.proofs.BagLaws.{bag_append, bag_length, bag_map, bag_refl, bag_trans}
use Rattle.col_value.specs.declared.row.Asked.{Asked}
use Rattle.col_value.specs.declared.row.Stamped.{Stamped}
use Rattle.row_history.specs.History.{stamped, Within}
use Rattle.db_model.specs.Alike.{AreAlikeChanges}
use Rattle.db_model.specs.Database.{Database, table_named}
use Rattle.db_model.specs.Sound.{ChangesFit, IsSoundSession, RowFits}
use Rattle.db_model.specs.State.{Changes}
use Rattle.sound_laws.proofs.Pairs.{pairs_head, pairs_none, pairs_tail}
use Rattle.alike_laws.proofs.Changes.{Alike}
use Rattle.alike_laws.proofs.Permutes.{rows_permuted}

pub within_alike : (asked others : List Asked) (rows : List Stamped) → SameBag asked others → Within asked rows → Within others rows
within_alike asked others rows same (rest, bag) = (
  rest,
  bag_trans rows (map (stamped None) asked ++ rest) (map (stamped None) others ++ rest) bag
      (bag_append (map (stamped None) asked) rest (map (stamped None) others) rest (bag_map (stamped None) asked others same) (bag_refl rest)),
)

none_left : {X : Type 0} (xs : List X) → length xs ≡ 0 → xs ≡ []
none_left [] none = refl
none_left (x ∷ xs) none = absurd (cc)

fit_alike : (d : Database) (c e : Changes) → AreAlikeChanges c e → ChangesFit d c → ChangesFit d e
fit_alike d c e same fit = record {
  table = fit.table;
  there = ap (λ (n : List ℕ). table_named n d.tables) (sym same.table) ∙ fit.there;
  rows = All-permutation (RowFits fit.table.columns) c.rows e.rows (rows_permuted c.rows e.rows same.rows) fit.rows;
  deletes = within_alike c.deletes e.deletes fit.table.rows same.deletes fit.deletes;
  shared = λ is. none_left e.deletes (sym (bag_length c.deletes e.deletes same.deletes) ∙ ap (λ (xs : List Asked). length xs) (fit.shared (same.exclusive ∙ is)));
}

abbrev Apart : Changes → Changes → Type 0
Apart c e = bytes_eq c.table e.table ≡ false

apart_alike : (c e : Changes) (cs es : List Changes) → AreAlikeChanges c e → Alike cs es → All (Apart c) cs → All (Apart e) es
apart_alike c e [] [] same alike apart = All-nil (Apart e)
apart_alike c e [] (x ∷ es) same alike apart = absurd alike
apart_alike c e (x ∷ cs) [] same alike apart = absurd alike
apart_alike c e (x ∷ cs) (y ∷ es) same (here, more) apart =
    All-cons (Apart e) y es (ap₂ bytes_eq (sym same.table) (sym here.table) ∙ All-head (Apart c) x cs apart) (apart_alike c e cs es same more (All-tail (Apart c) x cs apart))

each_alike : (d : Database) (cs es : List Changes) → Alike cs es → All (ChangesFit d) cs → All (ChangesFit d) es
each_alike d [] [] alike fit = All-nil (ChangesFit d)
each_alike d [] (e ∷ es) alike fit = absurd alike
each_alike d (c ∷ cs) [] alike fit = absurd alike
each_alike d (c ∷ cs) (e ∷ es) (here, more) fit =
    All-cons (ChangesFit d) e es (fit_alike d c e here (All-head (ChangesFit d) c cs fit)) (each_alike d cs es more (All-tail (ChangesFit d) c cs fit))

once_alike : (cs es : List Changes) → Alike cs es → AllPairs Apart cs → AllPairs Apart es
once_alike [] [] alike once = pairs_none Apart
once_alike [] (e ∷ es) alike once = absurd alike
once_alike (c ∷ cs) [] alike once = absurd alike
once_alike (c ∷ cs) (e ∷ es) (here, more) once =
    AllPairs-cons Apart e es (apart_alike c e cs es here more (pairs_head Apart c cs once)) (once_alike cs es more (pairs_tail Apart c cs once))

pub session_alike : (d : Database) (cs es : List Changes) → Alike cs es → IsSoundSession d cs → IsSoundSession d es
session_alike d cs es alike sound = record { each = each_alike d cs es alike sound.each; once = once_alike cs es alike sound.once }
