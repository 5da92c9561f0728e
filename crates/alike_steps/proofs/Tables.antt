-- Alike tables: what is found by a name, which names are taken, and where a table is put.
use Rattle.std.proofs.Common.{◌≡◌, ◌+◌, ◌++◌, ℕ, Bool, true, false, cond, List, [], ◌∷◌, length, refl, ap, ap₂}
use Rattle.std.specs.Prelude.{bytes_eq, ◌||◌}
use Rattle.std.specs.List.{AllZip, enumerate_from, list_any}
use Rattle.std.specs.Ordering.{is_lt, nat_cmp}
use Rattle.std.specs.Cmp.Lexicographic.{slice_cmp}
use Rattle.std.proofs.lemmas.List.Elements.{length_all_zip}
use Rattle.db_model.specs.Alike.{IsAlikeTable}
use Rattle.db_model.specs.Database.{Shape, Table, is_taken, put_table}
use Rattle.db_model.specs.Epochs.{all_shapes}
use Rattle.db_model.specs.Refusals.{owner}
use Rattle.db_model.specs.State.{change_named}
use Rattle.db_model.specs.Views.{columns_found, table_found}
use Rattle.alike_steps.proofs.Zipped.{BothThere, any_zip, both_mapped, found_zip}

abbrev pub AreAlikeTables : ℕ → List Table → List Table → Type 0
AreAlikeTables mark ts us = AllZip (IsAlikeTable mark) ts us

-- tables found at one place
pub record AreAlikeFound (mark : ℕ) (e f : ℕ × Table) : Type 0 where
  pub place : e.0 ≡ f.0
  pub table : IsAlikeTable mark e.1 f.1

numbered_zip : (mark n : ℕ) (ts us : List Table) → AreAlikeTables mark ts us → AllZip (AreAlikeFound mark) (enumerate_from n ts) (enumerate_from n us)
numbered_zip mark n [] [] alike = tt
numbered_zip mark n [] (u ∷ us) alike = absurd alike
numbered_zip mark n (t ∷ ts) [] alike = absurd alike
numbered_zip mark n (t ∷ ts) (u ∷ us) (here, more) = (record { place = refl; table = here }, numbered_zip mark (n + 1) ts us more)

pub found_both : (mark : ℕ) (name : List ℕ) (ts us : List Table) → AreAlikeTables mark ts us → BothThere (AreAlikeFound mark) (table_found name ts) (table_found name us)
found_both mark name ts us alike =
    found_zip (AreAlikeFound mark) (λ e. bytes_eq e.1.name name) (λ e. bytes_eq e.1.name name) (λ e f both. ap (λ (n : List ℕ). bytes_eq n name) both.table.name) (enumerate_from 0 ts) (enumerate_from 0 us)
    (numbered_zip mark 0 ts us alike)

pub columns_same : (mark : ℕ) (name : List ℕ) (ts us : List Table) → AreAlikeTables mark ts us → columns_found ts name ≡ columns_found us name
columns_same mark name ts us alike = both_mapped (AreAlikeFound mark) (λ e. e.1.columns) (λ e. e.1.columns) (λ e f both. both.table.columns) (table_found name ts) (table_found name us) (found_both mark name ts us alike)

abbrev has_name : List ℕ → List ℕ → List Shape → Bool
has_name name own shapes = bytes_eq own name || list_any (λ s. bytes_eq s.name name) shapes

pub taken_same : (mark : ℕ) (name : List ℕ) (ts us : List Table) → AreAlikeTables mark ts us → is_taken name ts ≡ is_taken name us
taken_same mark name ts us alike =
    any_zip (IsAlikeTable mark) (λ t. bytes_eq t.name name || list_any (λ s. bytes_eq s.name name) t.shapes) (λ t. bytes_eq t.name name || list_any (λ s. bytes_eq s.name name) t.shapes)
    (λ t u same. ap₂ (has_name name) same.name same.shapes) ts us alike

pub as_many : (mark : ℕ) (ts us : List Table) → AreAlikeTables mark ts us → length ts ≡ length us
as_many mark ts us alike = length_all_zip (IsAlikeTable mark) ts us alike

pub shapes_same : (mark : ℕ) (ts us : List Table) → AreAlikeTables mark ts us → all_shapes ts ≡ all_shapes us
shapes_same mark [] [] alike = refl
shapes_same mark [] (u ∷ us) alike = absurd alike
shapes_same mark (t ∷ ts) [] alike = absurd alike
shapes_same mark (t ∷ ts) (u ∷ us) (here, more) = ap₂ (λ (s os : List Shape). s ++ os) here.shapes (shapes_same mark ts us more)

pub owner_both : (mark : ℕ) (name : List ℕ) (ts us : List Table) → AreAlikeTables mark ts us → BothThere (IsAlikeTable mark) (owner name ts) (owner name us)
owner_both mark name ts us alike =
    found_zip (IsAlikeTable mark) (λ t. list_any (λ s. bytes_eq s.name name) t.shapes) (λ t. list_any (λ s. bytes_eq s.name name) t.shapes)
    (λ t u same. ap (list_any (λ (s : Shape). bytes_eq s.name name)) same.shapes) ts us alike

-- ---- tables that are put in their places, and changed

pub put_zip : (mark : ℕ) (t u : Table) (ts us : List Table) → IsAlikeTable mark t u → AreAlikeTables mark ts us → AreAlikeTables mark (put_table t ts) (put_table u us)
put_zip mark t u [] [] new alike = (new, tt)
put_zip mark t u [] (y ∷ us) new alike = absurd alike
put_zip mark t u (x ∷ ts) [] new alike = absurd alike
put_zip mark t u (x ∷ ts) (y ∷ us) new (here, more) =
    by (is_lt (slice_cmp nat_cmp t.name x.name)) (is_lt (slice_cmp nat_cmp u.name y.name)) (ap₂ (λ (m n : List ℕ). is_lt (slice_cmp nat_cmp m n)) new.name here.name) (put_zip mark t u ts us new more)
  where
    by : (b d : Bool) → b ≡ d → AreAlikeTables mark (put_table t ts) (put_table u us) → AreAlikeTables mark (cond b (t ∷ (x ∷ ts)) (x ∷ put_table t ts)) (cond d (u ∷ (y ∷ us)) (y ∷ put_table u us))
    by true true is rest = (new, (here, more))
    by true false is rest = absurd (cc)
    by false true is rest = absurd (cc)
    by false false is rest = (here, rest)

pub change_zip : (mark : ℕ) (name : List ℕ) (f g : Table → Table) → ((t u : Table) → IsAlikeTable mark t u → IsAlikeTable mark (f t) (g u)) → (ts us : List Table) → AreAlikeTables mark ts us
    → AreAlikeTables mark (change_named name f ts) (change_named name g us)
change_zip mark name f g keeps [] [] alike = tt
change_zip mark name f g keeps [] (u ∷ us) alike = absurd alike
change_zip mark name f g keeps (t ∷ ts) [] alike = absurd alike
change_zip mark name f g keeps (t ∷ ts) (u ∷ us) (here, more) =
    by (bytes_eq t.name name) (bytes_eq u.name name) (ap (λ (n : List ℕ). bytes_eq n name) here.name) (change_zip mark name f g keeps ts us more)
  where
    by : (b d : Bool) → b ≡ d → AreAlikeTables mark (change_named name f ts) (change_named name g us) → AreAlikeTables mark (cond b (f t ∷ ts) (t ∷ change_named name f ts)) (cond d (g u ∷ us) (u ∷ change_named name g us))
    by true true is rest = (keeps t u here, more)
    by true false is rest = absurd (cc)
    by false true is rest = absurd (cc)
    by false false is rest = (here, rest)
