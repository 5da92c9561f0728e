-- What is opened is sound, and so is a sound database that is cut at an epoch.
use Rattle.std.proofs.Common.{◌≡◌, ℕ, zero, suc, ◌≤◌, ◌<◌, ◌++◌, List, [], ◌∷◌, Bool, true, false, cond, map, filter, refl, sym, ◌∙◌, ap₂, subst, arith}
use Rattle.std.specs.Prelude.{◌||◌, Option, Some, None, nat_le, bytes_eq}
use Rattle.std.specs.Bool.{OnTrue}
use Rattle.std.specs.List.{All, AllPairs, list_any, slice_index_or}
use Rattle.std.specs.Option.{IfSome}
use Rattle.std.proofs.lemmas.Bool.Decides.{nat_tests}
use Rattle.std.proofs.lemmas.List.Elements.{All-nil, All-cons, All-head, All-tail, All-filter, All-map, All-weaker}
use Rattle.col_value.specs.declared.row.Stamped.{Stamped}
use Rattle.row_history.specs.History.{cut_delete, cut_row, cut_rows}
use Rattle.db_model.specs.Database.{Shape, Table, Database, is_super}
use Rattle.db_model.specs.State.{Changes, idle_sessions, opened_with}
use Rattle.db_model.specs.Epochs.{moved_shape}
use Rattle.db_model.specs.Epochs.{cut_table, cut}
use Rattle.db_model.specs.Sound.{RowFits, HasEpochs, ReachesMark, IsSoundShape, IsSoundTable, all_names, IsSoundDatabase, ChangesFit, IsSoundSession, GoTogether, IsStale, IsSound}

-- ---- nothing is pending

idle : (d : Database) → IsSoundSession d []
idle d = record { each = All-nil (ChangesFit d); once = λ i j x lt below. absurd (omega (arith, below)) }

empty_at : (i : ℕ) (other : List Changes) → i < 8 → slice_index_or idle_sessions i other ≡ []
empty_at zero other lt = refl
empty_at (suc zero) other lt = refl
empty_at (suc (suc zero)) other lt = refl
empty_at (suc (suc (suc zero))) other lt = refl
empty_at (suc (suc (suc (suc zero)))) other lt = refl
empty_at (suc (suc (suc (suc (suc zero))))) other lt = refl
empty_at (suc (suc (suc (suc (suc (suc zero)))))) other lt = refl
empty_at (suc (suc (suc (suc (suc (suc (suc zero))))))) other lt = refl
empty_at (suc (suc (suc (suc (suc (suc (suc (suc i)))))))) other lt = absurd (omega (arith, lt))

none_together : (other : List Changes) → GoTogether [] other
none_together other c e (k, lt, is) there same = absurd (omega (arith, lt))

none_apart : AllPairs GoTogether idle_sessions
none_apart i j other lt most = subst (λ (one : List Changes). GoTogether one (slice_index_or idle_sessions j other)) (sym (empty_at i other (omega (arith, lt, most)))) (none_together (slice_index_or idle_sessions j other))

abbrev idles : ℕ → List (List Changes)
idles zero = []
idles (suc n) = [] ∷ idles n

idles_sound : (d : Database) (n : ℕ) → All (IsSoundSession d) (idles n)
idles_sound d zero = All-nil (IsSoundSession d)
idles_sound d (suc n) = All-cons (IsSoundSession d) [] (idles n) (idle d) (idles_sound d n)

all_idle : (d : Database) → All (IsSoundSession d) idle_sessions
all_idle d = idles_sound d 8

pub opened_sound : (next parts : ℕ) (d : Database) → IsSoundDatabase d → IsSound (opened_with next parts d)
opened_sound next parts d sound = record {
  database = sound;
  eight = refl;
  first = omega arith;
  current = omega arith;
  sessions = all_idle d;
  apart = none_apart;
  asked = All-nil (IsStale d);
}

-- ---- a cut

names_cut : (epoch : ℕ) (ts : List Table) → all_names (map (cut_table epoch) ts) ≡ all_names ts
names_cut epoch [] = refl
names_cut epoch (t ∷ ts) = ap₂ (λ (ns ms : List (List ℕ)). (t.name ∷ ns) ++ ms) (shapes t.shapes) (names_cut epoch ts)
  where
    one : (s : Shape) (b : Bool) → (cond b (record s { lge = epoch }) s).name ≡ s.name
    one s true = refl
    one s false = refl

    shapes : (ss : List Shape) → map (λ s. s.name) (map (moved_shape epoch) ss) ≡ map (λ s. s.name) ss
    shapes [] = refl
    shapes (s ∷ ss) = ap₂ (λ (n : List ℕ) (ns : List (List ℕ)). n ∷ ns) (one s s.fresh) (shapes ss)

fits_cut : (epoch : ℕ) (t : Table) → All (λ s. RowFits t.columns s.row) t.rows → All (λ s. RowFits t.columns s.row) (cut_rows epoch t.rows)
fits_cut epoch t all = All-map (λ s. RowFits t.columns s.row) (cut_row epoch) (filter (λ s. nat_le s.ins epoch) t.rows) (All-filter (λ s. nat_le s.ins epoch) (λ s. RowFits t.columns s.row) t.rows all)

delete_cut : (last epoch ins : ℕ) (del : Option ℕ) → IfSome del (λ d. (ins < d) × (d ≤ last)) → IfSome (cut_delete epoch del) (λ d. (ins < d) × (d ≤ epoch))
delete_cut last epoch ins None told = tt
delete_cut last epoch ins (Some d) told = by (nat_le d epoch) refl told
  where
    by : (b : Bool) → nat_le d epoch ≡ b → (ins < d) × (d ≤ last) → IfSome (cond b (Some d) None) (λ x. (ins < x) × (x ≤ epoch))
    by true is (later, closed) = (later, within d epoch is)
      where
        within : (a e : ℕ) → nat_le a e ≡ true → a ≤ e
        within a e is = grind (arith, nat_tests)
    by false is told = tt

epochs_cut : (last epoch : ℕ) (rows : List Stamped) → All (HasEpochs last) rows → All (HasEpochs epoch) (cut_rows epoch rows)
epochs_cut last epoch [] all = All-nil (HasEpochs epoch)
epochs_cut last epoch (s ∷ rows) all = by (nat_le s.ins epoch) refl (All-head (HasEpochs last) s rows all) (epochs_cut last epoch rows (All-tail (HasEpochs last) s rows all))
  where
    within : (a e : ℕ) → nat_le a e ≡ true → a ≤ e
    within a e is = grind (arith, nat_tests)

    by : (b : Bool) → nat_le s.ins epoch ≡ b → HasEpochs last s → All (HasEpochs epoch) (cut_rows epoch rows)
        → All (HasEpochs epoch) (map (cut_row epoch) (cond b (s ∷ filter (λ t. nat_le t.ins epoch) rows) (filter (λ t. nat_le t.ins epoch) rows)))
    by true is here rest =
        All-cons (HasEpochs epoch) (cut_row epoch s) (cut_rows epoch rows) (record { first = here.first; inserted = within s.ins epoch is; deleted = delete_cut last epoch s.ins s.del here.deleted }) rest
    by false is here rest = rest

shape_cut : (epoch : ℕ) (d : Database) (s : Shape) → d.ahm ≤ epoch → IsSoundShape (cut epoch d) (moved_shape epoch s)
shape_cut epoch d s le = by s.fresh refl
  where
    itself : (n : ℕ) → n ≤ n
    itself n = omega arith

    on : (b : Bool) → b ≡ false → OnTrue b (ReachesMark (cut epoch d) s)
    on true is = absurd (cc)
    on false is = tt

    moved : (b : Bool) → OnTrue b (ReachesMark (cut epoch d) (record s { lge = epoch }))
    moved true = record { mark = le; closed = itself epoch }
    moved false = tt

    by : (b : Bool) → s.fresh ≡ b → IsSoundShape (cut epoch d) (cond b (record s { lge = epoch }) s)
    by true is = moved s.fresh
    by false is = on s.fresh is

shapes_cut : (epoch : ℕ) (d : Database) (ss : List Shape) → d.ahm ≤ epoch → All (IsSoundShape (cut epoch d)) (map (moved_shape epoch) ss)
shapes_cut epoch d [] le = All-nil (IsSoundShape (cut epoch d))
shapes_cut epoch d (s ∷ ss) le = All-cons (IsSoundShape (cut epoch d)) (moved_shape epoch s) (map (moved_shape epoch) ss) (shape_cut epoch d s le) (shapes_cut epoch d ss le)

super_cut : (epoch : ℕ) (t : Table) (ss : List Shape) → list_any (is_super (cut_table epoch t)) (map (moved_shape epoch) ss) ≡ list_any (is_super t) ss
super_cut epoch t [] = refl
super_cut epoch t (s ∷ ss) = ap₂ (λ (a b : Bool). a || b) (by s.fresh) (super_cut epoch t ss)
  where
    by : (b : Bool) → is_super t (cond b (record s { lge = epoch }) s) ≡ is_super t s
    by true = refl
    by false = refl

table_cut : (epoch : ℕ) (d : Database) (t : Table) → d.ahm ≤ epoch → IsSoundTable d t → IsSoundTable (cut epoch d) (cut_table epoch t)
table_cut epoch d t le sound = record {
  rows = fits_cut epoch t sound.rows;
  epochs = epochs_cut d.last epoch t.rows sound.epochs;
  shapes = shapes_cut epoch d t.shapes le;
  super = super_cut epoch t t.shapes ∙ sound.super;
}

pub cut_sound : (epoch : ℕ) (d : Database) → d.ahm ≤ epoch → IsSoundDatabase d → IsSoundDatabase (cut epoch d)
cut_sound epoch d le sound = record {
  names = subst (AllPairs (λ m n. bytes_eq m n ≡ false)) (sym (names_cut epoch d.tables)) sound.names;
  tables = All-map (IsSoundTable (cut epoch d)) (cut_table epoch) d.tables
      (All-weaker (IsSoundTable d) (λ t. IsSoundTable (cut epoch d) (cut_table epoch t)) (λ t here. table_cut epoch d t le here) d.tables sound.tables);
  mark = le;
}
