-- A projection that has all its data on disk up to an epoch.
use Rattle.std.proofs.Common.{◌≡◌, ℕ, zero, suc, ◌≤◌, ◌++◌, Bool, true, false, List, [], ◌∷◌, map, refl, sym, ◌∙◌, ap, subst, arith}
use Rattle.std.specs.Prelude.{◌||◌, ◌&&◌, bytes_eq}
use Rattle.std.specs.List.{All, AllPairs, list_any}
use Rattle.std.proofs.lemmas.List.Concat.{flat_map-cons}
use Rattle.std.proofs.lemmas.List.Elements.{All-head, All-tail, All-cons, All-nil, All-weaker}
use Rattle.db_model.specs.Database.{Database, Table, Shape, is_super, has_columns, ordinals}
use Rattle.db_model.specs.Mover.{reached_to}
use Rattle.db_model.specs.Sound.{IsSoundShape, IsSoundTable, names_of, all_names, IsSoundDatabase}
use Rattle.sound_laws.specs.Moves.{change_at, reached_in, reached_at, moved_at}
use Rattle.sound_laws.proofs.Created.{table_still}

names_changed : (last j : ℕ) (ss : List Shape) → map (λ s. s.name) (change_at j (reached_to last) ss) ≡ map (λ s. s.name) ss
names_changed last j [] = refl
names_changed last zero (s ∷ ss) = refl
names_changed last (suc j) (s ∷ ss) = ap (λ (ns : List (List ℕ)). s.name ∷ ns) (names_changed last j ss)

all_names_changed : (last i j : ℕ) (ts : List Table) → all_names (change_at i (reached_in last j) ts) ≡ all_names ts
all_names_changed last i j [] = refl
all_names_changed last zero j (t ∷ ts) =
    flat_map-cons names_of (reached_in last j t) ts ∙ ap (λ (ns : List (List ℕ)). (t.name ∷ ns) ++ all_names ts) (names_changed last j t.shapes) ∙ sym (flat_map-cons names_of t ts)
all_names_changed last (suc i) j (t ∷ ts) =
    flat_map-cons names_of t (change_at i (reached_in last j) ts) ∙ ap (λ (ns : List (List ℕ)). names_of t ++ ns) (all_names_changed last i j ts) ∙ sym (flat_map-cons names_of t ts)

shapes_changed : (d : Database) (epoch j : ℕ) (ss : List Shape) → d.ahm ≤ epoch → epoch ≤ d.last → All (IsSoundShape d) ss → All (IsSoundShape d) (change_at j (reached_to epoch) ss)
shapes_changed d epoch j [] mark closed all = All-nil (IsSoundShape d)
shapes_changed d epoch zero (s ∷ ss) mark closed all = All-cons (IsSoundShape d) (reached_to epoch s) ss (record { mark = mark; closed = closed }) (All-tail (IsSoundShape d) s ss all)
shapes_changed d epoch (suc j) (s ∷ ss) mark closed all =
    All-cons (IsSoundShape d) s (change_at j (reached_to epoch) ss) (All-head (IsSoundShape d) s ss all) (shapes_changed d epoch j ss mark closed (All-tail (IsSoundShape d) s ss all))

or_wider : (a b c : Bool) → (a ≡ true → b ≡ true) → (a || c) ≡ true → (b || c) ≡ true
or_wider true b c wider is = ap (λ (x : Bool). x || c) (wider refl)
or_wider false true c wider is = refl
or_wider false false c wider is = is

or_more : (a b c : Bool) → (b ≡ true → c ≡ true) → (a || b) ≡ true → (a || c) ≡ true
or_more true b c wider is = refl
or_more false b c wider is = wider is

fresh_more : (a b : Bool) → (a && b) ≡ true → (true && b) ≡ true
fresh_more true b is = is
fresh_more false b is = absurd (cc)

super_changed : (t : Table) (last j : ℕ) (ss : List Shape) → list_any (is_super t) ss ≡ true → list_any (is_super t) (change_at j (reached_to last) ss) ≡ true
super_changed t last j [] is = is
super_changed t last zero (s ∷ ss) is =
    or_wider (is_super t s) (is_super t (reached_to last s)) (list_any (is_super t) ss) (λ here. fresh_more s.fresh (has_columns s (ordinals t)) here) is
super_changed t last (suc j) (s ∷ ss) is = or_more (is_super t s) (list_any (is_super t) ss) (list_any (is_super t) (change_at j (reached_to last) ss)) (λ more. super_changed t last j ss more) is

table_reached : (d : Database) (epoch j : ℕ) (t : Table) → d.ahm ≤ epoch → epoch ≤ d.last → IsSoundTable d t → IsSoundTable d (reached_in epoch j t)
table_reached d epoch j t mark closed sound = record {
  rows = sound.rows;
  epochs = sound.epochs;
  shapes = shapes_changed d epoch j t.shapes mark closed sound.shapes;
  super = super_changed t epoch j t.shapes sound.super;
}

tables_reached : (d : Database) (epoch i j : ℕ) (ts : List Table) → d.ahm ≤ epoch → epoch ≤ d.last → All (IsSoundTable d) ts → All (IsSoundTable d) (change_at i (reached_in epoch j) ts)
tables_reached d epoch i j [] mark closed all = All-nil (IsSoundTable d)
tables_reached d epoch zero j (t ∷ ts) mark closed all =
    All-cons (IsSoundTable d) (reached_in epoch j t) ts (table_reached d epoch j t mark closed (All-head (IsSoundTable d) t ts all)) (All-tail (IsSoundTable d) t ts all)
tables_reached d epoch (suc i) j (t ∷ ts) mark closed all =
    All-cons (IsSoundTable d) t (change_at i (reached_in epoch j) ts) (All-head (IsSoundTable d) t ts all) (tables_reached d epoch i j ts mark closed (All-tail (IsSoundTable d) t ts all))

pub reached_sound : (d : Database) (epoch i j : ℕ) → d.ahm ≤ epoch → epoch ≤ d.last → IsSoundDatabase d → IsSoundDatabase (reached_at epoch i j d)
reached_sound d epoch i j mark closed sound = record {
  names = subst (AllPairs (λ m n. bytes_eq m n ≡ false)) (sym (all_names_changed epoch i j d.tables)) sound.names;
  tables =
      All-weaker (IsSoundTable d) (IsSoundTable (reached_at epoch i j d)) (λ t is. table_still d (reached_at epoch i j d) t refl refl is) (change_at i (reached_in epoch j) d.tables)
      (tables_reached d epoch i j d.tables mark closed sound.tables);
  mark = sound.mark;
}

pub moved_sound : (d : Database) (i j : ℕ) → IsSoundDatabase d → IsSoundDatabase (moved_at i j d)
moved_sound d i j sound = reached_sound d d.last i j sound.mark (omega arith) sound
