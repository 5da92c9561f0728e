-- CREATE and DROP of tables and projections over alike states.
use Rattle.std.proofs.Common.{◌≡◌, ℕ, not, Bool, true, cond, List, [], ◌∷◌, map, filter, length, refl, sym, ap, ap₂, ◌∙◌, subst}
use Rattle.std.specs.Prelude.{nat_le, ◌&&◌, Option, Some, None, bytes_eq, option_and_then}
use Rattle.std.specs.List.{enumerate_from, list_all, list_any}
use Rattle.common_laws.proofs.BagLaws.{bag_length, bag_refl}
use Rattle.col_value.specs.declared.column.Column.{Column}
use Rattle.row_history.specs.History.{retained}
use Rattle.row_history.proofs.Histories.{filter_same}
use Rattle.sql_tree.specs.declared.refusal.Refusal.{Refusal}
use Rattle.sql_tree.specs.declared.refusal.Which.{Which}
use Rattle.sql_tree.specs.declared.statement.NewProjection.{NewProjection}
use Rattle.sql_binding.specs.Firsts.{first_of, refused_where}
use Rattle.sql_binding.specs.Projections.{bound_projection, name_limit, projection_form_refusal}
use Rattle.db_model.specs.Alike.{AreAlikeStates, IsAlikeTable}
use Rattle.db_model.specs.Database.{Shape, Table, has_columns, is_taken, super_name}
use Rattle.db_model.specs.Events.{empty_table, first_shape, is_empty_list, is_not_named, is_of_table, new_shape, projection_created, projection_dropped, put_shape, table_created, table_dropped, with_shape, without_shape}
use Rattle.db_model.specs.Numbers.{IsDrawn, are_spent, spent_refusal}
use Rattle.db_model.specs.Refusals.{last_super_refusal, locked, owner, projection_created_refusal, projection_dropped_refusal, projection_refusal_over, table_created_refusal, table_dropped_refusal, unknown_table_refusal}
use Rattle.db_model.specs.State.{State, own_changes}
use Rattle.db_model.specs.Views.{columns_found, table_found}
use Rattle.alike_laws.proofs.Changes.{others_alike}
use Rattle.alike_laws.proofs.Refused.{locked_alike, own_alike, put_alike}
use Rattle.one_text.proofs.Stilled.{created_by, shaped_by}
use Rattle.alike_steps.proofs.Tables.{AreAlikeFound, as_many, change_zip, columns_same, found_both, owner_both, put_zip, taken_same}
use Rattle.alike_steps.proofs.Zipped.{BothThere, both_or, both_then, filter_zip, map_zip}

-- what is left of alike states
pub left_alike : (a b m n : State) → m ≡ a → n ≡ b → AreAlikeStates a b → AreAlikeStates m n
left_alike a b m n first second alike = subst (λ (x : State). AreAlikeStates x n) (sym first) (subst (λ (y : State). AreAlikeStates a y) (sym second) alike)

-- what an event makes of alike states, with the numbers that it draws
pub drawn_alike : (a b made other m n : State) → IsDrawn a made m → IsDrawn b other n → AreAlikeStates made other → AreAlikeStates m n
drawn_alike a b made other m n first second alike =
    subst (λ (x : State). AreAlikeStates x n) (sym first.same)
    (subst (λ (y : State). AreAlikeStates (record made { next = m.next; parts = m.parts }) y) (sym second.same)
    (record { database = alike.database; sessions = alike.sessions; current = alike.current; asked = alike.asked }))

-- ---- why they are refused

abbrev form_by : NewProjection → List Column → List Shape → Option Refusal
form_by p columns shapes = first_of (projection_form_refusal columns p) (first_of (refused_where (nat_le 16 (length shapes)) (Refusal.Limit Which.Projections 16)) (name_limit p.name))

-- of a dropped projection: whether no other up-to-date super projection of its table remains
abbrev last_by : List ℕ → List ℕ → List Shape → Bool
last_by name ordinals shapes = list_all (λ s. bytes_eq s.name name) (filter (λ s. s.fresh && has_columns s ordinals) shapes)

last_same : (mark : ℕ) (name : List ℕ) (o p : Option Table) → BothThere (IsAlikeTable mark) o p → last_super_refusal name o ≡ last_super_refusal name p
last_same mark name None None both = refl
last_same mark name None (Some u) both = absurd both
last_same mark name (Some t) None both = absurd both
last_same mark name (Some t) (Some u) both =
    ap₂ (λ (columns : List Column) (shapes : List Shape). refused_where (last_by name (map (λ e. e.0) (enumerate_from 0 columns)) shapes) (Refusal.LastSuper name)) both.columns both.shapes

-- ---- a new projection, and one less

none_alike : {X : Type 0} (xs ys : List X) → length xs ≡ length ys → is_empty_list xs ≡ is_empty_list ys
none_alike [] [] same = refl
none_alike [] (y ∷ ys) same = absurd (cc)
none_alike (x ∷ xs) [] same = absurd (cc)
none_alike (x ∷ xs) (y ∷ ys) same = refl

-- a new projection, by whether its table retains no row
abbrev shape_by : NewProjection → ℕ → List Column → Bool → Shape
shape_by p last columns none = record {
  name = p.name;
  columns = (bound_projection columns p).0;
  sort = (bound_projection columns p).1;
  fresh = none;
  lge = cond none last 0;
}

-- it is up to date at once in both tables or in neither
new_same : (mark other last also : ℕ) (p : NewProjection) (t u : Table) → mark ≡ other → last ≡ also → IsAlikeTable mark t u → new_shape mark last p t ≡ new_shape other also p u
new_same mark other last also p t u marks lasts same =
    let none : is_empty_list (retained mark t.rows) ≡ is_empty_list (retained mark u.rows) =
    none_alike (retained mark t.rows) (retained mark u.rows) (bag_length (retained mark t.rows) (retained mark u.rows) same.rows) in
    ap₂ (λ (n : ℕ) (cs : List Column). shape_by p n cs (is_empty_list (retained mark t.rows))) lasts same.columns
    ∙ ap (shape_by p also u.columns) (none ∙ ap (λ (m : ℕ). is_empty_list (retained m u.rows)) marks)

unshaped_table : (name : List ℕ) {mark : ℕ} (t u : Table) → IsAlikeTable mark t u → IsAlikeTable mark (without_shape name t) (without_shape name u)
unshaped_table name t u same = record { name = same.name; columns = same.columns; shapes = ap (filter (λ (s : Shape). is_not_named name s.name)) same.shapes; rows = same.rows }

module _ (a b : State) (alike : AreAlikeStates a b) where
  abbrev ts : List Table
  ts = a.database.tables

  abbrev us : List Table
  us = b.database.tables

  pub create_same : (name : List ℕ) (columns : List Column) → are_spent a ≡ are_spent b → table_created_refusal a name columns ≡ table_created_refusal b name columns
  create_same name columns spent =
      let one : is_taken name ts ≡ is_taken name us = taken_same a.database.ahm name ts us alike.database.tables in
      let two : is_taken (super_name name) ts ≡ is_taken (super_name name) us = taken_same a.database.ahm (super_name name) ts us alike.database.tables in
      let many : length ts ≡ length us = as_many a.database.ahm ts us alike.database.tables in
      ap₂ (λ (x y : Bool). created_by name columns x y (length ts) (are_spent a)) one two
      ∙ ap₂ (λ (n : ℕ) (x : Bool). created_by name columns (is_taken name us) (is_taken (super_name name) us) n x) many spent

  pub shape_same : (p : NewProjection) → are_spent a ≡ are_spent b → projection_created_refusal a p ≡ projection_created_refusal b p
  shape_same p spent =
      let columns : columns_found ts p.table ≡ columns_found us p.table = columns_same a.database.ahm p.table ts us alike.database.tables in
      let taken : is_taken p.name ts ≡ is_taken p.name us = taken_same a.database.ahm p.name ts us alike.database.tables in
      let form =
      both_then (AreAlikeFound a.database.ahm) (λ e. projection_refusal_over p e.1) (λ e. projection_refusal_over p e.1) (λ e f both. ap₂ (form_by p) both.table.columns both.table.shapes) (table_found p.table ts) (table_found p.table us)
      (found_both a.database.ahm p.table ts us alike.database.tables) in
      ap₂ (λ (cs : Option (List Column)) (x : Bool). shaped_by p cs x (option_and_then (λ e. projection_refusal_over p e.1) (table_found p.table ts)) (are_spent a)) columns taken
      ∙ ap₂ (λ (o : Option Refusal) (x : Bool). shaped_by p (columns_found us p.table) (is_taken p.name us) o x) form spent

  pub unknown_same : (name : List ℕ) → unknown_table_refusal a name ≡ unknown_table_refusal b name
  unknown_same name =
      both_or (AreAlikeFound a.database.ahm) (λ e. None) (λ e. None) (Some (Refusal.UnknownTable name)) (λ e f both. refl) (table_found name ts) (table_found name us) (found_both a.database.ahm name ts us alike.database.tables)

  pub drop_same : (name : List ℕ) → are_spent a ≡ are_spent b → table_dropped_refusal a name ≡ table_dropped_refusal b name
  drop_same name spent =
      ap₂ (λ (o p : Option Refusal). first_of o (first_of p (spent_refusal a))) (unknown_same name) (locked_alike a b name true alike.sessions alike.current)
      ∙ ap (λ (x : Bool). first_of (unknown_table_refusal b name) (first_of (locked b name true) (refused_where x Refusal.NumbersSpent))) spent

  pub unshape_same : (name : List ℕ) → are_spent a ≡ are_spent b → projection_dropped_refusal a name ≡ projection_dropped_refusal b name
  unshape_same name spent =
      ap₂ (λ (o : Option Refusal) (x : Bool). first_of o (refused_where x Refusal.NumbersSpent))
      (last_same a.database.ahm name (owner name ts) (owner name us) (owner_both a.database.ahm name ts us alike.database.tables)) spent

  -- ---- what they leave

  pub created_alike : (name : List ℕ) (columns : List Column) → AreAlikeStates (table_created name columns a) (table_created name columns b)
  created_alike name columns = record {
    database = record {
      last = alike.database.last;
      ahm = alike.database.ahm;
      tables =
          put_zip a.database.ahm (empty_table name columns a.database.last) (empty_table name columns b.database.last) a.database.tables b.database.tables
          (record { name = refl; columns = refl; shapes = ap (λ (n : ℕ). first_shape name columns n ∷ []) alike.database.last; rows = bag_refl [] }) alike.database.tables;
    };
    sessions = alike.sessions;
    current = alike.current;
    asked = alike.asked;
  }

  shaped_table : (p : NewProjection) (t u : Table) → IsAlikeTable a.database.ahm t u
      → IsAlikeTable a.database.ahm (with_shape a.database.ahm a.database.last p t) (with_shape b.database.ahm b.database.last p u)
  shaped_table p t u same = record {
    name = same.name;
    columns = same.columns;
    shapes = ap₂ put_shape (new_same a.database.ahm b.database.ahm a.database.last b.database.last p t u alike.database.ahm alike.database.last same) same.shapes;
    rows = same.rows;
  }

  pub shaped_alike : (p : NewProjection) → AreAlikeStates (projection_created p a) (projection_created p b)
  shaped_alike p = record {
    database = record {
      last = alike.database.last;
      ahm = alike.database.ahm;
      tables =
          change_zip a.database.ahm p.table (with_shape a.database.ahm a.database.last p) (with_shape b.database.ahm b.database.last p) (shaped_table p) a.database.tables b.database.tables alike.database.tables;
    };
    sessions = alike.sessions;
    current = alike.current;
    asked = alike.asked;
  }

  of_same : (name n : List ℕ) → is_of_table name a.database.tables n ≡ is_of_table name b.database.tables n
  of_same name n =
      ap (list_any (λ (s : Shape). bytes_eq s.name n))
      (both_or (AreAlikeFound a.database.ahm) (λ e. e.1.shapes) (λ e. e.1.shapes) [] (λ e f both. both.table.shapes) (table_found name a.database.tables) (table_found name b.database.tables)
      (found_both a.database.ahm name a.database.tables b.database.tables alike.database.tables))

  pub dropped_alike : (name : List ℕ) → AreAlikeStates (table_dropped name a) (table_dropped name b)
  dropped_alike name = record {
    database = record {
      last = alike.database.last;
      ahm = alike.database.ahm;
      tables =
          filter_zip (IsAlikeTable a.database.ahm) (λ t. is_not_named name t.name) (λ t. is_not_named name t.name) (λ t u same. ap (is_not_named name) same.name) a.database.tables b.database.tables
          alike.database.tables;
    };
    sessions =
        put_alike a b (filter (λ c. is_not_named name c.table) (own_changes a)) (filter (λ c. is_not_named name c.table) (own_changes b)) alike.sessions alike.current
        (others_alike name (own_changes a) (own_changes b) (own_alike a b alike.sessions alike.current));
    current = alike.current;
    asked =
        filter_same (λ (n : List ℕ). not (is_of_table name a.database.tables n)) (λ (n : List ℕ). not (is_of_table name b.database.tables n)) (λ n. ap not (of_same name n)) a.asked
        ∙ ap (filter (λ (n : List ℕ). not (is_of_table name b.database.tables n))) alike.asked;
  }

  pub unshaped_alike : (name : List ℕ) → AreAlikeStates (projection_dropped name a) (projection_dropped name b)
  unshaped_alike name = record {
    database = record {
      last = alike.database.last;
      ahm = alike.database.ahm;
      tables = map_zip (IsAlikeTable a.database.ahm) (IsAlikeTable a.database.ahm) (without_shape name) (without_shape name) (unshaped_table name) a.database.tables b.database.tables alike.database.tables;
    };
    sessions = alike.sessions;
    current = alike.current;
    asked = ap (filter (is_not_named name)) alike.asked;
  }
