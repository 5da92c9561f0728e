-- A database cut at an epoch.
use Rattle.std.proofs.Common.{◌≡◌, ℕ, ◌+◌, ◌≤◌, ◌<◌, ◌++◌, List, [], ◌∷◌, Bool, true, false, cond, map, filter, refl, sym, ◌∙◌, ap, subst, append-nil, arith}
use Rattle.std.specs.Prelude.{◌&&◌, ◌==◌, Option, Some, None, is_none, nat_le, bytes_eq}
use Rattle.std.specs.List.{All, AllZip}
use Rattle.std.specs.Ordering.{is_eq}
use Rattle.std.proofs.lemmas.Bool.Decides.{nat_tests}
use Rattle.std.proofs.lemmas.List.Elements.{All-nil, All-cons}
use Rattle.common_laws.specs.Bags.{SameBag}
use Rattle.common_laws.proofs.BagLaws.{bag_refl, bag_sym, bag_trans}
use Rattle.common_laws.proofs.Truths.{and_left}
use Rattle.col_value.specs.declared.value.Value.{Value}
use Rattle.col_value.specs.declared.row.Stamped.{Stamped}
use Rattle.col_value.specs.declared.row.Asked.{Asked}
use Rattle.col_value.specs.Order.{row_cmp}
use Rattle.row_history.specs.History.{retained, cut_delete, cut_row, cut_rows, inserted_at, is_asked, mark_one, mark_all}
use Rattle.row_history.proofs.Histories.{retained_cut, bag_cut, cut_append, cut_none}
use Rattle.db_model.specs.Database.{Table, Database}
use Rattle.db_model.specs.State.{Changes, commit_into, change_named, commit_changes, committed}
use Rattle.db_model.specs.Epochs.{moved_shape}
use Rattle.db_model.specs.Epochs.{cut_table, cut}
use Rattle.db_model.specs.Alike.{IsAlikeTable, IsAlike}

-- ---- what is committed later isn't seen in a cut

abbrev make : List Value → ℕ → Option ℕ → Stamped
make row ins del = record { row = row; ins = ins; del = del }

-- a row that isn't deleted, deleted later
later_delete : (epoch later : ℕ) (s : Stamped) → epoch < later → is_none s.del ≡ true → cut_delete epoch (Some later) ≡ cut_delete epoch s.del
later_delete epoch later s lt none = by s.del none (nat_le later epoch) refl
  where
    by : (o : Option ℕ) → is_none o ≡ true → (b : Bool) → nat_le later epoch ≡ b → cond b (Some later) None ≡ cut_delete epoch o
    by None none true is = absurd (grind (arith, nat_tests))
    by None none false is = refl
    by (Some d) none b is = absurd (cc)

cut_marked : (epoch later : ℕ) (a : Asked) (rows : List Stamped) → epoch < later → cut_rows epoch (mark_one later a rows) ≡ cut_rows epoch rows
cut_marked epoch later a [] lt = refl
cut_marked epoch later a (s ∷ rows) lt = by (is_asked a s) refl (cut_marked epoch later a rows lt)
  where
    rest : List Stamped
    rest = filter (λ t. nat_le t.ins epoch) rows

    here : is_none s.del ≡ true → (b : Bool) → map (cut_row epoch) (cond b ((record s { del = Some later }) ∷ rest) rest) ≡ map (cut_row epoch) (cond b (s ∷ rest) rest)
    here none true = ap (λ (d : Option ℕ). make s.row s.ins d ∷ map (cut_row epoch) rest) (later_delete epoch later s lt none)
    here none false = refl

    behind : (b : Bool) → cut_rows epoch (mark_one later a rows) ≡ cut_rows epoch rows
        → map (cut_row epoch) (cond b (s ∷ filter (λ t. nat_le t.ins epoch) (mark_one later a rows)) (filter (λ t. nat_le t.ins epoch) (mark_one later a rows))) ≡ map (cut_row epoch) (cond b (s ∷ rest) rest)
    behind true same = ap (λ (ss : List Stamped). cut_row epoch s ∷ ss) same
    behind false same = same

    by : (b : Bool) → is_asked a s ≡ b → cut_rows epoch (mark_one later a rows) ≡ cut_rows epoch rows
        → cut_rows epoch (cond b ((record s { del = Some later }) ∷ rows) (s ∷ mark_one later a rows)) ≡ cut_rows epoch (s ∷ rows)
    by true is same = here (and_left (is_none s.del) ((s.ins == a.ins) && is_eq (row_cmp s.row a.row)) is) (nat_le s.ins epoch)
    by false is same = behind (nat_le s.ins epoch) same

cut_all_marked : (epoch later : ℕ) (asked : List Asked) (rows : List Stamped) → epoch < later → cut_rows epoch (mark_all later asked rows) ≡ cut_rows epoch rows
cut_all_marked epoch later [] rows lt = refl
cut_all_marked epoch later (a ∷ more) rows lt = cut_all_marked epoch later more (mark_one later a rows) lt ∙ cut_marked epoch later a rows lt

later_rows : (epoch later : ℕ) (rows : List (List Value)) → epoch < later → All (λ s. epoch < s.ins) (map (inserted_at later) rows)
later_rows epoch later [] lt = All-nil (λ s. epoch < s.ins)
later_rows epoch later (row ∷ rows) lt = All-cons (λ s. epoch < s.ins) (inserted_at later row) (map (inserted_at later) rows) lt (later_rows epoch later rows lt)

rows_unseen : (epoch later : ℕ) (c : Changes) (rows : List Stamped) → epoch < later → cut_rows epoch (mark_all later c.deletes rows ++ map (inserted_at later) c.rows) ≡ cut_rows epoch rows
rows_unseen epoch later c rows lt =
    cut_append epoch (mark_all later c.deletes rows) (map (inserted_at later) c.rows)
    ∙ ap (λ (ss : List Stamped). cut_rows epoch (mark_all later c.deletes rows) ++ ss) (cut_none epoch (map (inserted_at later) c.rows) (later_rows epoch later c.rows lt))
    ∙ append-nil (cut_rows epoch (mark_all later c.deletes rows)) ∙ cut_all_marked epoch later c.deletes rows lt

table_unseen : (epoch later : ℕ) (c : Changes) (t : Table) → epoch < later → cut_table epoch (commit_into later c t) ≡ cut_table epoch t
table_unseen epoch later c t lt = ap (λ (rows : List Stamped). cut_table_of rows) (rows_unseen epoch later c t.rows lt)
  where
    cut_table_of : List Stamped → Table
    cut_table_of rows = record { name = t.name; columns = t.columns; rows = rows; shapes = map (moved_shape epoch) t.shapes }

change_unseen : (epoch : ℕ) (name : List ℕ) (f : Table → Table) (ts : List Table) → ((t : Table) → cut_table epoch (f t) ≡ cut_table epoch t) → map (cut_table epoch) (change_named name f ts) ≡ map (cut_table epoch) ts
change_unseen epoch name f [] same = refl
change_unseen epoch name f (t ∷ ts) same = by (bytes_eq t.name name) (change_unseen epoch name f ts same)
  where
    by : (b : Bool) → map (cut_table epoch) (change_named name f ts) ≡ map (cut_table epoch) ts → map (cut_table epoch) (cond b (f t ∷ ts) (t ∷ change_named name f ts)) ≡ cut_table epoch t ∷ map (cut_table epoch) ts
    by true rest = ap (λ (u : Table). u ∷ map (cut_table epoch) ts) (same t)
    by false rest = ap (λ (us : List Table). cut_table epoch t ∷ us) rest

changes_unseen : (epoch later : ℕ) (cs : List Changes) (ts : List Table) → epoch < later → map (cut_table epoch) (commit_changes later cs ts) ≡ map (cut_table epoch) ts
changes_unseen epoch later [] ts lt = refl
changes_unseen epoch later (c ∷ cs) ts lt =
    changes_unseen epoch later cs (change_named c.table (commit_into later c) ts) lt ∙ change_unseen epoch c.table (commit_into later c) ts (λ t. table_unseen epoch later c t lt)

pub commit_unseen : (epoch : ℕ) (cs : List Changes) (d : Database) → epoch ≤ d.last → cut epoch (committed cs d) ≡ cut epoch d
commit_unseen epoch cs d le = ap (λ (ts : List Table). made ts) (changes_unseen epoch (d.last + 1) cs d.tables (above epoch d.last le))
  where
    made : List Table → Database
    made ts = record { tables = ts; last = epoch; ahm = d.ahm }

    above : (a b : ℕ) → a ≤ b → a < b + 1
    above a b le = omega arith

-- ---- alike databases

tables_itself : (mark : ℕ) (ts : List Table) → AllZip (IsAlikeTable mark) ts ts
tables_itself mark [] = tt
tables_itself mark (t ∷ ts) = (record { name = refl; columns = refl; shapes = refl; rows = bag_refl (retained mark t.rows) }, tables_itself mark ts)

tables_back : (mark : ℕ) (ts us : List Table) → AllZip (IsAlikeTable mark) ts us → AllZip (IsAlikeTable mark) us ts
tables_back mark [] [] alike = tt
tables_back mark [] (u ∷ us) alike = absurd alike
tables_back mark (t ∷ ts) [] alike = absurd alike
tables_back mark (t ∷ ts) (u ∷ us) (here, more) = (
  record { name = sym here.name; columns = sym here.columns; shapes = sym here.shapes; rows = bag_sym (retained mark t.rows) (retained mark u.rows) here.rows },
  tables_back mark ts us more,
)

tables_on : (mark : ℕ) (ts us vs : List Table) → AllZip (IsAlikeTable mark) ts us → AllZip (IsAlikeTable mark) us vs → AllZip (IsAlikeTable mark) ts vs
tables_on mark [] [] vs first second = second
tables_on mark [] (u ∷ us) vs first second = absurd first
tables_on mark (t ∷ ts) [] vs first second = absurd first
tables_on mark (t ∷ ts) (u ∷ us) [] first second = absurd second
tables_on mark (t ∷ ts) (u ∷ us) (v ∷ vs) (here, more) (next, rest) = (
  record {
    name = here.name ∙ next.name;
    columns = here.columns ∙ next.columns;
    shapes = here.shapes ∙ next.shapes;
    rows = bag_trans (retained mark t.rows) (retained mark u.rows) (retained mark v.rows) here.rows next.rows;
  },
  tables_on mark ts us vs more rest,
)

pub like_itself : (d : Database) → IsAlike d d
like_itself d = record { last = refl; ahm = refl; tables = tables_itself d.ahm d.tables }

pub like_back : (d e : Database) → IsAlike d e → IsAlike e d
like_back d e alike = record {
  last = sym alike.last;
  ahm = sym alike.ahm;
  tables = subst (λ (m : ℕ). AllZip (IsAlikeTable m) e.tables d.tables) alike.ahm (tables_back d.ahm d.tables e.tables alike.tables);
}

pub like_on : (d e f : Database) → IsAlike d e → IsAlike e f → IsAlike d f
like_on d e f first second = record {
  last = first.last ∙ second.last;
  ahm = first.ahm ∙ second.ahm;
  tables = tables_on d.ahm d.tables e.tables f.tables first.tables (subst (λ (m : ℕ). AllZip (IsAlikeTable m) e.tables f.tables) (sym first.ahm) second.tables);
}

rows_cut : (mark epoch : ℕ) (xs ys : List Stamped) → mark ≤ epoch → SameBag (retained mark xs) (retained mark ys) → SameBag (retained mark (cut_rows epoch xs)) (retained mark (cut_rows epoch ys))
rows_cut mark epoch xs ys le same =
    subst (λ (zs : List Stamped). SameBag zs (retained mark (cut_rows epoch ys))) (sym (retained_cut mark epoch xs le))
    (subst (SameBag (cut_rows epoch (retained mark xs))) (sym (retained_cut mark epoch ys le)) (bag_cut epoch (retained mark xs) (retained mark ys) same))

tables_cut : (mark epoch : ℕ) (ts us : List Table) → mark ≤ epoch → AllZip (IsAlikeTable mark) ts us → AllZip (IsAlikeTable mark) (map (cut_table epoch) ts) (map (cut_table epoch) us)
tables_cut mark epoch [] [] le alike = tt
tables_cut mark epoch [] (u ∷ us) le alike = absurd alike
tables_cut mark epoch (t ∷ ts) [] le alike = absurd alike
tables_cut mark epoch (t ∷ ts) (u ∷ us) le (here, more) = (
  record { name = here.name; columns = here.columns; shapes = ap (map (moved_shape epoch)) here.shapes; rows = rows_cut mark epoch t.rows u.rows le here.rows },
  tables_cut mark epoch ts us le more,
)

pub like_cut : (epoch : ℕ) (d e : Database) → d.ahm ≤ epoch → IsAlike d e → IsAlike (cut epoch d) (cut epoch e)
like_cut epoch d e le alike = record { last = refl; ahm = alike.ahm; tables = tables_cut d.ahm epoch d.tables e.tables le alike.tables }
