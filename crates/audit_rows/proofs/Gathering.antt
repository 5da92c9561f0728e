-- Containers of which rows are collected, one after the other.
use Rattle.std.proofs.Common.{◌≡◌, ℕ, ◌+◌, ◌<◌, ◌≤◌, ◌++◌, List, [], ◌∷◌, length, get_or, map, drop, sym, ap, ◌∙◌, subst, append_assoc}
use Rattle.std.specs.Prelude.{Option, Some}
use Rattle.std.specs.List.{All}
use Rattle.std.proofs.lemmas.List.{append-nil, map-append, drop_more, drop_all, get_or_default}
use Rattle.common_laws.specs.Maps.{Contents}
use Rattle.catalog_types.specs.declared.catalogue.Container.{Container}
use Rattle.catalog_types.specs.declared.catalogue.Projection.{Projection}
use Rattle.col_disk.specs.Faults.{IsUnblamed}
use Rattle.col_disk.specs.declared.disk.StoreFault.{StoreFault}
use Rattle.col_disk.specs.declared.disk.StoreFault.TheVariants.{Disk, Damaged, Memory}
use Rattle.col_value.specs.declared.row.Stamped.{Stamped}
use Rattle.ros_container.specs.Encodings.{Written, written_of}
use Rattle.row_history.specs.History.{on_columns}
use Rattle.stored_rows.specs.Held.{HoldsRows, HoldsVector, Holds, stamped_from}
use Rattle.audit_model.specs.Rows.{judged_in, HoldsHere}
use Rattle.catalog_types.specs.Blank.{blank_container}
use Rattle.catalog_types.specs.declared.catalogue.ProjColumn.{ProjColumn}
use Rattle.del_vector.specs.Marks.{epoch_at}
use Rattle.del_vector.specs.declared.mark.Mark.{Mark}
use Rattle.ros_container.specs.Readable.{IsReadable}
use Rattle.audit_rows.specs.Adding.{Adds, AddsRows}
use Rattle.audit_rows.specs.Blocks.{BlamesHere}
use Rattle.audit_rows.specs.Collected.{Collects, Left}
use Rattle.audit_rows.proofs.Joined.{judged_append}

abbrev judged_of : List ℕ → ℕ → ℕ → List Stamped → List Stamped
judged_of columns epoch mark rows = map (on_columns columns) (judged_in epoch mark rows)

joined : (columns : List ℕ) (epoch mark : ℕ) (xs ys : List Stamped) → judged_of columns epoch mark (xs ++ ys) ≡ judged_of columns epoch mark xs ++ judged_of columns epoch mark ys
joined columns epoch mark xs ys = ap (map (on_columns columns)) (judged_append epoch mark xs ys) ∙ map-append (on_columns columns) (judged_in epoch mark xs) (judged_in epoch mark ys)

pub collects_none : (holds : Option Contents) (es : List Written) (ks : List Container) (columns : List ℕ) (epoch mark : ℕ) (out : List Stamped) → out ≡ [] → Collects holds es ks (drop 0 ks) columns epoch mark out
collects_none holds es ks columns epoch mark out is m told held are = record { more = held; are = are; whole = ap (λ (xs : List Stamped). xs ++ judged_of columns epoch mark held) is }

left_more : (m : Contents) (p : Projection) (k : Container) (rest : List Container) (columns : List ℕ) (epoch mark : ℕ) (out next held : List Stamped) → ((rows : List Stamped) → HoldsHere m p k rows → next ≡ out ++ judged_of columns epoch mark rows)
    → Left m (written_of p) (k ∷ rest) columns epoch mark out held → Left m (written_of p) rest columns epoch mark next held
left_more m p k rest columns epoch mark out next held adds left = by left.are left.whole
  where
    by : HoldsRows m (written_of p) (k ∷ rest) left.more → out ++ judged_of columns epoch mark left.more ≡ judged_of columns epoch mark held → Left m (written_of p) rest columns epoch mark next held
    by (marks, here, more, vector, marked, others, is) whole = record {
      more = more;
      are = others;
      whole = ap (λ (xs : List Stamped). xs ++ judged_of columns epoch mark more) (adds here (marks, vector, marked))
          ∙ append_assoc out (judged_of columns epoch mark here) (judged_of columns epoch mark more)
          ∙ ap (λ (xs : List Stamped). out ++ xs) (sym (joined columns epoch mark here more))
          ∙ ap (λ (xs : List Stamped). out ++ judged_of columns epoch mark xs) (sym is)
          ∙ whole;
    }

pub collects_more : (now found : Option Contents) (p : Projection) (ks : List Container) (i : ℕ) (k : Container) (columns : List ℕ) (epoch mark : ℕ) (out next : List Stamped) → now ≡ found → i < length ks → k ≡ get_or ks i k
    → Collects found (written_of p) ks (drop i ks) columns epoch mark out → Adds now p k columns epoch mark out next → Collects found (written_of p) ks (drop (i + 1) ks) columns epoch mark next
collects_more now found p ks i k columns epoch mark out next same lt at was adds m told held are =
    left_more m p k (drop (i + 1) ks) columns epoch mark out next held (adds m (same ∙ told))
    (subst (λ (x : Container). Left m (written_of p) (x ∷ drop (i + 1) ks) columns epoch mark out held) (sym at)
    (subst (λ (xs : List Container). Left m (written_of p) xs columns epoch mark out held) (drop_more ks i k lt) (was m told held are)))

none_left : (m : Contents) (es : List Written) (columns : List ℕ) (epoch mark : ℕ) (out held : List Stamped) → Left m es [] columns epoch mark out held → out ≡ judged_of columns epoch mark held
none_left m es columns epoch mark out held left = sym (append-nil out) ∙ ap (λ (xs : List Stamped). out ++ judged_of columns epoch mark xs) (sym left.are) ∙ left.whole

pub collects_all : (holds : Option Contents) (p : Projection) (ks : List Container) (i : ℕ) (columns : List ℕ) (epoch mark : ℕ) (out : List Stamped) → ks ≡ p.containers → length ks ≤ i
    → Collects holds (written_of p) ks (drop i ks) columns epoch mark out → (m : Contents) (held : List Stamped) → holds ≡ Some m → Holds m p held → out ≡ judged_of columns epoch mark held
collects_all holds p ks i columns epoch mark out same past was m held told are =
    none_left m (written_of p) columns epoch mark out held
    (subst (λ (xs : List Container). Left m (written_of p) xs columns epoch mark out held) (drop_all i ks past)
    (was m told held (subst (λ (xs : List Container). HoldsRows m (written_of p) xs held) (sym same) are)))

pub not_blamed : (now found : Option Contents) (p : Projection) (ks : List Container) (i : ℕ) (k : Container) (columns : List ℕ) (epoch mark : ℕ) (out : List Stamped) (fault : StoreFault) → now ≡ found → ks ≡ p.containers → i < length ks → k ≡ get_or ks i k
    → Collects found (written_of p) ks (drop i ks) columns epoch mark out → BlamesHere now p k fault → (m : Contents) (held : List Stamped) → found ≡ Some m → Holds m p held → IsUnblamed fault
not_blamed now found p ks i k columns epoch mark out Disk same whole lt at was blames m held told are = tt
not_blamed now found p ks i k columns epoch mark out Memory same whole lt at was blames m held told are = tt
not_blamed now found p ks i k columns epoch mark out (Damaged q) same whole lt at was blames m held told are =
    by (subst (λ (x : Container). Left m (written_of p) (x ∷ drop (i + 1) ks) columns epoch mark out held) (sym at)
    (subst (λ (xs : List Container). Left m (written_of p) xs columns epoch mark out held) (drop_more ks i k lt)
    (was m told held (subst (λ (xs : List Container). HoldsRows m (written_of p) xs held) (sym whole) are))))
  where
    here : (left : List Stamped) → HoldsRows m (written_of p) (k ∷ drop (i + 1) ks) left → ⊥
    here left (marks, rows, more, vector, marked, others, is) = blames m (same ∙ told) rows (marks, vector, marked)

    by : Left m (written_of p) (k ∷ drop (i + 1) ks) columns epoch mark out held → ⊥
    by left = here left.more left.are

-- ---- a container

pub container_adds : (holds mid : Option Contents) (p : Projection) (k : Container) (columns : List ℕ) (epoch mark : ℕ) (marks : List Mark) (old new : List Stamped)
    → ((m : Contents) (k : Container) (xs ys : List Mark) → HoldsVector m k xs → HoldsVector m k ys → xs ≡ ys) → mid ≡ holds → ((m : Contents) → holds ≡ Some m → HoldsVector m k marks)
    → AddsRows mid p k columns (epoch_at marks) epoch mark old new → Adds holds p k columns epoch mark old new
container_adds holds mid p k columns epoch mark marks old new one same vector adds m told rows (others, held, (asked, holding, is)) =
    adds m (same ∙ told) asked holding
    ∙ ap (λ (xs : List Stamped). old ++ map (on_columns columns) (judged_in epoch mark xs))
    (ap (λ (ms : List Mark). stamped_from 0 (epoch_at ms) asked) (one m k marks others (vector m told) held) ∙ sym is)

pub readable_at : (cs : List ProjColumn) (ks ps : List Container) (i : ℕ) (k : Container) → ks ≡ ps → All (IsReadable cs) ps → i < length ks → k ≡ get_or ks i k → IsReadable cs k
readable_at cs ks ps i k same all lt is = subst (IsReadable cs) (sym is) (subst (All (IsReadable cs)) (sym same) all i k lt)

abbrev pub item : List Container → ℕ → Container
item ks i = get_or ks i blank_container

pub item_is : (ks : List Container) (i : ℕ) → i < length ks → item ks i ≡ get_or ks i (item ks i)
item_is ks i lt = get_or_default ks i _ (item ks i) lt
