-- A projection that was purged has no row left that is to be purged.
use Rattle.std.proofs.Common.{◌≡◌, ℕ, zero, suc, ◌+◌, ◌<◌, ◌++◌, Bool, true, false, cond, not, eqb, List, [], ◌∷◌, length, get_or, refl, sym, ◌∙◌, ap, subst, inl, inr, arith}
use Rattle.std.proofs.lemmas.Bool.{cases_Bool, eqb-true}
use Rattle.std.proofs.lemmas.Bool.Decides.{nat_tests}
use Rattle.std.specs.Prelude.{Option, Some, None, IfSome, count_by}
use Rattle.std.specs.Option.{option_or}
use Rattle.std.specs.List.{All, AllZip, slice_get}
use Rattle.std.proofs.lemmas.List.Elements.{All-cons, All-head, All-nil, All-tail}
use Rattle.common_laws.specs.Bags.{SameBag}
use Rattle.common_laws.specs.Maps.{Contents}
use Rattle.common_laws.proofs.BagLaws.{count_cons}
use Rattle.col_disk.specs.Moved.{Moved, NoName}
use Rattle.col_disk.specs.declared.disk.Disk.{Ghosts}
use Rattle.col_value.specs.declared.row.Asked.{Asked}
use Rattle.col_value.specs.declared.row.Stamped.{Stamped}
use Rattle.row_history.specs.History.{is_retained, retained, stamped}
use Rattle.catalog_types.specs.declared.catalogue.Catalogue.{Catalogue}
use Rattle.catalog_types.specs.declared.catalogue.Container.{Container}
use Rattle.catalog_types.specs.declared.catalogue.Projection.{Projection}
use Rattle.ros_container.specs.Encodings.{Written, written_of}
use Rattle.ros_container.proofs.Long.{container_long}
use Rattle.del_vector.specs.declared.mark.Mark.{Mark}
use Rattle.del_vector.specs.Marks.{are_marks, epoch_at, AreMarks}
use Rattle.del_vector.proofs.Places.{here, later, none_before}
use Rattle.del_vector.proofs.Reading.{first_mark}
use Rattle.stored_rows.specs.Held.{Holds, HoldsVectorAt, stamped_from}
use Rattle.stored_rows.specs.Stored.{Beside, Projected, mark_in, IsLoaded, IsUnmarked, Stores, StoresRows}
use Rattle.container_writer.specs.Writing.{DataFrom}
use Rattle.moveout_job.specs.OnDisk.{IsListedBelow}
use Rattle.purge_job.specs.Purging.{AreLate, IsKeptWhole, Purges}
use Rattle.db_model.specs.Database.{Database}
use Rattle.folder_model.proofs.Committing.{stands_moved}
use Rattle.sound_laws.specs.Moves.{change_at}
use Rattle.store_commit.specs.Seen.{Seen, Stands}
use Rattle.table_store.specs.Installing.{PutsEntry}
use Rattle.table_store.proofs.Moved.{ReadIsStored}
use Rattle.table_jobs.specs.Purged.{IsKeptWholeAt}
use Rattle.table_jobs.proofs.Holding.{IsOwnAt, own_history, own_stores}
use Rattle.table_jobs.proofs.Raising.{IsRooted, job_spares}

-- ---- rows that are retained

abbrev IsRetained : ℕ → Stamped → Type 0
IsRetained mark s = is_retained mark s ≡ true

abbrev is_gone : ℕ → Stamped → Bool
is_gone mark s = not (is_retained mark s)

abbrev weight : Bool → ℕ
weight b = cond b 1 0

none_gone : (mark : ℕ) (rows : List Stamped) → count_by (is_gone mark) (retained mark rows) ≡ 0
none_gone mark [] = refl
none_gone mark (s ∷ rows) = by (is_retained mark s) refl (none_gone mark rows)
  where
    by : (b : Bool) → is_retained mark s ≡ b → count_by (is_gone mark) (retained mark rows) ≡ 0 → count_by (is_gone mark) (cond b (s ∷ retained mark rows) (retained mark rows)) ≡ 0
    by true is rest =
        let no_one : ◌≡◌ {A = ℕ} (cond (is_gone mark s) 1 0) 0 = ap (λ (b : Bool). weight (not b)) is in
        let sum = count_cons (is_gone mark) s (retained mark rows) in
        omega (arith, no_one, rest, sum)
    by false is rest = rest

all_of_none : (mark : ℕ) (rows : List Stamped) → count_by (is_gone mark) rows ≡ 0 → All (IsRetained mark) rows
all_of_none mark [] none = All-nil (IsRetained mark)
all_of_none mark (s ∷ rows) none = by (is_retained mark s) refl (λ less. all_of_none mark rows less) (count_cons (is_gone mark) s rows)
  where
    by : (b : Bool) → is_retained mark s ≡ b → (count_by (is_gone mark) rows ≡ 0 → All (IsRetained mark) rows) → count_by (is_gone mark) (s ∷ rows) ≡ cond (is_gone mark s) 1 0 + count_by (is_gone mark) rows → All (IsRetained mark) (s ∷ rows)
    by true is rest sum = All-cons (IsRetained mark) s rows is (rest (omega (arith, none, sum)))
    by false is rest sum = let one : ◌≡◌ {A = ℕ} (cond (is_gone mark s) 1 0) 1 = ap (λ (b : Bool). weight (not b)) is in absurd (omega (arith, none, sum, one))

bag_of_retained : (mark : ℕ) (held stored : List Stamped) → SameBag held (retained mark stored) → All (IsRetained mark) held
bag_of_retained mark held stored same = all_of_none mark held (same.counts (is_gone mark) ∙ none_gone mark stored)

front : {X : Type 0} (P : X → Type 0) (xs ys : List X) → All P (xs ++ ys) → All P xs
front P [] ys all = All-nil P
front P (x ∷ xs) ys all = All-cons P x xs (All-head P x (xs ++ ys) all) (front P xs ys (All-tail P x (xs ++ ys) all))

behind : {X : Type 0} (P : X → Type 0) (xs ys : List X) → All P (xs ++ ys) → All P ys
behind P [] ys all = all
behind P (x ∷ xs) ys all = behind P xs ys (All-tail P x (xs ++ ys) all)

-- ---- their deletes, and the marks

later_of : (mark : ℕ) (o : Option ℕ) (a : Asked) → IsRetained mark (stamped o a) → IfSome o (λ e. mark < e)
later_of mark None a is = tt
later_of mark (Some e) a is = grind (arith, nat_tests, is)

dels_later : (mark i : ℕ) (del : ℕ → Option ℕ) (rows : List Asked) → All (IsRetained mark) (stamped_from i del rows) → (j n : ℕ) → j < length rows → n ≡ i + j → IfSome (del n) (λ e. mark < e)
dels_later mark i del [] all j n lt is = absurd (omega (arith, lt))
dels_later mark i del (a ∷ rows) all zero n lt is =
    let same : i ≡ n = omega (arith, is) in
    subst (λ (x : ℕ). IfSome (del x) (λ e. mark < e)) same (later_of mark (del i) a (All-head (IsRetained mark) (stamped (del i) a) (stamped_from (i + 1) del rows) all))
dels_later mark i del (a ∷ rows) all (suc j) n lt is = dels_later mark (i + 1) del rows (All-tail (IsRetained mark) (stamped (del i) a) (stamped_from (i + 1) del rows) all) j n (omega (arith, lt)) (omega (arith, is))

own_epoch : (from : ℕ) (marks : List Mark) → are_marks from marks ≡ true → (i : ℕ) (d : Mark) → i < length marks → epoch_at marks (get_or marks i d).position ≡ Some (get_or marks i d).epoch
own_epoch from [] order i d lt = absurd (omega (arith, lt))
own_epoch from (m ∷ marks) order zero d lt = here m marks m.position refl
own_epoch from (m ∷ marks) order (suc i) d lt =
    let parts = first_mark from m marks order in
    let at = (get_or marks i d).position in
    let rest = own_epoch (m.position + 1) marks parts.2 i d (omega (arith, lt)) in
    elim (cases_Bool (eqb m.position at)) [
      | inl t ↦ let is = eqb-true m.position at t in let none = none_before (m.position + 1) marks at parts.2 (omega (arith, is)) in absurd (cc)
      | inr f ↦ later m marks at f ∙ rest
    ]

marks_late : (mark : ℕ) (k : Container) (b : Beside) (rows : List Asked) → AreMarks b.held → All (λ e. e.position < k.rows) b.held → length rows ≡ k.rows → All (IsRetained mark) (stamped_from 0 (mark_in b) rows) → All (λ e. mark < e.epoch) b.held
marks_late mark k b rows order within long all = λ i d lt.
    let e = get_or b.held i d in
    let there = within i d lt in
    let epoch : mark_in b e.position ≡ Some e.epoch = ap (λ (o : Option ℕ). option_or o (epoch_at b.fresh e.position)) (own_epoch 0 b.held order i d lt) in
    subst (λ (o : Option ℕ). IfSome o (λ x. mark < x)) epoch (dels_later mark 0 (mark_in b) rows all e.position e.position (omega (arith, there, long)) (omega arith))

vector_late : (mark : ℕ) (m : Contents) (k : Container) (b : Beside) (rows : List Asked) (o : Option ℕ) → HoldsVectorAt m k o b.held → length rows ≡ k.rows → All (IsRetained mark) (stamped_from 0 (mark_in b) rows) → All (λ e. mark < e.epoch) b.held
vector_late mark m k b rows None held long all = subst (All (λ e. mark < e.epoch)) (sym held) (All-nil (λ e. mark < e.epoch))
vector_late mark m k b rows (Some n) (is, file) long all = marks_late mark k b rows is.spelled.order is.within long all

beside_late : (mark : ℕ) (m : Contents) (es : List Written) (ks : List Container) (bs : List Beside) (rows : List Stamped) → StoresRows m es ks bs rows → AllZip (IsUnmarked m) ks bs → All (IsRetained mark) rows → All (AreLate mark) bs
beside_late mark m es [] [] rows stores unmarked all = All-nil (AreLate mark)
beside_late mark m es [] (b ∷ bs) rows stores unmarked all = absurd stores
beside_late mark m es (k ∷ ks) [] rows stores unmarked all = absurd stores
beside_late mark m es (k ∷ ks) (b ∷ bs) rows (first, more, vector, (asked, held, stamps), rest, is) (one, others) all =
    let both : All (IsRetained mark) (first ++ more) = subst (All (IsRetained mark)) is all in
    let own : All (IsRetained mark) (stamped_from 0 (mark_in b) asked) = subst (All (IsRetained mark)) stamps (front (IsRetained mark) first more both) in
    All-cons (AreLate mark) b bs (vector_late mark m k b asked k.marks vector (container_long m es k asked held) own, subst (All (λ e. mark < e.epoch)) (sym one.1) (All-nil (λ e. mark < e.epoch)))
    (beside_late mark m es ks bs more rest others (behind (IsRetained mark) first more both))

loaded_whole : (mark : ℕ) (m : Contents) (p : Projected) (rows : List Stamped) → IsLoaded m p → Stores m p rows → All (IsRetained mark) rows → IsKeptWhole mark p
loaded_whole mark m p rows loaded (saved, are, is) all = record {
  marks = beside_late mark m (written_of p.entry) p.entry.containers p.beside saved are loaded.beside (front (IsRetained mark) saved p.unsaved (subst (All (IsRetained mark)) is all));
  rows = subst (All (IsRetained mark)) (sym loaded.unsaved) (All-nil (IsRetained mark));
}

-- ---- where it stands

put_in : (P : Projected → Type 0) (j : ℕ) (s : Projected) (ps : List Projected) → P s → IfSome (slice_get (change_at j (λ p. s) ps) j) P
put_in P j s [] has = tt
put_in P zero s (p ∷ ps) has = has
put_in P (suc j) s (p ∷ ps) has = put_in P j s ps has

put_at : (P : Projected → Type 0) (i j : ℕ) (s : Projected) (stores : List (List Projected)) → P s → IfSome (slice_get (change_at i (change_at j (λ p. s)) stores) i) (λ ps. IfSome (slice_get ps j) P)
put_at P i j s [] has = tt
put_at P zero j s (ps ∷ pss) has = put_in P j s ps has
put_at P (suc i) j s (ps ∷ pss) has = put_at P i j s pss has

-- the entry that was purged is read again
pub purged_whole : {D : Type 0} (disk : Ghosts D) {old mid : D} (was is : Seen) (root : Catalogue) (i j : ℕ) (p : Projected) (entry : Projection) (d : Database) → ReadIsStored → IsRooted was root → IsOwnAt was.stores i j p → p.entry.fresh ≡ true
    → IsListedBelow root.next p.entry → Moved disk (DataFrom root.next) NoName old mid
    → ((m n : Contents) → disk.holds old ≡ Some m → disk.holds mid ≡ Some n → IsListedBelow root.next p.entry → Purges root.ahm m n p entry)
    → PutsEntry i j entry (disk.holds mid) was.stores is.stores → is.catalogue.ahm ≡ was.catalogue.ahm → Stands disk was old d → IsKeptWholeAt is.catalogue.ahm i j is.stores
purged_whole disk {old} {mid} was is root i j p entry d read rooted there fresh below moved purges puts same stands =
    let spare = job_spares disk old was root i j p d rooted there stands in
    let then : Stands disk was mid d = stands_moved disk {W = DataFrom root.next} {R = NoName} was.catalogue was.stores d stands spare (λ q none. absurd none) moved in
    let own = own_history stands.files was.catalogue was.stores d i j p fresh there stands.are in
    let (stored, are) = own_stores stands.files was.catalogue.ahm p d i own in
    let (held, holds, bag) = purges stands.files then.files stands.quiet.told_is then.quiet.told_is below stored are in
    let loaded : IsLoaded then.files puts.store = puts.loaded then.files then.quiet.told_is in
    let again : Stores then.files puts.store held = read then.files puts.store held loaded (subst (λ (e : Projection). Holds then.files e held) (sym puts.is) holds) in
    let whole : IsKeptWhole root.ahm puts.store = loaded_whole root.ahm then.files puts.store held loaded again (bag_of_retained root.ahm held stored bag) in
    let mark : is.catalogue.ahm ≡ root.ahm = same ∙ ap (λ (c : Catalogue). c.ahm) rooted.catalogue in
    subst (λ (n : ℕ). IsKeptWholeAt n i j is.stores) (sym mark)
    (subst (λ (stores : List (List Projected)). IsKeptWholeAt root.ahm i j stores) (sym puts.stores) (put_at (IsKeptWhole root.ahm) i j puts.store was.stores whole))
