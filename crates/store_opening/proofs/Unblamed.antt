-- A folder that reopens to a database has no file to blame.
use Rattle.std.proofs.Common.{ℕ, zero, suc, ◌≡◌, ◌<◌, ◌++◌, inl, inr, List, [], ◌∷◌, Bool, true, false, length, get_or, refl, subst, arith}
use Rattle.std.specs.Prelude.{Option, Some, None, IsSome}
use Rattle.std.specs.Bool.{OnTrue, OnFalse}
use Rattle.std.specs.List.{AllZip}
use Rattle.std.specs.FinMap.{get}
use Rattle.std.proofs.lemmas.List.Elements.{All-contains}
use Rattle.common_laws.specs.Maps.{Contents}
use Rattle.col_disk.specs.declared.disk.StoreFault.TheVariants.{Damaged}
use Rattle.col_value.specs.declared.row.Stamped.{Stamped}
use Rattle.catalog_types.specs.declared.catalogue.Catalogue.{Catalogue}
use Rattle.catalog_types.specs.declared.catalogue.Container.{Container}
use Rattle.catalog_types.specs.declared.catalogue.Projection.{Projection}
use Rattle.catalog_types.specs.declared.catalogue.Table as kept
use Rattle.catalog_types.specs.Parts.{IsTable, IsProjection}
use Rattle.catalog_types.specs.Reached.{least_lge}
use Rattle.catalog_root.specs.declared.found.Found.{Found}
use Rattle.catalog_root.specs.declared.found.Found.TheVariants.{Fresh, Root}
use Rattle.catalog_root.specs.Root.{body_file, data_file, IsRoot, HoldsBody, IsDamage, Opens}
use Rattle.catalog_root.proofs.Roots.{one_gate, one_root}
use Rattle.container_cut.specs.Blamed.{IsDamageOf}
use Rattle.db_model.specs.Database.{Database}
use Rattle.del_vector.specs.declared.mark.Mark.{Mark}
use Rattle.del_vector.specs.Marks.{epoch_at}
use Rattle.folder_model.specs.Projections.{HoldsHistory}
use Rattle.folder_model.specs.Reopening.{IsTableAt, IsCutOf, ReopensBy, Reopens}
use Rattle.ros_container.specs.Encodings.{Written, written_of}
use Rattle.stored_rows.specs.Held.{HoldsVectorAt, HoldsVector, HoldsMarked, HoldsRows}
use Rattle.store_opening.specs.Opening.{BlamesListed, BlamesOpening}
use Rattle.store_opening.proofs.Absent.{held_there}
use Rattle.vector_files.specs.Blamed.{IsNoVectorAt}

-- ---- a container of a projection whose files hold rows

abbrev HeldOne : Contents → List Written → Container → Type 0
HeldOne m es k = (marks : List Mark) × (here : List Stamped) × HoldsVector m k marks × HoldsMarked m es k (epoch_at marks) here

held_at : (m : Contents) (es : List Written) (ks : List Container) (rows : List Stamped) → HoldsRows m es ks rows → (i : ℕ) (k : Container) → i < length ks → get_or ks i k ≡ k → HeldOne m es k
held_at m es [] rows held i k lt is = absurd (omega (arith, lt))
held_at m es (x ∷ ks) rows (marks, here, more, vector, marked, rest, same) zero k lt is = subst (HeldOne m es) is (marks, here, vector, marked)
held_at m es (x ∷ ks) rows (marks, here, more, vector, marked, rest, same) (suc i) k lt is = held_at m es ks more rest i k (omega (arith, lt)) is

not_damaged : (m : Contents) (p : Projection) (q : ℕ) (k : Container) → HeldOne m (written_of p) k → IsDamageOf p m q k → ⊥
not_damaged m p q k (marks, here, vector, marked) damage = damage.none (here ++ []) (marks, here, [], vector, marked, refl, refl)

has_vector : (m : Contents) (k : Container) (q : ℕ) (o : Option ℕ) (marks : List Mark) → HoldsVectorAt m k o marks → IsNoVectorAt k (Some m) q o → ⊥
has_vector m k q None marks held blamed = blamed
has_vector m k q (Some n) marks held blamed = blamed.1 m refl marks held

-- a projection that is up to date holds rows, and another one has no container
held_in : (m : Contents) (mark epoch : ℕ) (rows : List Stamped) (p : Projection) (b : Bool) → OnTrue b (HoldsHistory m mark epoch rows p) → OnFalse b ((p.lge ≡ 0) × (p.born ≡ 0) × (length p.containers ≡ 0))
    → (i : ℕ) (k : Container) → i < length p.containers → get_or p.containers i k ≡ k → HeldOne m (written_of p) k
held_in m mark epoch rows p true fresh stale i k lt is = held_at m (written_of p) p.containers fresh.0 fresh.1 i k lt is
held_in m mark epoch rows p false fresh stale i k lt is = let none = stale.2 in absurd (omega (arith, lt, none))

-- ---- tables

zip_at : {X Y : Type 0} (P : X → Y → Type 0) (xs : List X) (ys : List Y) → AllZip P xs ys → (i : ℕ) (x : X) → i < length xs → get_or xs i x ≡ x → (y : Y) × P x y
zip_at P [] ys all i x lt is = absurd (omega (arith, lt))
zip_at P (x ∷ xs) [] all i z lt is = absurd all
zip_at P (x ∷ xs) (y ∷ ys) (here, more) zero z lt is = (y, subst (λ w. P w y) is here)
zip_at P (x ∷ xs) (y ∷ ys) (here, more) (suc i) z lt is = zip_at P xs ys more i z (omega (arith, lt)) is

-- each container that a root lists holds rows
listed_held : (m : Contents) (v : ℕ) (c : Catalogue) (d : Database) → IsRoot m v c → IsCutOf m c d
    → (i : ℕ) (t : kept.Table) → i < length c.tables → get_or c.tables i t ≡ t → (j : ℕ) (p : Projection) → j < length t.projections → get_or t.projections j p ≡ p
    → (n : ℕ) (k : Container) → n < length p.containers → get_or p.containers n k ≡ k → HeldOne m (written_of p) k
listed_held m v c d root is_cut i t lt is j p below there n k within at =
    let found = zip_at (IsTableAt m c.ahm (least_lge c)) c.tables d.tables is_cut.tables i t lt is in
    let valid = All-contains (IsTable c) c.tables t root.valid.tables (i, lt, is) in
    let entry = All-contains (IsProjection c t) t.projections p valid.projections (j, below, there) in
    held_in m c.ahm (least_lge c) found.0.rows p p.fresh
    (All-contains (λ e. OnTrue e.fresh (HoldsHistory m c.ahm (least_lge c) found.0.rows e)) t.projections p found.1.rows (j, below, there)) entry.stale n k within at

not_absent : {X : Type 0} (o : Option X) → o ≡ None → IsSome o → ⊥
not_absent None none some = absurd (cc)
not_absent (Some x) none some = absurd (cc)

none_listed : (m : Contents) (v : ℕ) (c : Catalogue) (d : Database) (q : ℕ) → IsRoot m v c → IsCutOf m c d → BlamesListed c (Some m) (Damaged q) → ⊥
none_listed m v c d q root is_cut (inl (some, absent)) =
    let entry = some.4 in
    let container = entry.4 in
    let held = listed_held m v c d root is_cut some.0 some.1 some.2 some.3 entry.0 entry.1 entry.2 entry.3 container.0 container.1 container.2 container.3 in
    not_absent (get m q) (absent m refl) (held_there m (written_of entry.1) container.1 (held.1 ++ []) q (held.0, held.1, [], held.2, held.3, refl, refl) container.4)
none_listed m v c d q root is_cut (inr (inl table)) =
    let entry = table.4 in
    let container = entry.4 in
    let held = listed_held m v c d root is_cut table.0 table.1 table.2 table.3 entry.0 entry.1 entry.2 entry.3 container.0 container.1 container.2 container.3 in
    has_vector m container.1 q container.1.marks held.0 held.2 container.4
none_listed m v c d q root is_cut (inr (inr (past, blamed))) =
    let table = blamed m refl in
    let entry = table.4 in
    let container = entry.4 in
    not_damaged m entry.1 q container.1
    (listed_held m v c d root is_cut table.0 table.1 table.2 table.3 entry.0 entry.1 entry.2 entry.3 container.0 container.1 container.2 container.3) container.4

-- ---- roots

none_damaged : (m : Contents) (q : ℕ) (found : Found) → Opens m found → IsDamage m q → ⊥
none_damaged m q Fresh fresh (inl (v, is, gate, none)) = fresh.closed v gate.is_open
none_damaged m q (Root w c) root (inl (v, is, gate, none)) =
    let same = one_gate m w v root.gate gate in
    none c (record { valid = root.valid; below = subst (λ x. x < c.next) same root.below }) (subst (λ x. HoldsBody (get m (body_file x)) c) same root.body)
none_damaged m q Fresh fresh (inr (n, is, closed, least)) = not_absent (get m (data_file n)) (fresh.blank n) least.there
none_damaged m q (Root w c) root (inr (n, is, closed, least)) = closed w root.gate.is_open

none_found : (m : Contents) (d : Database) (q v : ℕ) (c : Catalogue) (found : Found) → Opens m found → ReopensBy m found d → IsRoot m v c → BlamesListed c (Some m) (Damaged q) → ⊥
none_found m d q v c Fresh fresh by root blamed = fresh.closed v root.gate.is_open
none_found m d q v c (Root w e) own by root blamed =
    let same = (one_root m w v e c own root).1 in
    none_listed m v c d q root (subst (λ x. IsCutOf m x d) same by) blamed

pub none_blamed : (m : Contents) (d : Database) (q : ℕ) → Reopens m d → BlamesOpening (Some m) (Damaged q) → ⊥
none_blamed m d q reopens (inl blamed) = none_damaged m q reopens.root reopens.opens (blamed m refl)
none_blamed m d q reopens (inr (v, c, root, blamed)) = none_found m d q v c reopens.root reopens.opens reopens.is_cut (root m refl) blamed

pub reopening_unblamed : (holds : Option Contents) (m : Contents) (d : Database) (q : ℕ) → holds ≡ Some m → Reopens m d → BlamesOpening holds (Damaged q) → ⊥
reopening_unblamed holds m d q told reopens blamed = none_blamed m d q reopens (subst (λ (h : Option Contents). BlamesOpening h (Damaged q)) told blamed)
