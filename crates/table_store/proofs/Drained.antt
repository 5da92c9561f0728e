-- A draft on its way: one projection more was moved out, or wasn't behind.
use Rattle.std.proofs.Common.{◌≡◌, ℕ, zero, suc, ◌+◌, ◌*◌, ◌<◌, ◌≤◌, Bool, true, false, cond, List, [], ◌∷◌, ◌++◌, length, map, filter, reverse, set, get_or, refl, sym, ◌∙◌, ap, subst, inl, inr, arith}
use Rattle.std.specs.Prelude.{◌&&◌, ◌⊎◌, nat_lt, Option, Some, None, IfSome, IsSomeAnd}
use Rattle.std.specs.List.{All, slice_get}
use Rattle.std.proofs.lemmas.List.{get_or-map, get_or_default, length-append, length-map, reverse-append}
use Rattle.std.proofs.lemmas.List.Elements.{All-append, All-cons, All-head, All-nil, All-tail, All-weaker, filter-append}
use Rattle.common_laws.specs.Bags.{SameBag}
use Rattle.common_laws.specs.Maps.{Contents}
use Rattle.col_value.specs.declared.row.Stamped.{Stamped}
use Rattle.col_disk.specs.declared.disk.Disk.{Ghosts}
use Rattle.col_disk.specs.Moved.{Moved as Moves, NoName}
use Rattle.col_disk.proofs.Moving.{changed_kept, moved_told}
use Rattle.catalog_types.specs.declared.catalogue.Projection.{Projection}
use Rattle.catalog_types.specs.declared.catalogue.Table as kept
use Rattle.catalog_types.specs.declared.catalogue.Catalogue.{Catalogue}
use Rattle.catalog_types.specs.Valid.{IsValid}
use Rattle.catalog_root.specs.Root.{data_file}
use Rattle.container_writer.specs.Writing.{DataFrom}
use Rattle.cut_model.proofs.Staying.{undrawn_unlisted}
use Rattle.db_model.specs.Database.{Database, Shape, Table, is_behind}
use Rattle.db_model.specs.Epochs.{all_shapes}
use Rattle.db_model.specs.Mover.{behind}
use Rattle.db_model.specs.Sound.{IsSoundDatabase}
use Rattle.folder_model.specs.Projections.{shape_of}
use Rattle.folder_model.specs.Tables.{AreDatabase, StandForTables}
use Rattle.folder_model.proofs.Committing.{database_moved}
use Rattle.folder_model.proofs.ListedFiles.{tables_same}
use Rattle.moveout_job.specs.OnDisk.{IsListedBelow, IsMovedOut, KeepsStored}
use Rattle.proj_store.specs.Loaded.{Loaded}
use Rattle.sound_laws.specs.Moves.{change_at, moved_at}
use Rattle.sound_laws.proofs.Moved.{moved_sound}
use Rattle.store_commit.specs.Seen.{Seen}
use Rattle.stored_rows.specs.Held.{Holds}
use Rattle.stored_rows.specs.Stored.{Projected, IsLoaded, Stores}
use Rattle.table_store.specs.Draining.{all_caught_up, put_all, put_one, DrawsMany, GoesOn, IsBefore, IsDraft, IsDraftOf, IsMovedBefore, IsNotBehindAt, IsPlaced}
use Rattle.table_store.specs.Drawing.{FewContainers}
use Rattle.table_store.specs.Faults.{IsReadable}
use Rattle.table_store.specs.Held.{at_epoch, projections_of}
use Rattle.table_store.specs.Moving.{with_entry, with_entry_at}
use Rattle.table_store.specs.declared.draining.Moved.{Moved}
use Rattle.table_store.specs.declared.draining.Draft.{Draft}
use Rattle.table_store.proofs.Counted.{count_moved, none_left, not_below, rest_moved, StandsAt}
use Rattle.table_store.proofs.Drawn.{entry_small}
use Rattle.table_store.proofs.Nexts.{long_change}
use Rattle.table_store.proofs.Moved.{at_place, drawn_later, entries_moved, entry_below, is_at, moved_are, stored_at, stores_moved, ReadIsStored}
use Rattle.table_store.proofs.Unblamed.{tables_readable}

-- ---- places

-- a projection at a place of the table at a place
abbrev pub AtPlace : {X : Type 0} → List (List X) → ℕ → ℕ → (X → Type 0) → Type 0
AtPlace stores i j P = IsSomeAnd (slice_get stores i) (λ ps. IsSomeAnd (slice_get ps j) P)

other_kept : {X : Type 0} (a j : ℕ) (f : X → X) (xs : List X) (P : X → Type 0) → a < j → IsSomeAnd (slice_get xs j) P → IsSomeAnd (slice_get (change_at a f xs) j) P
other_kept a j f [] P lt is = absurd is
other_kept zero zero f (x ∷ xs) P lt is = absurd (omega (arith, lt))
other_kept zero (suc j) f (x ∷ xs) P lt is = is
other_kept (suc a) zero f (x ∷ xs) P lt is = absurd (omega (arith, lt))
other_kept (suc a) (suc j) f (x ∷ xs) P lt is = other_kept a j f xs P (omega (arith, lt)) is

own_kept : {X : Type 0} (i : ℕ) (f : X → X) (xs : List X) (P Q : X → Type 0) → ((x : X) → P x → Q (f x)) → IsSomeAnd (slice_get xs i) P → IsSomeAnd (slice_get (change_at i f xs) i) Q
own_kept i f [] P Q h is = absurd is
own_kept zero f (x ∷ xs) P Q h is = h x is
own_kept (suc i) f (x ∷ xs) P Q h is = own_kept i f xs P Q h is

one_kept : (f : Moved) (stores : List (List Projected)) (i j : ℕ) (P : Projected → Type 0) → IsMovedBefore i j f → AtPlace stores i j P → AtPlace (put_one f stores) i j P
one_kept f stores i j P (inl lt) at = other_kept f.table i (change_at f.place (λ p. f.store.stored)) stores (λ ps. IsSomeAnd (slice_get ps j) P) lt at
one_kept f stores i j P (inr (same, lt)) at =
    subst (λ (a : ℕ). AtPlace (change_at a (change_at f.place (λ p. f.store.stored)) stores) i j P) (sym same)
    (own_kept i (change_at f.place (λ p. f.store.stored)) stores (λ ps. IsSomeAnd (slice_get ps j) P) (λ ps. IsSomeAnd (slice_get ps j) P) (λ ps here. other_kept f.place j (λ p. f.store.stored) ps P lt here) at)

-- what stands behind all that were moved out is as it was
pub all_kept : (fs : List Moved) (stores : List (List Projected)) (i j : ℕ) (P : Projected → Type 0) → All (IsMovedBefore i j) fs → AtPlace stores i j P → AtPlace (put_all fs stores) i j P
all_kept [] stores i j P before at = at
all_kept (f ∷ fs) stores i j P before at =
    all_kept fs (put_one f stores) i j P (All-tail (IsMovedBefore i j) f fs before) (one_kept f stores i j P (All-head (IsMovedBefore i j) f fs before) at)

pub put_more : (fs : List Moved) (f : Moved) (stores : List (List Projected)) → put_all (fs ++ f ∷ []) stores ≡ put_one f (put_all fs stores)
put_more [] f stores = refl
put_more (g ∷ fs) f stores = put_more fs f (put_one g stores)

-- the entry at a place
in_table : (P : Projection → Type 0) (ps : List Projected) (es : List Projection) (j : ℕ) → map (λ p. p.entry) ps ≡ es → IsSomeAnd (slice_get ps j) (λ p. P p.entry) → IsSomeAnd (slice_get es j) P
in_table P [] es j same at = absurd at
in_table P (p ∷ ps) [] j same at = absurd (cc)
in_table P (p ∷ ps) (e ∷ es) zero same at = let one : p.entry ≡ e = cc in subst P one at
in_table P (p ∷ ps) (e ∷ es) (suc j) same at = let rest : map (λ q. q.entry) ps ≡ es = cc in in_table P ps es j rest at

pub in_tables : (P : Projection → Type 0) (pss : List (List Projected)) (ts : List kept.Table) (i j : ℕ) → map (λ ps. map (λ p. p.entry) ps) pss ≡ map (λ t. t.projections) ts → AtPlace pss i j (λ p. P p.entry)
    → IsSomeAnd (slice_get ts i) (λ t. IsSomeAnd (slice_get t.projections j) P)
in_tables P [] ts i j same at = absurd at
in_tables P (ps ∷ pss) [] i j same at = absurd (cc)
in_tables P (ps ∷ pss) (t ∷ ts) zero j same at = let one : map (λ p. p.entry) ps ≡ t.projections = cc in in_table P ps t.projections j one at
in_tables P (ps ∷ pss) (t ∷ ts) (suc i) j same at = let rest : map (λ qs. map (λ p. p.entry) qs) pss ≡ map (λ u. u.projections) ts = cc in in_tables P pss ts i j rest at

within : {X : Type 0} (xs : List X) (j : ℕ) (P : X → Type 0) → IsSomeAnd (slice_get xs j) P → j < length xs
within [] j P is = absurd is
within (x ∷ xs) zero P is = omega arith
within (x ∷ xs) (suc j) P is = let lt = within xs j P is in omega (arith, lt)

some_weaker : {X : Type 0} (P Q : X → Type 0) (o : Option X) → ((x : X) → P x → Q x) → IsSomeAnd o P → IsSomeAnd o Q
some_weaker P Q None h is = absurd is
some_weaker P Q (Some x) h is = h x is

pub at_weaker : {X : Type 0} (stores : List (List X)) (i j : ℕ) (P Q : X → Type 0) → ((x : X) → P x → Q x) → AtPlace stores i j P → AtPlace stores i j Q
at_weaker stores i j P Q h at = some_weaker (λ ps. IsSomeAnd (slice_get ps j) P) (λ ps. IsSomeAnd (slice_get ps j) Q) (slice_get stores i) (λ ps here. some_weaker P Q (slice_get ps j) h here) at

-- the shape at a place
shape_in : (ps : List Projection) (ss : List Shape) (j : ℕ) (P : Projection → Type 0) (s : Shape) → ss ≡ map shape_of ps → IsSomeAnd (slice_get ps j) (λ p. shape_of p ≡ s) → slice_get ss j ≡ Some s
shape_in [] ss j P s same at = absurd at
shape_in (p ∷ ps) [] j P s same at = absurd (cc)
shape_in (p ∷ ps) (x ∷ ss) zero P s same at = let one : x ≡ shape_of p = cc in ap Some (one ∙ at)
shape_in (p ∷ ps) (x ∷ ss) (suc j) P s same at = let rest : ss ≡ map shape_of ps = cc in shape_in ps ss j P s rest at

shape_there : (m : Contents) (mark : ℕ) (ts : List kept.Table) (pss : List (List Projected)) (us : List Table) (i j : ℕ) (s : Shape) → StandForTables m mark ts pss us
    → IsSomeAnd (slice_get ts i) (λ t. IsSomeAnd (slice_get t.projections j) (λ p. shape_of p ≡ s)) → StandsAt us i j s
shape_there m mark [] pss us i j s stand at = absurd at
shape_there m mark (t ∷ ts) [] us i j s stand at = absurd stand
shape_there m mark (t ∷ ts) (ps ∷ pss) [] i j s stand at = absurd stand
shape_there m mark (t ∷ ts) (ps ∷ pss) (u ∷ us) zero j s (here, more) at = shape_in t.projections u.shapes j (λ p. Unit {0}) s here.shapes at
shape_there m mark (t ∷ ts) (ps ∷ pss) (u ∷ us) (suc i) j s (here, more) at = shape_there m mark ts pss us i j s more at

-- what stands at a place of the store
pub stored_there : (tables : List (List Loaded)) (stores : List (List Projected)) (i j : ℕ) (ps : List Loaded) (p : Loaded) → map projections_of tables ≡ stores → IsSomeAnd (slice_get stores i) (λ qs. j < length qs) → ps ≡ get_or tables i ps → p ≡ get_or ps j p
    → AtPlace stores i j (λ q. p.stored ≡ q)
stored_there tables stores i j ps p same there ps_is p_is =
    let (qs, lt, qs_are, below) = at_place stores i (λ rs. j < length rs) there in
    let short : i < length tables = omega (arith, lt, sym (ap length same) ∙ length-map tables projections_of) in
    let at : projections_of ps ≡ get_or stores i (projections_of ps) = stored_at tables i ps short ps_is ∙ ap (λ (pss : List (List Projected)). get_or pss i (projections_of ps)) same in
    let both : qs ≡ projections_of ps = qs_are ∙ get_or_default stores i qs (projections_of ps) lt ∙ sym at in
    let within_it : j < length ps = omega (arith, below, ap length both, length-map ps (λ (q : Loaded). q.stored)) in
    is_at stores i (projections_of ps) (λ rs. IsSomeAnd (slice_get rs j) (λ q. p.stored ≡ q)) lt at
    (is_at (projections_of ps) j p.stored (λ q. p.stored ≡ q) (omega (arith, within_it, length-map ps (λ (q : Loaded). q.stored)))
    (ap (λ (q : Loaded). q.stored) p_is ∙ sym (get_or-map (λ (q : Loaded). q.stored) ps j p p.stored within_it)) refl)

-- how long a table of the store is
pub of_long : (tables : List (List Loaded)) (stores : List (List Projected)) (i : ℕ) (ps : List Loaded) (P : ℕ → Type 0) → map projections_of tables ≡ stores → i < length stores → ps ≡ get_or tables i ps → P (length ps) → IsSomeAnd (slice_get stores i) (λ qs. P (length qs))
of_long tables stores i ps P same lt ps_is is =
    let short : i < length tables = omega (arith, lt, sym (ap length same) ∙ length-map tables projections_of) in
    let at : projections_of ps ≡ get_or stores i (projections_of ps) = stored_at tables i ps short ps_is ∙ ap (λ (pss : List (List Projected)). get_or pss i (projections_of ps)) same in
    is_at stores i (projections_of ps) (λ qs. P (length qs)) lt at (subst P (sym (length-map ps (λ (q : Loaded). q.stored))) is)

all_at : {X : Type 0} (P : X → Type 0) (pss : List (List X)) (i j : ℕ) (p : X) → All (All P) pss → AtPlace pss i j (λ q. p ≡ q) → P p
all_at {X} P pss i j p all at =
    let (ps, lt, ps_is, inner) = at_place pss i (λ qs. IsSomeAnd (slice_get qs j) (λ q. p ≡ q)) at in
    let (q, below, q_is, p_is) = at_place ps j (λ x. p ≡ x) inner in
    subst P (sym p_is) (subst P (sym q_is) ((subst (All P) (sym ps_is) (all i ps lt)) j q below))

-- it can be read over the files of a draft, and its numbers were drawn
pub readable_there : (s : Seen) (draft : Draft) (i j : ℕ) (p : Projected) (m : Contents) (d : Database) → IsDraft s i j draft → IsDraftOf s draft m d → AtPlace s.stores i j (λ q. p ≡ q) → IsReadable m p
readable_there s draft i j p m d is of at =
    all_at (IsReadable m) (put_all draft.moved.items s.stores) i j p (tables_readable m draft.root.ahm draft.root.tables (put_all draft.moved.items s.stores) of.made.tables of.are.tables)
    (all_kept draft.moved.items s.stores i j (λ q. p ≡ q) is.before at)

pub below_there : (s : Seen) (draft : Draft) (i j : ℕ) (p : Projected) → IsDraft s i j draft → AtPlace s.stores i j (λ q. p ≡ q) → IsListedBelow draft.root.next p.entry
below_there s draft i j p is at =
    let stores = put_all draft.moved.items s.stores in
    let there : AtPlace stores i j (λ q. p ≡ q) = all_kept draft.moved.items s.stores i j (λ q. p ≡ q) is.before at in
    let (ps, lt, ps_are, inner) = at_place stores i (λ qs. IsSomeAnd (slice_get qs j) (λ q. p ≡ q)) there in
    let (q, below, q_is, p_is) = at_place ps j (λ x. p ≡ x) inner in
    entry_below draft.root stores i j ps p is.valid is.entries lt ps_are below (subst (λ (x : Projected). x ≡ get_or ps j x) (sym p_is) q_is)

pub fresh_of : (last : ℕ) (p : Projection) → is_behind last (shape_of p) ≡ true → p.fresh ≡ true
fresh_of last p late = left p.fresh (nat_lt p.lge last) late
  where
    left : (a b : Bool) → (a && b) ≡ true → a ≡ true
    left true b is = refl
    left false b is = absurd (cc)

-- what a test of an entry says of it
pub later_is : (last upto : ℕ) (entry p : Projection) (b is : Bool) → last ≡ upto → entry ≡ p → b ≡ is_behind last (shape_of entry) → b ≡ is → is_behind upto (shape_of p) ≡ is
later_is last upto entry p b is one two test told = sym (ap (λ (l : ℕ). is_behind l (shape_of p)) one) ∙ sym (ap (λ (e : Projection). is_behind last (shape_of e)) two) ∙ sym test ∙ told

pub spare_from : (s : Seen) (draft : Draft) (i j : ℕ) → IsDraft s i j draft → (q : ℕ) → DataFrom draft.root.next q → DataFrom s.catalogue.next q
spare_from s draft i j is q (n, from, at) = let room = is.room in (n, omega (arith, from, room), at)

-- ---- what a draft is over the files

-- a moveout touches no file that the draft lists
pub still_are : {D : Type 0} (disk : Ghosts D) {old new : D} (root : Catalogue) (last : ℕ) (stores : List (List Projected)) (m : Contents) (d : Database) → IsValid root → disk.holds old ≡ Some m
    → Moves disk (DataFrom root.next) NoName old new → AreDatabase m (at_epoch last root) stores d → (n : Contents) × (disk.holds new ≡ Some n) × AreDatabase n (at_epoch last root) stores d
still_are disk root last stores m d valid told moved are =
    let (n, now, changed) = moved_told disk m told moved in (
      n,
      now,
      database_moved m n (at_epoch last root) stores d
          (tables_same m n (at_epoch last root) (λ k listed. changed_kept (DataFrom root.next) NoName m n (data_file k) (λ from. undrawn_unlisted k root valid (below k from) listed) (λ q. q) changed)) are,
    )
  where
    below : (k : ℕ) → DataFrom root.next (data_file k) → root.next ≤ k
    below k (n, from, is) = omega (arith, from, is)

pub goes_moved : ReadIsStored → {D : Type 0} (disk : Ghosts D) {old new : D} (s : Seen) (draft next : Draft) (i j after : ℕ) (p : Projected) (entry : Projection) (store : Loaded)
    → IsDraft s i j draft → AtPlace s.stores i j (λ q. p ≡ q) → is_behind s.catalogue.last (shape_of p.entry) ≡ true → p.entry.fresh ≡ true
    → IsMovedOut s.catalogue.last draft.root.next after p.entry entry → KeepsStored draft.root.next p entry (disk.holds old) (disk.holds new)
    → ((m : Contents) → disk.holds new ≡ Some m → IsLoaded m store.stored) → store.stored.entry ≡ entry → Moves disk (DataFrom draft.root.next) NoName old new
    → next.root ≡ with_entry_at s.catalogue.last after i j entry draft.root → next.moved.items ≡ draft.moved.items ++ (record { table = i; place = j; store = store }) ∷ []
    → GoesOn s draft next (disk.holds old) (disk.holds new)
goes_moved read disk {old} {new} s draft next i j after p entry store is at late fresh moved moves loaded same written root_is moved_is = λ m d told of.
    let stores : List (List Projected) = put_all draft.moved.items s.stores in
    let there : AtPlace stores i j (λ q. p ≡ q) = all_kept draft.moved.items s.stores i j (λ q. p ≡ q) is.before at in
    let (ps, lt, ps_are, inner) = at_place stores i (λ qs. IsSomeAnd (slice_get qs j) (λ q. p ≡ q)) there in
    let (q, below, q_is, p_is) = at_place ps j (λ x. p ≡ x) inner in
    let here : p ≡ get_or ps j p = subst (λ (x : Projected). x ≡ get_or ps j x) (sym p_is) q_is in
    let (n, now, are) = still_are disk {old = old} {new = new} draft.root s.catalogue.last stores m of.made is.valid told written of.are in
    let c : Catalogue = at_epoch s.catalogue.last draft.root in
    let moved_new : IsMovedOut s.catalogue.last draft.root.next after p.entry store.stored.entry = subst (IsMovedOut s.catalogue.last draft.root.next after p.entry) (sym same) moved in
    let holds : (stored : List Stamped) → Stores m p stored → (held : List Stamped) × Holds n store.stored.entry held × SameBag stored held =
    subst (λ (e : Projection). (stored : List Stamped) → Stores m p stored → (held : List Stamped) × Holds n e held × SameBag stored held) (sym same)
    (moves m n told now (entry_below draft.root stores i j ps p is.valid is.entries lt ps_are below here)) in
    let made = moved_are read m n c stores of.made after draft.root.next after i j ps p store.stored lt ps_are below here fresh moved_new (loaded n now) holds of.are are in
    let shape : StandsAt of.made.tables i j (shape_of p.entry) =
    shape_there m c.ahm c.tables stores of.made.tables i j (shape_of p.entry) of.are.tables (in_tables (λ e. shape_of e ≡ shape_of p.entry) stores c.tables i j is.entries (at_weaker stores i j (λ x. p ≡ x) (λ x. shape_of x.entry ≡ shape_of p.entry) (λ x eq. ap (λ (y : Projected). shape_of y.entry) (sym eq)) there)) in
    let behind_there : is_behind of.made.last (shape_of p.entry) ≡ true = ap (λ (l : ℕ). is_behind l (shape_of p.entry)) of.are.last ∙ late in (
      n,
      now,
      record {
        made = moved_at i j of.made;
        are =
            subst (λ (k : Catalogue). AreDatabase n (at_epoch s.catalogue.last k) (put_all next.moved.items s.stores) (moved_at i j of.made)) (sym root_is)
            (subst (λ (fs : List Moved). AreDatabase n (with_entry_at s.catalogue.last after i j entry draft.root) (put_all fs s.stores) (moved_at i j of.made)) (sym moved_is)
            (subst (λ (pss : List (List Projected)). AreDatabase n (with_entry_at s.catalogue.last after i j entry draft.root) pss (moved_at i j of.made)) (sym (put_more draft.moved.items (record { table = i; place = j; store = store }) s.stores))
            (subst (λ (e : Projection). AreDatabase n (with_entry_at s.catalogue.last after i j e draft.root) (change_at i (change_at j (λ x. store.stored)) stores) (moved_at i j of.made)) same made)));
        sound = moved_sound of.made i j of.sound;
        moved = record {
          rest = rest_moved of.made i j (shape_of p.entry) shape behind_there ∙ of.moved.rest;
          left = one_more (length (behind (moved_at i j of.made))) (length (behind of.made)) (length draft.moved.items) (length next.moved.items) (length (behind d)) (count_moved of.made i j (shape_of p.entry) shape behind_there) of.moved.left (ap length moved_is ∙ length-append draft.moved.items ((record { table = i; place = j; store = store }) ∷ []));
          last = of.moved.last;
        };
      },
    )
  where
    one_more : (a b n k c : ℕ) → a + 1 ≡ b → b + n ≡ c → k ≡ n + 1 → a + k ≡ c
    one_more a b n k c one two three = omega (arith, one, two, three)

-- ---- what is done so far

upto : (b j : ℕ) → (b < j) ⊎ (j ≤ b)
upto b zero = inr (omega arith)
upto zero (suc j) = inl (omega arith)
upto (suc b) (suc j) = by (upto b j)
  where
    by : (b < j) ⊎ (j ≤ b) → (suc b < suc j) ⊎ (suc j ≤ suc b)
    by (inl lt) = inl (omega (arith, lt))
    by (inr le) = inr (omega (arith, le))

other_same : {X : Type 0} (i a : ℕ) (f : X → X) (xs : List X) → a < i → slice_get (change_at i f xs) a ≡ slice_get xs a
other_same i a f [] lt = refl
other_same zero a f (x ∷ xs) lt = absurd (omega (arith, lt))
other_same (suc i) zero f (x ∷ xs) lt = refl
other_same (suc i) (suc a) f (x ∷ xs) lt = other_same i a f xs (omega (arith, lt))

own_if : {X : Type 0} (i : ℕ) (f : X → X) (xs : List X) (P Q : X → Type 0) → ((x : X) → P x → Q (f x)) → IfSome (slice_get xs i) P → IfSome (slice_get (change_at i f xs) i) Q
own_if i f [] P Q h is = tt
own_if zero f (x ∷ xs) P Q h is = h x is
own_if (suc i) f (x ∷ xs) P Q h is = own_if i f xs P Q h is

any_if : {X : Type 0} (i : ℕ) (e : X) (xs : List X) (P : X → Type 0) → P e → IfSome (slice_get (change_at i (λ x. e) xs) i) P
any_if i e [] P is = tt
any_if zero e (x ∷ xs) P is = is
any_if (suc i) e (x ∷ xs) P is = any_if i e xs P is

some_if : {X : Type 0} (P : X → Type 0) (o : Option X) → IsSomeAnd o P → IfSome o P
some_if P None is = absurd is
some_if P (Some x) is = is

abbrev IsOnDisk : ℕ → Projection → Type 0
IsOnDisk last p = is_behind last (shape_of p) ≡ false

-- the projection at a place isn't behind any more
done_moved : (last : ℕ) (ts : List kept.Table) (i j : ℕ) (e : Projection) → is_behind last (shape_of e) ≡ false → ((a b : ℕ) → IsBefore i j a b → IsNotBehindAt last ts a b)
    → (a b : ℕ) → IsBefore i (j + 1) a b → IsNotBehindAt last (change_at i (with_entry j e) ts) a b
done_moved last ts i j e late done a b (inl lt) =
    subst (λ (o : Option kept.Table). IfSome o (λ t. IfSome (slice_get t.projections b) (λ p. is_behind last (shape_of p) ≡ false))) (sym (other_same i a (with_entry j e) ts lt)) (done a b (inl lt))
done_moved last ts i j e late done a b (inr (same, lt)) = subst (λ (k : ℕ). IsNotBehindAt last (change_at i (with_entry j e) ts) k b) (sym same) (by (upto b j))
  where
    by : (b < j) ⊎ (j ≤ b) → IsNotBehindAt last (change_at i (with_entry j e) ts) i b
    by (inl before) =
        own_if i (with_entry j e) ts (λ t. IfSome (slice_get t.projections b) (IsOnDisk last)) (λ t. IfSome (slice_get t.projections b) (IsOnDisk last))
        (λ t here. subst (λ (o : Option Projection). IfSome o (IsOnDisk last)) (sym (other_same j b (λ p. e) t.projections before)) here) (done i b (inr (refl, before)))
    by (inr le) =
        let own : b ≡ j = omega (arith, lt, le) in
        subst (λ (k : ℕ). IsNotBehindAt last (change_at i (with_entry j e) ts) i k) (sym own) (each ts i)
      where
        each : (us : List kept.Table) (k : ℕ) → IfSome (slice_get (change_at k (with_entry j e) us) k) (λ t. IfSome (slice_get t.projections j) (IsOnDisk last))
        each [] k = tt
        each (t ∷ us) zero = any_if j e t.projections (IsOnDisk last) late
        each (t ∷ us) (suc k) = each us k

done_still : (last : ℕ) (ts : List kept.Table) (i j : ℕ) → IsSomeAnd (slice_get ts i) (λ t. IsSomeAnd (slice_get t.projections j) (λ p. is_behind last (shape_of p) ≡ false)) → ((a b : ℕ) → IsBefore i j a b → IsNotBehindAt last ts a b)
    → (a b : ℕ) → IsBefore i (j + 1) a b → IsNotBehindAt last ts a b
done_still last ts i j here done a b (inl lt) = done a b (inl lt)
done_still last ts i j here done a b (inr (same, lt)) = by (upto b j)
  where
    by : (b < j) ⊎ (j ≤ b) → IsNotBehindAt last ts a b
    by (inl before) = done a b (inr (same, before))
    by (inr le) =
        let own : b ≡ j = omega (arith, lt, le) in
        subst (λ (k : ℕ). IsNotBehindAt last ts k b) (sym same) (subst (λ (k : ℕ). IsNotBehindAt last ts i k) (sym own)
        (some_if (λ t. IfSome (slice_get t.projections j) (λ p. is_behind last (shape_of p) ≡ false)) (slice_get ts i)
        (some_weaker (λ t. IsSomeAnd (slice_get t.projections j) (λ p. is_behind last (shape_of p) ≡ false)) (λ t. IfSome (slice_get t.projections j) (λ p. is_behind last (shape_of p) ≡ false)) (slice_get ts i)
        (λ t is. some_if (λ p. is_behind last (shape_of p) ≡ false) (slice_get t.projections j) is) here)))

beyond : {X : Type 0} (xs : List X) (b : ℕ) (P : X → Type 0) → length xs ≤ b → IfSome (slice_get xs b) P
beyond [] b P le = tt
beyond (x ∷ xs) zero P le = absurd (omega (arith, le))
beyond (x ∷ xs) (suc b) P le = beyond xs b P (omega (arith, le))

-- a table is as long as it was
long_one : (f : Moved) (stores : List (List Projected)) (i j : ℕ) → IsSomeAnd (slice_get stores i) (λ ps. length ps ≤ j) → IsSomeAnd (slice_get (put_one f stores) i) (λ ps. length ps ≤ j)
long_one f stores i j is = each stores f.table i is
  where
    each : (pss : List (List Projected)) (a k : ℕ) → IsSomeAnd (slice_get pss k) (λ ps. length ps ≤ j) → IsSomeAnd (slice_get (change_at a (change_at f.place (λ p. f.store.stored)) pss) k) (λ ps. length ps ≤ j)
    each [] a k at = absurd at
    each (ps ∷ pss) zero zero at = omega (arith, at, long_change f.place (λ (p : Projected). f.store.stored) ps)
    each (ps ∷ pss) zero (suc k) at = at
    each (ps ∷ pss) (suc a) zero at = at
    each (ps ∷ pss) (suc a) (suc k) at = each pss a k at

long_all : (fs : List Moved) (stores : List (List Projected)) (i j : ℕ) → IsSomeAnd (slice_get stores i) (λ ps. length ps ≤ j) → IsSomeAnd (slice_get (put_all fs stores) i) (λ ps. length ps ≤ j)
long_all [] stores i j is = is
long_all (f ∷ fs) stores i j is = long_all fs (put_one f stores) i j (long_one f stores i j is)

long_tables : (fs : List Moved) (stores : List (List Projected)) → length (put_all fs stores) ≡ length stores
long_tables [] stores = refl
long_tables (f ∷ fs) stores = long_tables fs (put_one f stores) ∙ long_change f.table (change_at f.place (λ p. f.store.stored)) stores

table_long : (pss : List (List Projected)) (ts : List kept.Table) (i j : ℕ) → map (λ ps. map (λ p. p.entry) ps) pss ≡ map (λ t. t.projections) ts → IsSomeAnd (slice_get pss i) (λ ps. length ps ≤ j) → IsSomeAnd (slice_get ts i) (λ t. length t.projections ≤ j)
table_long [] ts i j same at = absurd at
table_long (ps ∷ pss) [] i j same at = absurd (cc)
table_long (ps ∷ pss) (t ∷ ts) zero j same at = let one : map (λ p. p.entry) ps ≡ t.projections = cc in omega (arith, at, sym (length-map ps (λ (p : Projected). p.entry)) ∙ ap length one)
table_long (ps ∷ pss) (t ∷ ts) (suc i) j same at = let rest : map (λ qs. map (λ p. p.entry) qs) pss ≡ map (λ u. u.projections) ts = cc in table_long pss ts i j rest at

done_table : (last : ℕ) (ts : List kept.Table) (i j : ℕ) → IsSomeAnd (slice_get ts i) (λ t. length t.projections ≤ j) → ((a b : ℕ) → IsBefore i j a b → IsNotBehindAt last ts a b)
    → (a b : ℕ) → IsBefore (i + 1) 0 a b → IsNotBehindAt last ts a b
done_table last ts i j long done a b (inr (same, lt)) = absurd (omega (arith, lt))
done_table last ts i j long done a b (inl lt) = by (upto a i) (upto b j)
  where
    by : (a < i) ⊎ (i ≤ a) → (b < j) ⊎ (j ≤ b) → IsNotBehindAt last ts a b
    by (inl before) h = done a b (inl before)
    by (inr le) (inl before) = done a b (inr (omega (arith, lt, le), before))
    by (inr le) (inr above) =
        let own : a ≡ i = omega (arith, lt, le) in
        subst (λ (k : ℕ). IsNotBehindAt last ts k b) (sym own)
        (some_if (λ t. IfSome (slice_get t.projections b) (λ p. is_behind last (shape_of p) ≡ false)) (slice_get ts i)
        (some_weaker (λ t. length t.projections ≤ j) (λ t. IfSome (slice_get t.projections b) (λ p. is_behind last (shape_of p) ≡ false)) (slice_get ts i)
        (λ t is. beyond t.projections b (λ p. is_behind last (shape_of p) ≡ false) (omega (arith, is, above))) long))

-- ---- the numbers

more_times : (n rise : ℕ) → n * rise + rise ≡ (n + 1) * rise
more_times n rise = grind arith

abbrev HasFew : ℕ → Projection → Type 0
HasFew most p = length p.containers ≤ most

abbrev IsSmall : ℕ → kept.Table → Type 0
IsSmall most t = All (HasFew most) t.projections

all_change : {X : Type 0} (P : X → Type 0) (i : ℕ) (f : X → X) (xs : List X) → ((x : X) → P x → P (f x)) → All P xs → All P (change_at i f xs)
all_change P i f [] keeps all = All-nil P
all_change P zero f (x ∷ xs) keeps all = All-cons P (f x) xs (keeps x (All-head P x xs all)) (All-tail P x xs all)
all_change P (suc i) f (x ∷ xs) keeps all = All-cons P x (change_at i f xs) (All-head P x xs all) (all_change P i f xs keeps (All-tail P x xs all))

draws_more : (s root : Catalogue) (n i j after last columns containers : ℕ) (entry : Projection) → DrawsMany n s root → columns ≤ 64 → ((most : ℕ) → FewContainers most s → containers ≤ most) → root.next ≤ after → after ≤ root.next + 2 * (columns + 1) + 1 + containers
    → length entry.containers ≤ containers + 1 → DrawsMany (n + 1) s (with_entry_at last after i j entry root)
draws_more s root n i j after last columns containers entry draws narrow small later rise count = record {
  from = let from = draws.from in omega (arith, from, later);
  upto = λ most few. upto_more most (draws.upto most few) (small most few);
  few = λ most few. all_change (IsSmall (most + 1)) i (with_entry j entry) root.tables (λ t here. all_change (HasFew (most + 1)) j (λ p. entry) t.projections (λ p own. let least = small most few in omega (arith, count, least)) here) (draws.few most few);
  none = λ zero_is. absurd (omega (arith, zero_is));
}
  where
    upto_more : (most : ℕ) → root.next ≤ s.next + n * (most + 132) → containers ≤ most → after + 1 ≤ s.next + (n + 1) * (most + 132)
    upto_more most before least = subst (λ (k : ℕ). after + 1 ≤ s.next + k) (more_times n (most + 132)) (within_rise (n * (most + 132)) before)
      where
        within_rise : (k : ℕ) → root.next ≤ s.next + k → after + 1 ≤ s.next + (k + (most + 132))
        within_rise k one = omega (arith, one, rise, narrow, least)

-- ---- the steps

pub draft_moved : (s : Seen) (root : Catalogue) (draft next : Draft) (i j after : ℕ) (p : Projected) (entry : Projection) (store : Loaded)
    → IsDraft s i j draft → s.catalogue ≡ at_epoch s.catalogue.last root → IsValid root → map (λ ps. map (λ q. q.entry) ps) s.stores ≡ map (λ t. t.projections) root.tables
    → AtPlace s.stores i j (λ q. p ≡ q) → IsMovedOut s.catalogue.last draft.root.next after p.entry entry
    → after ≤ draft.root.next + 2 * (length p.entry.columns + 1) + 1 + length p.entry.containers → length entry.containers ≤ length p.entry.containers + 1 → store.stored.entry ≡ entry
    → next.root ≡ with_entry_at s.catalogue.last after i j entry draft.root → IsValid next.root → next.moved.items ≡ draft.moved.items ++ (record { table = i; place = j; store = store }) ∷ []
    → IsDraft s i (j + 1) next
draft_moved s root draft next i j after p entry store is of valid held at moved rise count same root_is valid_next moved_is =
    let f : Moved = record { table = i; place = j; store = store } in
    let (ps, lt, ps_are, inner) = at_place s.stores i (λ qs. IsSomeAnd (slice_get qs j) (λ q. p ≡ q)) at in
    let (q, below, q_is, p_is) = at_place ps j (λ x. p ≡ x) inner in
    let here : p ≡ get_or ps j p = subst (λ (x : Projected). x ≡ get_or ps j x) (sym p_is) q_is in
    let small = entry_small root s.stores i j ps p valid held lt ps_are below here in
    let later = drawn_later s.catalogue.last draft.root.next after p.entry entry moved in
    let longer : length next.moved.items ≡ length draft.moved.items + 1 = ap length moved_is ∙ length-append draft.moved.items (f ∷ []) in
    record {
      valid = valid_next;
      entries =
          subst (λ (fs : List Moved). map (λ ps. map (λ x. x.entry) ps) (put_all fs s.stores) ≡ map (λ t. t.projections) next.root.tables) (sym moved_is)
          (ap (map (λ (qs : List Projected). map (λ x. x.entry) qs)) (put_more draft.moved.items f s.stores)
          ∙ entries_moved draft.root next.root (put_all draft.moved.items s.stores) s.catalogue.last after i j store.stored is.entries (subst (λ (e : Projection). next.root ≡ with_entry_at s.catalogue.last after i j e draft.root) (sym same) root_is));
      before =
          subst (All (IsMovedBefore i (j + 1))) (sym moved_is)
          (All-append (IsMovedBefore i (j + 1)) draft.moved.items (f ∷ []) (All-weaker (IsMovedBefore i j) (IsMovedBefore i (j + 1)) (λ g b. further g b) draft.moved.items is.before)
          (All-cons (IsMovedBefore i (j + 1)) f [] (inr (refl, omega arith)) (All-nil (IsMovedBefore i (j + 1)))));
      placed =
          subst (All (IsPlaced s.stores)) (sym moved_is)
          (All-append (IsPlaced s.stores) draft.moved.items (f ∷ []) is.placed
          (All-cons (IsPlaced s.stores) f [] (some_weaker (λ qs. IsSomeAnd (slice_get qs j) (λ x. p ≡ x)) (λ qs. j < length qs) (slice_get s.stores i) (λ qs has. within qs j (λ x. p ≡ x) has) at) (All-nil (IsPlaced s.stores))));
      last = λ some. ap (λ (c : Catalogue). c.last) root_is;
      room = let room = is.room in omega (arith, room, later, longer, ap (λ (c : Catalogue). c.next) root_is);
      draws =
          subst (λ (n : ℕ). DrawsMany n s.catalogue next.root) (sym longer)
          (subst (DrawsMany (length draft.moved.items + 1) s.catalogue) (sym root_is)
          (draws_more s.catalogue draft.root (length draft.moved.items) i j after s.catalogue.last (length p.entry.columns) (length p.entry.containers) entry is.draws small.0 (λ most few. small.1 most (subst (λ (c : Catalogue). FewContainers most c) of few)) later rise count));
      done =
          subst (λ (c : Catalogue). (a b : ℕ) → IsBefore i (j + 1) a b → IsNotBehindAt s.catalogue.last c.tables a b) (sym root_is)
          (done_moved s.catalogue.last draft.root.tables i j entry (ap (λ (e : Projection). is_behind s.catalogue.last (shape_of e)) moved.is ∙ not_below s.catalogue.last) is.done);
    }
  where
    further : (g : Moved) → IsMovedBefore i j g → IsMovedBefore i (j + 1) g
    further g (inl lt) = inl lt
    further g (inr (own, lt)) = inr (own, omega (arith, lt))

-- it wasn't behind
pub draft_still : (s : Seen) (draft : Draft) (i j : ℕ) → IsDraft s i j draft → AtPlace s.stores i j (λ p. is_behind s.catalogue.last (shape_of p.entry) ≡ false) → IsDraft s i (j + 1) draft
draft_still s draft i j is at = record {
  valid = is.valid;
  entries = is.entries;
  before = All-weaker (IsMovedBefore i j) (IsMovedBefore i (j + 1)) (λ g b. further g b) draft.moved.items is.before;
  placed = is.placed;
  last = is.last;
  room = is.room;
  draws = is.draws;
  done =
      done_still s.catalogue.last draft.root.tables i j
      (in_tables (λ e. is_behind s.catalogue.last (shape_of e) ≡ false) (put_all draft.moved.items s.stores) draft.root.tables i j is.entries (all_kept draft.moved.items s.stores i j (λ p. is_behind s.catalogue.last (shape_of p.entry) ≡ false) is.before at)) is.done;
}
  where
    further : (g : Moved) → IsMovedBefore i j g → IsMovedBefore i (j + 1) g
    further g (inl lt) = inl lt
    further g (inr (own, lt)) = inr (own, omega (arith, lt))

-- a table is done
pub draft_next : (s : Seen) (draft : Draft) (i j : ℕ) → IsDraft s i j draft → IsSomeAnd (slice_get s.stores i) (λ ps. length ps ≤ j) → IsDraft s (i + 1) 0 draft
draft_next s draft i j is long = record {
  valid = is.valid;
  entries = is.entries;
  before = All-weaker (IsMovedBefore i j) (IsMovedBefore (i + 1) 0) (λ g b. further g b) draft.moved.items is.before;
  placed = is.placed;
  last = is.last;
  room = is.room;
  draws = is.draws;
  done = done_table s.catalogue.last draft.root.tables i j (table_long (put_all draft.moved.items s.stores) draft.root.tables i j is.entries (long_all draft.moved.items s.stores i j long)) is.done;
}
  where
    further : (g : Moved) → IsMovedBefore i j g → IsMovedBefore (i + 1) 0 g
    further g (inl lt) = inl (omega (arith, lt))
    further g (inr (own, lt)) = inl (omega (arith, own))

-- nothing is moved out yet
pub draft_first : (s : Seen) (root : Catalogue) (draft : Draft) → s.catalogue ≡ at_epoch s.catalogue.last root → IsValid root → map (λ ps. map (λ q. q.entry) ps) s.stores ≡ map (λ t. t.projections) root.tables → draft.root ≡ root → draft.moved.items ≡ []
    → IsDraft s 0 0 draft
draft_first s root draft of valid held root_is none =
    let zero_long : length draft.moved.items ≡ 0 = ap length none in
    let same_next : s.catalogue.next ≡ draft.root.next = ap (λ (c : Catalogue). c.next) of ∙ ap (λ (c : Catalogue). c.next) (sym root_is) in
    record {
      valid = subst IsValid (sym root_is) valid;
      entries = subst (λ (fs : List Moved). map (λ ps. map (λ x. x.entry) ps) (put_all fs s.stores) ≡ map (λ t. t.projections) draft.root.tables) (sym none) (held ∙ ap (λ (c : Catalogue). map (λ t. t.projections) c.tables) (sym root_is));
      before = subst (All (IsMovedBefore 0 0)) (sym none) (All-nil (IsMovedBefore 0 0));
      placed = subst (All (IsPlaced s.stores)) (sym none) (All-nil (IsPlaced s.stores));
      last = λ some. absurd (some none);
      room = omega (arith, zero_long, same_next);
      draws = record {
        from = omega (arith, same_next);
        upto = λ most few. omega (arith, same_next);
        few = λ most few. all_weaker most draft.root.tables (subst (λ (c : Catalogue). FewContainers most c) (sym root_is) (subst (λ (c : Catalogue). FewContainers most c) of few));
        none = λ zero_is. ap (λ (c : Catalogue). c.tables) root_is ∙ sym (ap (λ (c : Catalogue). c.tables) of);
      };
      done = λ a b before. absurd (nothing a b before);
    }
  where
    nothing : (a b : ℕ) → IsBefore 0 0 a b → ⊥
    nothing a b (inl lt) = omega (arith, lt)
    nothing a b (inr (own, lt)) = omega (arith, lt)

    all_weaker : (most : ℕ) (ts : List kept.Table) → All (IsSmall most) ts → All (IsSmall (most + 1)) ts
    all_weaker most ts all = All-weaker (IsSmall most) (IsSmall (most + 1)) (λ t small. All-weaker (HasFew most) (HasFew (most + 1)) (λ p few. omega (arith, few)) t.projections small) ts all

pub draft_of_first : (s : Seen) (root : Catalogue) (draft : Draft) (m : Contents) (d : Database) → s.catalogue ≡ at_epoch s.catalogue.last root → draft.root ≡ root → draft.moved.items ≡ [] → AreDatabase m s.catalogue s.stores d → IsSoundDatabase d → IsDraftOf s draft m d
draft_of_first s root draft m d of root_is none are sound = record {
  made = d;
  are =
      subst (λ (fs : List Moved). AreDatabase m (at_epoch s.catalogue.last draft.root) (put_all fs s.stores) d) (sym none)
      (subst (λ (c : Catalogue). AreDatabase m (at_epoch s.catalogue.last c) s.stores d) (sym root_is) (subst (λ (c : Catalogue). AreDatabase m c s.stores d) of are));
  sound = sound;
  moved = record { rest = refl; left = omega (arith, ap length none); last = refl };
}

-- ---- all is done

none_behind : (m : Contents) (mark last : ℕ) (ts : List kept.Table) (pss : List (List Projected)) (us : List Table) → StandForTables m mark ts pss us → ((a b : ℕ) → IsNotBehindAt last ts a b) → filter (is_behind last) (all_shapes us) ≡ []
none_behind m mark last [] [] [] stand done = refl
none_behind m mark last [] [] (u ∷ us) stand done = absurd stand
none_behind m mark last [] (ps ∷ pss) us stand done = absurd stand
none_behind m mark last (t ∷ ts) [] us stand done = absurd stand
none_behind m mark last (t ∷ ts) (ps ∷ pss) [] stand done = absurd stand
none_behind m mark last (t ∷ ts) (ps ∷ pss) (u ∷ us) (here, more) done =
    filter-append (is_behind last) u.shapes (all_shapes us)
    ∙ nothing (filter (is_behind last) u.shapes) (filter (is_behind last) (all_shapes us)) (ap (filter (is_behind last)) here.shapes ∙ shapes t.projections (λ b. done 0 b)) (none_behind m mark last ts pss us more (λ a b. done (suc a) b))
  where
    nothing : (xs ys : List Shape) → xs ≡ [] → ys ≡ [] → xs ++ ys ≡ []
    nothing xs ys one two = subst (λ (zs : List Shape). zs ++ ys ≡ []) (sym one) two

    shapes : (es : List Projection) → ((b : ℕ) → IfSome (slice_get es b) (λ p. is_behind last (shape_of p) ≡ false)) → filter (is_behind last) (map shape_of es) ≡ []
    shapes [] none = refl
    shapes (e ∷ es) none = ap (λ (b : Bool). cond b (shape_of e ∷ filter (is_behind last) (map shape_of es)) (filter (is_behind last) (map shape_of es))) (none 0) ∙ shapes es (λ b. none (suc b))

-- what was moved out in the end
pub record IsDrained (draft : Draft) (d made : Database) : Type 0 where
  pub is : made ≡ all_caught_up d
  pub count : length draft.moved.items ≡ length (behind d)

pub draft_done : (s : Seen) (draft : Draft) (m : Contents) (d : Database) → IsDraft s (length s.stores) 0 draft → (of : IsDraftOf s draft m d) → IsDrained draft d of.made
draft_done s draft m d is of =
    let c : Catalogue = at_epoch s.catalogue.last draft.root in
    let stores = put_all draft.moved.items s.stores in
    let empty : filter (is_behind s.catalogue.last) (all_shapes of.made.tables) ≡ [] = none_behind m c.ahm s.catalogue.last c.tables stores of.made.tables of.are.tables (λ a b. each a b (upto a (length s.stores))) in
    let none : behind of.made ≡ [] = ap (λ (l : ℕ). filter (is_behind l) (all_shapes of.made.tables)) of.are.last ∙ empty in
    record {
      is = sym (none_left of.made none) ∙ of.moved.rest;
      count = let left = of.moved.left in let zero_long : length (behind of.made) ≡ 0 = ap length none in counted_out (length (behind of.made)) (length draft.moved.items) (length (behind d)) zero_long left;
    }
  where
    counted_out : (a n c : ℕ) → a ≡ 0 → a + n ≡ c → n ≡ c
    counted_out a n c one two = omega (arith, one, two)

    tables_long : length draft.root.tables ≡ length s.stores
    tables_long =
        sym (length-map draft.root.tables (λ (t : kept.Table). t.projections)) ∙ ap length (sym is.entries) ∙ length-map (put_all draft.moved.items s.stores) (λ (ps : List Projected). map (λ p. p.entry) ps)
        ∙ long_tables draft.moved.items s.stores

    each : (a b : ℕ) → (a < length s.stores) ⊎ (length s.stores ≤ a) → IsNotBehindAt s.catalogue.last draft.root.tables a b
    each a b (inl lt) = is.done a b (inl lt)
    each a b (inr le) = beyond draft.root.tables a (λ t. IfSome (slice_get t.projections b) (λ p. is_behind s.catalogue.last (shape_of p) ≡ false)) (omega (arith, le, tables_long))

-- ---- the places of what was moved out

abbrev pub AllPlaced : List (List Projected) → List Moved → Type 0
AllPlaced stores fs = All (IsPlaced stores) fs

placed_still : (f : Moved) (stores : List (List Projected)) (fs : List Moved) → AllPlaced stores fs → AllPlaced (put_one f stores) fs
placed_still f stores fs all = All-weaker (IsPlaced stores) (IsPlaced (put_one f stores)) (λ g is. each stores f.table g.table g.place is) fs all
  where
    each : (pss : List (List Projected)) (a k j : ℕ) → IsSomeAnd (slice_get pss k) (λ ps. j < length ps) → IsSomeAnd (slice_get (change_at a (change_at f.place (λ p. f.store.stored)) pss) k) (λ ps. j < length ps)
    each [] a k j at = absurd at
    each (ps ∷ pss) zero zero j at = omega (arith, at, long_change f.place (λ (p : Projected). f.store.stored) ps)
    each (ps ∷ pss) zero (suc k) j at = at
    each (ps ∷ pss) (suc a) zero j at = at
    each (ps ∷ pss) (suc a) (suc k) j at = each pss a k j at

-- the next one comes off the end of those that are left
pub turned : (xs ys : List Moved) (x : Moved) → xs ≡ ys ++ x ∷ [] → reverse xs ≡ x ∷ reverse ys
turned xs ys x is = ap reverse is ∙ reverse-append ys (x ∷ [])

pub place_of_one : (tables : List (List Loaded)) (f : Moved) (fs : List Moved) → AllPlaced (map projections_of tables) (f ∷ fs) → IsPlaced (map projections_of tables) f
place_of_one tables f fs all = All-head (IsPlaced (map projections_of tables)) f fs all

pub placed_table : (tables : List (List Loaded)) (f : Moved) → IsPlaced (map projections_of tables) f → f.table < length tables
placed_table tables f at = let (qs, lt, qs_are, below) = at_place (map projections_of tables) f.table (λ rs. f.place < length rs) at in omega (arith, lt, length-map tables projections_of)

pub placed_in : (tables : List (List Loaded)) (f : Moved) (ps : List Loaded) → IsPlaced (map projections_of tables) f → ps ≡ get_or tables f.table ps → f.place < length ps
placed_in tables f ps at ps_is =
    let (qs, lt, qs_are, below) = at_place (map projections_of tables) f.table (λ rs. f.place < length rs) at in
    let both : qs ≡ projections_of ps = qs_are ∙ get_or_default (map projections_of tables) f.table qs (projections_of ps) lt ∙ sym (stored_at tables f.table ps (placed_table tables f at) ps_is) in
    omega (arith, below, ap length both, length-map ps (λ (q : Loaded). q.stored))

pub one_put : (tables after : List (List Loaded)) (f : Moved) (ps new : List Loaded) → IsPlaced (map projections_of tables) f → ps ≡ get_or tables f.table ps → new ≡ set ps f.place f.store → after ≡ set tables f.table new
    → map projections_of after ≡ put_one f (map projections_of tables)
one_put tables after f ps new at ps_is new_is after_is =
    stores_moved tables after f.table f.place ps f.store (placed_table tables f at) ps_is (placed_in tables f ps at ps_is) (after_is ∙ ap (set tables f.table) new_is)

pub placed_rest : (tables after : List (List Loaded)) (f : Moved) (fs : List Moved) → AllPlaced (map projections_of tables) (f ∷ fs) → map projections_of after ≡ put_one f (map projections_of tables) → AllPlaced (map projections_of after) fs
placed_rest tables after f fs all is = subst (λ (pss : List (List Projected)). AllPlaced pss fs) (sym is) (placed_still f (map projections_of tables) fs (All-tail (IsPlaced (map projections_of tables)) f fs all))
