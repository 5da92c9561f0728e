-- What the checks of two stores come to, at the begin and behind it.
use Rattle.std.proofs.Common.{◌≡◌, ◌≤◌, ◌<◌, inl, inr, ℕ, List, refl, sym, ap, ◌∙◌, subst, arith}
use Rattle.std.specs.Prelude.{max, IsSomeAnd, Result, Ok, Err}
use Rattle.std.specs.List.{slice_get}
use Rattle.common_laws.specs.Maps.{Contents}
use Rattle.col_disk.specs.Moved.{Leaves, Moved, NoName}
use Rattle.col_disk.specs.declared.disk.Disk.{Ghosts}
use Rattle.col_disk.specs.declared.disk.StoreFault.TheVariants as store
use Rattle.col_disk.proofs.Moving.{leaves_wider}
use Rattle.col_value.specs.declared.row.Stamped.{Stamped}
use Rattle.db_model.specs.Database.{Database}
use Rattle.db_model.specs.Epochs.{cut}
use Rattle.db_model.specs.State.{State}
use Rattle.folder_model.specs.Reopening.{Reopens}
use Rattle.store_commit.specs.Making.{ReopensToEither}
use Rattle.table_store.proofs.Standing.{reads_only}
use Rattle.store_core.proofs.Purging.{named_there}
use Rattle.store_core.specs.Running.{Running, IsState}
use Rattle.catalog_types.specs.declared.catalogue.Table as kept
use Rattle.catch_model.specs.Caught.{later_mark, HaveSameTables}
use Rattle.catch_model.specs.Refused.{is_gap, IsAccepted, IsAhead, IsLeastName, IsOlder, NoEpoch}
use Rattle.catch_model.specs.Added.{has_too_many}
use Rattle.catch_model.specs.declared.fault.LinkFault.{LinkFault}
use Rattle.catch_model.specs.declared.fault.LinkFault.TheVariants.{HistoryGone, NotBehind, SchemaDiffers}
use Rattle.catch_schemas.specs.Schemas.{columns_in, AreAscending}
use Rattle.catch_tables.specs.Told.{AreToldBy, History}
use Rattle.buddy_link.specs.Linked.{linked, Tells}
use Rattle.buddy_link.specs.Linking.{mark_between, Ends, GoesOn, IsChecked, MayGoOn, MayReplay, Replays, ReopensBehindOrCaught}
use Rattle.catch_rows.specs.Sharing.{ShareAt}
use Rattle.buddy_link.proofs.Compared.{AreCompared, IsReadAt}
use Rattle.buddy_link.proofs.Named.{named_alike, rising}
use Rattle.buddy_link.proofs.Stays.{columns_told, mark_told, tables_ascend}

-- ---- the tables, the newest epochs and the marks

pub same_tables : {A B : Type 0} (behind : Ghosts A) (ahead : Ghosts B) (at : A) (from : B) (r t : Running) (a b : State) → IsState behind r at a → IsState ahead t from b → ((name : List ℕ) → columns_in name r.seen.catalogue.tables ≡ columns_in name t.seen.catalogue.tables) → HaveSameTables a.database b.database
same_tables behind ahead at from r t a b here there same = λ name. sym (columns_told behind at r a name here) ∙ same name ∙ columns_told ahead from t b name there

-- the same of equal lists of tables
pub of_tables : (xs ys us vs : List kept.Table) → xs ≡ us → ys ≡ vs → ((name : List ℕ) → columns_in name xs ≡ columns_in name ys) → (name : List ℕ) → columns_in name us ≡ columns_in name vs
of_tables xs ys us vs one two same = λ name. ap (columns_in name) (sym one) ∙ same name ∙ ap (columns_in name) two

abbrev IsLeastApart : List kept.Table → List kept.Table → List ℕ → Type 0
IsLeastApart xs ys name = AreAscending xs → AreAscending ys → IsLeastName (λ m. columns_in m xs ≡ columns_in m ys) name

pub schema_ends : {A B : Type 0} (behind : Ghosts A) (ahead : Ghosts B) (at : A) (from : B) (r t : Running) (a b : State) (epoch : ℕ) (xs ys : List kept.Table) (name copy : List ℕ) → IsState behind r at a → IsState ahead t from b
    → xs ≡ r.seen.catalogue.tables → ys ≡ t.seen.catalogue.tables → copy ≡ name → IsLeastApart xs ys name → Ends a.database b.database epoch (SchemaDiffers copy)
schema_ends behind ahead at from r t a b epoch xs ys name copy here there one two same found = by (subst (IsLeastApart xs ys) (sym same) found)
  where
    by : IsLeastApart xs ys copy → Ends a.database b.database epoch (SchemaDiffers copy)
    by found =
        let least = subst (λ (us : List kept.Table). IsLeastApart us t.seen.catalogue.tables copy) one (subst (λ (vs : List kept.Table). IsLeastApart xs vs copy) two found) (tables_ascend behind at r a here) (tables_ascend ahead from t b there) in
        inl (record {
          bad = λ same. least.bad (columns_told behind at r a copy here ∙ same ∙ sym (columns_told ahead from t b copy there));
          least = λ other less. sym (columns_told behind at r a other here) ∙ least.least other less ∙ columns_told ahead from t b other there;
        })

pub later_ends : {A B : Type 0} (behind : Ghosts A) (ahead : Ghosts B) (at : A) (from : B) (r t : Running) (a b : State) (epoch m n : ℕ) → IsState behind r at a → IsState ahead t from b → ((name : List ℕ) → columns_in name r.seen.catalogue.tables ≡ columns_in name t.seen.catalogue.tables)
    → m ≡ r.seen.catalogue.last → n ≡ t.seen.catalogue.last → n < m → Ends a.database b.database epoch (NotBehind m n)
later_ends behind ahead at from r t a b epoch m n here there same one two less =
    let behind_is : m ≡ a.database.last = one ∙ sym here.database.are.last in
    let ahead_is : n ≡ b.database.last = two ∙ sym there.database.are.last in
    inl (same_tables behind ahead at from r t a b here there same, subst (λ (k : ℕ). b.database.last < k) behind_is (subst (λ (k : ℕ). k < m) ahead_is less), behind_is, ahead_is)

pub gone_ends : {A B : Type 0} (behind : Ghosts A) (ahead : Ghosts B) (at : A) (from : B) (r t : Running) (a b : State) (epoch mark : ℕ) → IsState behind r at a → IsState ahead t from b → ((name : List ℕ) → columns_in name r.seen.catalogue.tables ≡ columns_in name t.seen.catalogue.tables)
    → r.seen.catalogue.last ≤ t.seen.catalogue.last → mark ≡ t.seen.catalogue.ahm → epoch < mark → Ends a.database b.database epoch (HistoryGone epoch mark)
gone_ends behind ahead at from r t a b epoch mark here there same le is less =
    let mark_is : mark ≡ b.database.ahm = is ∙ sym there.database.are.ahm in
    inl (
      same_tables behind ahead at from r t a b here there same,
      subst (λ (n : ℕ). n ≤ b.database.last) (sym here.database.are.last) (subst (λ (n : ℕ). r.seen.catalogue.last ≤ n) (sym there.database.are.last) le),
      subst (λ (n : ℕ). epoch < n) mark_is less,
      refl,
      mark_is,
    )

pub is_ahead : {A B : Type 0} (behind : Ghosts A) (ahead : Ghosts B) (at : A) (from : B) (r t : Running) (a b : State) (epoch : ℕ) → IsState behind r at a → IsState ahead t from b → ((name : List ℕ) → columns_in name r.seen.catalogue.tables ≡ columns_in name t.seen.catalogue.tables)
    → r.seen.catalogue.last ≤ t.seen.catalogue.last → t.seen.catalogue.ahm ≤ epoch → IsAhead a.database b.database epoch
is_ahead behind ahead at from r t a b epoch here there same le within = record {
  tables = same_tables behind ahead at from r t a b here there same;
  last = subst (λ (n : ℕ). n ≤ b.database.last) (sym here.database.are.last) (subst (λ (n : ℕ). r.seen.catalogue.last ≤ n) (sym there.database.are.last) le);
  mark = subst (λ (n : ℕ). n ≤ epoch) (sym there.database.are.ahm) within;
}

-- ---- the histories

-- the tables of two stores can be compared, where the one ahead tells its history from the epoch on
pub compared : {A B : Type 0} (behind : Ghosts A) (ahead : Ghosts B) (at : A) (from : B) (r t : Running) (a b : State) (epoch : ℕ) → IsState behind r at a → IsState ahead t from b → IsAhead a.database b.database epoch → AreCompared (mark_between r t) epoch a.database b.database
compared behind ahead at from r t a b epoch here there is = record {
  is = mark_told behind ahead at from r t a b here there;
  behind = here.sound.database;
  ahead = there.sound.database;
  alike = named_alike behind ahead at from r t a b here there is.tables;
  rising = rising ahead from t b there;
}

-- what was read of the table at a place
pub read_at : {A B : Type 0} (behind : Ghosts A) (ahead : Ghosts B) (at : A) (from : B) (r t : Running) (a b : State) (place : ℕ) (name : List ℕ) (xs ys : List Stamped) → IsState behind r at a → IsState ahead t from b → IsSomeAnd (slice_get t.seen.catalogue.tables place) (λ u. u.name ≡ name)
    → ShareAt (mark_between r t) place xs ys a.database b.database → IsReadAt (mark_between r t) place name xs ys a.database b.database
read_at behind ahead at from r t a b place name xs ys here there named shares = record {
  named = named_there there.database.files t.seen.catalogue.ahm t.seen.catalogue.tables t.seen.stores b.database.tables place name there.database.are.tables named;
  sound = here.sound.database.tables;
  shares = shares (subst (λ (n : ℕ). n ≤ mark_between r t) (sym here.database.are.ahm) (omega arith)) (subst (λ (n : ℕ). n ≤ mark_between r t) (sym there.database.are.ahm) (omega arith));
}

-- the later mark is no later than the epoch
pub mark_within : {A B : Type 0} (behind : Ghosts A) (ahead : Ghosts B) (at : A) (from : B) (r t : Running) (a b : State) (epoch : ℕ) → IsState behind r at a → IsState ahead t from b → a.database.last ≡ epoch → IsAhead a.database b.database epoch → mark_between r t ≤ epoch
mark_within behind ahead at from r t a b epoch here there last is =
    subst (λ (n : ℕ). n ≤ epoch) (sym (mark_told behind ahead at from r t a b here there)) (within a.database.ahm b.database.ahm (subst (λ (n : ℕ). a.database.ahm ≤ n) last here.sound.database.mark) is.mark)
  where
    within : (m n : ℕ) → m ≤ epoch → n ≤ epoch → max m n ≤ epoch
    within m n one two = omega (arith, one, two)

pub checked : {A B : Type 0} (behind : Ghosts A) (ahead : Ghosts B) (at : A) (from : B) (r t : Running) (a b : State) (epoch last : ℕ) (hs : List History) → IsState behind r at a → IsState ahead t from b → IsAhead a.database b.database epoch → AreToldBy (mark_between r t) epoch hs b.database → IsOlder a.database b.database epoch
    → last ≡ b.database.last → NoEpoch (is_gap b.database) epoch last → NoEpoch (has_too_many b.database) epoch last → IsChecked epoch hs a.database b.database
checked behind ahead at from r t a b epoch last hs here there is told older same gaps many = record {
  accepted = record {
    ahead = is;
    older = older;
    no_gap = subst (λ (n : ℕ). NoEpoch (is_gap b.database) epoch n) same gaps;
    no_more = subst (λ (n : ℕ). NoEpoch (has_too_many b.database) epoch n) same many;
  };
  told = subst (λ (n : ℕ). AreToldBy n epoch hs b.database) (mark_told behind ahead at from r t a b here there) told;
}

-- ---- the begin

pub begun : {A B : Type 0} (behind : Ghosts A) (ahead : Ghosts B) (at : A) (from : B) (r t : Running) (a b : State) (epoch e f mark : ℕ) (hs : List History) → IsState behind r at a → IsState ahead t from b → epoch ≡ r.seen.catalogue.last → e ≡ r.seen.catalogue.last → f ≡ t.seen.catalogue.last → mark ≡ mark_between r t
    → (a.database.last ≡ epoch → IsChecked epoch hs a.database b.database) → IsAccepted a.database b.database a.database.last × Tells (linked e f mark hs) a.database b.database
begun behind ahead at from r t a b epoch e f mark hs here there epoch_is e_is f_is mark_is found =
    let same : epoch ≡ a.database.last = epoch_is ∙ sym here.database.are.last in
    let later : mark ≡ later_mark a.database b.database = mark_is ∙ mark_told behind ahead at from r t a b here there in
    let is = found (sym same) in (
      subst (IsAccepted a.database b.database) same is.accepted,
      record { e = e_is ∙ sym here.database.are.last; f = f_is ∙ sym there.database.are.last; mark = later; tables = subst (λ (n : ℕ). AreToldBy n e hs b.database) (sym later) (subst (λ (k : ℕ). AreToldBy (later_mark a.database b.database) k hs b.database) (epoch_is ∙ sym e_is) is.told) },
    )

-- why there is none
pub begin_ends : {A : Type 0} (behind : Ghosts A) (at : A) (r : Running) (a : State) (b : Database) (epoch : ℕ) (fault : LinkFault) → IsState behind r at a → epoch ≡ r.seen.catalogue.last → (a.database.last ≡ epoch → Ends a.database b epoch fault) → Ends a.database b a.database.last fault
begin_ends behind at r a b epoch fault here is found =
    let same : epoch ≡ a.database.last = is ∙ sym here.database.are.last in
    subst (λ (n : ℕ). Ends a.database b n fault) same (found (sym same))

-- ---- behind it

pub may_replay : {B : Type 0} (ahead : Ghosts B) (from : B) (t : Running) (a b : State) (f last : ℕ) (hs : List History) → IsState ahead t from b → MayGoOn f a → last ≡ t.seen.catalogue.last → IsChecked f hs a.database b.database → MayReplay (later_mark a.database b.database) f last hs a b.database
may_replay ahead from t a b f last hs there may same is = record {
  accepted = is.accepted;
  after_is = sym may.last;
  last_is = same ∙ sym there.database.are.last;
  mark_is = refl;
  told = is.told;
  sound = there.sound.database;
  idle = may.idle;
  good = may.good;
}

pub goes_on : {D : Type 0} (disk : Ghosts D) (f last : ℕ) (is : Running) (now : D) (result : Result ℕ LinkFault) (a : State) (b : Database) → last ≡ b.last → IsAccepted a.database b f → Replays disk (later_mark a.database b) last is now result a b → GoesOn disk f is now result a b
goes_on disk f last is now (Ok n) a b same accepted replays = let (at, new, here, replayed, stays) = replays.done in record { done = (at ∙ same, accepted, new, here, replayed, stays); left = tt }
goes_on disk f last is now (Err fault) a b same accepted replays = record { done = tt; left = inr replays.left }

abbrev pub refused : LinkFault → Result ℕ LinkFault
refused fault = Err fault

pub goes_refused : {D : Type 0} (disk : Ghosts D) (f : ℕ) (is : Running) (now : D) (fault : LinkFault) (a : State) (b : Database) → Ends a.database b f fault → IsState disk is now a → GoesOn disk f is now (refused fault) a b
goes_refused disk f is now fault a b ends here = record { done = tt; left = inl (ends, here) }

pub read_leaves : {D : Type 0} (disk : Ghosts D) (old new : D) (r : Running) (s : State) (mark f : ℕ) (b : Database) → IsState disk r old s → MayGoOn f s → Moved disk NoName NoName old new → Leaves disk (ReopensBehindOrCaught mark s b) old new
read_leaves disk old new r s mark f b here may moved =
    leaves_wider disk (λ x reopens. inl (either x reopens)) (reads_only disk {old = old} {new = new} r.seen r.seen store.Memory s.database s.database here.database moved).any_moment
  where
    either : (x : Contents) → ReopensToEither s.database s.database x → Reopens x (cut s.database.last s.database)
    either x (inl before) = subst (λ (k : ℕ). Reopens x (cut k s.database)) may.good before
    either x (inr after) = subst (λ (k : ℕ). Reopens x (cut k s.database)) may.good after
