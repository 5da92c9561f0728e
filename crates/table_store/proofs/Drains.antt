-- What a moveout of all makes of a store.
use Rattle.std.proofs.Common.{◌≡◌, ℕ, ◌+◌, ◌<◌, ◌≤◌, List, [], ◌∷◌, length, map, refl, sym, ◌∙◌, ap, ap₂, subst, inl, arith}
use Rattle.std.specs.Prelude.{Some, Result, Ok, Err}
use Rattle.std.specs.List.{All}
use Rattle.std.proofs.lemmas.List.{length-map}
use Rattle.std.proofs.lemmas.List.Elements.{All-weaker}
use Rattle.common_laws.specs.Maps.{Contents}
use Rattle.col_disk.specs.declared.disk.Disk.{Ghosts}
use Rattle.col_disk.specs.declared.disk.DiskFault.{DiskFault}
use Rattle.col_disk.specs.declared.disk.DiskFault.TheVariants as disk_fault
use Rattle.col_disk.specs.declared.disk.StoreFault.{StoreFault}
use Rattle.col_disk.specs.declared.disk.StoreFault.TheVariants as fault
use Rattle.col_disk.specs.Faults.{IsUnblamed}
use Rattle.col_disk.specs.Moved.{Moved as Moves, NoName}
use Rattle.col_disk.proofs.Moving.{leaves_wider, moved_none}
use Rattle.catalog_types.specs.declared.catalogue.Catalogue.{Catalogue}
use Rattle.catalog_types.specs.declared.catalogue.Table as kept
use Rattle.catalog_root.specs.Quiet.{IsSpare}
use Rattle.container_writer.specs.Writing.{DataFrom}
use Rattle.db_model.specs.Database.{Database, Table}
use Rattle.db_model.specs.Mover.{behind}
use Rattle.db_model.specs.Sound.{IsSoundDatabase}
use Rattle.folder_model.specs.Tables.{AreDatabase, StandForTables}
use Rattle.folder_model.proofs.Committing.{moved_reopens, stands_moved}
use Rattle.proj_store.specs.Loaded.{Loaded}
use Rattle.store_commit.specs.Making.{Makes}
use Rattle.store_commit.specs.Seen.{Seen, Stands, seen}
use Rattle.stored_rows.specs.Stored.{Projected}
use Rattle.table_store.specs.Draining.{all_caught_up, put_all, DrawsMany, IsDraft, IsDraftOf}
use Rattle.table_store.specs.Held.{at_epoch, projections_of, seen_of, IsHeld}
use Rattle.table_store.specs.declared.draining.Draft.{Draft}
use Rattle.table_store.proofs.Counted.{no_length, none_left}
use Rattle.table_store.proofs.Drained.{draft_done}
use Rattle.table_store.proofs.Makes.{at_own, move_makes, moved_stands, wrote_only}

-- what is known of the tables a store stands for, and of a disk on which other files were written since
pub record Begun {D : Type 0} (disk : Ghosts D) (root : Catalogue) (last : ℕ) (tables : List (List Loaded)) (now : Seen) (old mid : D) : Type 0 where
  pub view : seen_of root last tables ≡ now
  pub held : IsHeld root tables
  pub some : 0 < length tables
  pub moved : Moves disk (DataFrom now.catalogue.next) NoName old mid

spare_of : {D : Type 0} (disk : Ghosts D) {old mid : D} (root : Catalogue) (last : ℕ) (tables : List (List Loaded)) (now : Seen) (d : Database) → Begun disk root last tables now old mid → (stands : Stands disk now old d)
    → (q : ℕ) → DataFrom now.catalogue.next q → IsSpare stands.root q
spare_of {D} disk {old} {mid} root last tables now d begun = by now begun.view begun.moved
  where
    by : (s : Seen) → seen_of root last tables ≡ s → Moves disk (DataFrom s.catalogue.next) NoName old mid → (stands : Stands disk s old d) → (q : ℕ) → DataFrom s.catalogue.next q → IsSpare stands.root q
    by s same = subst (λ (x : Seen). Moves disk (DataFrom x.catalogue.next) NoName old mid → (stands : Stands disk x old d) → (q : ℕ) → DataFrom x.catalogue.next q → IsSpare stands.root q) same
        (λ moved stands. moved_stands disk root last (map projections_of tables) 0 d (omega (arith, begun.some, length-map tables projections_of)) begun.held.entries begun.held.valid stands moved)

pub drain_short : {D : Type 0} (disk : Ghosts D) {old mid : D} (root : Catalogue) (last : ℕ) (tables : List (List Loaded)) (now is : Seen) (f : StoreFault) (d e : Database) → Begun disk root last tables now old mid → Stands disk now old d
    → Makes disk fault.Memory now is old mid (Err f) d e
drain_short disk root last tables now is f d e begun stands =
    wrote_only disk fault.Memory {W = DataFrom now.catalogue.next} now is f d e stands (spare_of disk root last tables now d begun stands) begun.moved

-- the files at the moment of a draft
drafted : {D : Type 0} (disk : Ghosts D) {old mid : D} (root : Catalogue) (last : ℕ) (tables : List (List Loaded)) (now : Seen) (d : Database) → Begun disk root last tables now old mid → (stands : Stands disk now old d) → Stands disk now mid d
drafted disk root last tables now d begun stands = stands_moved disk {W = DataFrom now.catalogue.next} {R = NoName} now.catalogue now.stores d stands (spare_of disk root last tables now d begun stands) (λ q no. absurd no) begun.moved

pub drain_unblamed : {D : Type 0} (disk : Ghosts D) {old mid : D} (root : Catalogue) (last : ℕ) (tables : List (List Loaded)) (now : Seen) (f : StoreFault) (d : Database) → Begun disk root last tables now old mid → Stands disk now old d
    → ((m n : Contents) (e : Database) → disk.holds old ≡ Some m → disk.holds mid ≡ Some n → AreDatabase m now.catalogue now.stores e → IsSoundDatabase e → IsUnblamed f) → IsUnblamed f
drain_unblamed disk root last tables now f d begun stands blames =
    let then = drafted disk root last tables now d begun stands in
    blames stands.files then.files d stands.quiet.told_is then.quiet.told_is stands.are stands.sound

-- what drains a store tells of a database that it stands for
abbrev pub DraftsOf : {D : Type 0} → Ghosts D → Seen → Draft → D → D → Type 0
DraftsOf disk now draft old mid = (m : Contents) (e : Database) → disk.holds old ≡ Some m → AreDatabase m now.catalogue now.stores e → IsSoundDatabase e → (n : Contents) × (disk.holds mid ≡ Some n) × IsDraftOf now draft n e

draft_over : {D : Type 0} (disk : Ghosts D) {old mid : D} (now : Seen) (draft : Draft) (d : Database) → DraftsOf disk now draft old mid → (stands : Stands disk now old d) → (then : Stands disk now mid d) → IsDraftOf now draft then.files d
draft_over disk now draft d drafts stands then =
    let (n, told, of) = drafts stands.files d stands.quiet.told_is stands.are stands.sound in
    let both : Some n ≡ Some then.files = sym told ∙ then.quiet.told_is in
    let same : n ≡ then.files = cc in
    subst (λ (m : Contents). IsDraftOf now draft m d) same of

pub counted : {D : Type 0} (disk : Ghosts D) {old mid : D} (root : Catalogue) (last : ℕ) (tables : List (List Loaded)) (now : Seen) (draft : Draft) (d : Database) → Begun disk root last tables now old mid → IsDraft now (length now.stores) 0 draft
    → DraftsOf disk now draft old mid → Stands disk now old d → length draft.moved.items ≡ length (behind d)
counted disk root last tables now draft d begun is drafts stands =
    let then = drafted disk root last tables now d begun stands in
    let of = draft_over disk now draft d drafts stands then in
    (draft_done now draft then.files d is of).count

-- nothing was behind
pub drain_none : {D : Type 0} (disk : Ghosts D) {old mid : D} (root : Catalogue) (last : ℕ) (tables : List (List Loaded)) (now : Seen) (draft : Draft) (d : Database) → Begun disk root last tables now old mid → IsDraft now (length now.stores) 0 draft
    → DraftsOf disk now draft old mid → draft.moved.items ≡ [] → Stands disk now old d → Makes disk fault.Memory now now old mid (Ok tt) d (all_caught_up d)
drain_none disk {old} {mid} root last tables now draft d begun is drafts none stands =
    let zero_long : length (behind d) ≡ 0 = sym (counted disk root last tables now draft d begun is drafts stands) ∙ ap length none in
    let same : all_caught_up d ≡ d = none_left d (no_length (behind d) zero_long) in
    subst (λ (e : Database). Makes disk fault.Memory now now old mid (Ok tt) d e) (sym same) (record {
      done = drafted disk root last tables now d begun stands;
      undone = λ short. absurd (cc);
      any_moment =
          leaves_wider disk (λ x reopens. inl reopens)
          (moved_reopens disk {W = DataFrom now.catalogue.next} {R = NoName} now.catalogue now.stores d stands (spare_of disk root last tables now d begun stands) (λ q no. absurd no) begun.moved);
    })

-- there is no table
pub drain_empty : {D : Type 0} (disk : Ghosts D) (old : D) (root : Catalogue) (last : ℕ) (tables : List (List Loaded)) (now : Seen) (d : Database) → seen_of root last tables ≡ now → tables ≡ [] → Stands disk now old d
    → Makes disk fault.Memory now now old old (Ok tt) d (all_caught_up d)
drain_empty {D} disk old root last tables now d view none stands =
    let stores : now.stores ≡ [] = sym (ap (λ (s : Seen). s.stores) view) ∙ ap (map projections_of) none in
    let same : all_caught_up d ≡ d = none_left d (nothing stands.files now.catalogue.ahm now.catalogue.tables now.stores d.tables stores stands.are.tables) in
    subst (λ (e : Database). Makes disk fault.Memory now now old old (Ok tt) d e) (sym same) (record {
      done = stands;
      undone = λ short. absurd (cc);
      any_moment = leaves_wider disk (λ x reopens. inl reopens) (moved_reopens disk {W = NoName} {R = NoName} now.catalogue now.stores d stands (λ q no. absurd no) (λ q no. absurd no) (moved_none disk old));
    })
  where
    nothing : (m : Contents) (mark : ℕ) (ts : List kept.Table) (pss : List (List Projected)) (us : List Table) → pss ≡ [] → StandForTables m mark ts pss us → behind (record d { tables = us }) ≡ []
    nothing m mark [] [] [] none stand = refl
    nothing m mark [] [] (u ∷ us) none stand = absurd stand
    nothing m mark [] (ps ∷ pss) us none stand = absurd stand
    nothing m mark (t ∷ ts) [] us none stand = absurd stand
    nothing m mark (t ∷ ts) (ps ∷ pss) us none stand = absurd (cc)

-- the catalogue is committed
pub drain_made : {D : Type 0} (disk : Ghosts D) {old mid new : D} (root : Catalogue) (last : ℕ) (tables : List (List Loaded)) (now : Seen) (draft : Draft) (version : ℕ) (result : Result (Unit {0}) DiskFault) (d : Database)
    → ((was : Seen) (stores : List (List Projected)) (d e : Database) → (stands : Stands disk was mid d) → was.catalogue.next ≤ version → AreDatabase stands.files draft.root stores e → IsSoundDatabase e → Makes disk disk_fault.Memory was (seen draft.root stores) mid new result d e)
    → Begun disk root last tables now old mid → IsDraft now (length now.stores) 0 draft → DraftsOf disk now draft old mid → (draft.moved.items ≡ [] → ⊥) → now.catalogue.next ≤ version → Stands disk now old d
    → Makes disk disk_fault.Memory now (seen draft.root (put_all draft.moved.items now.stores)) old new result d (all_caught_up d)
drain_made {D} disk {old} {mid} {new} root last tables now draft version result d made begun is drafts some later stands =
    let then = drafted disk root last tables now d begun stands in
    let of = draft_over disk now draft d drafts stands then in
    let own : draft.root ≡ at_epoch now.catalogue.last draft.root = at_own draft.root now.catalogue.last (sym (is.last some)) in
    let stores = put_all draft.moved.items now.stores in
    subst (λ (e : Database). Makes disk disk_fault.Memory now (seen draft.root stores) old new result d e) ((draft_done now draft then.files d is of).is)
    (move_makes disk disk_fault.Memory now (seen draft.root stores) result d of.made stands {W = DataFrom now.catalogue.next} (spare_of disk root last tables now d begun stands) begun.moved
    (made now stores d of.made then later (subst (λ (c : Catalogue). AreDatabase then.files c stores of.made) (sym own) of.are) of.sound))

pub drain_seen : (root next : Catalogue) (last : ℕ) (tables after : List (List Loaded)) (now : Seen) (draft : Draft) → seen_of root last tables ≡ now → IsDraft now (length now.stores) 0 draft → (draft.moved.items ≡ [] → ⊥)
    → map projections_of after ≡ put_all draft.moved.items (map projections_of tables) → seen draft.root (put_all draft.moved.items now.stores) ≡ seen_of draft.root last after
drain_seen root next last tables after now draft view is some after_is =
    ap₂ (λ (c : Catalogue) (pss : List (List Projected)). seen c pss) (at_own draft.root last (ap (λ (s : Seen). s.catalogue.last) view ∙ sym (is.last some)))
    (sym (after_is ∙ ap (λ (s : Seen). put_all draft.moved.items s.stores) view))

pub drain_held : (root : Catalogue) (last : ℕ) (tables after : List (List Loaded)) (now : Seen) (draft : Draft) → seen_of root last tables ≡ now → IsDraft now (length now.stores) 0 draft
    → map projections_of after ≡ put_all draft.moved.items (map projections_of tables) → IsHeld draft.root after
drain_held root last tables after now draft view is after_is = record {
  valid = is.valid;
  entries = ap (map (λ (ps : List Projected). map (λ p. p.entry) ps)) (after_is ∙ ap (λ (s : Seen). put_all draft.moved.items s.stores) view) ∙ is.entries;
}

pub draws_nothing : (n : ℕ) (c : Catalogue) → DrawsMany n c c
draws_nothing n c = record {
  from = omega arith;
  upto = λ most few. omega arith;
  few = λ most few. All-weaker (λ t. All (λ p. length p.containers ≤ most) t.projections) (λ t. All (λ p. length p.containers ≤ most + 1) t.projections)
      (λ t small. All-weaker (λ p. length p.containers ≤ most) (λ p. length p.containers ≤ most + 1) (λ p le. omega (arith, le)) t.projections small) c.tables few;
  none = λ zero_is. refl;
}

pub draws_last : (n k last : ℕ) (old new : Catalogue) → n ≡ k → DrawsMany n old new → DrawsMany k old (at_epoch last new)
draws_last n k last old new same draws = subst (λ (j : ℕ). DrawsMany j old (at_epoch last new)) same (record { from = draws.from; upto = draws.upto; few = draws.few; none = draws.none })
