-- The ancient history mark of a running store.
use Rattle.std.proofs.Common.{◌≡◌, ◌≤◌, inl, inr, ℕ, Bool, true, false, List, refl, sym, subst, arith, ap, ◌∙◌}
use Rattle.std.specs.Prelude.{Result, Ok, OnOk}
use Rattle.std.proofs.lemmas.Bool.Decides.{nat_tests}
use Rattle.common_laws.specs.Maps.{Contents}
use Rattle.col_disk.specs.declared.disk.Disk.{Ghosts}
use Rattle.col_disk.specs.declared.disk.DiskFault.{DiskFault}
use Rattle.col_disk.specs.declared.disk.DiskFault.TheVariants as disk_fault
use Rattle.col_disk.proofs.Moving.{leaves_wider}
use Rattle.db_model.specs.Database.{Database}
use Rattle.db_model.specs.Epochs.{rises}
use Rattle.db_model.specs.Events.{mark_raised}
use Rattle.db_model.specs.Leaving.{MarkLeaves}
use Rattle.db_model.specs.Numbers.{IsDrawn}
use Rattle.db_model.specs.Sound.{IsSound, IsSoundDatabase}
use Rattle.db_model.specs.State.{State, Changes}
use Rattle.store_commit.specs.Making.{Makes, ReopensToEither}
use Rattle.store_commit.specs.Seen.{Seen, Stands}
use Rattle.store_commit.proofs.Settled.{made_nothing}
use Rattle.table_store.specs.Drawing.{DrawsOne}
use Rattle.store_core.specs.Events.{BeforeOrAfter, Does}
use Rattle.store_core.specs.Running.{Running, running, IsState, Mover, work_dropped}
use Rattle.store_core.proofs.Doing.{drawn_does}
use Rattle.store_core.proofs.Events.{grown_by_one, renumbered, viewed}

abbrev done_so : Result (Unit {0}) DiskFault
done_so = Ok tt

-- a mark that doesn't rise
pub stays_marked : {D : Type 0} (disk : Ghosts D) (now : D) (r : Running) (mark : ℕ) (state : State) → IsState disk r now state → mark ≤ r.seen.catalogue.ahm
    → Does disk disk_fault.Memory r r now now done_so state (MarkLeaves (rises mark state.database) mark state)
stays_marked disk now r mark state here le =
    let same = here.database.are.ahm in
    let is : rises mark state.database ≡ false = grind (arith, nat_tests) in
    subst (λ (b : Bool). Does disk disk_fault.Memory r r now now done_so state (MarkLeaves b mark state)) (sym is) (record {
      done = (state, refl, here);
      undone = λ none. absurd (cc);
      any_moment = leaves_wider disk (λ x reopens. by x reopens) (made_nothing disk r.seen r.seen disk_fault.Memory state.database state.database here.database).any_moment;
    })
  where
    by : (x : Contents) → ReopensToEither state.database state.database x → BeforeOrAfter state (λ after. after ≡ state) x
    by x (inl before) = inl before
    by x (inr after) = inl after

-- one that rises
pub mark_does : {D F : Type 0} (disk : Ghosts D) (short : F) {old new : D} (was is : Seen) (sessions : List (List Changes)) (current : ℕ) (mover after : Mover) (now : Running) (mark : ℕ) (result : Result (Unit {0}) F) (state : State)
    → running was sessions current mover ≡ now → IsState disk now old state → after ≡ work_dropped mover → now.seen.catalogue.ahm ≤ mark → (mark ≤ now.seen.catalogue.ahm → ⊥) → IsSound (mark_raised mark state)
    → ((d : Database) → Stands disk was old d → d.ahm ≤ mark → IsSoundDatabase (record d { ahm = mark }) → Makes disk short was is old new result d (record d { ahm = mark })) → OnOk result (DrawsOne was.catalogue is.catalogue)
    → Does disk short now (running is sessions current after) old new result state (MarkLeaves (rises mark state.database) mark state)
mark_does disk short {old} {new} was is sessions current mover after now mark result state view here given le past sound makes draws =
    let own = viewed disk old (running was sessions current mover) now state view here in
    let same = here.database.are.ahm in
    let below : state.database.ahm ≤ mark = omega (arith, le, same) in
    let rising : rises mark state.database ≡ true = grind (arith, nat_tests) in
    subst (λ (b : Bool). Does disk short now (running is sessions current after) old new result state (MarkLeaves b mark state)) (sym rising)
    (subst (λ (r : Running). Does disk short r (running is sessions current after) old new result state (IsDrawn state (mark_raised mark state))) view
    (drawn_does disk short was is sessions sessions current mover after result state (mark_raised mark state) state.parts own (makes state.database own.database below sound.database)
    (grown_by_one result state was is own.next own.parts draws)
    (record { sessions = own.sessions; current = own.current; asked = own.asked ∙ sym (ap (λ (m : Mover). m.asked) given); busy = own.busy ∙ sym (ap (λ (m : Mover). m.busy) given); free = ap (λ (m : Mover). m.work) given; sound = renumbered (mark_raised mark state) sound })))
