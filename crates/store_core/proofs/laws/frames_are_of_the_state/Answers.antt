use Rattle.std.proofs.Common.{List}
use Rattle.common_laws.specs.Maps.{Contents}
use Rattle.col_disk.specs.declared.disk.Disk.{Ghosts}
use Rattle.catalog_types.specs.declared.catalogue.Catalogue.{Catalogue}
use Rattle.stored_rows.specs.Stored.{Projected}
use Rattle.folder_model.specs.Tables.{AreDatabase}
use Rattle.db_model.specs.State.{State}
use Rattle.statement_plan.specs.Bare.{bare_state, IsBare}
use Rattle.store_core.specs.Running.{Running, IsState, frame_of}
use Rattle.store_core.proofs.Framed.{framed}
use Rattle.store_core.proofs.laws.frames_are_of_the_state.Goals as goal

abbrev GiveFrames : Type 0
GiveFrames = (m : Contents) (c : Catalogue) (stores : List (List Projected)) (state : State) → AreDatabase m c stores state.database → IsBare (bare_state c.tables c.last c.ahm state.next state.sessions state.current) state

its_frame : GiveFrames → {D : Type 0} (disk : Ghosts D) (now : D) (r : Running) (state : State) → IsState disk r now state → IsBare (frame_of r) state
its_frame give disk now r state here =
    framed r.seen.catalogue.tables r.seen.catalogue.last r.seen.catalogue.ahm state r.seen.catalogue.next r.sessions r.current here.next here.sessions here.current
    (give here.database.files r.seen.catalogue r.seen.stores state here.database.are)

pub returns-clause-bare : goal.returns-clause-bare
returns-clause-bare g c = λ disk r state here. its_frame c.catalogues_give_frames.ensures g.D.Disk disk r state here

pub returns-clause-plan : goal.returns-clause-plan
returns-clause-plan g c = λ disk r state s plan here planned. c.rows_decide_nothing_here.ensures.plan (frame_of r) state s plan (its_frame c.catalogues_give_frames.ensures g.D.Disk disk r state here) planned

pub returns-clause-refusal : goal.returns-clause-refusal
returns-clause-refusal g c = λ disk r state s here. c.rows_decide_nothing_here.ensures.refusal (frame_of r) state s (its_frame c.catalogues_give_frames.ensures g.D.Disk disk r state here)

pub returns-clause-lock : goal.returns-clause-lock
returns-clause-lock g c = λ disk r state name want here. c.rows_decide_nothing_here.ensures.lock (frame_of r) state name want (its_frame c.catalogues_give_frames.ensures g.D.Disk disk r state here)

pub returns-clause-load : goal.returns-clause-load
returns-clause-load g c = λ disk r state name load here. c.rows_decide_nothing_here.ensures.load (frame_of r) state name load (its_frame c.catalogues_give_frames.ensures g.D.Disk disk r state here)
