use Rattle.col_disk.proofs.Moving.{moved_none, moved_still, moved_join}
use Rattle.catalog_types.specs.declared.catalogue.ProjColumn.{ProjColumn}
use Rattle.catalog_types.specs.declared.catalogue.Projection.{Projection}
use Rattle.ros_container.specs.Encodings.{Written as Columns, written_of}
use Rattle.ros_container.specs.Held.{HoldsContainer}
use Rattle.container_cut.specs.Listed.{IsBelow}
use Rattle.container_cut.proofs.Cuts.{numbered_below, numbered_stored}
use Rattle.container_cut.proofs.Fronts.{front_written, front_within}
use Rattle.container_writer.specs.Writing.{listed, AreNumbered, HoldsBag}
use Rattle.container_writer.specs.Ordered.{stamped_of}
use Rattle.container_writer.specs.declared.writing.Written.{Written}
use Rattle.std.proofs.Common.{◌≡◌, ◌∙◌, [], ◌∷◌, List, ap, length, map, take, rules, subst}
use Rattle.std.specs.List.{All}
use Rattle.container_cut.specs.Cutting.{Between, CutsContainers}
use Rattle.container_cut.proofs.Faults.{if_same}
use Rattle.container_cut.proofs.Joins.{inserts_between}
use Rattle.container_cut.proofs.containers.cut_inserts.Goals as goal

pub returns-then-container-gt64-clause-moved : goal.returns-then-container-gt64-clause-moved
returns-then-container-gt64-clause-moved g c = moved_none g.D.Disk c.args.disk.now

pub returns-in-Err-clause-moved : goal.returns-in-Err-clause-moved
returns-in-Err-clause-moved g c = moved_none g.D.Disk c.args.disk.now

pub returns-in-Err-vector_of-clause-moved : goal.returns-in-Err-vector_of-clause-moved
returns-in-Err-vector_of-clause-moved g c = moved_still g.D.Disk c.vector_of.ensures.moved

pub returns-in-Err-rows_of-clause-moved : goal.returns-in-Err-rows_of-clause-moved
returns-in-Err-rows_of-clause-moved g c = moved_still g.D.Disk (moved_join g.D.Disk c.vector_of.ensures.moved c.rows_of.ensures.moved)

pub returns-in-Err-rows_upto-clause-moved : goal.returns-in-Err-rows_upto-clause-moved
returns-in-Err-rows_upto-clause-moved g c = moved_still g.D.Disk (moved_join g.D.Disk c.vector_of.ensures.moved c.rows_of.ensures.moved)

pub returns-in-Err-refs-clause-moved : goal.returns-in-Err-refs-clause-moved
returns-in-Err-refs-clause-moved g c = moved_still g.D.Disk (moved_join g.D.Disk c.vector_of.ensures.moved c.rows_of.ensures.moved)

pub returns-in-Ok-write_stamped-clause-cut : goal.returns-in-Ok-write_stamped-clause-cut
returns-in-Ok-write_stamped-clause-cut g c =
    let p = c.args.shape.now in
    let es = written_of p in
    let k = c.args.container.now in
    let front : written_of c.in-Ok.front ≡ take k.stored es = ap written_of c.in-Ok.ensures ∙ front_written k p in
    let columns : c.in-Ok.front.columns ≡ take k.stored p.columns = ap (λ (q : Projection). q.columns) c.in-Ok.ensures in
    let found = g.D.Disk.holds c.args.disk.now in
    let mid = g.D.Disk.holds c.vector_of.new.disk in
    let now = g.D.Disk.holds c.write_stamped.new.disk in
    let written = c.in-Ok-write_stamped.written in
    let same : map stamped_of c.in-Ok-refs.kept.items ≡ c.in-Ok-rows_upto.left.items = search rules in
    let of_k = c.requires.below.of_columns in
    let numbers = subst (λ (cs : List ProjColumn). AreNumbered (length cs) c.args.next written.next written.container) columns c.in-Ok-write_stamped.ensures.numbers in
    if_same c.within.result written (λ (w : Written). Between (CutsContainers es c.args.epoch (k ∷ []) (listed w.container)) found now) c.within.ensures.same
    (inserts_between c.one_container.ensures es c.args.epoch k written.container c.in-Ok-vector_of.marks.marks c.in-Ok-rows_of.rows.items c.in-Ok-rows_upto.left.items found mid now
    (front_within k p of_k.most) (numbered_stored p.columns k c.args.next written.next written.container of_k numbers) c.in-Ok-vector_of.ensures.found c.vector_of.ensures.kept
    (λ m told. subst (λ (ws : List Columns). HoldsContainer m ws k c.in-Ok-rows_of.rows.items) front (c.in-Ok-rows_of.ensures.found m told)) c.in-Ok-rows_upto.ensures
    (λ n after.
    subst (λ (ws : List Columns). HoldsBag n ws (listed written.container) c.in-Ok-rows_upto.left.items) front
    (subst (HoldsBag n (written_of c.in-Ok.front) (listed written.container)) same (c.in-Ok-write_stamped.ensures.held n after))))

pub returns-in-Ok-write_stamped-clause-below : goal.returns-in-Ok-write_stamped-clause-below
returns-in-Ok-write_stamped-clause-below g c =
    let p = c.args.shape.now in
    let k = c.args.container.now in
    let columns : c.in-Ok.front.columns ≡ take k.stored p.columns = ap (λ (q : Projection). q.columns) c.in-Ok.ensures in
    let written = c.in-Ok-write_stamped.written in
    let numbers = subst (λ (cs : List ProjColumn). AreNumbered (length cs) c.args.next written.next written.container) columns c.in-Ok-write_stamped.ensures.numbers in
    if_same c.within.result written (λ (w : Written). All (IsBelow w.next p.columns) (listed w.container)) c.within.ensures.same
    (numbered_below p.columns k c.args.next written.next written.container c.requires.below.of_columns numbers)

pub returns-in-Ok-write_stamped-clause-moved : goal.returns-in-Ok-write_stamped-clause-moved
returns-in-Ok-write_stamped-clause-moved g c =
    moved_join g.D.Disk (moved_still g.D.Disk (moved_join g.D.Disk c.vector_of.ensures.moved c.rows_of.ensures.moved)) c.write_stamped.ensures.moved

pub returns-clause-moved : goal.returns-clause-moved
returns-clause-moved g c = moved_join g.D.Disk (moved_still g.D.Disk (moved_join g.D.Disk c.vector_of.ensures.moved c.rows_of.ensures.moved)) c.write_stamped.ensures.moved
