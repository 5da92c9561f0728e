use Rattle.std.proofs.Common.{◌≡◌, ◌<◌, ◌∙◌, List, length, ap, sym, subst}
use Rattle.std.specs.Prelude.{Option, Some}
use Rattle.std.specs.Option.{IfSome}
use Rattle.std.proofs.lemmas.List.{length-map}
use Rattle.col_disk.proofs.Moving.{moved_none}
use Rattle.col_value.specs.declared.value.Value.{Value}
use Rattle.pos_index.specs.declared.index.PosIndex.{PosIndex}
use Rattle.ros_container.specs.Encodings.{written_as, written_of}
use Rattle.container_blocks.specs.Blocks.{rows_in, HasIndex}
use Rattle.exec_scan.specs.Opened.{HoldsNeeded}
use Rattle.exec_scan.specs.Reading.{column_of}
use Rattle.exec_scan.proofs.Blocks.{column_is}
use Rattle.exec_scan.proofs.columns.read_column.Goals as goal

pub returns-in-Ok-clause-found : goal.returns-in-Ok-clause-found
returns-in-Ok-clause-found g c = λ needed m told rows held.
    let place = c.in-Some-Some.place in
    let es = written_of c.args.shape.now in
    let known = subst (λ (x : Option PosIndex). HoldsNeeded (written_of c.args.shape.now) c.args.entry.now (g.D.Disk.holds c.args.disk.now) (Some place) x) c.in-Some-Some.is-1
    (subst (λ (o : Option _). HoldsNeeded (written_of c.args.shape.now) c.args.entry.now (g.D.Disk.holds c.args.disk.now) o c.args.index.now) c.in-Some-Some.is-0 needed) in
    let has = subst (λ (at : PosIndex). HasIndex es c.args.entry.now place at (g.D.Disk.holds c.args.disk.now)) (sym c.get.ensures) known in
    let long : length es ≡ length c.args.shape.now.columns = length-map c.args.shape.now.columns written_as in
    let own = subst (λ (o : Option _). IfSome o (λ i. i < length c.args.shape.now.columns)) c.in-Some-Some.is-0 c.requires.own in
    let lt : place < length es = subst (λ n. place < n) (sym long) own in
    subst (λ (o : Option _). Some c.in-Ok.values ≡ column_of o (rows_in c.args.k rows)) (sym c.in-Some-Some.is-0)
    (ap (λ (vs : List Value). Some vs) (c.in-Ok.ensures.found has m told rows held ∙ column_is (length es) place (rows_in c.args.k rows) lt))

pub returns-in-Some-None-clause-moved : goal.returns-in-Some-None-clause-moved
returns-in-Some-None-clause-moved g c = moved_none g.D.Disk c.args.disk.now
