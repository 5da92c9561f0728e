use Rattle.std.proofs.Common.{◌<◌, length, subst, sym, arith}
use Rattle.std.specs.Prelude.{None}
use Rattle.col_disk.proofs.Moving.{moved_none}
use Rattle.ros_container.specs.Encodings.{written_of}
use Rattle.container_blocks.specs.Blocks.{rows_in}
use Rattle.exec_scan.specs.Opened.{HoldsNeeded, IsNeeded}
use Rattle.exec_scan.proofs.Counted.{none_at, unread_less, unread_one}
use Rattle.exec_scan.proofs.Filled.{fills_one}
use Rattle.exec_scan.proofs.Handed.{zip_at, zip_long}
use Rattle.exec_scan.proofs.columns.fill_column.Goals as goal

pub returns-then-is_some-clause-moved : goal.returns-then-is_some-clause-moved
returns-then-is_some-clause-moved g c = moved_none g.D.Disk c.args.disk.now

pub bounds-indexes-column : goal.bounds-indexes-column
bounds-indexes-column g c = subst (λ n. c.args.column < n) (zip_long (IsNeeded c.args.entry.now.rows) c.args.places.now c.args.indexes.now c.requires.needed) c.requires.column

pub read_column-requires-clause-needed : goal.read_column-requires-clause-needed
read_column-requires-clause-needed g c =
    zip_at (IsNeeded c.args.entry.now.rows) c.args.places.now c.args.indexes.now c.args.column None c.index-indexes-column.result c.requires.column c.requires.needed c.index-indexes-column.is

pub returns-in-Ok-clause-fills : goal.returns-in-Ok-clause-fills
returns-in-Ok-clause-fills g c = λ held m told rows holding.
    let here = zip_at (HoldsNeeded (written_of c.args.shape.now) c.args.entry.now (g.D.Disk.holds c.args.disk.now)) c.args.places.now c.args.indexes.now c.args.column None c.index-indexes-column.result c.requires.column held c.index-indexes-column.is in
    fills_one c.args.column c.args.places.now c.args.columns.now c.in-Ok.values (rows_in c.args.k rows) (subst (λ n. c.args.column < n) (sym c.requires.width) c.requires.column)
    (c.in-Ok.ensures.found here m told rows holding)

pub returns-in-Err-clause-blamed : goal.returns-in-Err-clause-blamed
returns-in-Err-clause-blamed g c = λ held.
    c.in-Err.ensures.blamed (zip_at (HoldsNeeded (written_of c.args.shape.now) c.args.entry.now (g.D.Disk.holds c.args.disk.now)) c.args.places.now c.args.indexes.now c.args.column None c.index-indexes-column.result c.requires.column held c.index-indexes-column.is)

pub returns-in-Ok-clause-steps : goal.returns-in-Ok-clause-steps
returns-in-Ok-clause-steps g c =
    let lt : c.args.column < length c.args.columns.now = subst (λ n. c.args.column < n) (sym c.requires.width) c.requires.column in
    unread_less (length c.args.shape.now.columns) c.args.entry.now c.args.places.now c.args.columns.now c.args.column c.in-Ok.values c.args.steps.now c.read_column.new.steps lt
    (none_at c.args.columns.now c.args.column c.index-columns-column.result lt c.if-is_some.ensures) c.read_column.ensures.steps c.in-Ok.ensures.unread

pub returns-in-Ok-clause-at_most : goal.returns-in-Ok-clause-at_most
returns-in-Ok-clause-at_most g c =
    let lt : c.args.column < length c.args.columns.now = subst (λ n. c.args.column < n) (sym c.requires.width) c.requires.column in
    let one = unread_one (length c.args.shape.now.columns) c.args.entry.now c.args.places.now c.args.columns.now c.args.column lt (none_at c.args.columns.now c.args.column c.index-columns-column.result lt c.if-is_some.ensures) in
    omega (arith, one, c.read_column.ensures.steps)

pub returns-in-Err-clause-at_most : goal.returns-in-Err-clause-at_most
returns-in-Err-clause-at_most g c =
    let lt : c.args.column < length c.args.columns.now = subst (λ n. c.args.column < n) (sym c.requires.width) c.requires.column in
    let one = unread_one (length c.args.shape.now.columns) c.args.entry.now c.args.places.now c.args.columns.now c.args.column lt (none_at c.args.columns.now c.args.column c.index-columns-column.result lt c.if-is_some.ensures) in
    omega (arith, one, c.read_column.ensures.steps)
