use Rattle.std.proofs.Common.{refl, sym}
use Rattle.std.proofs.lemmas.Result.{on_ok_weaker}
use Rattle.col_disk.proofs.Moving.{moved_join}
use Rattle.ros_container.specs.Encodings.{written_of}
use Rattle.wanted_rows.specs.Wanted.{need_in}
use Rattle.proj_store.proofs.BlockRows.{indexes_same}
use Rattle.proj_store.proofs.Narrowing.{narrows_join, read_same, rows_same}
use Rattle.proj_store.proofs.candidates.look_through.Goals as goal

pub returns-clause-narrows : goal.returns-clause-narrows
returns-clause-narrows g c =
    let holds = g.D.Disk.holds c.args.disk.now in
    let here = g.D.Disk.holds c.look_each.new.disk in
    let k = c.args.container.now in
    on_ok_weaker c.look_each-2.result
    (λ narrows held.
    narrows_join holds here (written_of c.args.entry.now) k c.args.k (need_in c.args.wants.now) c.args.alive.now c.look_each.new.alive c.look_each-2.new.alive c.look_each.ensures.kept c.look_each.ensures.long
    (c.in-Ok.ensures.narrows held) (narrows (indexes_same (written_of c.args.entry.now) k here holds c.args.indexes.now c.look_each.ensures.kept held))) c.look_each-2.ensures.narrows

pub returns-clause-rows : goal.returns-clause-rows
returns-clause-rows g c =
    let holds = g.D.Disk.holds c.args.disk.now in
    let here = g.D.Disk.holds c.look_each.new.disk in
    let es = written_of c.args.entry.now in
    let k = c.args.container.now in
    let kept = c.look_each.ensures.kept in
    on_ok_weaker c.look_each-2.result
    (λ rows held are.
    rows_same holds here es k c.args.k c.look_each-2.new.alive _ kept
    (rows refl (indexes_same (written_of c.args.entry.now) k here holds c.args.indexes.now kept held) (read_same here holds es k c.args.k c.look_each.new.columns (sym kept) (c.in-Ok.ensures.read held are)))) c.look_each-2.ensures.rows

pub returns-clause-moved : goal.returns-clause-moved
returns-clause-moved g c = moved_join g.D.Disk c.look_each.ensures.moved c.look_each-2.ensures.moved
