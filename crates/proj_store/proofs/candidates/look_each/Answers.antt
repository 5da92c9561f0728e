use Rattle.std.proofs.Common.{◌≡◌, ◌∙◌, ◌<◌, length, get_or, refl, subst, arith}
use Rattle.std.specs.Prelude.{Option, None}
use Rattle.std.proofs.lemmas.List.{get_or_default, length-map, length-set}
use Rattle.common_laws.specs.Maps.{Contents}
use Rattle.col_disk.proofs.Moving.{moved_join, moved_none}
use Rattle.ros_container.specs.Encodings.{written_as, written_of}
use Rattle.ros_container.specs.Held.{BlamesContainer}
use Rattle.container_blocks.specs.Blocks.{HasIndex}
use Rattle.wanted_rows.specs.Wanted.{need_in}
use Rattle.proj_store.specs.Blocks.{HasIndexes}
use Rattle.proj_store.proofs.BlockRows.{index_here, indexes_same}
use Rattle.proj_store.proofs.Narrowing.{narrows_join, narrows_none, read_set, rows_there, there_set}
use Rattle.proj_store.proofs.Standing.{block_within}
use Rattle.proj_store.proofs.candidates.look_each.Goals as goal

pub loop-i-init : goal.loop-i-init
loop-i-init g c = record {
  long = refl;
  many = refl;
  narrows = λ held. narrows_none (g.D.Disk.holds c.args.disk.now) (written_of c.args.entry.now) c.args.container.now c.args.k (need_in c.args.wants.now) c.args.alive.now;
  read = λ held are. are;
  there = λ all j lt. absurd (omega (arith, lt));
  kept = refl;
  moved = moved_none g.D.Disk c.args.disk.now;
}

pub loop-i-preserved : goal.loop-i-preserved
loop-i-preserved g c =
    let holds = g.D.Disk.holds c.args.disk.now in
    let here = g.D.Disk.holds c.loop-i.disk in
    let es = written_of c.args.entry.now in
    let k = c.args.container.now in
    let now = c.loop-i.invariant in
    let columns = c.loop-i.columns in
    let i = c.loop-i.i in
    let lt : i < length columns = omega (arith, c.loop-i-test.true, now.many) in
    let own : i < length c.args.indexes.now = omega (arith, lt, now.many, c.requires.columns, c.requires.many) in
    let was = get_or columns i c.index-columns-i.result in
    let at : was ≡ get_or columns i None = get_or_default columns i c.index-columns-i.result None lt in
    let index : HasIndexes (written_of c.args.entry.now) k holds c.args.indexes.now → HasIndex (written_of c.args.entry.now) k i c.index-indexes-i.result here =
    λ held. index_here (written_of c.args.entry.now) k here c.args.indexes.now i c.index-indexes-i.result (indexes_same (written_of c.args.entry.now) k here holds c.args.indexes.now now.kept held) own c.index-indexes-i.is in
    record {
      long = c.look.ensures.long ∙ now.long;
      many = length-set columns i c.look.new.column ∙ now.many;
      narrows = λ held.
          narrows_join holds here es k c.args.k (need_in c.args.wants.now) c.args.alive.now c.loop-i.alive c.look.new.alive now.kept now.long (now.narrows held) (c.in-Ok.ensures.narrows (index held));
      read = λ held are. read_set holds here es k c.args.k i columns was c.look.new.column now.kept lt at (c.in-Ok.ensures.read (index held)) (now.read held are);
      there = λ all. there_set columns i c.look.new.column lt (c.in-Ok.ensures.there all) (now.there all);
      kept = c.look.ensures.kept ∙ now.kept;
      moved = moved_join g.D.Disk now.moved c.look.ensures.moved;
    }

pub returns-in-Err-clause-moved : goal.returns-in-Err-clause-moved
returns-in-Err-clause-moved g c = moved_join g.D.Disk c.loop-i.invariant.moved c.look.ensures.moved

pub returns-in-Err-clause-blamed : goal.returns-in-Err-clause-blamed
returns-in-Err-clause-blamed g c = λ held.
    let k = c.args.container.now in
    let here = g.D.Disk.holds c.loop-i.disk in
    let now = c.loop-i.invariant in
    let own : c.loop-i.i < length c.args.indexes.now = omega (arith, c.loop-i-test.true, now.many, c.requires.columns, c.requires.many) in
    subst (λ (h : Option Contents). BlamesContainer (written_of c.args.entry.now) k h c.in-Err.fault) now.kept
    (c.in-Err.ensures.blamed (index_here (written_of c.args.entry.now) k here c.args.indexes.now c.loop-i.i c.index-indexes-i.result (indexes_same (written_of c.args.entry.now) k here (g.D.Disk.holds c.args.disk.now) c.args.indexes.now now.kept held) own c.index-indexes-i.is))

pub returns-clause-rows : goal.returns-clause-rows
returns-clause-rows g c = λ all held are.
    let holds = g.D.Disk.holds c.args.disk.now in
    let es = written_of c.args.entry.now in
    let now = c.loop-i.invariant in
    rows_there holds es c.args.container.now c.args.k c.loop-i.alive c.loop-i.columns (omega (arith, now.many, c.requires.columns, length-map c.args.entry.now.columns written_as))
    (block_within holds es c.args.container.now c.args.k (length c.loop-i.alive) (now.long ∙ c.requires.alive)) (λ j lt. now.there all j (omega (arith, lt, now.many, c.loop-i-test.false))) (now.read held are)
