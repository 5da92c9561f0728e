use Rattle.std.proofs.Common.{◌≡◌, ◌<◌, ◌+◌, ◌*◌, ◌^◌, length, ap, arith}
use Rattle.std.proofs.lemmas.List.{length-map}
use Rattle.col_disk.proofs.Moving.{moved_none}
use Rattle.ros_container.specs.Encodings.{written_as, written_of}
use Rattle.wanted_rows.specs.Wanted.{need_in}
use Rattle.proj_store.specs.Blocks.{in_list}
use Rattle.proj_store.proofs.BlockRows.{block_fits, picks_on, none_on, inside_on}
use Rattle.proj_store.proofs.Standing.{misses_on}
use Rattle.proj_store.proofs.picks.pick_block.Goals as goal

pub returns-then-is_done-clause-found : goal.returns-then-is_done-clause-found
returns-then-is_done-clause-found g c = λ held.
    none_on (g.D.Disk.holds c.args.disk.now) (written_of c.args.entry.now) c.args.container.now (in_list c.args.deletes.now) c.args.k c.args.places.now.items (need_in c.args.wants.now) (c.is_done.ensures c.if-is_done.true)

pub returns-then-is_done-clause-moved : goal.returns-then-is_done-clause-moved
returns-then-is_done-clause-moved g c = moved_none g.D.Disk c.args.disk.now

pub returns-then-misses_block-clause-found : goal.returns-then-misses_block-clause-found
returns-then-misses_block-clause-found g c = λ held.
    let n_is : length c.as_slice-columns.result.now ≡ length c.args.entry.now.columns = ap length c.as_slice-columns.ensures in
    misses_on (g.D.Disk.holds c.args.disk.now) (written_of c.args.entry.now) c.args.container.now (in_list c.args.deletes.now) c.args.indexes.now (length c.as_slice-columns.result.now) c.args.k c.args.places.now.items (need_in c.args.wants.now)
    (omega (arith, n_is, length-map c.args.entry.now.columns written_as)) (omega (arith, n_is, c.requires.many)) c.requires.fit c.requires.block held (c.misses_block.ensures c.if-misses_block.true)

pub returns-then-misses_block-clause-moved : goal.returns-then-misses_block-clause-moved
returns-then-misses_block-clause-moved g c = moved_none g.D.Disk c.args.disk.now

pub returns-in-Ok-pick_from-clause-found : goal.returns-in-Ok-pick_from-clause-found
returns-in-Ok-pick_from-clause-found g c = λ held.
    picks_on (g.D.Disk.holds c.args.disk.now) (written_of c.args.entry.now) c.args.container.now (in_list c.args.deletes.now) c.args.k c.in-Ok.some c.args.places.now.items c.pick_from.new.places.items
    (need_in c.args.wants.now) (need_in c.pick_from.new.wants) c.in-Ok.ensures.long (c.in-Ok.ensures.found held) c.in-Ok-pick_from.ensures.picked

pub returns-in-Ok-pick_from-clause-inside : goal.returns-in-Ok-pick_from-clause-inside
returns-in-Ok-pick_from-clause-inside g c =
    inside_on c.args.container.now c.args.k c.in-Ok.some c.args.places.now.items c.pick_from.new.places.items c.requires.block c.in-Ok.ensures.long c.in-Ok-pick_from.ensures.inside

pub overflow_mul-k : goal.overflow_mul-k
overflow_mul-k g c =
    let fits : 1024 * c.args.k + 0 < 2 ^ 64 = block_fits c.args.container.now c.args.indexes.now _ c.args.k 0 c.requires.many c.requires.fit c.requires.block (omega arith) in
    record { fits = omega (arith, fits) }

pub pick_from-requires : goal.pick_from-requires
pick_from-requires g c = block_fits c.args.container.now c.args.indexes.now _ c.args.k (length c.in-Ok.some) c.requires.many c.requires.fit c.requires.block (omega (arith, c.in-Ok.ensures.long))
