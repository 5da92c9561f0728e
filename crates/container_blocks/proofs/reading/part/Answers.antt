use Rattle.std.proofs.Common.{◌+◌, ◌-◌, ◌*◌, ◌≡◌, length}
use Rattle.std.specs.Prelude.{min}
use Rattle.std.specs.List.{All, slice_get}
use Rattle.col_file.specs.Read.{AreValues}
use Rattle.col_value.specs.Order.{IsValue}
use Rattle.container_blocks.specs.Parts.{ArePart, IsIndexAt}
use Rattle.container_blocks.proofs.Faults.{part_blamed}
use Rattle.container_blocks.proofs.OneBlock.{ok_each, in_entries, part_found, part_long, part_values}
use Rattle.container_blocks.proofs.reading.part.Goals as goal

pub returns-clause-found : goal.returns-clause-found
returns-clause-found g c =
    let at = c.args.at.now in
    let k = c.args.entry.now in
    let e = c.args.encoding in
    let body = c.body_of-body.result in
    let holds = g.D.Disk.holds c.args.disk.now in
    ok_each (λ x v. AreValues e body at.rows x (slice_get at.entries (c.args.k + 1)) holds v) (λ v. IsIndexAt k c.args.place at holds → ArePart holds e k c.args.place c.args.k v) (slice_get at.entries c.args.k) c.read_block.result
    (λ v given. part_found k c.args.place c.args.k at e body holds v c.body_of-body.ensures c.requires.index (in_entries k.rows c.args.k at c.requires.index c.requires.block) given) c.read_block.ensures.found

pub returns-clause-long : goal.returns-clause-long
returns-clause-long g c =
    let at = c.args.at.now in
    let k = c.args.entry.now in
    let e = c.args.encoding in
    let body = c.body_of-body.result in
    let holds = g.D.Disk.holds c.args.disk.now in
    ok_each (λ x v. AreValues e body at.rows x (slice_get at.entries (c.args.k + 1)) holds v) (λ v. length v ≡ min 1024 (k.rows - 1024 * c.args.k)) (slice_get at.entries c.args.k) c.read_block.result
    (λ v given. part_long k c.args.k at e body holds v c.requires.index (in_entries k.rows c.args.k at c.requires.index c.requires.block) given) c.read_block.ensures.found

pub returns-clause-values : goal.returns-clause-values
returns-clause-values g c =
    let at = c.args.at.now in
    let e = c.args.encoding in
    let body = c.body_of-body.result in
    let holds = g.D.Disk.holds c.args.disk.now in
    ok_each (λ x v. AreValues e body at.rows x (slice_get at.entries (c.args.k + 1)) holds v) (λ v. All IsValue v) (slice_get at.entries c.args.k) c.read_block.result
    (λ v given. part_values c.args.k at e body holds v (in_entries c.args.entry.now.rows c.args.k at c.requires.index c.requires.block) given) c.read_block.ensures.found

pub returns-clause-blamed : goal.returns-clause-blamed
returns-clause-blamed g c =
    part_blamed c.args.entry.now c.args.place c.args.k c.args.at.now c.args.encoding c.body_of-body.result (g.D.Disk.holds c.args.disk.now) c.read_block.result c.body_of-body.ensures
    c.requires.index (in_entries c.args.entry.now.rows c.args.k c.args.at.now c.requires.index c.requires.block) c.read_block.ensures.blamed
