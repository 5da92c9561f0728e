use Rattle.std.proofs.Common.{◌≤◌, length, subst, arith}
use Rattle.std.specs.Prelude.{Some, None}
use Rattle.std.proofs.lemmas.List.{length-map}
use Rattle.std.proofs.lemmas.Result.{IfOk-weaker}
use Rattle.col_disk.proofs.Moving.{moved_none}
use Rattle.col_value.specs.declared.kinds.Encoding.{Encoding}
use Rattle.ros_container.specs.Encodings.{written_as, written_of}
use Rattle.container_blocks.specs.Parts.{ArePart, BlamesPart}
use Rattle.container_blocks.proofs.Columns.{part_block, default_block}
use Rattle.container_blocks.proofs.Faults.{blames_place, err_each}
use Rattle.container_blocks.proofs.Indexes.{place_told, the_file}
use Rattle.container_blocks.proofs.reading.block.Goals as goal

pub returns-in-Some-clause-found : goal.returns-in-Some-clause-found
returns-in-Some-clause-found g c =
    let p = c.args.shape.now in
    let k = c.args.entry.now in
    let es = written_of p in
    let i = c.args.column in
    let place = c.in-Some.place in
    let holds = g.D.Disk.holds c.args.disk.now in
    let told = place_told p k i (Some place) c.in-Some.ensures in
    IfOk-weaker c.part.result _ _
    (λ v are has. part_block holds es k i place c.args.k v told (subst (λ (e : Encoding). ArePart holds e k place c.args.k v) c.encoding_of-encoding.ensures (are (the_file es k i place c.args.at.now holds told has)))) c.part.ensures.found

pub returns-in-Some-clause-blamed : goal.returns-in-Some-clause-blamed
returns-in-Some-clause-blamed g c =
    let p = c.args.shape.now in
    let k = c.args.entry.now in
    let es = written_of p in
    let i = c.args.column in
    let place = c.in-Some.place in
    let holds = g.D.Disk.holds c.args.disk.now in
    let told = place_told p k i (Some place) c.in-Some.ensures in
    err_each _ _ c.part.result
    (λ fault blamed has. blames_place es k i place holds fault told (subst (λ (e : Encoding). BlamesPart holds e k place fault) c.encoding_of-encoding.ensures (blamed (the_file es k i place c.args.at.now holds told has)))) c.part.ensures.blamed

pub returns-in-Ok-clause-found : goal.returns-in-Ok-clause-found
returns-in-Ok-clause-found g c = λ has.
    let p = c.args.shape.now in
    let k = c.args.entry.now in
    let le : c.args.column ≤ length (written_of p) = omega (arith, c.requires.column, length-map p.columns written_as) in
    default_block (g.D.Disk.holds c.args.disk.now) (written_of p) k c.args.column c.args.k c.in-Ok.values (place_told p k c.args.column None c.in-None.ensures) le c.in-Ok.ensures.same

pub returns-in-Ok-clause-moved : goal.returns-in-Ok-clause-moved
returns-in-Ok-clause-moved g c = moved_none g.D.Disk c.args.disk.now

pub returns-in-Err-clause-moved : goal.returns-in-Err-clause-moved
returns-in-Err-clause-moved g c = moved_none g.D.Disk c.args.disk.now
