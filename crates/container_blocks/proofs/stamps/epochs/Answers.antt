use Rattle.std.proofs.Common.{length, sym}
use Rattle.std.specs.Prelude.{Some}
use Rattle.ros_container.specs.Encodings.{written_of}
use Rattle.container_blocks.proofs.Faults.{epochs_blamed}
use Rattle.container_blocks.proofs.Indexes.{place_told, the_file, last_place}
use Rattle.container_blocks.proofs.Numbers.{epochs_found}
use Rattle.container_blocks.proofs.stamps.epochs.Goals as goal

pub returns-in-Ok-Some-clause-found : goal.returns-in-Ok-Some-clause-found
returns-in-Ok-Some-clause-found g c = λ has.
    let p = c.args.shape.now in
    let k = c.args.entry.now in
    let n = length p.columns in
    let holds = g.D.Disk.holds c.args.disk.now in
    let file = the_file (written_of p) k n k.stored c.args.at.now holds (place_told p k n (Some k.stored) (sym (last_place n k))) has in
    let made = rw c.in-Ok-Some.field-0-is at c.in-Ok-Some.ensures.found in
    epochs_found holds (written_of p) k c.args.k c.in-Ok.values c.in-Ok-Some.epochs.items (c.in-Ok.ensures.found file) made

pub returns-in-Ok-None-clause-blamed : goal.returns-in-Ok-None-clause-blamed
returns-in-Ok-None-clause-blamed g c = λ has.
    let p = c.args.shape.now in
    let k = c.args.entry.now in
    let n = length p.columns in
    let holds = g.D.Disk.holds c.args.disk.now in
    let file = the_file (written_of p) k n k.stored c.args.at.now holds (place_told p k n (Some k.stored) (sym (last_place n k))) has in
    let none = rw c.in-Ok-None.field-0-is at c.in-Ok-None.ensures.none in
    epochs_blamed (written_of p) k c.args.k c.body_of.result c.args.at.now holds c.in-Ok.values c.body_of.ensures c.requires.index file (c.in-Ok.ensures.found file) none
