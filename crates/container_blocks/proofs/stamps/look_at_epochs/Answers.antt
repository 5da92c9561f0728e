use Rattle.std.proofs.Common.{length, sym, rules}
use Rattle.std.specs.Prelude.{Some}
use Rattle.std.specs.List.{All}
use Rattle.ros_container.specs.Encodings.{written_of}
use Rattle.ros_container.specs.Rows.{IsEpochOf}
use Rattle.container_blocks.proofs.Faults.{epochs_blamed}
use Rattle.container_blocks.proofs.Indexes.{place_told, the_file, last_place}
use Rattle.container_blocks.proofs.Numbers.{epochs_found, epochs_of_all}
use Rattle.container_blocks.proofs.stamps.look_at_epochs.Goals as goal

pub returns-then-are_epochs-clause-found : goal.returns-then-are_epochs-clause-found
returns-then-are_epochs-clause-found g c = λ has.
    let p = c.args.shape.now in
    let k = c.args.entry.now in
    let n = length p.columns in
    let holds = g.D.Disk.holds c.args.disk.now in
    let file = the_file (written_of p) k n k.stored c.args.at.now holds (place_told p k n (Some k.stored) (sym (last_place n k))) has in
    let all : All (IsEpochOf k) c.in-Ok.values = search rules in
    let told = epochs_of_all k c.in-Ok.values all in
    (told.0, epochs_found holds (written_of p) k c.args.k c.in-Ok.values told.0 (c.in-Ok.ensures.found file) told.1, told.2)

pub returns-clause-blamed : goal.returns-clause-blamed
returns-clause-blamed g c = λ has.
    let p = c.args.shape.now in
    let k = c.args.entry.now in
    let n = length p.columns in
    let holds = g.D.Disk.holds c.args.disk.now in
    let file = the_file (written_of p) k n k.stored c.args.at.now holds (place_told p k n (Some k.stored) (sym (last_place n k))) has in
    let none : All (IsEpochOf k) c.in-Ok.values → ⊥ = search rules in
    epochs_blamed (written_of p) k c.args.k c.body_of.result c.args.at.now holds c.in-Ok.values c.body_of.ensures c.requires.index file (c.in-Ok.ensures.found file) none
