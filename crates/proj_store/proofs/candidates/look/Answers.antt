use Rattle.std.proofs.Common.{◌<◌, ◌∙◌, length, sym, arith}
use Rattle.std.proofs.lemmas.List.{length-map}
use Rattle.col_disk.proofs.Moving.{moved_none}
use Rattle.ros_container.specs.Encodings.{written_as, written_of}
use Rattle.wanted_rows.specs.Wanted.{need_in}
use Rattle.proj_store.proofs.Narrowing.{narrows_column}
use Rattle.proj_store.proofs.candidates.look.Goals as goal

pub returns-then-is_some-clause-moved : goal.returns-then-is_some-clause-moved
returns-then-is_some-clause-moved g c = moved_none g.D.Disk c.args.disk.now

pub returns-in-Ok-clause-narrows : goal.returns-in-Ok-clause-narrows
returns-in-Ok-clause-narrows g c = λ held.
    let es = written_of c.args.entry.now in
    let own : c.args.i < length es = omega (arith, c.requires.column, length-map c.args.entry.now.columns written_as) in
    narrows_column (g.D.Disk.holds c.args.disk.now) es c.args.container.now c.args.k c.args.i c.in-Ok.values (need_in c.args.wants.now) c.args.alive.now c.narrow_spared.new.alive
    own (c.requires.alive ∙ sym c.in-Ok.ensures.long) c.narrow_spared.ensures.narrows (c.in-Ok.ensures.found held)

pub returns-in-Ok-clause-read : goal.returns-in-Ok-clause-read
returns-in-Ok-clause-read g c = λ held was. c.in-Ok.ensures.found held
