use Rattle.std.proofs.Common.{List, refl, sym, ◌∙◌, ap}
use Rattle.col_disk.proofs.Moving.{moved_none}
use Rattle.del_vector.specs.declared.mark.Mark.{Mark}
use Rattle.stored_rows.specs.Held.{greatest_epoch}
use Rattle.container_writer.proofs.vectors.write_vector.Goals as goal

pub returns-then-count-eq0-clause-moved : goal.returns-then-count-eq0-clause-moved
returns-then-count-eq0-clause-moved g c = moved_none g.D.Disk c.args.disk.now

pub returns-in-Ok-clause-held : goal.returns-in-Ok-clause-held
returns-in-Ok-clause-held g c =
    λ m told. c.in-Ok.ensures.held m told _ refl c.requires.within (sym (c.greatest_epoch.ensures ∙ ap (λ (ms : List Mark). greatest_epoch ms) c.marks.ensures))
