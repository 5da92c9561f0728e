use Rattle.std.proofs.Common.{◌∙◌, ap}
use Rattle.std.specs.FinMap.{insert, nat_cmp-IsAntisymmetric}
use Rattle.std.specs.Cmp.{nat_cmp_total}
use Rattle.common_laws.specs.Maps.{Contents}
use Rattle.common_laws.proofs.MapLaws.{one_given}
use Rattle.col_disk.proofs.held.Held.put.Goals as goal

pub returns-in-Ok-clause-ok : goal.returns-in-Ok-clause-ok
returns-in-Ok-clause-ok c =
    one_given nat_cmp_total nat_cmp-IsAntisymmetric c.self.inside.files.entries c.insert.new.self.entries c.args.name c.args.bytes c.in-Ok.ensures.updates.0
    ∙ ap (λ (m : Contents). insert m c.args.name c.args.bytes) c.self.view_is
