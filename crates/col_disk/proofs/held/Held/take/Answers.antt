use Rattle.std.proofs.Common.{◌∙◌, ap}
use Rattle.std.specs.FinMap.{remove, nat_cmp-IsAntisymmetric}
use Rattle.std.specs.Cmp.{nat_cmp_total}
use Rattle.common_laws.specs.Maps.{Contents}
use Rattle.common_laws.proofs.MapLaws.{one_gone}
use Rattle.col_disk.proofs.held.Held.take.Goals as goal

pub returns : goal.returns
returns c =
    one_gone nat_cmp_total nat_cmp-IsAntisymmetric c.self.inside.files.entries c.remove.new.self.entries c.args.name c.remove.ensures.updates.0
    ∙ ap (λ (m : Contents). remove m c.args.name) c.self.view_is
