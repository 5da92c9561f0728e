use Rattle.std.proofs.Common.{◌∙◌, Bool, List, false, get_or, ap}
use Rattle.proj_store.specs.Candidates.{columns_in}
use Rattle.proj_store.proofs.Candidacy.{candidate_there}
use Rattle.proj_store.proofs.rows.Candidates.has.Goals as goal

pub returns : goal.returns
returns c =
    c.is_alive.ensures ∙ ap (λ (xs : List Bool). get_or xs c.args.i false) c.as_slice.ensures.value
    ∙ candidate_there c.args.self.now c.self.inside.alive.items c.self.inside.stamps.items (columns_in c.self.inside.columns.items) c.args.i c.self.view_is
