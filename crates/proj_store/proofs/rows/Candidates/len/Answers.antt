use Rattle.std.proofs.Common.{◌∙◌, length, ap, sym}
use Rattle.proj_store.specs.Candidates.{columns_in}
use Rattle.proj_store.proofs.Candidacy.{as_long}
use Rattle.proj_store.proofs.rows.Candidates.len.Goals as goal

pub returns : goal.returns
returns c = ap length c.as_slice.ensures.value ∙ sym (as_long c.args.self.now c.self.inside.alive.items c.self.inside.stamps.items (columns_in c.self.inside.columns.items) c.self.view_is)
