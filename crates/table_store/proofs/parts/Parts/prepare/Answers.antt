use Rattle.std.proofs.Common.{List, sym, ◌∙◌, subst}
use Rattle.std.specs.List.{All}
use Rattle.proj_store.specs.Loaded.{Loaded}
use Rattle.table_store.specs.Faults.{BlamesParts, IsReadable}
use Rattle.table_store.specs.Held.{projections_of}
use Rattle.table_store.proofs.parts.Parts.prepare.Goals as goal

pub returns-in-Err-clause-unblamed : goal.returns-in-Err-clause-unblamed
returns-in-Err-clause-unblamed g c = λ m told all. c.in-Err.ensures.unblamed m told (subst (λ (ps : List Loaded). All (IsReadable m) (projections_of ps)) (sym (c.as_mut_slice-stores.ensures.value ∙ c.self.view_is)) all)

pub returns-in-Err-clause-blamed : goal.returns-in-Err-clause-blamed
returns-in-Err-clause-blamed g c =
    subst (λ (ps : List Loaded). BlamesParts (projections_of ps) (g.D.Disk.holds c.args.disk.now) c.in-Err.fault) (c.as_mut_slice-stores.ensures.value ∙ c.self.view_is) c.in-Err.ensures.blamed
