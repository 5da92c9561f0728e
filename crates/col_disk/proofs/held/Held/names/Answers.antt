use Rattle.std.proofs.Common.{ℕ, List, sym, subst}
use Rattle.std.proofs.lemmas.Result.{IfOk-weaker}
use Rattle.common_laws.specs.Maps.{Contents}
use Rattle.std.specs.Map.{keys_of}
use Rattle.col_disk.specs.Calls.{ListsNames}
use Rattle.col_disk.proofs.Listing.{listed}
use Rattle.col_disk.proofs.held.Held.names.Goals as goal

pub returns : goal.returns
returns c =
    let all : ListsNames c.args.self.now (keys_of c.self.inside.files.entries) =
    subst (λ (m : Contents). ListsNames m (keys_of c.self.inside.files.entries)) c.self.view_is (listed c.self.inside.files.entries c.keys_of.ensures.ordered c.keys_of.ensures.has) in
    IfOk-weaker c.keys_of.result _ _ (λ v is. subst (λ (ns : List ℕ). ListsNames c.args.self.now ns) (sym is) all) c.keys_of.ensures.all
