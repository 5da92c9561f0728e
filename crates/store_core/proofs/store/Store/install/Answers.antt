use Rattle.std.proofs.Common.{◌≡◌, List, ℕ, subst}
use Rattle.std.proofs.lemmas.Result.{on_ok_weaker}
use Rattle.store_core.specs.Stepping.{InstallsJob, RefreshesNamed}
use Rattle.store_core.proofs.Stepping.{short_job}
use Rattle.store_core.proofs.store.Store.install.Goals as goal

pub returns-in-Err-clause-does : goal.returns-in-Err-clause-does
returns-in-Err-clause-does g c = λ state here. short_job g.D.Disk c.args.self.now c.args.disk.now state (InstallsJob state) here

pub returns-in-Ok-Some-clause-refreshes : goal.returns-in-Ok-Some-clause-refreshes
returns-in-Ok-Some-clause-refreshes g c =
    let own = c.in-Ok-Some.ensures in
    on_ok_weaker c.refresh_due.result
    (λ made name is. let same : c.in-Ok-Some.name ≡ name = cc in subst (λ (n : List ℕ). RefreshesNamed n c.args.self.now c.refresh_due.new.self) same made) c.refresh_due.ensures.refreshes
