use Rattle.std.proofs.Common.{◌≡◌, ℕ, IsTrue, Bool, true, sym, subst}
use Rattle.col_disk.specs.declared.disk.Disk.{Ghosts}
use Rattle.col_disk.specs.declared.disk.StoreFault.{StoreFault}
use Rattle.store_step.specs.Named.{NamesHeld, NamesListed}
use Rattle.store_step.specs.Running.{Running}
use Rattle.vert_cli.specs.declared.faults.RunFault.{RunFault}
use Rattle.vert_cli.specs.Sessions.{sitting, Sitting}
use Rattle.vert_cli.proofs.session.Session.blame_file.Goals as goal

rooted_named : {D : Type 0} (disk : Ghosts D) (s : Running) (b : Bool) (seen : Sitting) (old new : D) (rooted : Bool) (name : ℕ) → sitting s b ≡ seen → rooted ≡ true
    → ((q : ℕ) → IsTrue rooted → NamesHeld disk s old (StoreFault.Damaged q) → NamesListed disk q new) → NamesHeld disk seen.running old (StoreFault.Damaged name)
    → (q : ℕ) → RunFault.Damaged name ≡ RunFault.Damaged q → NamesListed disk q new
rooted_named disk s b seen old new rooted name view is listed held q same =
    let named : name ≡ q = cc in
    subst (λ (k : ℕ). NamesListed disk k new) named (listed name is (subst (λ (x : Sitting). NamesHeld disk x.running old (StoreFault.Damaged name)) (sym view) held))

pub returns-in-Ok-true-clause-named : goal.returns-in-Ok-true-clause-named
returns-in-Ok-true-clause-named g c =
    rooted_named g.D.Disk c.self.inside.store c.self.inside.halted c.args.self.now c.args.disk.now c.is_rooted.new.disk c.in-Ok-true.field-0 c.args.name c.self.view_is c.in-Ok-true.field-0-test c.in-Ok-true.ensures.listed
