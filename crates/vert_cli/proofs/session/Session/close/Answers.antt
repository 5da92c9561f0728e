use Rattle.std.proofs.Common.{subst}
use Rattle.std.specs.Prelude.{IfErr}
use Rattle.store_step.specs.Named.{NamesHeld}
use Rattle.store_step.proofs.Named.{seen_named}
use Rattle.vert_cli.specs.Sessions.{Sitting}
use Rattle.vert_cli.proofs.session.Session.close.Goals as goal

pub returns-clause-named : goal.returns-clause-named
returns-clause-named g c =
    subst (λ (s : Sitting). IfErr c.end.result (NamesHeld g.D.Disk s.running c.end.new.disk)) c.self.view_is
    (seen_named g.D.Disk c.self.inside.store c.end.new.store c.end.new.disk c.end.result c.end.ensures.kept c.end.ensures.named)
