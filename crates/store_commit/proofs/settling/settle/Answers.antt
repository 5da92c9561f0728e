use Rattle.store_commit.proofs.Settled.{ready, made_not, made_then}
use Rattle.store_commit.proofs.settling.settle.Goals as goal

pub returns-in-Ok-clause-made : goal.returns-in-Ok-clause-made
returns-in-Ok-clause-made g c = λ was stores d e stands drawn are sound.
    let is_rooted = ready g.D.Disk was d c.args.version stands drawn in
    made_then g.D.Disk was c.args.version c.args.catalogue.now stores c.tidy_after.result d e stands are sound c.requires.drawn (c.commit.ensures.any_moment stands.root stands.files is_rooted)
    (c.in-Ok.ensures.replaced stands.root stands.files is_rooted) c.tidy_after.ensures.failed c.tidy_after.ensures.moved

pub returns-in-Err-clause-made : goal.returns-in-Err-clause-made
returns-in-Err-clause-made g c = λ was stores d e stands drawn are sound.
    let is_rooted = ready g.D.Disk was d c.args.version stands drawn in
    made_not g.D.Disk was c.args.version c.args.catalogue.now stores c.in-Err.fault d e stands are sound c.requires.drawn (c.commit.ensures.any_moment stands.root stands.files is_rooted)
    (c.in-Err.ensures.memory stands.root stands.files is_rooted) c.commit.ensures.moved
