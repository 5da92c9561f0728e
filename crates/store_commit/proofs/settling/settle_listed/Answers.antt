use Rattle.store_commit.proofs.Settled.{ready, made_not, made_then}
use Rattle.store_commit.proofs.Replaced.{rooted, replaced_not, replaced_then}
use Rattle.store_commit.proofs.settling.settle_listed.Goals as goal

pub returns-in-Ok-clause-made : goal.returns-in-Ok-clause-made
returns-in-Ok-clause-made g c = λ was stores d e stands drawn are sound.
    let is_rooted = ready g.D.Disk was d c.args.version stands drawn in
    made_then g.D.Disk was c.args.version c.args.catalogue.now stores c.tidy.result d e stands are sound c.requires.drawn (c.commit.ensures.any_moment stands.root stands.files is_rooted)
    (c.in-Ok.ensures.replaced stands.root stands.files is_rooted) c.tidy.ensures.failed c.tidy.ensures.moved

pub returns-in-Ok-clause-replaces : goal.returns-in-Ok-clause-replaces
returns-in-Ok-clause-replaces g c = λ was m later quiet.
    let is_rooted = rooted g.D.Disk m was c.args.version later quiet in
    replaced_then g.D.Disk m was c.args.version c.args.catalogue.now c.tidy.result quiet (c.commit.ensures.any_moment was m is_rooted) (c.in-Ok.ensures.replaced was m is_rooted) c.tidy.ensures.failed c.tidy.ensures.moved

pub returns-in-Err-clause-made : goal.returns-in-Err-clause-made
returns-in-Err-clause-made g c = λ was stores d e stands drawn are sound.
    let is_rooted = ready g.D.Disk was d c.args.version stands drawn in
    made_not g.D.Disk was c.args.version c.args.catalogue.now stores c.in-Err.fault d e stands are sound c.requires.drawn (c.commit.ensures.any_moment stands.root stands.files is_rooted)
    (c.in-Err.ensures.memory stands.root stands.files is_rooted) c.commit.ensures.moved

pub returns-in-Err-clause-replaces : goal.returns-in-Err-clause-replaces
returns-in-Err-clause-replaces g c = λ was m later quiet.
    let is_rooted = rooted g.D.Disk m was c.args.version later quiet in
    replaced_not g.D.Disk m was c.args.version c.args.catalogue.now c.in-Err.fault quiet (c.commit.ensures.any_moment was m is_rooted) (c.in-Err.ensures.memory was m is_rooted) c.commit.ensures.moved
