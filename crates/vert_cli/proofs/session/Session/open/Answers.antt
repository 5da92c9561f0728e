use Rattle.vert_cli.proofs.session.Session.open.Goals as goal

pub returns-in-Ok-clause-opened : goal.returns-in-Ok-clause-opened
returns-in-Ok-clause-opened g c = λ m d told reopens.
    let state = c.in-Ok.ensures.opened m d told reopens in
    (c.in-Ok.store.seen.catalogue.next, state.0, state.1, state.2)
