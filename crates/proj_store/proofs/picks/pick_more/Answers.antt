use Rattle.proj_store.proofs.picks.pick_more.Goals as goal

pub returns-clause-more : goal.returns-clause-more
returns-clause-more g c = (c.in-Ok.places, c.in-Ok-push.ensures.items, c.in-Ok.ensures.inside, c.in-Ok.ensures.found)
