use Rattle.std.proofs.Common.{◌≡◌, false, true, rules}
use Rattle.std.specs.List.{slice_get}
use Rattle.std.proofs.lemmas.Result.{on_ok_weaker}
use Rattle.container_draft.proofs.Joining.{held_inside, fresh_inside, unwanted, wanted}
use Rattle.container_draft.proofs.deletes.add_if.Goals as goal

pub deletes_by-requires-clause-held : goal.deletes_by-requires-clause-held
deletes_by-requires-clause-held c = held_inside (slice_get c.args.p.now.stored.beside c.args.place) c.args.container.now c.vector-held.result.now c.vector-held.ensures c.requires.kept

pub deletes_by-requires-clause-fresh : goal.deletes_by-requires-clause-fresh
deletes_by-requires-clause-fresh c = fresh_inside (slice_get c.args.p.now.stored.beside c.args.place) c.args.container.now c.fresh_marks-fresh.result.now c.fresh_marks-fresh.ensures c.requires.kept

pub returns-then-not-wanted : goal.returns-then-not-wanted
returns-then-not-wanted c =
    let off : c.args.wanted ≡ false = search rules in
    unwanted (slice_get c.args.p.now.stored.beside c.args.place) c.args.container.now c.args.wanted c.args.dels.now.items c.requires.kept off

pub returns : goal.returns
returns c =
    let on : c.args.wanted ≡ true = search rules in
    on_ok_weaker c.add_deletes.result
    (λ is. wanted (slice_get c.args.p.now.stored.beside c.args.place) c.args.wanted c.vector-held.result.now c.fresh_marks-fresh.result.now c.args.container.now.rows c.args.dels.now.items c.in_ok-more.more.items c.add_deletes.new.dels.items on c.vector-held.ensures c.fresh_marks-fresh.ensures
    c.in_ok-more.ensures is)
    c.add_deletes.ensures
