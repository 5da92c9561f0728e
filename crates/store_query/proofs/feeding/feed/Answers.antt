use Rattle.std.proofs.Common.{◌∷◌, [], Bool, subst}
use Rattle.std.proofs.lemmas.Result.{IfOk-weaker}
use Rattle.wanted_rows.specs.Wanted.{need_in, Tries}
use Rattle.store_query.specs.Lessening.{asked}
use Rattle.store_query.proofs.Fed.{gone_feeds, kept_feeds, takes_run}
use Rattle.store_query.proofs.feeding.feed.Goals as goal

pub returns-then-gone-clause-fed : goal.returns-then-gone-clause-fed
returns-then-gone-clause-fed c =
    let row = c.args.row.now in
    let need = need_in c.args.wants.now in
    let less = need_in c.is_gone.new.wants in
    gone_feeds c.args.query.now row need less c.args.run.now (subst (λ (b : Bool). Tries b (asked row) need less) c.if-gone.true c.in_ok-gone.ensures)

pub returns-clause-fed : goal.returns-clause-fed
returns-clause-fed c =
    let row = c.args.row.now in
    let need = need_in c.args.wants.now in
    let less = need_in c.is_gone.new.wants in
    let stays = subst (λ (b : Bool). Tries b (asked row) need less) c.if-gone.false c.in_ok-gone.ensures in
    IfOk-weaker c.take.result _ _ (λ done takes. kept_feeds c.args.query.now row need less c.args.run.now c.take.new.self stays takes) c.take.ensures

pub returns-clause-run : goal.returns-clause-run
returns-clause-run c = IfOk-weaker c.take.result _ _ (λ done takes. takes_run c.args.query.now (c.args.row.now ∷ []) c.args.run.now c.take.new.self takes c.requires.run) c.take.ensures
