use Rattle.std.proofs.Common.{rules, ◌≡◌, true}
use Rattle.std.proofs.lemmas.Result.{on_ok_weaker}
use Rattle.row_history.specs.History.{is_retained}
use Rattle.row_matching.proofs.Kept.{keeps_one}
use Rattle.row_matching.proofs.history.keep.Goals as goal

pub returns-clause-kept : goal.returns-clause-kept
returns-clause-kept c =
    let on : is_retained c.args.mark c.args.stored.now ≡ true = search rules in
    let row : c.in_ok-values.values.items ≡ _ = c.in_ok-values.ensures in
    on_ok_weaker c.push_row.result (λ done. keeps_one c.args.mark c.args.places.now c.args.stored.now c.in_ok-values.values.items c.args.out.now.items c.push_row.new.out.items on (search rules) done) c.push_row.ensures.kept
