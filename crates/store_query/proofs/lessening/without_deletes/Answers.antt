use Rattle.std.proofs.Common.{◌≡◌, ◌∙◌, ◌-◌, ℕ, List, map, sym, ap}
use Rattle.std.proofs.lemmas.Result.{IfOk-weaker}
use Rattle.col_value.specs.declared.row.Asked.{Asked}
use Rattle.col_value.specs.declared.value.Value.{Value}
use Rattle.wanted_rows.specs.Wanted.{need_in, tally}
use Rattle.store_query.specs.Lessening.{asked, cleared, times}
use Rattle.store_query.proofs.Fed.{gone_counted}
use Rattle.store_query.proofs.lessening.without_deletes.Goals as goal

pub returns-clause-less : goal.returns-clause-less
returns-clause-less c =
    let places = c.args.places.now in
    let deletes = c.args.deletes.now in
    let gone : List (List Value) = map (λ (a : Asked). cleared places a.row) deletes in
    let told : (q : Asked) → need_in c.in_ok-wants.wants q ≡ tally q (map asked gone) = λ q. c.in_ok-wants.ensures q ∙ ap (tally q) (sym (gone_counted places deletes)) in
    IfOk-weaker c.less.result _ _ (λ v less q. less q ∙ ap (λ (n : ℕ). times q c.args.rows.items - n) (told q)) c.less.ensures.less
