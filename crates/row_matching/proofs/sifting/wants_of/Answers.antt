use Rattle.std.proofs.Common.{◌≡◌, ◌∙◌, List, subst, arith}
use Rattle.std.specs.Prelude.{IfOk}
use Rattle.std.proofs.lemmas.List.{take_all}
use Rattle.col_value.specs.declared.row.Asked.{Asked}
use Rattle.wanted_rows.specs.Wanted.{need_in, tally}
use Rattle.row_matching.proofs.sifting.wants_of.Goals as goal

pub returns : goal.returns
returns c =
    let all : c.loop-asked.rows.items ≡ c.args.gone.now = c.loop-asked.invariant ∙ take_all c.loop-asked.asked-index c.args.gone.now (omega arith) in
    subst (λ (xs : List Asked). IfOk c.new.result (λ w. (q : Asked) → need_in w q ≡ tally q xs)) all c.new.ensures
