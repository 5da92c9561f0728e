use Rattle.std.proofs.Common.{◌≡◌, ◌∙◌, List, map, ap, subst, arith}
use Rattle.std.specs.Prelude.{IfOk}
use Rattle.std.proofs.lemmas.List.{take_all}
use Rattle.col_value.specs.declared.row.Asked.{Asked}
use Rattle.wanted_rows.specs.Wanted.{need_in, tally}
use Rattle.store_query.specs.Lessening.{asked, cleared}
use Rattle.store_query.proofs.lessening.wants_of.Goals as goal

pub returns : goal.returns
returns c =
    let made = λ (a : Asked). asked (cleared c.args.places.now a.row) in
    let all : c.loop-delete.gone.items ≡ map made c.args.deletes.now =
    c.loop-delete.invariant ∙ ap (map made) (take_all c.loop-delete.delete-index c.args.deletes.now (omega arith)) in
    subst (λ (xs : List Asked). IfOk c.new.result (λ w. (q : Asked) → need_in w q ≡ tally q xs)) all c.new.ensures
