use Rattle.std.proofs.Common.{◌≡◌, ◌++◌, ◌∷◌, [], List, subst, rules}
use Rattle.std.specs.List.{All}
use Rattle.col_value.specs.declared.value.Value.{Value}
use Rattle.col_value.specs.Order.{IsRow}
use Rattle.wanted_rows.specs.Wanted.{need_in}
use Rattle.store_query.proofs.Lessens.{all_front, lessens_all, lessens_next}
use Rattle.store_query.proofs.lessening.less.Goals as goal

pub loop-row-preserved : goal.loop-row-preserved
loop-row-preserved c =
    let rest = c.pop.new.self.items in
    let split : c.loop-row.rest.items ≡ rest ++ c.in-Some.row ∷ [] = c.in-Some.ensures.items in
    record {
      lessens = lessens_next (need_in c.args.wants) c.args.rows.items c.loop-row.rest.items rest c.loop-row.out.items c.keep.new.out.items c.in-Some.row (need_in c.loop-row.wants) (need_in c.keep.new.wants)
          split c.in_ok-keep.ensures.keeps c.loop-row.invariant.lessens;
      left = all_front IsRow rest c.in-Some.row (subst (λ (xs : List (List Value)). All IsRow xs) split c.loop-row.invariant.left);
      valid = c.in_ok-keep.ensures.valid;
    }

pub returns-clause-less : goal.returns-clause-less
returns-clause-less c =
    let none : c.loop-row.rest.items ≡ [] = search rules in
    lessens_all c.args.rows.items c.loop-row.rest.items c.loop-row.out.items (need_in c.args.wants) (need_in c.loop-row.wants) none c.loop-row.invariant.lessens
