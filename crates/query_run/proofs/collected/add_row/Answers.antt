use Rattle.std.proofs.Common.{◌≡◌, ◌++◌, ℕ, [], ◌∷◌, None, Option, subst, sym, rules}
use Rattle.query_order.specs.Enough.{AreFew}
use Rattle.query_run.proofs.Bars.{row_cuts, row_joins}
use Rattle.query_run.proofs.collected.add_row.Goals as goal

pub returns-then-is_none : goal.returns-then-is_none
returns-then-is_none c =
    let q = c.args.query.now in
    let none : q.limit ≡ None = search rules in
    let pushed : c.push.new.self.items ≡ c.args.rows.now.items ++ c.args.row ∷ [] = search rules in
    row_joins q c.args.row c.args.rows.now.items c.push.new.self.items c.args.bar.now pushed (subst (λ (l : Option ℕ). AreFew l c.push.new.self.items) (sym none) tt)

pub returns-then-not-are_many : goal.returns-then-not-are_many
returns-then-not-are_many c =
    let q = c.args.query.now in
    let pushed : c.push-2.new.self.items ≡ c.args.rows.now.items ++ c.args.row ∷ [] = search rules in
    let few : AreFew q.limit c.push-2.new.self.items = subst (AreFew q.limit) c.as_slice.ensures.value (c.are_many.ensures c.if-not-are_many.true) in
    row_joins q c.args.row c.args.rows.now.items c.push-2.new.self.items c.args.bar.now pushed few

pub returns : goal.returns
returns c =
    let q = c.args.query.now in
    let pushed : c.push-2.new.self.items ≡ c.args.rows.now.items ++ c.args.row ∷ [] = search rules in
    let own : c.as_slice-2.result.now ≡ q.order = search rules in
    row_cuts q c.as_slice-2.result.now c.args.row c.args.rows.now.items c.push-2.new.self.items c.in_ok-first.first.items c.as_slice-3.result.now c.args.bar.now c.in_ok-bar.field-0 own pushed c.as_slice-3.ensures.value c.in_ok-first.ensures
    c.in_ok-bar.ensures
