use Rattle.std.proofs.Common.{◌≡◌, ℤ, pos, ◌<◌, add-one, get_or, length, sym, ap, ◌∙◌, arith, rules, take}
use Rattle.col_value.specs.declared.wide.Wide.TheVariants as wide
use Rattle.exec_group.specs.Columns.{put_at, put_each}
use Rattle.exec_group.proofs.Together.{put_next}
use Rattle.exec_group.proofs.kept.take_numbers.Goals as goal

pub loop-i-preserved : goal.loop-i-preserved
loop-i-preserved c =
    let f = λ (n : ℤ). wide.Int n in
    let groups = c.args.groups.now in
    let numbers = c.args.numbers.now in
    let column = c.args.list.now.items in
    let i = c.loop-i.i in
    let inside : i < length groups = omega (arith, c.loop-i-test.true, c.requires) in
    let after : c.take_number_at.new.list.items ≡ put_at (put_each f (take i groups) (take i numbers) column) (get_or groups i 0) (f (get_or numbers i (pos 0))) = search rules in
    after ∙ put_next f groups numbers column i (pos 0) inside c.loop-i-test.true ∙ ap (λ n. put_each f (take n groups) (take n numbers) column) (sym (add-one i))
