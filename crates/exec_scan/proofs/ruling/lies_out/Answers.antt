use Rattle.std.proofs.Common.{◌≡◌, true, ap}
use Rattle.std.specs.Ordering.{is_le}
use Rattle.std.proofs.lemmas.Cmp.{tied_itself}
use Rattle.col_value.specs.Laws.{value_total}
use Rattle.col_value.specs.Order.{value_cmp}
use Rattle.exec_scan.proofs.ruling.lies_out.Goals as goal

pub returns-in-Null : goal.returns-in-Null
returns-in-Null c = λ says.
    let same : is_le (value_cmp c.args.value.now c.args.value.now) ≡ true = ap is_le (tied_itself value_total c.args.value.now) in
    c.misses.ensures.out says c.args.value.now same same
