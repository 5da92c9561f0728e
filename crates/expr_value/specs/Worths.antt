-- The value that a lent value is.
use Rattle.col_value.specs.declared.wide.Wide.{Wide}
use Rattle.col_value.specs.declared.wide.Wide.TheVariants as wide
use Rattle.expr_value.specs.declared.worth.Worth.{Worth}
use Rattle.expr_value.specs.declared.worth.Worth.TheVariants as worth

abbrev pub wide_of : Worth → Wide
wide_of worth.Null = wide.Null
wide_of (worth.Bool b) = wide.Bool b
wide_of (worth.Int n) = wide.Int n
wide_of (worth.Date d) = wide.Date d
wide_of (worth.Text t) = wide.Text t.now
