-- Numbers in one of two forms.
use Rattle.std.specs.Prelude.{ℤ, List}
use Rattle.exec_group.specs.declared.met_numbers.NumbersForm.{NumbersForm}
use Rattle.exec_group.specs.declared.met_numbers.NumbersForm.TheVariants as form

abbrev pub numbers_held : NumbersForm → List ℤ
numbers_held (form.Rising numbers) = numbers
numbers_held (form.Hash numbers) = numbers
