-- The bytes of a text, in their place or shared.
use Rattle.std.specs.Prelude.{ℕ, List}
use Rattle.std.specs.Rc.{rc_str_bytes}
use Rattle.col_value.specs.declared.text.Held.{Held}
use Rattle.col_value.specs.declared.text.Held.TheVariants as held

abbrev pub text_bytes : Held → List ℕ
text_bytes (held.Short s) = s
text_bytes (held.Long s) = rc_str_bytes s
