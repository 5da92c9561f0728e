-- What was written is held.
use Rattle.std.proofs.Common.{◌≡◌, ℕ, ◌<◌, ◌^◌, List, length, Option, Some, refl, subst}
use Rattle.std.specs.Prelude.{Result, Ok, Err, OnOk}
use Rattle.std.specs.List.{All}
use Rattle.common_laws.specs.Maps.{Contents}
use Rattle.col_disk.specs.declared.disk.DiskFault.{DiskFault}
use Rattle.col_value.specs.declared.kinds.Encoding.{Encoding}
use Rattle.col_value.specs.declared.value.Value.{Value}
use Rattle.value_bytes.specs.Spelling.{IsSpelled}
use Rattle.block_choice.specs.Choice.{TakesAll}
use Rattle.col_file.specs.Column.{body_spelling, column_index, IsColumn}
use Rattle.col_file.specs.Held.{HoldsColumn}
use Rattle.col_file.proofs.Laid.{written_index, written_fits, written_blocks}

pub written_held : (encoding : Encoding) (body index : ℕ) (m : Contents) (vs : List Value) → 0 < length vs → length vs < 2 ^ 64 → All IsSpelled vs → TakesAll encoding vs → length (body_spelling encoding vs) < 2 ^ 64 → IsColumn encoding body index vs (Some m) → HoldsColumn encoding body index (length vs) m vs
written_held encoding body index m vs some few all kinds small is = record {
  at = column_index encoding vs;
  is_index = written_index encoding vs some;
  fits = written_fits encoding vs some few small all;
  of_rows = refl;
  index_file = is.index_file m refl;
  bytes = body_spelling encoding vs;
  body_file = is.blocks_file m refl;
  blocks = written_blocks encoding vs some all kinds;
}

pub held_after : (encoding : Encoding) (body index : ℕ) (now : Option Contents) (vs : List Value) (r : Result (Unit {0}) DiskFault) → 0 < length vs → length vs < 2 ^ 64 → All IsSpelled vs → TakesAll encoding vs → length (body_spelling encoding vs) < 2 ^ 64
    → OnOk r (IsColumn encoding body index vs now) → OnOk r ((m : Contents) → now ≡ Some m → HoldsColumn encoding body index (length vs) m vs)
held_after encoding body index now vs (Err fault) some few all kinds small given = tt
held_after encoding body index now vs (Ok done) some few all kinds small given = λ m told. written_held encoding body index m vs some few all kinds small (subst (IsColumn encoding body index vs) told given)
