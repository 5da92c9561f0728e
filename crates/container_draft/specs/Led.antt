-- Places with numbers beside them.
use Rattle.std.specs.Prelude.{ℕ}
use Rattle.container_draft.specs.declared.leading.Led.{Led}

abbrev pub place_of : Led → ℕ
place_of k = k.place
