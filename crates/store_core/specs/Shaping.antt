-- What a new projection is for the tables of a store.
use Rattle.std.specs.Prelude.{ℕ, Bool, None}
use Rattle.col_value.specs.declared.kinds.Encoding.{Encoding}
use Rattle.catalog_types.specs.declared.catalogue.ProjColumn.{ProjColumn}
use Rattle.stored_rows.specs.Stored.{Projected}

-- a column of a catalogue's projection, without a default
abbrev pub part_of : ℕ × Encoding → ProjColumn
part_of c = record { ordinal = c.0; encoding = c.1; default = None }

-- a projection is up to date
abbrev pub is_fresh : Projected → Bool
is_fresh p = p.entry.fresh
