-- What a link keeps of the folder ahead.
use Rattle.std.specs.Prelude.{ℕ, ◌≡◌, List}
use Rattle.db_model.specs.Database.{Database}
use Rattle.catch_tables.specs.Told.{History, AreToldBy}
use Rattle.catch_model.specs.Caught.{later_mark}

-- the newest epoch of the one behind and of the one ahead, the later of their ancient history marks, and what each table ahead tells from
-- that mark on, but for rows of which nothing is later than the newest epoch of the one behind
pub record Linked : Type 0 where
  pub e : ℕ
  pub f : ℕ
  pub mark : ℕ
  pub tables : List History

abbrev pub linked : ℕ → ℕ → ℕ → List History → Linked
linked e f mark tables = record { e = e; f = f; mark = mark; tables = tables }

-- the link is one of a database behind (`a`) and one ahead (`b`)
pub record Tells (link : Linked) (a b : Database) : Type 0 where
  pub e : link.e ≡ a.last
  pub f : link.f ≡ b.last
  pub mark : link.mark ≡ later_mark a b
  pub tables : AreToldBy link.mark link.e link.tables b
