-- Which statements are served: all of them.
use Rattle.std.specs.Prelude.{Bool, true, false}
use Rattle.sql_tree.specs.declared.statement.Statement.{Statement}

abbrev pub is_served : Statement → Bool
is_served s = true

-- the form that looks at a load file
abbrev pub is_copy : Statement → Bool
is_copy (Statement.Copy table file) = true
is_copy s = false

-- the forms that make or drop a table or a projection, or add a column
abbrev pub is_of_schema : Statement → Bool
is_of_schema (Statement.CreateTable name columns) = true
is_of_schema (Statement.CreateProjection p) = true
is_of_schema (Statement.DropTable name) = true
is_of_schema (Statement.DropProjection name) = true
is_of_schema (Statement.AddColumn a) = true
is_of_schema s = false
