-- Columns by their indices.
use Rattle.std.specs.Prelude.{Bool, false, Option, Some, None}
use Rattle.object_forms.specs.declared.shape.Column.{Column}
use Rattle.honest_server.specs.WideKey.{is_plain_integer}

-- there is a column, which is plain and of an integer type
abbrev pub is_plain_integer_at : Option Column → Bool
is_plain_integer_at None = false
is_plain_integer_at (Some column) = is_plain_integer column
