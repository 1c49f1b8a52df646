-- The INSERT statements of data files (MySQL 8.0 Reference Manual, 15.2.7 "INSERT").
use Rattle.std.specs.Prelude.{◌≡◌, ℕ, ◌+◌, Bool, true, false, ◌==◌, if◌then◌else◌, List, ◌++◌, codes}
use Rattle.grammar.specs.Language.{Language, Fixed, One, Then, Times, Many}
use Rattle.sql_cells.specs.Name.{quoted_name}
use Rattle.sql_cells.specs.Spelling.{Literal}

-- any byte but the backquote
abbrev pub is_inside : ℕ → Bool
is_inside byte = if byte == 96 then false else true

-- a backquote and bytes after it, none of them a backquote
unfoldable pub OpenedName : Language
OpenedName = Then (Fixed (codes "`")) (Many (One is_inside))

-- from a backquote to the next one
unfoldable pub NamePart : Language
NamePart = Then OpenedName (Fixed (codes "`"))

-- A name between backquotes. A doubled backquote is where one such part ends and the next begins.
unfoldable pub QuotedName : Language
QuotedName = Then NamePart (Many NamePart)

-- a comma and a name
unfoldable pub NextName : Language
NextName = Then (Fixed (codes ",")) QuotedName

-- one more than so many names, with commas between them
unfoldable pub NamesAnd : ℕ → Language
NamesAnd more = Then QuotedName (Times NextName more)

-- a comma and a literal
unfoldable pub NextLiteral : Language
NextLiteral = Then (Fixed (codes ",")) Literal

-- one more than so many literals with commas between them, in parentheses
unfoldable pub Row : ℕ → Language
Row more = Then (Fixed (codes "("))
    (Then Literal (Then (Times NextLiteral more) (Fixed (codes ")"))))

-- a comma, a line feed and a row
unfoldable pub FurtherRow : ℕ → Language
FurtherRow more = Then (Fixed (codes ",\n")) (Row more)

-- rows with a comma and a line feed between them, at least one
unfoldable pub Rows : ℕ → Language
Rows more = Then (Row more) (Many (FurtherRow more))

-- the columns in parentheses, and after them rows of as many literals as there are columns
unfoldable pub Filled : Language
Filled text =
    (more : ℕ) × Then (Fixed (codes " ("))
    (Then (NamesAnd more) (Then (Fixed (codes ") VALUES\n")) (Rows more))) text

-- an INSERT into a table that isn't said
unfoldable pub AnyInsert : Language
AnyInsert = Then (Fixed (codes "INSERT INTO ")) (Then QuotedName Filled)

-- an INSERT into this table
unfoldable pub InsertInto : List ℕ → Language
InsertInto table = Then (Fixed (codes "INSERT INTO " ++ quoted_name table)) Filled

-- an INSERT into this table with the names of these columns, and so many rows
pub record HasRows (table text columns : List ℕ) (rows : ℕ) : Type 0 where
  pub more : ℕ
  pub body : List ℕ
  pub text_is : text ≡ codes "INSERT INTO " ++ quoted_name table ++ codes " (" ++ columns
      ++ codes ") VALUES\n" ++ body
  pub named : NamesAnd more columns
  pub others : ℕ
  pub filled : Then (Row more) (Times (FurtherRow more) others) body
  pub count : rows ≡ others + 1
