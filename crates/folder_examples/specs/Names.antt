-- Worked names of files.
use Rattle.std.specs.Prelude.{◌≡◌, [], ◌∷◌, codes}
use Rattle.folder_forms.specs.FileName.{file_text, IsNoFileName}
use Rattle.folder_forms.specs.declared.file_kind.FileKind.TheVariants.{Object, Rows}
use Rattle.object_forms.specs.declared.kind.Kind.TheVariants.{Schema, Table, Procedure, Function, View, Trigger, Event}

-- what files are called
pub record FileNames : Type 0 where
  pub schema : file_text (Object Schema) (codes "s") (codes "s") 0 ≡ codes "s-schema-create.sql"
  pub table : file_text (Object Table) (codes "s") (codes "t") 0 ≡ codes "s.t-schema.sql"
  pub first_rows : file_text Rows (codes "s") (codes "t") 0 ≡ codes "s.t.00000.sql"
  pub more_rows : file_text Rows (codes "s") (codes "t") 1234567 ≡ codes "s.t.1234567.sql"
  pub procedure : file_text (Object Procedure) (codes "s") (codes "p_1") 0
      ≡ codes "s.p_1-schema-procedure.sql"
  pub function : file_text (Object Function) (codes "s") (codes "F") 0
      ≡ codes "s.F-schema-function.sql"
  pub view : file_text (Object View) (codes "s") (codes "v") 0 ≡ codes "s.v-schema-view.sql"
  pub trigger : file_text (Object Trigger) (codes "s") (codes "g") 0
      ≡ codes "s.g-schema-trigger.sql"
  pub event : file_text (Object Event) (codes "s") (codes "e") 0 ≡ codes "s.e-schema-event.sql"
  pub escaped : file_text (Object Table) (codes "a.b") (codes "x/y-1") 0
      ≡ codes "a@2eb.x@2fy@2d1-schema.sql"
  pub not_ascii : file_text (Object Table) (195 ∷ 169 ∷ []) (codes "@") 0
      ≡ codes "@c3@a9.@40-schema.sql"

-- what isn't the name of a file
pub record OtherNames : Type 0 where
  pub a_digit_in_upper_case : IsNoFileName (codes "a.B@2E-schema.sql")
  pub a_needless_escape : IsNoFileName (codes "a@62.t-schema.sql")
  pub an_empty_name : IsNoFileName (codes "s.-schema.sql")
