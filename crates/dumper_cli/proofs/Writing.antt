-- One row more of a data file, and its end.
use Rattle.std.proofs.Common.{◌≡◌, ℕ, true, List, [], ◌∷◌, ◌++◌, map, codes, sym, ◌∙◌, ap, subst, append_assoc}
use Rattle.std.proofs.lemmas.List.{map-append}
use Rattle.std.proofs.lemmas.List.Sums.{fold-append}
use Rattle.link_traits.specs.Contents.{File}
use Rattle.link_traits.specs.Folder.{told_after_append, files_after_finish}
use Rattle.link_traits.specs.declared.folder.Shelf.{Ghosts}
use Rattle.plain_data.specs.Buffer.{BufferView}
use Rattle.plain_data.specs.Cell.{Cell}
use Rattle.dumper_cli.specs.DataFile.{FileText, row_text, text_with_row, first_row, rows_text, files_of, table_files, file_name}
use Rattle.dumper_cli.specs.Writing.{Holds, HoldsRows, IsWriting, KeepsFile}
use Rattle.dumper_cli.specs.declared.column.Column.{Column}
use Rattle.dumper_cli.specs.declared.data_file.DataFile.{DataFile}

text_of-push : (head first : List ℕ) (rows : List (List ℕ)) (row : List ℕ) → rows_text head first (rows ++ row ∷ []) ≡ text_with_row head (rows_text head first rows) row
text_of-push head first rows row = fold-append (text_with_row head) (first_row head first) rows (row ∷ [])

module _ {S : Type 0} (of : Ghosts S) where
  -- a row after others
  pub HoldsRows_more : (rows : List (List ℕ)) (row : List ℕ) (old new : DataFile S of) → old.begun ≡ true → new.head.bytes ≡ old.head.bytes
      → ((text : FileText) → Holds of text old → Holds of (text_with_row old.head.bytes text row) new)
      → HoldsRows of rows old → HoldsRows of (rows ++ row ∷ []) new
  HoldsRows_more [] row old new begun same more holds = absurd (cc)
  HoldsRows_more (first ∷ rows) row old new begun same more holds =
      let pushed : rows_text new.head.bytes first (rows ++ row ∷ []) ≡ text_with_row old.head.bytes (rows_text old.head.bytes first rows) row = ap (λ (head : List ℕ). rows_text head first (rows ++ row ∷ [])) same ∙ text_of-push old.head.bytes first rows row in
      subst (λ (text : FileText). Holds of text new) (sym pushed) (more (rows_text old.head.bytes first rows) holds)

  -- the same rows, of which more was appended
  pub HoldsRows_passed : (rows : List (List ℕ)) (old new : DataFile S of) → old.begun ≡ true → new.head.bytes ≡ old.head.bytes
      → ((text : FileText) → Holds of text old → Holds of text new)
      → HoldsRows of rows old → HoldsRows of rows new
  HoldsRows_passed [] old new begun same passed holds = absurd (cc)
  HoldsRows_passed (first ∷ rows) old new begun same passed holds =
      subst (λ (head : List ℕ). Holds of (rows_text head first rows) new) (sym same) (passed (rows_text old.head.bytes first rows) holds)

  -- a row that is spelled is no part of the file yet
  HoldsRows_spelled : (rows : List (List ℕ)) (spelled : BufferView) (file : DataFile S of) (same : of.is_begun file.shelf ≡ file.begun) (none_made : of.tells file.shelf → (of.told file.shelf).made ≡ [])
      → HoldsRows of rows file → HoldsRows of rows (record file { spelled = spelled; same = same; none_made = none_made })
  HoldsRows_spelled [] spelled file same none_made holds = holds
  HoldsRows_spelled (first ∷ rows) spelled file same none_made holds = record { begun = holds.begun; size = holds.size; front = holds.front; bytes = holds.bytes; appended = holds.appended; told = holds.told }

  -- the begun file of these rows, once it is ended
  pub HoldsRows_ended : (rows : List (List ℕ)) (file : DataFile S of) (made : List File) (bytes : List ℕ) → file.begun ≡ true → of.tells file.shelf
      → bytes ≡ file.waiting.bytes ++ codes ";\n" → made ≡ files_after_finish (told_after_append (of.told file.shelf) bytes)
      → HoldsRows of rows file → made ≡ files_of file.name file.head.bytes rows
  HoldsRows_ended [] file made bytes begun tells last is holds = absurd (cc)
  HoldsRows_ended (first ∷ rows) file made bytes begun tells last is holds =
      let none : (of.told file.shelf).made ≡ [] = file.none_made tells in
      let told : (of.told file.shelf).begun ≡ record { name = file.name; bytes = holds.front } = holds.told tells in
      let text : (of.told file.shelf).begun.bytes ++ bytes ≡ (rows_text file.head.bytes first rows).bytes ++ codes ";\n" =
      ap (λ (f : File). f.bytes ++ bytes) told ∙ (ap (λ (b : List ℕ). holds.front ++ b) last ∙ (sym (append_assoc holds.front file.waiting.bytes (codes ";\n")) ∙ ap (λ (b : List ℕ). b ++ codes ";\n") (sym holds.bytes))) in
      is ∙ (ap (λ (files : List File). files ++ record { name = (of.told file.shelf).begun.name; bytes = (of.told file.shelf).begun.bytes ++ bytes } ∷ []) none ∙ (
      ap (λ (b : List ℕ). record { name = (of.told file.shelf).begun.name; bytes = b } ∷ []) text ∙ ap (λ (f : File). record { name = f.name; bytes = (rows_text file.head.bytes first rows).bytes ++ codes ";\n" } ∷ []) told))

  -- the file of a table's rows, once it is ended
  pub IsWriting_ended : (schema table : List ℕ) (columns : List Column) (rows : List (List Cell)) (file : DataFile S of) (made : List File) (bytes : List ℕ) → file.begun ≡ true → of.tells file.shelf
      → bytes ≡ file.waiting.bytes ++ codes ";\n" → made ≡ files_after_finish (told_after_append (of.told file.shelf) bytes)
      → IsWriting of schema table columns rows file → made ≡ table_files schema table columns rows
  IsWriting_ended schema table columns rows file made bytes begun tells last is writing =
      HoldsRows_ended (map (row_text columns) rows) file made bytes begun tells last is writing.text
      ∙ (ap (λ (name : List ℕ). files_of name file.head.bytes (map (row_text columns) rows)) writing.name ∙ ap (λ (head : List ℕ). files_of (file_name schema table) head (map (row_text columns) rows)) writing.head)

  -- the file with one row more: it was spelled, added, and more of the file was appended
  pub IsWriting_more : (schema table : List ℕ) (columns : List Column) (rows : List (List Cell)) (cells : List Cell) (old : DataFile S of) (spelled : BufferView) (same : of.is_begun old.shelf ≡ old.begun) (none_made : of.tells old.shelf → (of.told old.shelf).made ≡ []) (mid new : DataFile S of)
      → spelled.bytes ≡ row_text columns cells → KeepsFile of (record old { spelled = spelled; same = same; none_made = none_made }) mid → KeepsFile of mid new → mid.begun ≡ true
      → ((texts : List (List ℕ)) → HoldsRows of texts (record old { spelled = spelled; same = same; none_made = none_made }) → HoldsRows of (texts ++ spelled.bytes ∷ []) mid)
      → ((text : FileText) → Holds of text mid → Holds of text new)
      → IsWriting of schema table columns rows old → IsWriting of schema table columns (rows ++ cells ∷ []) new
  IsWriting_more schema table columns rows cells old spelled same none_made mid new is first then begun adds passes writing = record {
    name = then.name ∙ (first.name ∙ writing.name);
    head = then.head ∙ (first.head ∙ writing.head);
    text = HoldsRows_passed (map (row_text columns) (rows ++ cells ∷ [])) mid new begun then.head passes (
        subst (λ (texts : List (List ℕ)). HoldsRows of texts mid) (ap (λ (text : List ℕ). map (row_text columns) rows ++ text ∷ []) is ∙ sym (map-append (row_text columns) rows (cells ∷ []))) (
        adds (map (row_text columns) rows) (HoldsRows_spelled (map (row_text columns) rows) spelled old same none_made writing.text)));
  }
