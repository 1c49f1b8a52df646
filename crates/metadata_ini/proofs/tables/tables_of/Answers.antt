use Rattle.std.proofs.Common.{◌≡◌, ◌+◌, ◌∷◌, ◌++◌, [], take, sym, ap, subst, ◌∙◌, arith, min}
use Rattle.std.proofs.lemmas.List.{take_more}
use Rattle.folder_forms.specs.Metadata.{IsTableList, names_table}
use Rattle.metadata_ini.specs.Tables.{plain_tables}
use Rattle.metadata_ini.proofs.TableLists.{counted, other_added}
use Rattle.metadata_ini.proofs.tables.tables_of.Goals as goal
use Rattle.metadata_ini.proofs.tables.tables_of.Goals.{then-names_table+in_ok-insert, else-names_table}

one_more : (c : goal.Joined-names_table) → take (c.loop-file.file-index + 1) c.args.files.now ≡ take c.loop-file.file-index c.args.files.now ++ c.file-item.result ∷ []
one_more c = take_more c.args.files.now c.loop-file.file-index c.file-item.result (omega arith) ∙ ap (λ f. take c.loop-file.file-index c.args.files.now ++ f ∷ []) (sym c.file-item.is)

pub loop-file-preserved : goal.loop-file-preserved
loop-file-preserved c = subst (λ l. IsTableList l (plain_tables c.if-names_table.made.entries)) (sym (one_more c)) (elim c.if-names_table.branch [
  | then-names_table+in_ok-insert w ↦ subst (λ m. IsTableList (take c.loop-file.file-index c.args.files.now ++ c.file-item.result ∷ []) (plain_tables m.entries)) (sym w.made-is)
      (counted (take c.loop-file.file-index c.args.files.now) c.file-item.result c.loop-file.made.entries w.insert.new.self.entries (w.as_str.result, w.as_str-then-names_table.result) w.saturating_add.result w.copied.result
      c.loop-file.invariant (ap names_table (sym c.kind.ensures) ∙ sym c.names_table.ensures ∙ w.if-names_table.true) (w.as_str.ensures ∙ w.schema.ensures) (w.as_str-then-names_table.ensures ∙ w.name.ensures)
      (w.copied.ensures ∙ w.get.ensures.value) (w.saturating_add.ensures ∙ ap (λ n. min (n + c.file-item.result.rows) 18446744073709551615) w.unwrap_or-before.ensures) w.in_ok-insert.ensures.entries)
  | else-names_table w ↦ subst (λ m. IsTableList (take c.loop-file.file-index c.args.files.now ++ c.file-item.result ∷ []) (plain_tables m.entries)) (sym w.made-is)
      (other_added (take c.loop-file.file-index c.args.files.now) c.file-item.result (plain_tables c.loop-file.made.entries) c.loop-file.invariant (ap names_table (sym c.kind.ensures) ∙ sym c.names_table.ensures ∙ w.if-names_table.false))
])
