use Rattle.std.proofs.Common.{sym, subst, ◌∙◌, ap, ◌++◌}
use Rattle.std.specs.Prelude.{IsUtf8}
use Rattle.folder_forms.specs.FileName.{file_of, front_names, ending}
use Rattle.metadata_ini.proofs.Texts.{text_utf8}
use Rattle.metadata_ini.proofs.file_name.file_text.Goals as goal

pub text_name-requires : goal.text_name-requires
text_name-requires c =
    let file = file_of c.args.kind c.args.schema.now c.args.name.now c.args.number in
    subst IsUtf8 (sym (c.as_slice.ensures ∙ c.in_ok-append_ending.ensures ∙ ap (λ l. l ++ ending c.args.kind c.args.number) (c.in_ok-append_names.ensures ∙ ap (λ l. l ++ front_names c.args.kind c.args.schema.now c.args.name.now) c.new-out.ensures.bytes))) (text_utf8 file c.requires)
