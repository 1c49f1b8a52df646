use Rattle.std.proofs.Common.{rules, sym, subst}
use Rattle.folder_forms.specs.FileName.{IsFileName, file_of}
use Rattle.metadata_ini.proofs.Texts.{undivided, named, named_utf8, no_schema_fault, no_name_fault}
use Rattle.metadata_ini.proofs.file_name.FileNameFileNameText.read.Goals as goal

pub returns-in_default-clause-err : goal.returns-in_default-clause-err
returns-in_default-clause-err c = undivided c.args.text.now c.in_default.ensures

pub returns-in_err-schema-clause-err : goal.returns-in_err-schema-clause-err
returns-in_err-schema-clause-err c = search (rules, no_schema_fault)

pub returns-in_err-name-clause-err : goal.returns-in_err-name-clause-err
returns-in_err-name-clause-err c = search (rules, no_name_fault)

pub text_name-requires : goal.text_name-requires
text_name-requires c = named_utf8 c.args.text.now c.in-Some.parts.kind _ _ c.in-Some.parts.number c.in_ok-schema.schema c.in_ok-name.name c.in-Some.ensures c.in_ok-schema.ensures.ok c.in_ok-name.ensures.ok

pub from_parts-requires : goal.from_parts-requires
from_parts-requires c = subst (λ t. IsFileName t (file_of c.in-Some.parts.kind c.in_ok-schema.schema c.in_ok-name.name c.in-Some.parts.number)) (sym c.in_ok-text.ensures)
    (named c.args.text.now c.in-Some.parts.kind _ _ c.in-Some.parts.number c.in_ok-schema.schema c.in_ok-name.name c.in-Some.ensures c.in_ok-schema.ensures.ok c.in_ok-name.ensures.ok)
