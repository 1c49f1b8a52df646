use Rattle.std.proofs.Common.{ap, subst, ◌∙◌, ◌++◌, map}
use Rattle.std.specs.List.{flat_map}
use Rattle.folder_forms.specs.Metadata.{ended, file_line}
use Rattle.metadata_ini.specs.Writing.{AppendsHead, AppendsEnd}
use Rattle.metadata_ini.proofs.Appended.{whole_text}
use Rattle.metadata_ini.proofs.writing.metadata_text.Goals as goal

pub returns : goal.returns
returns c =
    let value = c.args.metadata.now in
    whole_text value c.append_head.new.out.bytes c.append_position.new.out.bytes c.append.new.out.bytes c.append_files.new.out.bytes c.append_end.new.out.bytes c.requires
    (subst (λ x. AppendsHead x c.append_head.new.out.bytes value) c.new-out.ensures.bytes c.in_ok-append_head.ensures)
    c.in_ok-append_position.ensures c.in_ok-append.ensures.ok
    (c.in_ok-append_files.ensures ∙ ap (λ f. c.append.new.out.bytes ++ flat_map ended (map file_line f)) c.as_slice.ensures)
    (subst (AppendsEnd c.append_files.new.out.bytes c.append_end.new.out.bytes value.version) c.as_slice-2.ensures c.in_ok-append_end.ensures)
