use Rattle.memory_outside.proofs.Parts.{position-has_name, position-with_file-part}
use Rattle.memory_outside.proofs.memory_folder.put_among.Goals as goal

pub put_in-requires : goal.put_in-requires
put_in-requires c = position-has_name _ c.args.parts.now.items c.args.file.name c.args.part c.index_mut.result.now c.requires c.index_mut.ensures.value

pub returns-clause-files : goal.returns-clause-files
returns-clause-files c =
    position-with_file-part _ c.args.parts.now.items c.args.file c.args.part c.index_mut.result.now c.put_in.new.files c.requires c.index_mut.ensures.value c.put_in.ensures
