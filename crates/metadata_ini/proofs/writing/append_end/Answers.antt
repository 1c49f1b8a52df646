use Rattle.metadata_ini.proofs.Appended.{no_end}
use Rattle.metadata_ini.proofs.writing.append_end.Goals as goal

pub returns-then-version-ne2 : goal.returns-then-version-ne2
returns-then-version-ne2 c = no_end c.args.out.now.bytes c.args.version c.args.files.now c.if-version-ne2.true
