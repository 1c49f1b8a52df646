use Rattle.std.proofs.Common.{sym, subst}
use Rattle.metadata_ini.proofs.FileFronts.{FilesSoFar, file_more, files_stop}
use Rattle.metadata_ini.proofs.reading.read_files.Goals as goal

pub returns-in_default-2 : goal.returns-in_default-2
returns-in_default-2 c =
    files_stop c.args.text.now c.lines.files c.lines.rest.now c.in-Some.line.now c.in-Some.after.now c.lines.invariant c.in-Some.ensures (rw c.in_default-2.is at c.in_ok-file.ensures)

pub lines-preserved : goal.lines-preserved
lines-preserved c =
    subst (λ l. FilesSoFar c.args.text.now l c.in-Some.after.now) (sym c.in_ok-push.ensures.ok)
    (file_more c.args.text.now c.lines.files c.lines.rest.now c.in-Some.line.now c.in-Some.after.now c.in-Some-2.file c.lines.invariant c.in-Some.ensures (rw c.in-Some-2.is at c.in_ok-file.ensures))
