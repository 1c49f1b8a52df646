use Rattle.dumper_cli.specs.AskedBy.{asked_by}
use Rattle.dumper_cli.proofs.Reaching.{Keeps-then}
use Rattle.dumper_cli.proofs.conversation.ask.Goals as goal

pub returns-in-Err-clause-err : goal.returns-in-Err-clause-err
returns-in-Err-clause-err g c = λ start at. c.in-Err.ensures.err (asked_by c.args.words.now) start at

pub returns-in-Err-read_columns-clause-keeps : goal.returns-in-Err-read_columns-clause-keeps
returns-in-Err-read_columns-clause-keeps g c = Keeps-then g.L.Link c.args.session.now c.set_names.new.session c.read_columns.new.session c.in_default.ensures.keeps c.in-Err-read_columns.ensures.keeps

pub returns-in-Err-read_columns-clause-err : goal.returns-in-Err-read_columns-clause-err
returns-in-Err-read_columns-clause-err g c = λ start at. c.in-Err-read_columns.ensures.err start (c.in_default.ensures.ok (asked_by c.args.words.now) start at)

pub returns-in-Err-ask_rows-clause-keeps : goal.returns-in-Err-ask_rows-clause-keeps
returns-in-Err-ask_rows-clause-keeps g c =
    Keeps-then g.L.Link c.args.session.now c.read_columns.new.session c.ask_rows.new.session
    (Keeps-then g.L.Link c.args.session.now c.set_names.new.session c.read_columns.new.session c.in_default.ensures.keeps c.in-Ok.ensures.keeps)
    c.in-Err-ask_rows.ensures.keeps

pub returns-in-Err-ask_rows-clause-err : goal.returns-in-Err-ask_rows-clause-err
returns-in-Err-ask_rows-clause-err g c =
    let err = rw c.as_slice.ensures at c.in-Err-ask_rows.ensures.err in
    λ start at. err start (c.in-Ok.ensures.ok start (c.in_default.ensures.ok (asked_by c.args.words.now) start at))

pub returns-clause-keeps : goal.returns-clause-keeps
returns-clause-keeps g c =
    Keeps-then g.L.Link c.args.session.now c.read_columns.new.session c.ask_rows.new.session
    (Keeps-then g.L.Link c.args.session.now c.set_names.new.session c.read_columns.new.session c.in_default.ensures.keeps c.in-Ok.ensures.keeps)
    c.in_default-ask_rows.ensures.keeps

pub returns-clause-ok : goal.returns-clause-ok
returns-clause-ok g c =
    let ok = rw c.as_slice.ensures at c.in_default-ask_rows.ensures.ok in
    λ start at. ok start (c.in-Ok.ensures.ok start (c.in_default.ensures.ok (asked_by c.args.words.now) start at))
