use Rattle.std.proofs.lemmas.Result.{on_ok_weaker}
use Rattle.dumper_cli.proofs.Writing.{IsWriting_more}
use Rattle.dumper_cli.proofs.data_file.DataFile.row.Goals as goal

pub returns-clause-ok : goal.returns-clause-ok
returns-clause-ok g c = on_ok_weaker c.pass_on.result (λ passes. λ schema. λ table. λ rows. λ writing. IsWriting_more g.S.Shelf schema table _ rows _ c.args.self.now c.spell.new.out _ _ c.add.new.self c.pass_on.new.self c.in_ok-spell.ensures.ok c.add.ensures.kept c.pass_on.ensures.kept c.in_ok-add.ensures.begun c.in_ok-add.ensures.ok passes writing) c.pass_on.ensures.ok
