use Rattle.std.proofs.Common.{ap, sym, ◌∙◌, is_ok}
use Rattle.std.proofs.lemmas.Bool.{false≢true}
use Rattle.metadata_ini.proofs.LineTexts.{decoded_out}
use Rattle.metadata_ini.proofs.file_lines.decode.Goals as goal

pub returns-clause-no : goal.returns-clause-no
returns-clause-no c is d spells =
    let out = decoded_out c.args.text.now d _ _ _ c.requires c.decode_to_slice.ensures.value spells in
    false≢true (sym is ∙ c.is_ok.ensures.value ∙ ap is_ok out.0)

pub returns-clause-yes : goal.returns-clause-yes
returns-clause-yes c is d spells = sym (decoded_out c.args.text.now d _ _ _ c.requires c.decode_to_slice.ensures.value spells).1
