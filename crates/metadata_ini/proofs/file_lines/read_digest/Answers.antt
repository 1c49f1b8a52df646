use Rattle.std.proofs.Common.{◌∙◌}
use Rattle.metadata_ini.proofs.file_lines.read_digest.Goals as goal

pub returns-then-is_same : goal.returns-then-is_same
returns-then-is_same c = record {
  is = c.is_same.ensures.yes c.if-is_same.true ∙ c.spell_digest.ensures;
  sound = record { size = c.decode.auto.digest; bytes = c.decode.ensures.bytes };
}
