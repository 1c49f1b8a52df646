use Rattle.std.proofs.Common.{ap, ◌∙◌, map}
use Rattle.std.specs.Char.{to_ascii_uppercase}
use Rattle.sql_literals.proofs.Hexadecimals.{upper_of_lower, on_ok}
use Rattle.sql_literals.proofs.hexadecimal.spell.Goals as goal

pub returns : goal.returns
returns c =
    c.make_ascii_uppercase.ensures.after
    ∙ ap (map to_ascii_uppercase) (on_ok _ _ (c.encode_to_slice.ensures.fits.1 c.requires) c.encode_to_slice.ensures.written)
    ∙ upper_of_lower c.args.bytes.now
