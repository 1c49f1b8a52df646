use Rattle.std.proofs.Common.{refl}
use Rattle.wire_examples.proofs.replies.further_messages.Goals as goal

pub returns : goal.returns
returns c = record { column = refl; byte_after_column = refl; eof_for_column = refl; eof_after = refl; column_for_eof = refl; cells = refl; long_spelling = refl; byte_after_cells = refl; the_end = refl; long_end = refl; row_like_an_end = refl; short_end = refl; err = refl; nothing = refl }
