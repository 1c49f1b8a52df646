use Rattle.std.proofs.Common.{refl}
use Rattle.wire_examples.proofs.replies.further_messages_without_eof.Goals as goal

pub returns : goal.returns
returns c = record { column = refl; eof_for_column = refl; after_column = refl; eof_after = refl; column_for_row = refl; cells = refl; the_end = refl; long_end = refl; long_numbers = refl; short_end = refl; short_row_like_an_end = refl; other_ok = refl; err = refl; nothing = refl }
