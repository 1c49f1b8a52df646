use Rattle.std.proofs.Common.{refl}
use Rattle.wire_examples.proofs.replies.first_messages.Goals as goal

pub returns : goal.returns
returns c = record { ok = refl; ok_too_short = refl; err = refl; err_with_message = refl; err_without_state = refl; err_too_short = refl; state_too_short = refl; columns = refl; most_columns = refl; no_columns = refl; too_many_columns = refl; byte_after_count = refl; local_file = refl; nothing = refl }
