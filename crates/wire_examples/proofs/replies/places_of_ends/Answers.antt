use Rattle.std.proofs.Common.{refl}
use Rattle.wire_examples.proofs.replies.places_of_ends.Goals as goal

pub returns : goal.returns
returns c = record {
  last_with_eof = λ bytes size. rw size refl;
  first_row_with_eof = λ bytes size. rw size refl;
  last_without_eof = λ bytes size. rw size refl;
  first_row_without_eof = λ bytes size. rw size refl;
  full_is_no_end = λ bytes size. rw size refl;
}
