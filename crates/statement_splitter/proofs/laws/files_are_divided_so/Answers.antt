use Rattle.std.proofs.Common.{refl}
use Rattle.splitter_forms.specs.Pieces.{pieces, next, last}
use Rattle.statement_splitter.proofs.laws.files_are_divided_so.Goals as goal

pub returns : goal.returns
unfolding pieces next last
returns c = record { comments_and_quotes = refl; delimiters = refl; statement_begun = refl; comment_begun = refl }
