use Rattle.version_store.proofs.Alike.{tell_what_fits}
use Rattle.version_store.proofs.laws.histories_tell_what_fits.Goals as goal

pub returns : goal.returns
returns c = tell_what_fits
