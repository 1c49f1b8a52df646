use Rattle.honest_examples.proofs.SideBySide.{side_by_side}
use Rattle.honest_examples.proofs.sites.two_links_side_by_side.Goals as goal

pub returns : goal.returns
returns c = side_by_side
