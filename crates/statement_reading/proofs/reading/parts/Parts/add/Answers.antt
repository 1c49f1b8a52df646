use Rattle.statement_reading.proofs.PartLists.{part_added}
use Rattle.statement_reading.proofs.reading.parts.Parts.add.Goals as goal

pub returns-in-Part : goal.returns-in-Part
returns-in-Part c = rw c.in-Part.is (part_added (λ text. text.now) c.self.inside.texts c.self.inside.count c.args.text c.args.self.now c.self.told c.self.invariant c.self.view_is (rw c.in-Part.is at c.requires))
