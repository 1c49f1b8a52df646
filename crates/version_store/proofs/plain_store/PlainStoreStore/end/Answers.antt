use Rattle.version_store.proofs.Filled.{emptied}
use Rattle.version_store.proofs.plain_store.PlainStoreStore.end.Goals as goal

pub returns : goal.returns
returns c = rw (← c.self.view_is) (emptied c.self.inside.present c.self.inside.slots.items c.args.id.number (rw (← c.self.view_is) at c.requires))
