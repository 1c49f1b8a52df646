use Rattle.std.proofs.Common.{arith, refl, length-drop}
use Rattle.statement_splitter.proofs.Steps.{finds_long, finds_short, finds_none}
use Rattle.statement_splitter.proofs.splitter.Splitter.step.Goals as goal

pub returns-then-least_size-self : goal.returns-then-least_size-self
returns-then-least_size-self c =
    let inside = c.self.inside in
    let finds = rw c.deref.ensures.value at c.find-found.ensures in
    rw (← c.self.view_is) record {
      size_is = omega (arith, c.from.ensures);
      long = finds_long inside.store.items inside.place c.find-found.result c.find-found.new.place finds inside.limit (omega (arith, c.least_size.ensures));
      same = refl;
    }

pub returns : goal.returns
returns c =
    let inside = c.self.inside in
    let finds = rw c.deref.ensures.value at c.find-found.ensures in
    rw (← c.self.view_is) record {
      none = finds_none inside.store.items inside.place c.find-found.result c.find-found.new.place finds inside.limit c.in_default.not-Ended;
      short = finds_short inside.store.items inside.place c.find-found.result c.find-found.new.place finds inside.limit (omega (arith, c.least_size.ensures));
      even = omega (arith, finds.even, finds.place.inside, c.self.invariant.1.inside, length-drop inside.place.at inside.store.items, length-drop c.find-found.new.place.at inside.store.items);
      last = refl;
      limit = refl;
    }
