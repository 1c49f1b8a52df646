-- A list lends its members as a slice.
use Rattle.std.specs.Prelude.{List, ◌++◌, take, drop, length}
use Rattle.std.specs.Borrow.{Lends, MutBor, Fml, Array, RattleType}
use Rattle.plain_data.specs.contracts.list.PlainList.{the_row}

-- the list with its members written over; a slice keeps its length
abbrev pub written_over : {X : Type 0} → List X → List X → List X
written_over old new = take (length old) (new ++ drop (length new) old)

-- the list ends as what was last written through the slice
abbrev pub lends_list : (T : RattleType) → MutBor (List T.Denot) → MutBor (List T.Denot) → Fml
lends_list T s r = Lends (the_row T) (Array T 0) s r (written_over s.now)
