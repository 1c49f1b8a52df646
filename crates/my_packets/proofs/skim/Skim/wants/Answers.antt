use Rattle.std.proofs.Common.{◌≡◌, ◌-◌, length, take, arith}
use Rattle.std.proofs.lemmas.List.{length-take-le}
use Rattle.my_packets.proofs.Skimming.{wants_of}
use Rattle.my_packets.specs.Skims.{wanted}
use Rattle.my_packets.proofs.skim.Skim.wants.Goals as goal

pub returns-in-Header-clause-wants : goal.returns-in-Header-clause-wants
returns-in-Header-clause-wants c seq limit fed skims =
    let skim = c.self.inside in
    let size : length (take skim.header_size skim.header) ≡ skim.header_size = length-take-le skim.header_size skim.header (omega arith) in
    let value : 4 - skim.header_size ≡ wanted c.args.self.now = rw (← c.self.view_is, c.in-Header.is) (omega arith) in
    rw value (wants_of seq limit fed c.args.self.now skims)
