use Rattle.std.proofs.Common.{refl, rules}
use Rattle.my_session.specs.Serving.{IsServing}
use Rattle.my_session.specs.Stop.{stop_fault}
use Rattle.my_session.proofs.Coming.{next_ended, next_failed, next_found}
use Rattle.my_session.proofs.rows.SessionReads.next_row.Goals as goal

pub returns-in-Err : goal.returns-in-Err
returns-in-Err g c =
    let alive = rw (← c.self.view_is) at c.requires.alive in (
      (
        refl,
        (λ _. tt),
        (
          search rules,
          search rules,
          rw (← c.self.view_is) (λ h.
              let serving : IsServing g.L.Link c.self.inside.channel.link = record { honest = h; alive = (c.self.invariant.3.is_open h alive).alive } in
              rw c.stop_fault-fault.ensures (rw c.message.ensures.place (rw c.message.ensures.payload (next_failed g.L.Link c.self.inside.form c.self.inside.channel c.advance.new.channel c.self.inside.reader c.advance.new.reader (stop_fault c.advance.new.channel.began c.advance.new.channel.message c.in-Err.stop) (c.in-Err.ensures.served serving))))),
        ),
      ),
      search rules,
    )

pub returns-then-is_row : goal.returns-then-is_row
returns-then-is_row g c =
    let alive = rw (← c.self.view_is) at c.requires.alive in
    let after = rw c.if-is_row.true at c.in-Ok.ensures.reader in
    let found_is = rw c.message-then-is_row.ensures.payload at c.found_row.ensures.cells in (
      (
        refl,
        (λ _. tt),
        (
          search rules,
          search rules,
          rw (← c.self.view_is) (λ h.
              let serving : IsServing g.L.Link c.self.inside.channel.link = record { honest = h; alive = (c.self.invariant.3.is_open h alive).alive } in
              next_found g.L.Link c.self.inside.form c.self.inside.channel c.advance.new.channel c.self.inside.reader c.advance.new.reader c.self.inside.peer.ends c.found_row.result after found_is (c.in-Ok.ensures.served serving)),
        ),
      ),
      search rules,
    )

pub returns : goal.returns
returns g c =
    let alive = rw (← c.self.view_is) at c.requires.alive in
    let after = rw c.if-is_row.false at c.in-Ok.ensures.reader in (
      (
        refl,
        (λ _. tt),
        (
          search rules,
          search rules,
          rw (← c.self.view_is) (λ h.
              let serving : IsServing g.L.Link c.self.inside.channel.link = record { honest = h; alive = (c.self.invariant.3.is_open h alive).alive } in
              next_ended g.L.Link c.self.inside.form c.self.inside.channel c.advance.new.channel c.self.inside.reader c.advance.new.reader c.self.inside.peer.ends after (c.in-Ok.ensures.served serving)),
        ),
      ),
      search rules,
    )
