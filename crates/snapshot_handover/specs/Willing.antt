-- When a willing server answers a command by OK.
use Rattle.std.specs.Prelude.{◌≡◌, ◌+◌, ◌≤◌, ◌^◌, true, false}
use Rattle.honest_server.specs.State.{State}
use Rattle.link_traits.specs.Cause.{Rose}
use Rattle.link_traits.specs.declared.link.Link.{Ghosts}
use Rattle.my_session.specs.Served.{lean_size}
use Rattle.my_session.specs.Session.{SessionView}

-- a worker may see what the holder has: it holds no lock, and on a quiet site both have seen the same
pub record MayJoin (holder worker : State) : Type 0 where
  pub frozen : worker.frozen ≡ false
  pub guarded : worker.guarded ≡ false
  pub quiet : worker.terms.server.quiet ≡ true → worker.seen ≡ holder.seen

module _ {L : Type 0} (of : Ghosts L) where
  -- nothing hinders a session's command: the server is honest and willing, the link counted no fault meanwhile, and its reply is within the
  -- bytes that a session hears
  pub record IsUnhindered (old : SessionView L) (new : L) : Type 0 where
    pub honest : of.honest old.link
    pub willing : (of.served old.link).state.terms.server.willing ≡ true
    pub no_fault : Rose (of.faults old.link) (of.faults new) → ⊥
    pub few : old.place + lean_size ≤ 2 ^ 62

  -- something does
  abbrev pub IsHindered : SessionView L → L → Type 0
  IsHindered old new = IsUnhindered old new → ⊥

  -- something does, or the session may not see what the holder of the read lock has, beside which it is sent
  abbrev pub IsHinderedBeside : L → SessionView L → L → Type 0
  IsHinderedBeside holder old new =
      MayJoin (of.served holder).state (of.served old.link).state → IsHindered old new
