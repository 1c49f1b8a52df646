-- What a site tells, and what its calls do to it.
use Rattle.std.specs.Prelude.{◌≡◌, ◌≤◌, ◌+◌, ◌-◌, ◌^◌, ◌↔◌, ℕ, Bool, false, List, [], ◌∷◌, ◌++◌, drop, min, Result, IfOk, OnOk, OnErr}
use Rattle.honest_server.specs.Link.{ServedLink}
use Rattle.honest_server.specs.Site.{ServedSite, StaysHonest}
use Rattle.link_traits.specs.Link.{Told, told_at_start}

-- where connections go
pub record Aim : Type 0 where
  pub host : List ℕ
  pub port : ℕ

-- the conversations of the next links, and the messages of each link that came back
pub record SiteTold : Type 0 where
  pub conversations : List (List (List ℕ))
  pub sent : List (List (List ℕ))

-- how many links are out, and whether one of them is alone
pub record Links : Type 0 where
  pub out : ℕ
  pub sole : Bool

-- the conversation of the next link
abbrev pub next_of : List (List (List ℕ)) → List (List ℕ)
next_of [] = []
next_of (conversation ∷ more) = conversation

-- a connection was asked for: that conversation is used up
abbrev pub told_after_connect : SiteTold → SiteTold
told_after_connect old = record old { conversations = drop 1 old.conversations }

-- a link with these messages came back
abbrev pub told_after_return : SiteTold → List (List ℕ) → SiteTold
told_after_return old sent = record old { sent = old.sent ++ sent ∷ [] }

-- a link tells what is said on it, and begins with this conversation
pub record BeginsConversation (tells : Type 0) (told : Told)
    (conversation : List (List ℕ)) : Type 0 where
  pub is_told : tells
  pub begins : told ≡ told_at_start conversation

-- a connection was asked for, and the link that was given begins with the next conversation
pub record ConnectsTold {L E : Type 0} (tells : L → Type 0) (told : L → Told) (old : SiteTold)
    (result : Result L E) (new : SiteTold) : Type 0 where
  pub site : new ≡ told_after_connect old
  pub link : IfOk result (λ link. BeginsConversation (tells link) (told link)
      (next_of old.conversations))

-- what a call keeps: whether the site is honest, and whether it tells what is said on its links
pub record StaysSite {S : Type 0} (honest tells : S → Type 0) (old new : S) : Type 0 where
  pub still_honest : honest old ↔ honest new
  pub still_tells : tells old ↔ tells new

-- a link of an honest site is honest, and an honest link is a new one
pub record IsGiven (site_honest link_honest is_new : Type 0) : Type 0 where
  pub honest : site_honest → link_honest
  pub fresh : link_honest → is_new

-- the link that is given is the site's own, and those that were stay so
pub record OwnsMore {L E : Type 0} (old new : L → Type 0) (result : Result L E) : Type 0 where
  pub given : IfOk result new
  pub others : (link : L) → old link → new link

-- one link more is out, which is alone or not; at a failure as many as before, and none is alone
pub record TakesLink {L E : Type 0} (sole : Bool) (old : Links) (result : Result L E)
    (new : Links) : Type 0 where
  pub ok : OnOk result (new ≡ record { out = old.out + 1; sole = sole })
  pub err : OnErr result (new ≡ record { out = old.out; sole = false })

-- one link fewer is out, and none is alone
pub record LosesLink (old new : Links) : Type 0 where
  pub out : new.out + 1 ≡ old.out
  pub none_alone : new.sole ≡ false

-- the transactions and grants of a link that comes back belong together with those of the others, while so many links are out
abbrev pub KeepsHonest : Links → ServedSite → ServedLink → Type 0
KeepsHonest left site link = StaysHonest left.out site link.state

-- no link makes a site honest, and an honest link keeps it so where the transactions and grants of all links belong together.
pub record ReturnsHonest (old link together new : Type 0) : Type 0 where
  pub before : new → old
  pub stays : old → link → together → new

-- a count of faults has taken another in, as far as it goes
pub record AddsFaults (old added new : ℕ) : Type 0 where
  pub later : old ≤ new
  pub sum : min (old + added) (2 ^ 64 - 1) ≤ new
