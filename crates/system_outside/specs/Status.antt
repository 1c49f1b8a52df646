-- What the adapters over the real outside tell of themselves.
use Rattle.std.specs.Prelude.{ℕ, ◌+◌, ◌-◌, ◌^◌, min, Bool, false, List, Option, None}
use Rattle.link_traits.specs.Site.{Aim, Links}

-- where a site aims, which links are out, and how often it has failed
pub record SiteStatus : Type 0 where
  pub aim : Option Aim
  pub links : Links
  pub faults : ℕ

-- a count of failures with one more, as far as it goes
abbrev pub one_fault_more : ℕ → ℕ
one_fault_more faults = min (faults + 1) (2 ^ 64 - 1)

-- the site has failed once more
abbrev pub with_fault : SiteStatus → SiteStatus
with_fault site = record site { faults = one_fault_more site.faults }

-- one link more is out
abbrev pub one_link_more : Links → Links
one_link_more links = record links { out = links.out + 1 }

-- whether a link has failed, and how often; and where its connection's bytes are known, what it wrote and what is still to be received
pub record LinkStatus : Type 0 where
  pub failed : Bool
  pub faults : ℕ
  pub written : Option (List ℕ)
  pub unread : Option (List ℕ)

-- a link that hasn't failed, over a connection that has written these bytes and is still to receive those
abbrev pub new_link : Option (List ℕ) → Option (List ℕ) → LinkStatus
new_link written unread = record { failed = false; faults = 0; written = written; unread = unread }

-- a folder's path, how many shelves are out, and how often it has failed
pub record FolderStatus : Type 0 where
  pub path : Option (List ℕ)
  pub out : ℕ
  pub faults : ℕ

-- the begun file's size, if one is, how much was read of the open one, and the failures; what these files hold and have left, where that is known
pub record ShelfStatus : Type 0 where
  pub begun : Bool
  pub size : ℕ
  pub reading : Option ℕ
  pub faults : ℕ
  pub written : Option (List ℕ)
  pub unread : Option (List ℕ)

-- a shelf on which nothing was done yet
abbrev pub fresh_shelf : ShelfStatus
fresh_shelf = record {
  begun = false;
  size = 0;
  reading = None;
  faults = 0;
  written = None;
  unread = None;
}

-- how often a sink has failed, and what its writer holds, where that is known
pub record SinkStatus : Type 0 where
  pub faults : ℕ
  pub written : Option (List ℕ)
