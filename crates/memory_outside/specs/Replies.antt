-- What a site and a link with lists of replies hold.
use Rattle.std.specs.Prelude.{ℕ, ◌+◌, ◌-◌, ◌++◌, drop, Bool, false, List, [], ◌∷◌, Option, Some, None, ◌==◌, ◌||◌, length, map, min, is_some, if◌then◌else◌}
use Rattle.link_traits.specs.Link.{Told, told_at_start, told_after_send, told_after_failure}
use Rattle.link_traits.specs.Site.{Aim, Links, SiteTold, next_of}
use Rattle.memory_outside.specs.Script.{Counts, at_most_count, number_of, script_of, sum_of_counts}

-- what a link tells, the order in which it was made, the greatest answer of a `recv` (0 for no limit),
-- and the calls that are to fail
pub record LinkState : Type 0 where
  pub told : Told
  pub number : ℕ
  pub cut : ℕ
  pub script : Counts

-- whether a `recv` has nothing to take
abbrev pub has_nothing : Told → Bool
has_nothing told = told.failed || length told.waiting == 0

-- at most the limit, where there is one
abbrev pub at_most : ℕ → ℕ → ℕ
at_most limit count = if limit == 0 then count else min count limit

-- a link that came back: the order in which it was made, and its messages
pub record Returned : Type 0 where
  pub number : ℕ
  pub sent : List (List ℕ)

-- the conversations of the next links, the links that came back, where connections go, which links are
-- out, the number of the next link, the greatest answer of a `recv`, and the calls that are to fail
pub record SiteState : Type 0 where
  pub conversations : List (List (List ℕ))
  pub returned : List Returned
  pub aim : Option Aim
  pub links : Links
  pub next : ℕ
  pub cut : ℕ
  pub script : Counts

-- what the site tells
abbrev pub site_told : SiteState → SiteTold
site_told site =
    record { conversations = site.conversations; sent = map (λ link. link.sent) site.returned }

-- the messages of the first link of this number that came back
abbrev pub messages_of : List Returned → ℕ → Option (List (List ℕ))
messages_of [] number = None
messages_of (link ∷ others) number =
    if link.number == number then Some link.sent else messages_of others number

-- whether the link of this number came back
abbrev pub has_returned : SiteState → ℕ → Bool
has_returned site number = is_some (messages_of site.returned number)

-- a message was sent, or the link has failed
abbrev pub told_after_answer : Bool → Told → List ℕ → Told
told_after_answer ok told message =
    if ok then told_after_send told message else told_after_failure told

-- a message was sent, or the link has failed; and these calls are counted
abbrev pub link_after_send : LinkState → Bool → List ℕ → Counts → LinkState
link_after_send old ok message script = record old {
  told = told_after_answer ok old.told message;
  script = script;
}

-- a link of this number and conversation at its start
abbrev pub link_begun : SiteState → ℕ → List (List ℕ) → LinkState
link_begun site number replies = record {
  told = told_at_start replies;
  number = number;
  cut = site.cut;
  script = script_of site.script.failing (number_of number 1);
}

-- the link that the next connection gives
abbrev pub next_link : SiteState → LinkState
next_link site = link_begun site site.next (next_of site.conversations)

-- a site at its start
abbrev pub new_site : List (List (List ℕ)) → List ℕ → ℕ → SiteState
new_site conversations faults cut = record {
  conversations = conversations;
  returned = [];
  aim = None;
  links = record { out = 0; sole = false };
  next = 0;
  cut = cut;
  script = script_of faults 0;
}

-- one link more is out
abbrev pub with_one_more : Links → Links
with_one_more links = record links { out = links.out + 1 }

-- which links are out after a connection was asked for, which may be alone
abbrev pub links_after : Bool → Bool → Links → Links
links_after ok sole old =
    record { out = if ok then old.out + 1 else old.out; sole = if ok then sole else false }

-- a connection was asked for: its conversation and its number are used up
abbrev pub site_after_connect : SiteState → Links → Counts → SiteState
site_after_connect old links script = record old {
  conversations = drop 1 old.conversations;
  links = links;
  next = at_most_count (old.next + 1);
  script = script;
}

-- the calls that are to fail, from the next connection on
abbrev pub counts_at_connect : SiteState → Counts
counts_at_connect site = record site.script { call = number_of site.next 0 }

-- a link came back
abbrev pub site_state_after_return : SiteState → LinkState → SiteState
site_state_after_return old link = record old {
  returned = old.returned ++ record { number = link.number; sent = link.told.sent } ∷ [];
  links = record { out = old.links.out - 1; sole = false };
  script = sum_of_counts old.script link.script;
}
