mod ArrangeLemmas
mod OrderLemmas
mod PartLemmas
mod ReadyLemmas
