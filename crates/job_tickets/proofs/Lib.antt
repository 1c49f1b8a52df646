pub mod DealtLemmas
pub mod RuleLemmas
