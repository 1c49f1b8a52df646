use Rattle.std.proofs.Common.{◌≡◌, ℕ, List, ◌∙◌, ap, rules, tests}
use Rattle.std.specs.Prelude.{◌==◌, not}
use Rattle.std.proofs.lemmas.List.Elements.{filter_from_retain}
use Rattle.honest_server.specs.Answer.{without_line_feeds}
use Rattle.snapshot_handover.proofs.status.without_line_feeds.Goals as goal

pub returns : goal.returns
returns c =
    let copied : c.in_ok-made.made.items ≡ c.args.bytes.now = search rules in
    c.from_vec.ensures ∙ filter_from_retain _ (λ (byte : ℕ). not (byte == 10)) (λ p x b q k. search (rules, tests)) _ _ _ c.retain.ensures.filtered ∙ ap (λ (l : List ℕ). without_line_feeds l) copied
