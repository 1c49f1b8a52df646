use Rattle.std.proofs.Common.{◌≡◌, ◌+◌, List, [], ◌∷◌, ◌++◌, ℕ, drop, get_or, is_ok, sym, ◌∙◌, ap, append_assoc, arith}
use Rattle.std.proofs.ResultArms.{chosen}
use Rattle.object_texts.specs.Reading.{doubled_step}
use Rattle.object_forms.specs.Shape.{name_value}
use Rattle.object_texts.proofs.Names.{undoubled-step}
use Rattle.object_texts.proofs.column.undoubled.Goals as goal

pub name-preserved : goal.name-preserved
name-preserved c =
    let name = c.args.name.now in
    let at = c.name.at in
    let pushed = chosen _ _ _ _ c.push.ensures.items (ap is_ok c.in_ok-push.was) in
    let step : c.doubled_step-at.result ≡ doubled_step (drop at name) = c.doubled_step-at.ensures ∙ ap doubled_step c.split_at.ensures.back in
    let one = undoubled-step at name (omega arith) in
    ap (λ (made : List ℕ). made ++ name_value (drop (at + c.doubled_step-at.result) name)) pushed
    ∙ append_assoc c.name.made.items (get_or name at 0 ∷ []) (name_value (drop (at + c.doubled_step-at.result) name))
    ∙ ap (λ (n : ℕ). c.name.made.items ++ (get_or name at 0 ∷ name_value (drop (at + n) name))) step
    ∙ ap (λ (left : List ℕ). c.name.made.items ++ left) (sym one) ∙ c.name.invariant
