use Rattle.std.proofs.Common.{◌≡◌, ℕ, List, [], ◌∷◌, Some, ◌∙◌, ap, Option}
use Rattle.wire_forms.specs.Switch.{switch_to, switch_named, after_request}
use Rattle.wire_forms.specs.Texts.{to_zero}
use Rattle.my_login.proofs.switch.after_request.Goals as goal

after_name : (bytes plugin rest : List ℕ) → Some (plugin, rest) ≡ to_zero bytes → switch_to plugin rest ≡ after_request bytes
after_name [] plugin rest is = absurd (cc)
after_name (byte ∷ bytes) plugin rest is = ap (λ (parts : Option (List ℕ × List ℕ)). switch_named parts) is

pub returns-in-Some : goal.returns-in-Some
returns-in-Some c = c.switch_to.ensures ∙ after_name c.args.bytes.now c.in-Some.plugin.now c.in-Some.rest.now c.in-Some.ensures
