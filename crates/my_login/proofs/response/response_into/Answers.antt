use Rattle.std.proofs.Common.{◌≡◌, ℕ, List, ◌++◌, option_copied, ◌∙◌, ap}
use Rattle.my_login.proofs.response.response_into.Goals as goal
use Rattle.my_login.proofs.Responses.{appended}

pub returns-clause-ok : goal.returns-clause-ok
returns-clause-ok c =
    let reserved : c.reserve.new.self.items ≡ c.args.out.now.items = c.reserve.ensures.items in
    appended c.args.out.now.items c.args.user.now c.answer_bytes-answer.result.now (option_copied c.args.answer) c.args.ends c.extend_from_slice.new.self.items c.extend_from_slice-2.new.self.items c.extend_from_slice-3.new.self.items c.extend_from_slice-4.new.self.items c.extend_from_slice-5.new.self.items c.extend_from_slice-6.new.self.items
    c.answer_bytes-answer.ensures.bytes (c.in_ok-extend_from_slice.ensures.items ∙ ap (λ (l : List ℕ). l ++ c.asked_capabilities-capabilities.result) reserved ∙ ap (λ (l : List ℕ). c.args.out.now.items ++ l) c.asked_capabilities-capabilities.ensures) c.in_ok-extend_from_slice-2.ensures.items c.in_ok-extend_from_slice-3.ensures.items c.in_ok-extend_from_slice-4.ensures.items c.in_ok-extend_from_slice-5.ensures.items c.in_ok-extend_from_slice-6.ensures.items
