use Rattle.std.proofs.Common.{ap, ◌∙◌}
use Rattle.wire_forms.specs.KeptText.{text_of}
use Rattle.wire_forms.proofs.Texts.{is_kept, kept_is}
use Rattle.wire_forms.proofs.short_text.ShortText.of.Goals as goal

pub returns : goal.returns
returns c =
    let kept = is_kept c.min-size.result c.args.bytes.now c.put_front.new.all c.min-size.ensures c.put_front.ensures in
    record { kept = kept; text = ap (λ t. text_of t) kept ∙ kept_is c.args.bytes.now }
