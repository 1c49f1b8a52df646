use Rattle.std.proofs.Common.{◌≡◌, ◌≤◌, ◌++◌, ◌∷◌, [], take, Option, Some, cond, Bool, true, false, ℕ, sym, ap, subst, ◌∙◌, arith}
use Rattle.std.specs.BTreeMap.{is_at}
use Rattle.std.specs.Map.{lookup}
use Rattle.std.specs.Ordering.{is_eq}
use Rattle.std.proofs.lemmas.List.{take_more}
use Rattle.folder_forms.specs.Metadata.{kind_place}
use Rattle.metadata_ini.specs.Order.{rises}
use Rattle.metadata_ini.proofs.FileOrders.{Seen, LentKey, IsKeyOf, key_order, one_more, refused_number, stopped, all_in_order}
use Rattle.metadata_ini.proofs.orders.in_order.Goals as goal
use Rattle.metadata_ini.proofs.orders.in_order.Goals.{After-rises}

key_of : After-rises → LentKey
key_of c = (c.kind_place-kind.result, (c.as_str.result, c.as_str-in-loop-index.result))

own : (c : After-rises) → IsKeyOf (key_of c) c.index-files-index.result
unfolding key_of
own c = record {
  kind = c.kind_place-kind.ensures ∙ ap kind_place c.kind.ensures;
  schema = c.as_str.ensures ∙ c.schema.ensures;
  name = c.as_str-in-loop-index.ensures ∙ c.name.ensures;
}

abbrev kept : After-rises → LentKey → Option ℕ
kept c key = lookup (is_at (key_order key)) c.loop-index.last.entries

tested : (c : After-rises) (b : Bool) → c.rises.result ≡ b → rises (kept c (key_of c)) c.index-files-index.result.name.number ≡ b
unfolding key_of
tested c b is = (λ i. rises (sym c.in_ok-insert.ensures.old i) (sym c.number-number.ensures i)) ∙ sym c.rises.ensures ∙ is

pub returns-then-not-rises : goal.returns-then-not-rises
returns-then-not-rises c =
    let at = (goal.at.returns-then-not-rises c).After-rises in
    stopped c.args.files.now c.loop-index.index c.index-files-index.result c.loop-index.place (kept at) (omega arith) c.index-files-index.is c.loop-index.invariant
    (refused_number (take c.loop-index.index c.args.files.now) c.index-files-index.result c.loop-index.place (kept at) c.loop-index.invariant (key_of at) (own at) (tested at false c.if-not-rises.true))

pub loop-index-preserved : goal.loop-index-preserved
unfolding key_of
loop-index-preserved c =
    let at = (goal.at.loop-index-preserved c).After-rises in
    let low : c.loop-index.place ≤ kind_place c.index-files-index.result.name.kind = omega (arith, c.kind_place-kind.ensures, ap kind_place c.kind.ensures) in
    subst (λ l. Seen l c.kind_place-kind.result (λ key. lookup (is_at (key_order key)) c.insert.new.self.entries)) (sym (take_more c.args.files.now c.loop-index.index c.index-files-index.result (omega arith) ∙ ap (λ f. take c.loop-index.index c.args.files.now ++ f ∷ []) (sym c.index-files-index.is)))
    (subst (λ p. Seen (take c.loop-index.index c.args.files.now ++ c.index-files-index.result ∷ []) p (λ key. lookup (is_at (key_order key)) c.insert.new.self.entries)) (sym (c.kind_place-kind.ensures ∙ ap kind_place c.kind.ensures))
    (one_more (take c.loop-index.index c.args.files.now) c.index-files-index.result c.loop-index.place (kept at) c.loop-index.invariant (key_of at) (own at) (λ key. lookup (is_at (key_order key)) c.insert.new.self.entries) low (tested at true c.if-not-rises.false)
    (λ q. c.in_ok-insert.ensures.updates.0 q ∙ ap (λ n. cond (is_eq (key_order (key_of at) q)) (Some n) (kept at q)) c.number-number.ensures)))

pub returns : goal.returns
returns c = all_in_order c.args.files.now c.loop-index.index c.loop-index.place _ (omega arith) c.loop-index.invariant
