use Rattle.std.proofs.Common.{◌≡◌, ◌∙◌, ◌+◌, ap, sym, drop, map, List, ℕ}
use Rattle.std.specs.Prelude.{Result}
use Rattle.std.specs.Borrow.{Bor}
use Rattle.std.specs.Option.{option_map}
use Rattle.command_words.specs.Meant.{each}
use Rattle.command_words.specs.Entries.{need_of, entries_of}
use Rattle.server_data.specs.declared.data.Need.{Need}
use Rattle.command_words.specs.declared.fault.WordsFault.{WordsFault}
use Rattle.command_words.proofs.Each.{each_more, onto, list_ends, list_fails}
use Rattle.command_words.proofs.Stages.{handed_on}
use Rattle.command_words.proofs.entries.tables.Goals as goal

abbrev texts_of : List (Bor (List ℕ)) → List (List ℕ)
texts_of = map (λ (entry : Bor (List ℕ)). entry.now)

pub returns-in_err-table : goal.returns-in_err-table
returns-in_err-table c =
    let same : texts_of c.as_slice-entry-items.result.now ≡ entries_of (option_map (λ text. text.now) c.args.list) =
    ap texts_of c.as_slice-entry-items.ensures.value ∙ c.in_ok-entries.ensures in
    handed_on _ _ _ c.from_residual-in_err-table.ensures.1
    (list_fails (need_of c.args.databases.now) _ _ c.loop-entry.needs c.loop-entry.entry-index _ _ same c.loop-entry-test.true c.loop-entry.invariant c.in_err-table.ensures)

pub loop-entry-preserved : goal.loop-entry-preserved
loop-entry-preserved c =
    let read : Bor (List ℕ) → Result (Need) WordsFault = λ entry. need_of c.args.databases.now entry.now in
    let items = c.as_slice-entry-items.result.now in
    each_more read items c.loop-entry.needs c.loop-entry.entry-index _ _ c.loop-entry-test.true c.loop-entry.invariant c.in_ok-table.ensures
    ∙ ap (λ (made : List (Need)). onto made (each read (drop (c.loop-entry.entry-index + 1) items))) (sym c.in_ok-push.ensures.ok)

pub returns : goal.returns
returns c =
    let same : texts_of c.as_slice-entry-items.result.now ≡ entries_of (option_map (λ text. text.now) c.args.list) =
    ap texts_of c.as_slice-entry-items.ensures.value ∙ c.in_ok-entries.ensures in
    list_ends (need_of c.args.databases.now) _ _ c.loop-entry.needs c.loop-entry.entry-index same c.loop-entry-test.false c.loop-entry.invariant
