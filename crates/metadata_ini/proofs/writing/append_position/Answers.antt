use Rattle.std.proofs.Common.{ap, sym, ◌∙◌, ◌++◌, decimal}
use Rattle.std.specs.List.{flat_map}
use Rattle.folder_forms.specs.Metadata.{ended, position_lines}
use Rattle.metadata_ini.proofs.Appended.{piece, position_pieces}
use Rattle.metadata_ini.proofs.writing.append_position.Goals as goal

pub returns-in_ok-append-in-Some-6 : goal.returns-in_ok-append-in-Some-6
returns-in_ok-append-in-Some-6 c =
    let old = c.args.out.now.bytes in
    let p = c.in-Some.position in
    piece old _ _ _ _ (piece old _ _ _ _ (piece old _ _ _ _ (piece old _ _ _ _ (piece old _ _ _ _ (piece old _ _ _ _ c.in_ok-append-in-Some.ensures.ok (c.in_ok-append-in-Some-2.ensures.ok ∙ ap (λ l. c.append.new.out.bytes ++ l) c.as_slice.ensures)) c.in_ok-append-in-Some-3.ensures.ok) c.in_ok-append_decimal-in-Some.ensures.ok) c.in_ok-append-in-Some-4.ensures.ok) (c.in_ok-append-in-Some-5.ensures.ok ∙ ap (λ l. c.append-in-Some-3.new.out.bytes ++ l) c.as_slice-in-Some.ensures)) c.in_ok-append-in-Some-6.ensures.ok
    ∙ ap (λ l. old ++ l) (position_pieces p.file (decimal p.offset) p.gtid ∙ ap (λ o. flat_map ended (position_lines o)) (sym c.in-Some.is))
