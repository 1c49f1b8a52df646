use Rattle.std.proofs.Common.{ap, ◌∙◌, ◌++◌, decimal}
use Rattle.metadata_ini.proofs.Appended.{piece, head_pieces}
use Rattle.metadata_ini.proofs.writing.append_head.Goals as goal

pub returns : goal.returns
returns c =
    let old = c.args.out.now.bytes in
    let s = c.in_ok-append_time.ensures in
    let f = c.in_ok-append_time-2.ensures in
    record {
      started_text = s.text;
      finished_text = f.text;
      started = s.time;
      finished = f.time;
      is = piece old _ _ _ _ (piece old _ _ _ _ (piece old _ _ _ _ (piece old _ _ _ _ (piece old _ _ _ _ (piece old _ _ _ _ c.in_ok-append.ensures.ok c.in_ok-append_decimal.ensures.ok) c.in_ok-append-2.ensures.ok) s.is) c.in_ok-append-3.ensures.ok) f.is) c.in_ok-append-4.ensures.ok
          ∙ ap (λ l. old ++ l) (head_pieces (decimal c.args.metadata.now.version) s.text f.text);
    }
