use Rattle.std.proofs.Common.{◌<◌, ◌≤◌, ◌-◌, length, arith}
use Rattle.grammar.proofs.Onward.{read_step}
use Rattle.grammar.proofs.Skips.{further_start, further_more, further_end}
use Rattle.sql_literals.proofs.TextReads.{apart_quoted, no_empty_quoted, lengthens_quoted}
use Rattle.sql_literals.proofs.reading.skip.parts_size.Goals as goal

pub parts-init : goal.parts-init
parts-init c = further_start _ _

pub parts-preserved : goal.parts-preserved
parts-preserved c = further_more _ _ _ _ apart_quoted c.parts.invariant c.in-Ok.ensures

pub parts-smaller : goal.parts-smaller
parts-smaller c = let step : (0 < c.in-Ok.size) × (c.in-Ok.size ≤ length c.args.bytes.now - c.parts.at) = read_step _ _ _ _ no_empty_quoted c.in-Ok.ensures in omega arith

pub returns-in-Err : goal.returns-in-Err
returns-in-Err c = further_end _ _ _ _ (lengthens_quoted _) c.parts.invariant c.in-Err.ensures
