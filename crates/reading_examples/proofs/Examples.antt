-- Each reading computes, and the laws give what a text is read as.
use Rattle.std.proofs.Common.{arith, refl, [], ◌∷◌, codes}
use Rattle.statement_forms.specs.Text.{command_text, query_text}
use Rattle.statement_forms.specs.declared.command.Command.TheVariants.{TimeZoneUtc}
use Rattle.statement_forms.specs.declared.query.Query.TheVariants.{Rows, ProgressFiles}
use Rattle.statement_laws.proofs.CommandReads.{command_is_read}
use Rattle.statement_laws.proofs.QueryReads.{query_is_read}
use Rattle.reading_examples.specs.Readings.{CommandReadings, QueryReadings}

pub commands : CommandReadings
unfolding command_text
commands = record {
  zone_utc = refl;
  zone = refl;
  commit = refl;
  use_schema = refl;
  progress = refl;
  progress_files = refl;
  progress_dump = refl;
  lower_case = refl;
  other_schema = refl;
  sent = command_is_read TimeZoneUtc tt;
}

pub queries : QueryReadings
unfolding query_text
queries = record {
  dump = refl;
  files = refl;
  other_column = refl;
  other_schema = refl;
  two_columns = λ schema table. refl;
  by_key = λ columns schema table key. refl;
  sent = query_is_read ProgressFiles tt tt;
  near = query_is_read (Rows (codes "name" ∷ []) (codes "myloader_progress") (codes "dump")) (omega arith) tt;
}
