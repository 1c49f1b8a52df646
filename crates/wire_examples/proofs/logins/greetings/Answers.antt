use Rattle.std.proofs.Common.{refl}
use Rattle.wire_examples.proofs.logins.greetings.Goals as goal

pub returns : goal.returns
returns c = record { of_mysql = refl; with_eof = refl; of_newer = refl; without_plugins = refl; no_plugin_named = refl; byte_after_plugin = refl; short_scrambles = refl; no_end_of_version = refl; other_protocol = refl; err = refl; short_err = refl; nothing = refl }
