-- The server and the account that a command line names.
use Rattle.std.specs.Prelude.{List, [], Result, Ok, codes}
use Rattle.clap.specs.Words.{Row}
use Rattle.command_words.specs.Meant.{and_then}
use Rattle.command_words.specs.Values.{number_or, text_or}
use Rattle.command_words.specs.declared.fault.WordsFault.{WordsFault}
use Rattle.command_words.specs.declared.login.ServerLogin.{ServerLogin}

-- the server is 127.0.0.1 at port 3306, the account `root` without a password, unless the words name others
abbrev pub login_of : List Row → Result ServerLogin WordsFault
login_of rows = and_then (number_or rows (codes "port") 1 65535 3306) (λ port. Ok (record {
  host = text_or rows (codes "host") (codes "127.0.0.1");
  port = port;
  user = text_or rows (codes "user") (codes "root");
  password = text_or rows (codes "password") [];
}))
