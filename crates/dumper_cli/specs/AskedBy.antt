-- What the words of a command line ask for.
use Rattle.dumper_cli.specs.Words.{Asked}
use Rattle.dumper_cli.specs.declared.words.Words.{Words}

-- what these words ask for, once they are known to have their forms
abbrev pub asked_by : Words → Asked
asked_by words =
    record {
      user = words.user.now;
      password = words.password.now;
      schema = words.schema.now;
      table = words.table.now;
      path = words.path.now;
    }
