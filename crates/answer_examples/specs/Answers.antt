-- Worked lines and statuses of runs.
use Rattle.std.specs.Prelude.{ℕ, ◌≡◌, true, false, List, [], ◌∷◌, ◌++◌, replicate, codes, String}
use Rattle.folder_forms.specs.FileName.{NamedFile, file_of}
use Rattle.folder_forms.specs.declared.file_kind.FileKind.TheVariants.{Rows}
use Rattle.run_answers.specs.Line.{line_of}
use Rattle.run_answers.specs.Status.{answer_status, status_after_report}
use Rattle.run_answers.specs.declared.answer.Answer.TheVariants.{Dumped, Loaded, Failed}
use Rattle.run_answers.specs.declared.fault.CommandLineFault.TheVariants.{NotRead, BadEntry, NoSource}
use Rattle.run_answers.specs.declared.fault.FolderFault.TheVariants.{NotEmpty, NoMetadata, BadLine, WrongVersion, FileMissing, FileDamaged, BadStatement}
use Rattle.run_answers.specs.declared.fault.LimitFault.TheVariants.{TooLong, StreamTooLong, TooManyChunks}
use Rattle.run_answers.specs.declared.fault.LongName.TheVariants.{Schema as LongSchema, Object as LongObject}
use Rattle.run_answers.specs.declared.fault.NameFault.TheVariants.{NoSuchDatabase, NoSuchTable, NoSuchSource, TooLong as NameTooLong, Reserved, CannotRename}
use Rattle.run_answers.specs.declared.fault.ObjectFault.TheVariants.{ColumnUnsupported, EngineUnsupported, TextWithheld, ViewCycle}
use Rattle.run_answers.specs.declared.fault.OutsideFault.TheVariants.{Link, File, Clock}
use Rattle.run_answers.specs.declared.fault.ProtocolFault.TheVariants.{PluginUnsupported, NotProtocol10, Garbled}
use Rattle.run_answers.specs.declared.fault.RunFault.TheVariants.{CommandLine, Outside, Refused, Protocol, Limit, Name, Object, Folder, Target, OutOfMemory}
use Rattle.run_answers.specs.declared.fault.TargetFault.TheVariants.{NotEmpty as TargetNotEmpty, ProgressFound, OtherDump}
use Rattle.run_answers.specs.declared.program.Program.TheVariants.{Mydumper, Myloader}
use Rattle.server_data.specs.declared.data.Need.{Need}
use Rattle.statement_forms.specs.declared.form.Form.TheVariants.{Connect, LockInstance as LockInstanceForm}
use Rattle.wire_forms.specs.KeptText.{text_of}
use Rattle.wire_forms.specs.declared.refusal.Refusal.{Refusal}
use Rattle.wire_forms.specs.declared.short_text.ShortText.{ShortText}

-- a table or another object
abbrev pub a_need : List ℕ → List ℕ → Need
a_need schema name = record { schema = schema; name = name }

-- the first file of a table's rows
abbrev pub first_file : NamedFile
first_file = file_of Rows (codes "s") (codes "t") 0

-- what is reported
pub record Lines : Type 0 where
  pub dumped : line_of Mydumper (Dumped 12 40000 26)
      ≡ codes "mydumper: dumped 12 tables, 40000 rows, 26 files\n"
  pub loaded : line_of Myloader (Loaded 2 1)
      ≡ codes "myloader: loaded 2 data files, 1 were loaded before\n"
  pub words : line_of Mydumper (Failed (CommandLine NotRead))
      ≡ codes "mydumper: cannot read the command line\n"
  pub entry : line_of Mydumper (Failed (CommandLine (BadEntry (codes "t"))))
      ≡ codes "mydumper: bad table entry: t\n"
  pub no_source : line_of Myloader (Failed (CommandLine NoSource))
      ≡ codes "myloader: option -B needs -s\n"
  pub full : line_of Mydumper (Failed (Folder (NotEmpty (codes "keep.txt"))))
      ≡ codes "mydumper: folder is not empty: keep.txt\n"
  pub link : line_of Mydumper (Failed (Outside Link))
      ≡ codes "mydumper: connection failed\n"
  pub file : line_of Mydumper (Failed (Outside File))
      ≡ codes "mydumper: file access failed\n"
  pub clock : line_of Mydumper (Failed (Outside Clock))
      ≡ codes "mydumper: clock failed\n"
  pub version : line_of Mydumper (Failed (Protocol (NotProtocol10 9)))
      ≡ codes "mydumper: unsupported protocol version 9\n"
  pub garbled : line_of Mydumper (Failed (Protocol (Garbled 78)))
      ≡ codes "mydumper: malformed reply at byte 78\n"
  pub column : line_of Mydumper (Failed (Object (ColumnUnsupported (a_need (codes "s") (codes "u")) (codes "f") (codes "float"))))
      ≡ codes "mydumper: unsupported column s.u.f of type float\n"
  pub engine : line_of Mydumper (Failed (Object (EngineUnsupported (a_need (codes "s") (codes "t")) (codes "MyISAM"))))
      ≡ codes "mydumper: unsupported engine MyISAM of table s.t\n"
  pub long_schema : line_of Mydumper (Failed (Name (NameTooLong (LongSchema (codes "s")))))
      ≡ codes "mydumper: name too long: s\n"
  pub long_name : line_of Mydumper (Failed (Name (NameTooLong (LongObject (a_need (codes "s") (codes "t"))))))
      ≡ codes "mydumper: name too long: s.t\n"
  pub withheld : line_of Mydumper (Failed (Object (TextWithheld (a_need (codes "s") (codes "p")))))
      ≡ codes "mydumper: no text for s.p\n"
  pub database : line_of Mydumper (Failed (Name (NoSuchDatabase (codes "x"))))
      ≡ codes "mydumper: no such database: x\n"
  pub table : line_of Mydumper (Failed (Name (NoSuchTable (a_need (codes "s") (codes "x")))))
      ≡ codes "mydumper: no such table: s.x\n"
  pub cycle : line_of Mydumper (Failed (Object (ViewCycle (codes "a" ∷ codes "b" ∷ []))))
      ≡ codes "mydumper: views need each other: a, b\n"
  pub long : line_of Mydumper (Failed (Limit (TooLong 67108865)))
      ≡ codes "mydumper: 67108865 bytes are too long\n"
  pub stream : line_of Mydumper (Failed (Limit StreamTooLong))
      ≡ codes "mydumper: connection carried too many bytes\n"
  pub chunks : line_of Mydumper (Failed (Limit (TooManyChunks (a_need (codes "s") (codes "t")))))
      ≡ codes "mydumper: too many chunks: s.t\n"
  pub no_metadata : line_of Myloader (Failed (Folder NoMetadata))
      ≡ codes "myloader: no metadata file\n"
  pub bad_line : line_of Myloader (Failed (Folder (BadLine 5)))
      ≡ codes "myloader: bad line 5 in metadata\n"
  pub metadata_version : line_of Myloader (Failed (Folder (WrongVersion 3)))
      ≡ codes "myloader: metadata version 3 is not supported\n"
  pub missing : line_of Myloader (Failed (Folder (FileMissing first_file)))
      ≡ codes "myloader: missing file s.t.00000.sql\n"
  pub damaged : line_of Myloader (Failed (Folder (FileDamaged first_file (replicate 20 10) (replicate 20 171))))
      ≡ codes "myloader: damaged file s.t.00000.sql: expected 0a0a0a0a0a0a0a0a0a0a0a0a0a0a0a0a0a0a0a0a, found abababababababababababababababababababab\n"
  pub statement : line_of Myloader (Failed (Folder (BadStatement first_file 66)))
      ≡ codes "myloader: bad statement in s.t.00000.sql at byte 66\n"
  pub reserved : line_of Myloader (Failed (Name Reserved))
      ≡ codes "myloader: reserved schema name: myloader_progress\n"
  pub target : line_of Myloader (Failed (Target (TargetNotEmpty (codes "s"))))
      ≡ codes "myloader: target already has database s\n"
  pub progress : line_of Myloader (Failed (Target ProgressFound))
      ≡ codes "myloader: target has a progress table; use --resume\n"
  pub other : line_of Myloader (Failed (Target (OtherDump (codes "0f") (replicate 20 10))))
      ≡ codes "myloader: target was loaded from another dump: 0f, this is 0a0a0a0a0a0a0a0a0a0a0a0a0a0a0a0a0a0a0a0a\n"
  pub source : line_of Myloader (Failed (Name (NoSuchSource (codes "x"))))
      ≡ codes "myloader: no such database in the dump: x\n"
  pub rename : line_of Myloader (Failed (Name (CannotRename first_file)))
      ≡ codes "myloader: cannot load s.t.00000.sql under another database\n"
  pub memory : line_of Mydumper (Failed OutOfMemory)
      ≡ codes "mydumper: out of memory\n"

-- an ERR with this message
abbrev pub an_err : ℕ → List ℕ → ShortText → Refusal
an_err code state message = record { code = code; state = state; message = message }

-- What is reported of an ERR. A control character in its message is shown as `?`.
pub record Refusals : Type 0 where
  pub at_login : (message : ShortText) → text_of message ≡ codes "no" →
      line_of Mydumper (Failed (Refused Connect (an_err 1045 (codes "28000") message)))
      ≡ codes "mydumper: server error 1045 (28000) on CONNECT: no\n"
  pub at_lock : (message : ShortText) → text_of message ≡ codes "Access\tdenied" →
      line_of Mydumper (Failed (Refused LockInstanceForm (an_err 1227 (codes "42000") message)))
      ≡ codes "mydumper: server error 1227 (42000) on LOCK INSTANCE: Access?denied\n"
  pub plugin : (name : ShortText) → text_of name ≡ codes "caching_sha2_password" →
      line_of Mydumper (Failed (Protocol (PluginUnsupported name)))
      ≡ codes "mydumper: unsupported authentication plugin: caching_sha2_password\n"

-- with which status a run ends
pub record Statuses : Type 0 where
  pub dumped : answer_status (Dumped 1 2 3) ≡ 0
  pub loaded : answer_status (Loaded 1 0) ≡ 0
  pub full : answer_status (Failed (Folder (NotEmpty (codes "keep.txt")))) ≡ 1
  pub words : answer_status (Failed (CommandLine NotRead)) ≡ 2
  pub refused : (message : ShortText) →
      answer_status (Failed (Refused Connect (an_err 1045 (codes "28000") message))) ≡ 3
  pub link : answer_status (Failed (Outside Link)) ≡ 4
  pub memory : answer_status (Failed OutOfMemory) ≡ 5
  pub reported : status_after_report (Dumped 1 2 3) true ≡ 0
  pub not_reported : status_after_report (Dumped 1 2 3) false ≡ 4
  pub fault_not_reported : status_after_report (Failed OutOfMemory) false ≡ 5
