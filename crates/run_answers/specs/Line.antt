-- The line that a run reports.
use Rattle.std.specs.Prelude.{ℕ, nat_lt, if◌then◌else◌, List, [], ◌∷◌, ◌++◌, map, codes, decimal}
use Rattle.std.specs.List.{flat_map}
use Rattle.hex.specs.Hex.{encode_lower}
use Rattle.folder_forms.specs.FileName.{NamedFile, file_text}
use Rattle.server_data.specs.declared.data.Need.{Need}
use Rattle.statement_forms.specs.Form.{form_word}
use Rattle.statement_forms.specs.declared.form.Form.{Form}
use Rattle.wire_forms.specs.KeptText.{text_of}
use Rattle.wire_forms.specs.declared.refusal.Refusal.{Refusal}
use Rattle.run_answers.specs.declared.answer.Answer.{Answer}
use Rattle.run_answers.specs.declared.answer.Answer.TheVariants.{Dumped, Loaded, Failed}
use Rattle.run_answers.specs.declared.fault.CommandLineFault.{CommandLineFault}
use Rattle.run_answers.specs.declared.fault.CommandLineFault.TheVariants.{NotRead, BadEntry, NoSource}
use Rattle.run_answers.specs.declared.fault.FolderFault.{FolderFault}
use Rattle.run_answers.specs.declared.fault.FolderFault.TheVariants.{NotEmpty, NoMetadata, BadLine, WrongVersion, FileMissing, FileDamaged, BadStatement}
use Rattle.run_answers.specs.declared.fault.LimitFault.{LimitFault}
use Rattle.run_answers.specs.declared.fault.LimitFault.TheVariants.{TooLong, StreamTooLong, TooManyChunks}
use Rattle.run_answers.specs.declared.fault.LongName.{LongName}
use Rattle.run_answers.specs.declared.fault.LongName.TheVariants.{Schema as LongSchema, Object as LongObject}
use Rattle.run_answers.specs.declared.fault.NameFault.{NameFault}
use Rattle.run_answers.specs.declared.fault.NameFault.TheVariants.{NoSuchDatabase, NoSuchTable, NoSuchSource, TooLong as NameTooLong, Reserved, CannotRename}
use Rattle.run_answers.specs.declared.fault.ObjectFault.{ObjectFault}
use Rattle.run_answers.specs.declared.fault.ObjectFault.TheVariants.{ColumnUnsupported, EngineUnsupported, TextWithheld, ViewCycle}
use Rattle.run_answers.specs.declared.fault.OutsideFault.{OutsideFault}
use Rattle.run_answers.specs.declared.fault.OutsideFault.TheVariants.{Link, File, Clock}
use Rattle.run_answers.specs.declared.fault.ProtocolFault.{ProtocolFault}
use Rattle.run_answers.specs.declared.fault.ProtocolFault.TheVariants.{PluginUnsupported, NotProtocol10, Garbled}
use Rattle.run_answers.specs.declared.fault.RunFault.{RunFault}
use Rattle.run_answers.specs.declared.fault.RunFault.TheVariants.{CommandLine, Outside, Refused, Protocol, Limit, Name, Object, Folder, Target, OutOfMemory}
use Rattle.run_answers.specs.declared.fault.TargetFault.{TargetFault}
use Rattle.run_answers.specs.declared.fault.TargetFault.TheVariants.{NotEmpty as TargetNotEmpty, ProgressFound, OtherDump}
use Rattle.run_answers.specs.declared.program.Program.{Program}
use Rattle.run_answers.specs.declared.program.Program.TheVariants.{Mydumper, Myloader}

-- a byte of a server's message as it is shown: `?` in place of a control character
abbrev pub shown_byte : ℕ → ℕ
shown_byte byte = if nat_lt byte 32 then 63 else byte

-- a schema, a dot and a name
abbrev pub need_text : Need → List ℕ
need_text need = need.schema ++ codes "." ++ need.name

-- what a file is called
abbrev pub file_name_text : NamedFile → List ℕ
file_name_text file = file_text file.kind file.schema file.name file.number

-- a schema, or a schema, a dot and a name
abbrev pub long_name_text : LongName → List ℕ
long_name_text (LongSchema schema) = schema
long_name_text (LongObject need) = need_text need

-- a name after a comma and a space
abbrev pub next_name : List ℕ → List ℕ
next_name name = codes ", " ++ name

-- names, divided by a comma and a space
abbrev pub name_list_text : List (List ℕ) → List ℕ
name_list_text [] = []
name_list_text (name ∷ names) = name ++ flat_map next_name names

-- what is told where the command line isn't read
abbrev pub command_line_line : CommandLineFault → List ℕ
command_line_line NotRead = codes "cannot read the command line"
command_line_line (BadEntry entry) = codes "bad table entry: " ++ entry
command_line_line NoSource = codes "option -B needs -s"

-- what is told where something of the outside failed
abbrev pub outside_line : OutsideFault → List ℕ
outside_line Link = codes "connection failed"
outside_line File = codes "file access failed"
outside_line Clock = codes "clock failed"

-- an ERR of the server, its message without control characters
abbrev pub refusal_line : Form → Refusal → List ℕ
refusal_line form refusal =
    codes "server error " ++ decimal refusal.code ++ codes " (" ++ refusal.state ++ codes ") on "
    ++ form_word form ++ codes ": " ++ map shown_byte (text_of refusal.message)

-- what is told where a server leaves the protocol, or asks for what isn't supported
abbrev pub protocol_line : ProtocolFault → List ℕ
protocol_line (PluginUnsupported plugin) =
    codes "unsupported authentication plugin: " ++ text_of plugin
protocol_line (NotProtocol10 version) = codes "unsupported protocol version " ++ decimal version
protocol_line (Garbled place) = codes "malformed reply at byte " ++ decimal place

-- what is told where something passes its limit
abbrev pub limit_line : LimitFault → List ℕ
limit_line (TooLong size) = decimal size ++ codes " bytes are too long"
limit_line StreamTooLong = codes "connection carried too many bytes"
limit_line (TooManyChunks table) = codes "too many chunks: " ++ need_text table

-- what is told where a name can't be used
abbrev pub name_line : NameFault → List ℕ
name_line (NoSuchDatabase schema) = codes "no such database: " ++ schema
name_line (NoSuchTable table) = codes "no such table: " ++ need_text table
name_line (NoSuchSource schema) = codes "no such database in the dump: " ++ schema
name_line (NameTooLong name) = codes "name too long: " ++ long_name_text name
name_line Reserved = codes "reserved schema name: myloader_progress"
name_line (CannotRename file) =
    codes "cannot load " ++ file_name_text file ++ codes " under another database"

-- what is told where an object can't be dumped
abbrev pub object_line : ObjectFault → List ℕ
object_line (ColumnUnsupported table column data_type) =
    codes "unsupported column " ++ need_text table ++ codes "." ++ column ++ codes " of type "
    ++ data_type
object_line (EngineUnsupported table engine) =
    codes "unsupported engine " ++ engine ++ codes " of table " ++ need_text table
object_line (TextWithheld need) = codes "no text for " ++ need_text need
object_line (ViewCycle names) = codes "views need each other: " ++ name_list_text names

-- what is told where a folder doesn't hold what it is to hold; digests are in lower-case hexadecimal
abbrev pub folder_line : FolderFault → List ℕ
folder_line (NotEmpty name) = codes "folder is not empty: " ++ name
folder_line NoMetadata = codes "no metadata file"
folder_line (BadLine number) = codes "bad line " ++ decimal number ++ codes " in metadata"
folder_line (WrongVersion version) =
    codes "metadata version " ++ decimal version ++ codes " is not supported"
folder_line (FileMissing name) = codes "missing file " ++ file_name_text name
folder_line (FileDamaged name expected found) =
    codes "damaged file " ++ file_name_text name ++ codes ": expected " ++ encode_lower expected
    ++ codes ", found " ++ encode_lower found
folder_line (BadStatement name offset) =
    codes "bad statement in " ++ file_name_text name ++ codes " at byte " ++ decimal offset

-- what is told where a server can't be loaded
abbrev pub target_line : TargetFault → List ℕ
target_line (TargetNotEmpty schema) = codes "target already has database " ++ schema
target_line ProgressFound = codes "target has a progress table; use --resume"
target_line (OtherDump kept found) =
    codes "target was loaded from another dump: " ++ kept ++ codes ", this is "
    ++ encode_lower found

-- what is told of a run that ended before its end
abbrev pub fault_line : RunFault → List ℕ
fault_line (CommandLine fault) = command_line_line fault
fault_line (Outside fault) = outside_line fault
fault_line (Refused form refusal) = refusal_line form refusal
fault_line (Protocol fault) = protocol_line fault
fault_line (Limit fault) = limit_line fault
fault_line (Name fault) = name_line fault
fault_line (Object fault) = object_line fault
fault_line (Folder fault) = folder_line fault
fault_line (Target fault) = target_line fault
fault_line OutOfMemory = codes "out of memory"

-- what the line says after the program's name
abbrev pub answer_line : Answer → List ℕ
answer_line (Dumped tables rows files) =
    codes "dumped " ++ decimal tables ++ codes " tables, " ++ decimal rows ++ codes " rows, "
    ++ decimal files ++ codes " files"
answer_line (Loaded loaded before) =
    codes "loaded " ++ decimal loaded ++ codes " data files, " ++ decimal before
    ++ codes " were loaded before"
answer_line (Failed fault) = fault_line fault

-- what the program is called
abbrev pub program_name : Program → List ℕ
program_name Mydumper = codes "mydumper"
program_name Myloader = codes "myloader"

-- the line that a run reports: the program's name, a colon and a space, what came of the run, a line feed
abbrev pub line_of : Program → Answer → List ℕ
line_of program answer = program_name program ++ codes ": " ++ answer_line answer ++ 10 ∷ []
