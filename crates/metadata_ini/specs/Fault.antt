-- Why a name or a `metadata` isn't read.
use Rattle.std.specs.Prelude.{⊤, ℕ, List}
use Rattle.folder_forms.specs.Metadata.{IsBadLine, IsWrongVersion}
use Rattle.metadata_ini.specs.declared.fault.MetadataFault.{MetadataFault}
use Rattle.metadata_ini.specs.declared.fault.MetadataFault.TheVariants as Metadata
use Rattle.metadata_ini.specs.declared.fault.MetadataFault.TheVariants.{WrongVersion, BadLine}
use Rattle.metadata_ini.specs.declared.fault.NameFault.{NameFault}
use Rattle.metadata_ini.specs.declared.fault.NameFault.TheVariants.{NotAName, OutOfMemory}

-- memory ran out, or the text isn't a name, and then that holds
abbrev pub IsNoName : Type 0 → NameFault → Type 0
IsNoName cause NotAName = cause
IsNoName cause OutOfMemory = ⊤

-- why the text isn't read: it is of another version, or that line of it is bad, or memory ran out
abbrev pub IsMetadataFault : List ℕ → MetadataFault → Type 0
IsMetadataFault text (WrongVersion version) = IsWrongVersion text version
IsMetadataFault text (BadLine number) =
    IsBadLine text number × ((version : ℕ) → ¬ IsWrongVersion text version)
IsMetadataFault text Metadata.OutOfMemory = ⊤
