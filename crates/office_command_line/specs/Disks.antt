-- The disks that the variable OFFICE_DISK names, and what each supposes. Source: own; what `powersafe` supposes is
-- what SQLite does (sqlite.org/psow.html).
use Rattle.std.specs.Prelude.{Bool, true, false, List, ℕ, codes, Option, Some, None, if◌then◌else◌}
use Rattle.std.specs.Str.{bytes_eq}
use Rattle.clap.specs.Words.{Text}
use Rattle.office_command_line.specs.declared.disk.Disk.{Disk}
use Rattle.office_command_line.specs.declared.disk.Disk.TheVariants.{Any, PowerSafe}

-- the value that names a disk
abbrev pub disk_name : Disk → Text
disk_name Any = codes "any"
disk_name PowerSafe = codes "powersafe"

-- the disk that a value names; where the variable is not set, any
abbrev pub disk_named : Option Text → Option Disk
disk_named None = Some Any
disk_named (Some value) =
    if bytes_eq value (disk_name Any) then Some Any
    else (if bytes_eq value (disk_name PowerSafe) then Some PowerSafe else None)

-- whether the device finishes each sector that it begins, so that a crash leaves each byte old or new
abbrev pub finishes_sectors : Disk → Bool
finishes_sectors Any = false
finishes_sectors PowerSafe = true

-- what the variable may be
abbrev pub disk_line : List ℕ
disk_line = codes "OFFICE_DISK must be any or powersafe"
