-- The inputs of one processor's local APIC that NMIs come to (ACPI 6.4, sections 5.2.12.7 and
-- 5.2.12.13).
use Rattle.std.specs.Prelude.{ℕ, ◌==◌, Bool, true, List, filter}
use Rattle.acpi_base.specs.Types.{NmiLine, NmiProcessor, All, ProcessorUid, LocalNmiLines}

-- a processor is all, or this one
abbrev pub is_or_all : ℕ → NmiProcessor → Bool
is_or_all uid All = true
is_or_all uid (ProcessorUid id) = id == uid

abbrev pub is_line_of : ℕ → NmiLine → Bool
is_line_of uid line = is_or_all uid line.processor

-- the lines of all processors, and of this one
abbrev pub lines_for : List NmiLine → ℕ → List NmiLine
lines_for lines uid = filter (is_line_of uid) lines

-- the lines that are still to come
abbrev pub lines_left : LocalNmiLines → List NmiLine
lines_left s = lines_for s.lines.now s.processor_uid
