-- How many bytes a table has in a slice of any length, by what is written or the first error.
use Rattle.std.specs.Prelude.{ℕ, ◌-◌, ◌^◌, List, [], length, Result, Ok, Err}
use Rattle.acpi_table_writer.specs.Types.{WriterError}

-- all the room that a slice can have
abbrev pub most : ℕ
most = 2 ^ 64 - 1

-- how many bytes they are, or the error
abbrev pub sized : Result (List ℕ) WriterError → Result ℕ WriterError
sized (Ok table) = Ok (length table)
sized (Err e) = Err e

-- the bytes, or none
abbrev pub or_none : Result (List ℕ) WriterError → List ℕ
or_none (Ok table) = table
or_none (Err e) = []
