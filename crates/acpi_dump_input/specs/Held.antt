-- What the records of a reading are.
use Rattle.std.specs.Prelude.{List, map, option_map}
use Rattle.acpi_dump_input.specs.DumpText.{Spelled, Tables}
use Rattle.acpi_dump_input.specs.declared.text.SpelledTable.{SpelledTable}
use Rattle.acpi_dump_input.specs.declared.text.Reading.{Reading}

abbrev pub spelled_of : SpelledTable → Spelled
spelled_of t = record { address = t.address; bytes = t.bytes.items }

abbrev pub tables_in : List SpelledTable → List Spelled
tables_in tables = map spelled_of tables

abbrev pub reading_of : Reading → Tables
reading_of r = record {
  complete = tables_in r.complete.items;
  current = option_map spelled_of r.current;
  stated_length = r.stated_length;
}
