-- What each pointer of a root table leads to, and all tables of a kind.
use Rattle.std.specs.Prelude.{ℕ, List, map, filter_map, flat_map, Result, Ok}
use Rattle.acpi_base.specs.FromStd.{result_ok}
use Rattle.acpi.specs.Types.{AcpiError}
use Rattle.acpi_base.specs.Words.{Memory, Ranges, table_ranges, ◌>>=◌, Kind, table_at}
use Rattle.acpi.specs.Lists.{own_header_at}
use Rattle.acpi.specs.declared.members.TableMember.{TableMember}

-- the member that a pointer leads to: the header there, or why the table is not valid
abbrev pub member_at : Memory → ℕ → TableMember
member_at m p = record { address = p; header = own_header_at m p }

-- one for each pointer, in order
abbrev pub members_of : Memory → List ℕ → List TableMember
members_of m ps = map (member_at m) ps

-- ---- all tables of a kind

-- a valid table as its address and its bytes
unfoldable pub found_at : Memory → Kind → ℕ → Result (ℕ × List ℕ) AcpiError
found_at m k p = do
  table ← table_at m k p
  Ok (p, table)

-- all members that are valid for a kind, in order
abbrev pub tables_found : Memory → Kind → List ℕ → List (ℕ × List ℕ)
tables_found m k ps = filter_map (λ p. result_ok (found_at m k p)) ps

-- the ranges of `tables_found`: each member's, as a table of this kind
abbrev pub kind_ranges : Memory → Kind → List ℕ → Ranges
kind_ranges m k ps = flat_map (table_ranges m k) ps
