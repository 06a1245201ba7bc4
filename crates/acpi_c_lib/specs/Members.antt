-- What each pointer of the root table points to (sections 5.2.6 to 5.2.8), as C gets it.
use Rattle.std.specs.Prelude.{ℕ, List, map, replicate, Result, Ok, Err}
use Rattle.acpi_base.specs.Words.{Memory, lent, own_accepted}
use Rattle.acpi_c_lib.specs.Below.{AcpiError, Refusal, Source, below_source}
use Rattle.acpi_c_lib.specs.Codes.{acpi_code}
use Rattle.acpi_c_lib.specs.Shown.{Table, table_record}
pub use Rattle.acpi_c_lib.specs.declared.records.Member.{Member}

-- a table whose header isn't mapped: its address, and zeros
abbrev pub unmapped : ℕ → Table
unmapped p = record {
  address = p;
  length = 0;
  signature = record { letters = replicate 4 0 };
  revision = 0;
  oem_id = replicate 6 0;
  oem_table_id = replicate 8 0;
  oem_revision = 0;
  creator_id = replicate 4 0;
  creator_revision = 0;
  reserved_1 = 0;
  reserved_2 = replicate 4 0;
}

-- 0 for a table that is accepted, or the number of its error
abbrev pub member_status : Result (List ℕ) AcpiError → ℕ
member_status (Ok table) = 0
member_status (Err e) = acpi_code e

-- by the 36 bytes there, if they are mapped, and the table, if it is accepted under its own signature
abbrev pub member_record : ℕ → Result (List ℕ) AcpiError → Result (List ℕ) AcpiError → Member
member_record p (Ok head) table = record {
  table = table_record (p, head);
  status = member_status table;
  has_header = 1;
  reserved = replicate 3 0;
}
member_record p (Err e) table = record {
  table = unmapped p;
  status = member_status table;
  has_header = 0;
  reserved = replicate 3 0;
}

abbrev pub member_at : ℕ → Memory → ℕ → Member
member_at accept m p = member_record p (lent m p 36) (own_accepted accept m p)

-- the members of all pointers, in order
abbrev pub members_below : Source → Result (List Member) Refusal
members_below s = below_source s (λ m ps. Ok (map (member_at s.accept m) ps))
