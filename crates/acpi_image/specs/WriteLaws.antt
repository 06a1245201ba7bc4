-- What holds of an image that is written: it is read back, opened, and has the tables that were
-- placed.
use Rattle.std.specs.Prelude.{◌≡◌, ℕ, ◌<◌, List, drop, length, Result, Ok}
use Rattle.acpi_base.specs.FromStd.{AllByRecursion}
use Rattle.acpi.specs.Types.{AcpiError}
use Rattle.acpi_base.specs.Words.{IsBytes, sum_of, Memory, IsMemory}
use Rattle.acpi.specs.Words.{below, valid_tables, Opened, opened_by_rsdp, pointers, root_at, width_of, rsdp_at}
use Rattle.acpi.specs.declared.root.RootKind.{RootKind}
use Rattle.acpi_image_reader.specs.Words.{IsImage, records_in}
use Rattle.acpi_image.specs.WriteChecks.{written}
use Rattle.acpi_image.specs.Written.{Plan, kind_of, pointers_of, records_of, root_to, rsdp_to, spaces, tables_of, with_sum}

-- the byte that is set makes the sum 0
abbrev pub SumIsSet : Type 0
SumIsSet = (offset : ℕ) (bytes : List ℕ) → offset < length bytes
    → sum_of (with_sum offset bytes) ≡ 0

-- what the RSDP of a plan opens: the root table, with the revision and at the address of the plan
abbrev pub opened_of : Plan → Opened
opened_of p = record {
  revision = p.revision;
  kind = kind_of p;
  address = p.root;
  root = root_to (kind_of p) (pointers_of p);
}

-- what a definition over pointers is of the pointers of the root table in the records
abbrev pub said_of : {A : Type 0} → Plan → (Memory → List ℕ → Result A AcpiError)
    → Result A AcpiError
said_of p defined = below (records_of p) (kind_of p) p.root (defined (records_of p))

-- of a file that is written by a plan: it is the records of the plan, one after the other, and
-- nothing else; they are a memory, as which the file is read; the RSDP there is valid, and opens a
-- valid root table with the plan's revision; this lists the addresses of the plan's tables, and the
-- valid tables are the plan's in order, each with a sum of 0
pub record IsWritten (p : Plan) (file : List ℕ) : Type 0 where
  pub image : IsImage file (records_of p)
  pub memory : IsMemory (records_of p)
  pub read : records_in file ≡ Ok (records_of p)
  pub rsdp : rsdp_at (records_of p) p.rsdp ≡ Ok (rsdp_to (spaces 6) p.revision p.root)
  pub opened : opened_by_rsdp (records_of p) p.rsdp ≡ Ok (opened_of p)
  pub root : root_at (records_of p) (kind_of p) p.root ≡ Ok (opened_of p).root
  pub listed : pointers (width_of (kind_of p)) (drop 36 (opened_of p).root) ≡ pointers_of p
  pub tables : valid_tables (records_of p) (pointers_of p) ≡ tables_of p
  pub sums : AllByRecursion (λ table. sum_of table ≡ 0) (tables_of p)

-- so it is of every file that is defined, and `write_image` promises it of the file that it returns
abbrev pub WrittenIsRead : Type 0
WrittenIsRead = (p : Plan) (file : List ℕ) → IsBytes file → written p ≡ Ok file → IsWritten p file

-- what a definition is of every root table, in any memory, that leads to the tables of a plan, it is of the
-- image that is written: a law of the headers, the platform, the HPET and the PCI regions (`acpi_image::laws::written`)
abbrev pub SaysOfTables : {A : Type 0} → (Memory → List ℕ → Result A AcpiError) → Type 0
SaysOfTables defined = (p : Plan) (file : List ℕ) → IsBytes file → written p ≡ Ok file
    → (n : Memory) (kind : RootKind) (address : ℕ)
    → below n kind address (λ ps. Ok (valid_tables n ps)) ≡ Ok (tables_of p)
    → below n kind address (defined n) ≡ said_of p defined
