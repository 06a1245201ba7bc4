-- A whole machine in one region of memory: the RSDP, the XSDT, a DSDT, a FACS, and the tables that the XSDT lists,
-- which are things that are written as tables.
use Rattle.std.specs.Prelude.{◌≡◌, ℕ, ◌+◌, ◌-◌, ◌*◌, ◌^◌, ◌%◌, ◌<◌, ◌==◌, ◌&&◌, Bool, true, not, if◌then◌else◌, List, [], ◌∷◌, ◌++◌, length, map, nat_le, nat_lt, replicate, Option, Some, None, Result, Ok, All}
use Rattle.acpi_writer.specs.Types.{Xsdt, AmlContents, TableContents, WriterError, BadName, NoAddress, NoRoom, TooLong, FacsContents, TableIds, ◌>>=◌, holds, DSDT, XSDT}
use Rattle.acpi_writer.specs.Aml.{aml_written}
use Rattle.acpi_writer.specs.Contents.{Written, bytes_by, contents_written}
use Rattle.acpi_table_writer.specs.Words.{most, or_none, AreIds, are_texts, table_bytes}
use Rattle.acpi_writer.specs.Facs.{FitsFacs, facs_bytes}
use Rattle.acpi_writer.specs.Laid.{addresses, laid, padded, rounded}
use Rattle.acpi_writer.specs.Root.{root_body}
use Rattle.acpi_writer.specs.Rsdp.{rsdp_bytes}
use Rattle.acpi_writer.specs.declared.machine.Machine as declared

-- a machine of things of a type, and one of contents
abbrev pub MachineOf : Type 0 → Type 0
MachineOf A = declared.Machine A

abbrev pub Machine : Type 0
Machine = MachineOf TableContents

-- ---- what is laid

-- the DSDT, which has no bytes if there is none, or its first error
abbrev pub dsdt_written : TableIds → Option AmlContents → Result (List ℕ) WriterError
dsdt_written ids None = Ok []
dsdt_written ids (Some c) = aml_written most DSDT c.revision ids c.bytes.now

abbrev pub dsdt_of : {A : Type 0} → MachineOf A → List ℕ
dsdt_of m = or_none (dsdt_written m.ids m.dsdt)

-- how many bytes there are up to the next multiple of 64, at which a FACS is (section 5.2.10)
abbrev pub facs_gap : ℕ → ℕ
facs_gap a = (64 - a % 64) % 64

-- the FACS in 128 bytes at a, which has no bytes if there is none
abbrev pub facs_laid : ℕ → Option FacsContents → List ℕ
facs_laid a None = []
facs_laid a (Some c) = replicate (facs_gap a) 0 ++ (facs_bytes c ++ replicate (64 - facs_gap a) 0)

abbrev pub facs_room : Option FacsContents → ℕ
facs_room None = 0
facs_room (Some c) = 128

-- the tables that the XSDT lists, in order
abbrev pub listed_by : {A : Type 0} → Written A → MachineOf A → List (List ℕ)
listed_by written m = map (bytes_by written m.ids) m.tables.now

-- how many bytes the XSDT has: 8 for each table after its header
abbrev pub xsdt_length : {A : Type 0} → MachineOf A → ℕ
xsdt_length m = 36 + 8 * length m.tables.now

-- where the DSDT and the FACS are, or would be, and where the listed tables begin, if the XSDT is at a
abbrev pub dsdt_address : {A : Type 0} → ℕ → MachineOf A → ℕ
dsdt_address a m = a + rounded (xsdt_length m)

-- where `write_tables` lays the DSDT for an address, with this number of listed tables, if that is an address
abbrev pub dsdt_at : ℕ → ℕ → Option ℕ
dsdt_at a n =
    if nat_lt (36 + 8 * n) (2 ^ 32) && nat_lt (a + (48 + rounded (36 + 8 * n))) (2 ^ 64)
    then Some (a + (48 + rounded (36 + 8 * n)))
    else None

-- and the FACS, after this DSDT
abbrev pub dsdt_length : Option AmlContents → ℕ
dsdt_length None = 0
dsdt_length (Some c) = 36 + length c.bytes.now

abbrev pub facs_from : ℕ → ℕ → ℕ → ℕ
facs_from a n dsdt = a + (48 + rounded (36 + 8 * n) + rounded dsdt)

abbrev pub facs_at : ℕ → ℕ → Option AmlContents → Option ℕ
facs_at a n dsdt =
    let end = facs_from a n (dsdt_length dsdt) in
    if nat_lt (36 + 8 * n) (2 ^ 32) && (nat_lt (dsdt_length dsdt) (2 ^ 32) && nat_lt (end + facs_gap end) (2 ^ 64))
    then Some (end + facs_gap end)
    else None

abbrev pub dsdt_end : {A : Type 0} → ℕ → MachineOf A → ℕ
dsdt_end a m = dsdt_address a m + length (padded (dsdt_of m))

abbrev pub facs_address : {A : Type 0} → ℕ → MachineOf A → ℕ
facs_address a m = dsdt_end a m + facs_gap (dsdt_end a m)

abbrev pub tables_address : {A : Type 0} → ℕ → MachineOf A → ℕ
tables_address a m = dsdt_end a m + facs_room m.facs

-- where each of them is
abbrev pub pointers_by : {A : Type 0} → Written A → ℕ → MachineOf A → List ℕ
pointers_by written a m = addresses (tables_address a m) (listed_by written m)

-- the XSDT, if the first of them is at this address, and if the XSDT itself is at a
abbrev pub xsdt_from : {A : Type 0} → Written A → ℕ → MachineOf A → List ℕ
xsdt_from written start m = table_bytes XSDT 1 m.ids (root_body Xsdt (addresses start (listed_by written m)))

abbrev pub xsdt_by : {A : Type 0} → Written A → ℕ → MachineOf A → List ℕ
xsdt_by written a m = xsdt_from written (tables_address a m) m

-- the FACS at an address, and the listed tables; before them the DSDT; and before these the XSDT, at a
abbrev pub after_dsdt : {A : Type 0} → Written A → ℕ → MachineOf A → List ℕ
after_dsdt written p m = facs_laid p m.facs ++ laid (listed_by written m)

abbrev pub rest_bytes : {A : Type 0} → Written A → ℕ → MachineOf A → List ℕ
rest_bytes written p m = padded (dsdt_of m) ++ after_dsdt written (p + length (padded (dsdt_of m))) m

unfoldable pub tree_by : {A : Type 0} → Written A → ℕ → MachineOf A → List ℕ
tree_by written a m = padded (xsdt_by written a m) ++ rest_bytes written (dsdt_address a m) m

-- and before that the RSDP, at a
unfoldable pub machine_by : {A : Type 0} → Written A → ℕ → MachineOf A → List ℕ
machine_by written a m = padded (rsdp_bytes m.ids.oem_id (a + 48)) ++ tree_by written (a + 48) m

-- how many bytes there are without the RSDP, which takes 48 more
unfoldable pub size_by : {A : Type 0} → Written A → MachineOf A → ℕ
size_by written m =
    rounded (xsdt_length m) + (length (padded (dsdt_of m)) + (facs_room m.facs + length (laid (listed_by written m))))

-- the numbers have a place: of a FACS, if there is one, and of a machine
abbrev pub FacsFits : Option FacsContents → Type 0
FacsFits None = Unit {0}
FacsFits (Some c) = FitsFacs c

pub record Fit {A : Type 0} (Fits : A → Type 0) (m : MachineOf A) : Type 0 where
  pub ids : AreIds m.ids
  pub short : xsdt_length m < 2 ^ 32
  pub facs : FacsFits m.facs
  pub tables : All Fits m.tables.now

-- ---- errors

-- each table can be written, or the first error
abbrev pub check_each : {A : Type 0} → Written A → TableIds → List A → Result (Unit {0}) WriterError
check_each written ids [] = Ok tt
check_each written ids (c ∷ cs) = do
  _ ← written ids c
  check_each written ids cs

unfoldable pub check_by : {A : Type 0} → Written A → MachineOf A → Result (Unit {0}) WriterError
check_by written m = do
  _ ← holds (are_texts m.ids) BadName
  _ ← holds (nat_lt (xsdt_length m) (2 ^ 32)) TooLong
  _ ← dsdt_written m.ids m.dsdt
  check_each written m.ids m.tables.now

-- this number of bytes can be here: the address is a multiple of 16, and neither 0 nor too high
abbrev pub is_place : ℕ → ℕ → Bool
is_place a n = not (a == 0) && ((a % 16 == 0) && nat_lt (a + n) (2 ^ 64))

-- this number of bytes has room, and can be at this address
abbrev pub check_place : ℕ → ℕ → ℕ → Result (Unit {0}) WriterError
check_place room a n = do
  _ ← holds (nat_le n room) NoRoom
  holds (is_place a n) NoAddress

-- the machine can be written for an address
pub record CanLie {A : Type 0} (written : Written A) (Fits : A → Type 0) (a : ℕ) (m : MachineOf A) : Type 0 where
  pub checked : check_by written m ≡ Ok tt
  pub fit : Fit Fits m
  pub place : is_place a (size_by written m) ≡ true

-- how many bytes the listed tables take, or the first error; and so of the DSDT, and of all but the RSDP
abbrev pub listed_sized : {A : Type 0} → Written A → TableIds → List A → Result ℕ WriterError
listed_sized written ids cs = do
  _ ← check_each written ids cs
  Ok (length (laid (map (bytes_by written ids) cs)))

abbrev pub dsdt_sized : TableIds → Option AmlContents → Result ℕ WriterError
dsdt_sized ids dsdt = do
  table ← dsdt_written ids dsdt
  Ok (length (padded table))

abbrev pub tree_sized : {A : Type 0} → Written A → MachineOf A → Result ℕ WriterError
tree_sized written m = do
  _ ← check_by written m
  Ok (size_by written m)

-- how many bytes there are with the RSDP, or the first error
abbrev pub machine_size : {A : Type 0} → Written A → MachineOf A → Result ℕ WriterError
machine_size written m = do
  _ ← check_by written m
  Ok (48 + size_by written m)

-- what a call that writes this number of bytes for an address into so much room returns: these bytes, or the first
-- error
abbrev pub region_written : {A : Type 0} → Written A → MachineOf A → ℕ → ℕ → ℕ → List ℕ → Result (List ℕ) WriterError
region_written written m n room a bytes = do
  _ ← check_by written m
  _ ← check_place room a n
  Ok bytes

-- with the RSDP, and without it
abbrev pub machine_written : {A : Type 0} → Written A → ℕ → ℕ → MachineOf A → Result (List ℕ) WriterError
machine_written written room a m = region_written written m (48 + size_by written m) room a (machine_by written a m)

abbrev pub tree_written : {A : Type 0} → Written A → ℕ → ℕ → MachineOf A → Result (List ℕ) WriterError
tree_written written room a m = region_written written m (size_by written m) room a (tree_by written a m)

-- ---- of a machine of contents

abbrev pub listed : Machine → List (List ℕ)
listed m = listed_by contents_written m

abbrev pub pointers_of : ℕ → Machine → List ℕ
pointers_of a m = pointers_by contents_written a m

abbrev pub xsdt_bytes : ℕ → Machine → List ℕ
xsdt_bytes a m = xsdt_by contents_written a m

abbrev pub tree_bytes : ℕ → Machine → List ℕ
tree_bytes a m = tree_by contents_written a m

abbrev pub machine_bytes : ℕ → Machine → List ℕ
machine_bytes a m = machine_by contents_written a m

abbrev pub tree_size : Machine → ℕ
tree_size m = size_by contents_written m

abbrev pub check_tables : TableIds → List TableContents → Result (Unit {0}) WriterError
check_tables ids cs = check_each contents_written ids cs
