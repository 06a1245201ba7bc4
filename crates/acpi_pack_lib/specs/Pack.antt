-- What is packed: the regions that an image is made of, or the first error.
use Rattle.std.specs.Prelude.{◌≡◌, ◌⊎◌, ℕ, ◌+◌, ◌^◌, nat_le, nat_lt, not, if◌then◌else◌, codes, List, [], ◌∷◌, ◌++◌, length, flat_map, replicate, Option, Some, None, Result, Ok, Err, IsOk, ok_or}
use Rattle.acpi_base.specs.FromStd.{result_ok}
use Rattle.acpi.specs.declared.root.RootKind.TheVariants.{Xsdt}
use Rattle.acpi_base.specs.Words.{Memory, Region, end_of, ◌>>=◌, holds}
use Rattle.acpi_fixed.specs.Words.{dsdt_address_of, fadt_at}
use Rattle.acpi_image_reader.specs.Words.{record_spelling, shares_any}
use Rattle.acpi_image.specs.Words.{root_length, root_record, rsdp_record, starts_of}
use Rattle.acpi_pack_lib.specs.Place.{place_at, placed_from}
use Rattle.acpi_pack_lib.specs.Sources.{begins, bytes_in, bytes_of, check_contents, check_tables, entries}
use Rattle.acpi_pack_lib.specs.declared.error.FileError.TheVariants as fault
use Rattle.acpi_pack_lib.specs.declared.error.Refusal.{Refusal}
use Rattle.acpi_pack_lib.specs.declared.error.Refusal.TheVariants.{File, NoRoom, OutOfMemory}
use Rattle.acpi_pack_lib.specs.declared.sources.FileRole.TheVariants.{Dsdt, Listed}

-- the file of n is put at its address: it ends below 2^64, and shares no byte with an earlier one
unfoldable pub check_place : ℕ → Memory → Region → Result (Unit {0}) Refusal
check_place n earlier r = do
  _ ← holds (nat_lt (end_of r) (2 ^ 64)) (File n fault.EndTooLarge)
  holds (not (shares_any earlier r)) (File n fault.Overlap)

abbrev pub check_places : ℕ → Memory → Memory → Result (Unit {0}) Refusal
check_places n earlier [] = Ok tt
check_places n earlier (r ∷ rs) = do
  _ ← check_place n earlier r
  check_places (n + 1) (earlier ++ (r ∷ [])) rs

-- ---- files at addresses

-- each file at its address
abbrev pub regions : List ℕ → List (Option (List ℕ)) → Memory
regions [] files = []
regions (address ∷ addresses) [] = []
regions (address ∷ addresses) (file ∷ files) =
    record { start = address; bytes = bytes_in file } ∷ regions addresses files

-- each file by itself, and then where they are placed
unfoldable pub packed_files : List ℕ → List (Option (List ℕ)) → Result Memory Refusal
packed_files addresses files = do
  _ ← check_contents 0 files
  _ ← check_places 0 [] (regions addresses files)
  Ok (regions addresses files)

-- ---- tables

-- where the RSDP is, and from where on the other tables are
abbrev pub rsdp_address : ℕ
rsdp_address = 0xe0000

abbrev pub first_address : ℕ
first_address = 0x100000

-- the 36 bytes of an RSDP, where it is
abbrev pub rsdp_place : Region
rsdp_place = record { start = rsdp_address; bytes = replicate 36 0 }

abbrev pub first_fadt : List (List ℕ) → Option (List ℕ)
first_fadt [] = None
first_fadt (table ∷ tables) =
    if begins table (codes "FACP") then Some table else first_fadt tables

-- the DSDT's address in a FADT, if it is as long as a FADT is and has one
unfoldable pub dsdt_address_in : List ℕ → Option ℕ
dsdt_address_in fadt =
    if nat_le 116 (length fadt) then result_ok (dsdt_address_of (fadt_at fadt)) else None

-- the DSDT's address in a FADT, if there is a FADT
abbrev pub address_by : Option (List ℕ) → Option ℕ
address_by None = None
address_by (Some fadt) = dsdt_address_in fadt

abbrev pub dsdt_address : List (List ℕ) → Option ℕ
dsdt_address tables = address_by (first_fadt tables)

-- a second DSDT would be where the first is
abbrev pub unless_second : Region → List (ℕ × List ℕ) → Result (Option Region) Refusal
unless_second r [] = Ok (Some r)
unless_second r (second ∷ others) = Err (File second.0 fault.Overlap)

-- the DSDT at its address; it is left out without one
abbrev pub dsdt_at : Option ℕ → List (ℕ × List ℕ) → Result (Option Region) Refusal
dsdt_at address [] = Ok None
dsdt_at None (first ∷ others) = Ok None
dsdt_at (Some address) (first ∷ others) = do
  _ ← check_place first.0 (rsdp_place ∷ []) (record { start = address; bytes = first.1 })
  unless_second (record { start = address; bytes = first.1 }) others

-- what the other tables keep away from
abbrev pub fixed_of : Option Region → Region
fixed_of None = record { start = 0; bytes = [] }
fixed_of (Some dsdt) = dsdt

abbrev pub listed_or : Option Region → Memory
listed_or None = []
listed_or (Some dsdt) = dsdt ∷ []

-- the RSDP, the XSDT, the tables that it lists, and the DSDT
abbrev pub all_regions : ℕ → Memory → Option Region → Memory
all_regions root tables dsdt =
    rsdp_record rsdp_address 2 root ∷ root_record Xsdt root (starts_of tables)
    ∷ (tables ++ listed_or dsdt)

-- the XSDT is the first of the tables that are placed
unfoldable pub laid_out : Option Region → List (List ℕ) → Result Memory Refusal
laid_out dsdt tables = do
  _ ← holds (nat_lt (root_length Xsdt (length tables)) (2 ^ 32)) NoRoom
  root ← ok_or (place_at (fixed_of dsdt) first_address (root_length Xsdt (length tables))) NoRoom
  placed ← placed_from (fixed_of dsdt) (root + root_length Xsdt (length tables)) tables
  Ok (all_regions root placed dsdt)

-- each file by itself, then the DSDT, and then the others
unfoldable pub packed_tables : List (Option (List ℕ)) → Result Memory Refusal
packed_tables files = do
  _ ← check_tables 0 files
  dsdt ← dsdt_at (dsdt_address (bytes_of (entries Listed 0 files))) (entries Dsdt 0 files)
  laid_out dsdt (bytes_of (entries Listed 0 files))

-- ---- the file

-- the records of the regions, one after the other
abbrev pub file_of : Result Memory Refusal → Result (List ℕ) Refusal
file_of packed = do
  regions ← packed
  Ok (flat_map record_spelling regions)

-- an error is the one that is defined, or OutOfMemory if nothing fails
abbrev pub RefusesOrRunsOut : Result Memory Refusal → Refusal → Type 0
RefusesOrRunsOut packed e = (packed ≡ Err e) ⊎ ((e ≡ OutOfMemory) × IsOk packed)
