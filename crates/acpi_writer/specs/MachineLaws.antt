-- A machine that is laid out in memory is found there by a reader.
--
-- Let a memory lend the 36 bytes of the RSDP, and the bytes of the XSDT with all tables, each from the address that
-- they were written for. Then
--   * the RSDP is valid, tables are opened by it, and their root table is the XSDT;
--   * the XSDT's pointers are the addresses of the listed tables, in the order in which these were passed in;
--   * of each signature the first of the listed tables is found, at its address, with its bytes;
--   * a FADT is read as it was passed in, and if it has the addresses of the DSDT and the FACS, they are found;
--   * so the platform with its interrupt model and its processors, the regions of the configuration space, the event
--     timer block, the domains, the distances, the console's serial port, the boot image, the generic timers and the
--     GIC are exactly those that were passed in; and the DSDT is valid at its address.
use Rattle.std.specs.Prelude.{◌≡◌, ℕ, ◌+◌, ◌*◌, ◌%◌, ◌<◌, ◌≤◌, ◌&&◌, List, [], ◌∷◌, length, drop, nat_le, slice_get, if◌then◌else◌, Option, Some, None, Result, Ok, Err, bytes_eq}
use Rattle.acpi.specs.Places as places
use Rattle.acpi_writer.specs.Types.{AllByRecursion, hpet_of, dsdt_stream, fadt_kind, stream_of, lookup, opened_by_rsdp, found_regions, facs_place, by_first_fadt, range, model_in, platform_of, pointers, rsdp_at, PlatformInfo, Xsdt, AmlContents, TableContents, Bgrt, Fadt, GicMadt, Gtdt, Hpet, Madt, Mcfg, Slit, Spcr, Srat, FacsContents, FadtContents, TableIds, MadtContents, Memory, IsMemory, at, ◌>>=◌, Kind, plain_kind, sdt_kind, table_at, letters_of, AcpiError, TableMissing, Signature, BGRT, DSDT, FADT, GTDT, HPET, MADT, MCFG, SLIT, SPCR, SRAT, Apic, found_gic, gtdt_kind, bgrt_at, fadt_at, srat_kind, distance_of}
use Rattle.acpi_writer.specs.Bgrt.{SaysImage}
use Rattle.acpi_writer.specs.Contents.{FitsContents, bytes_of, contents_written, placed, signature_of}
use Rattle.acpi_writer.specs.Facs as structure
use Rattle.acpi_writer.specs.Facs.{facs_bytes}
use Rattle.acpi_writer.specs.Fadt.{IsReadAs, timer_read}
use Rattle.acpi_table_writer.specs.Words.{gic_read, SaysTimers, is_named, apic_read, model_read, processors_read, SaysDomains, IsValid}
use Rattle.acpi_writer.specs.ImageLaws.{HasPlatform}
use Rattle.acpi_writer.specs.Laid.{addresses, laid, padded}
use Rattle.acpi_writer.specs.Machine.{CanLie, Machine, dsdt_address, dsdt_at, dsdt_of, facs_address, facs_at, machine_bytes, pointers_of, tables_address, tree_bytes, tree_size, xsdt_bytes}
use Rattle.acpi_writer.specs.Rsdp.{rsdp_bytes}
use Rattle.acpi_writer.specs.Spcr.{SaysConsole}

-- ---- any valid tables, laid one after the other

-- the first of them with this signature and at least this number of bytes, and where it is, if the first one is at a
abbrev pub first_at : Signature → ℕ → ℕ → List (List ℕ) → Result (ℕ × List ℕ) AcpiError
first_at s least a [] = Err (TableMissing s)
first_at s least a (t ∷ ts) =
    if is_named s t && nat_le least (length t) then Ok (a, t)
    else first_at s least (a + length (padded t)) ts

-- each is valid under some signature
abbrev pub AreValid : List (List ℕ) → Type 0
AreValid ts = AllByRecursion (λ t. (s : Signature) × IsValid s t) ts

-- where a memory has them, a lookup by their addresses finds exactly that
abbrev pub LaidAreFound : Type 0
LaidAreFound = (m : Memory) (a : ℕ) (ts : List (List ℕ)) → IsMemory m → AreValid ts
    → at m a (length (laid ts)) ≡ Some (laid ts)
    → (s : Signature) (least : ℕ) → 36 ≤ least
    → lookup m (sdt_kind s least) (addresses a ts) ≡ first_at s least a ts

-- ---- a machine

-- the machine can be written for an address: what `write_tables` checks of it
abbrev pub IsWritable : ℕ → Machine → Type 0
IsWritable a x = CanLie contents_written FitsContents a x

-- the first of the listed tables with this signature, and where it is, if the first one is at a
abbrev pub first_of : Signature → List TableContents → Option TableContents
first_of s [] = None
first_of s (c ∷ cs) =
    if bytes_eq (letters_of (signature_of c)) (letters_of s) then Some c else first_of s cs

abbrev pub place_of : TableIds → Signature → ℕ → List TableContents → ℕ
place_of ids s a [] = a
place_of ids s a (c ∷ cs) =
    if bytes_eq (letters_of (signature_of c)) (letters_of s) then a
    else place_of ids s (a + length (placed ids c)) cs

-- a FACS is at a multiple of 64 (section 5.2.10), where a reader finds it with what was passed
pub record HasFacs (m : Memory) (p : ℕ) (c : FacsContents) : Type 0 where
  pub aligned : p % 64 ≡ 0
  pub bytes : at m p 64 ≡ Some (facs_bytes c)
  pub fields : structure.IsReadAs c (facs_bytes c)
  pub found : places.facs_at m p ≡ Ok (range p 64)

-- what is opened by the RSDP at an address, if the XSDT is at a
pub record IsOpened (m : Memory) (rsdp a : ℕ) (x : Machine) : Type 0 where
  pub rsdp_is : rsdp_at m rsdp ≡ Ok (rsdp_bytes x.ids.oem_id a)
  pub opened : opened_by_rsdp m rsdp
      ≡ Ok (record { revision = 2; kind = Xsdt; address = a; root = xsdt_bytes a x })
  pub listed : pointers 8 (drop 36 (xsdt_bytes a x)) ≡ pointers_of a x
  pub found : (s : Signature) (c : TableContents) (least : ℕ) → first_of s x.tables.now ≡ Some c
      → 36 ≤ least → least ≤ length (bytes_of x.ids c)
      → lookup m (sdt_kind s least) (pointers_of a x)
      ≡ Ok (place_of x.ids s (tables_address a x) x.tables.now, bytes_of x.ids c)
  -- a FACS is read as it was passed in, and if the FADT has its address, it is found
  pub facs : (f : FacsContents) → x.facs ≡ Some f → HasFacs m (facs_address a x) f
  pub facs_is_found : (c : FadtContents) (f : FacsContents) → first_of FADT x.tables.now ≡ Some (Fadt c) → x.facs
      ≡ Some f
      → c.facs ≡ Some (facs_address a x)
      → by_first_fadt facs_place m (pointers_of a x) ≡ Ok (range (facs_address a x) 64)
  pub dsdt : (d : AmlContents) → x.dsdt ≡ Some d
      → table_at m (plain_kind DSDT) (dsdt_address a x) ≡ Ok (dsdt_of x)
  -- if the FADT has its address, its AML is found
  pub aml : (c : FadtContents) (d : AmlContents) → first_of FADT x.tables.now ≡ Some (Fadt c) → x.dsdt ≡ Some d
      → c.dsdt ≡ dsdt_address a x
      → dsdt_stream m (pointers_of a x) ≡ Ok (stream_of (dsdt_address a x) (dsdt_of x))

-- a table of a kind is found, and this holds of its bytes
abbrev pub HasTable : Memory → List ℕ → Kind → (List ℕ → Type 0) → Type 0
HasTable m ps k P = (found : ℕ × List ℕ) × (lookup m k ps ≡ Ok found) × P found.1

-- a FADT is found, and what calls of the reader return of it is what was given
abbrev pub HasFadt : Memory → List ℕ → FadtContents → Type 0
HasFadt m ps c = HasTable m ps fadt_kind (λ t. IsReadAs c (fadt_at t))

-- the platform of a FADT and a MADT
abbrev pub platform_read : {A : Type 0} → FadtContents → MadtContents → PlatformInfo A
platform_read c d = record {
  power_profile = c.power_profile;
  interrupt_model = Apic (apic_read d);
  processor_info = processors_read d.processors.now;
  pm_timer = timer_read c;
}

-- what a reader returns of the tables that these pointers point to: what was passed in
pub record Says (A : Type 0) (m : Memory) (ps : List ℕ) (cs : List TableContents) : Type 0 where
  pub model : (c : _) → first_of MADT cs ≡ Some (Madt c) → model_in {A = A} m ps ≡ Ok (model_read c)
  pub platform : (c : _) (q : PlatformInfo A) → first_of MADT cs ≡ Some (Madt c)
      → platform_of m ps ≡ Ok q → HasPlatform c q
  pub platform_is : (c d : _) → first_of FADT cs ≡ Some (Fadt c) → first_of MADT cs ≡ Some (Madt d)
      → platform_of {A = A} m ps ≡ Ok (platform_read c d)
  pub fadt : (c : _) → first_of FADT cs ≡ Some (Fadt c) → HasFadt m ps c
  pub regions : (es : _) → first_of MCFG cs ≡ Some (Mcfg es) → found_regions m ps ≡ Ok es.now
  pub hpet : (i : _) → first_of HPET cs ≡ Some (Hpet i) → hpet_of m ps ≡ Ok i
  pub distances : (c : _) (from to : ℕ) → first_of SLIT cs ≡ Some (Slit c)
      → from < c.localities → to < c.localities
      → (lookup m (sdt_kind SLIT 44) ps >>= λ found. Ok (distance_of found.1 from to))
      ≡ Ok (slice_get c.distances.now (from * c.localities + to))
  pub domains : (c : _) → first_of SRAT cs ≡ Some (Srat c) → HasTable m ps srat_kind (SaysDomains c)
  pub console : (c : _) → first_of SPCR cs ≡ Some (Spcr c) → HasTable m ps (sdt_kind SPCR 80) (SaysConsole c)
  pub image : (c : _) → first_of BGRT cs ≡ Some (Bgrt c)
      → HasTable m ps (sdt_kind BGRT 56) (λ t. SaysImage c (bgrt_at t))
  pub timers : (c : _) → first_of GTDT cs ≡ Some (Gtdt c) → HasTable m ps gtdt_kind (SaysTimers c)
  pub gic : (c : _) → first_of MADT cs ≡ Some (GicMadt c) → found_gic {A = A} m ps ≡ Ok (Some (gic_read c))

-- the theorem, for an RSDP at an address of its own
abbrev pub TreeIsRead : Type 0 → Type 0
TreeIsRead A = (m : Memory) (rsdp a : ℕ) (x : Machine) → IsMemory m → IsWritable a x
    → at m rsdp 36 ≡ Some (rsdp_bytes x.ids.oem_id a) → at m a (tree_size x) ≡ Some (tree_bytes a x)
    → IsOpened m rsdp a x × Says A m (pointers_of a x) x.tables.now

-- the addresses that a caller requests before a machine is written for an address are those in it
pub record AreKnown (a : ℕ) (x : Machine) : Type 0 where
  pub dsdt : dsdt_at a (length x.tables.now) ≡ Some (dsdt_address (a + 48) x)
  pub facs : (f : FacsContents) → x.facs ≡ Some f
      → facs_at a (length x.tables.now) x.dsdt ≡ Some (facs_address (a + 48) x)

-- and for one at the front of the region
abbrev pub MachineIsRead : Type 0 → Type 0
MachineIsRead A = (m : Memory) (a : ℕ) (x : Machine) → IsMemory m → IsWritable (a + 48) x
    → at m a (48 + tree_size x) ≡ Some (machine_bytes a x)
    → IsOpened m a (a + 48) x × Says A m (pointers_of (a + 48) x) x.tables.now × AreKnown a x
