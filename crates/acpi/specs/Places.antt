-- Where the tables lie.
use Rattle.std.specs.Prelude.{ℕ, List, [], ◌∷◌, ◌++◌, length, filter_map, nat_le, Result, Ok, bytes_eq}
use Rattle.acpi_base.specs.FromStd.{cons_option, result_ok}
use Rattle.acpi.specs.Types.{AcpiError, SdtInvalidLength, SdtInvalidSignature, Signature, DSDT, FACS, Fadt, AddressRange}
use Rattle.acpi_base.specs.Words.{accepted, header_at, Memory, Ranges, table_ranges, ◌>>=◌, holds, lent, own_table_at, plain_kind, table_at}
use Rattle.acpi_fixed.specs.Words.{dsdt_address_of, facs_address_of, fadt_at}
use Rattle.acpi.specs.Footprint.{header_ranges, lookup_ranges}
use Rattle.acpi.specs.Lists.{fadt_kind}
use Rattle.acpi.specs.Lookup.{lookup}
use Rattle.acpi_base.specs.Ranges as ranges

-- that many bytes from an address
abbrev pub range : ℕ → ℕ → AddressRange
range address n = record { address = address; length = n }

-- the table at an address, if it is valid under the signature that it has
unfoldable pub place_at : Memory → ℕ → Result AddressRange AcpiError
place_at m p = do
  table ← own_table_at m p
  Ok (range p (length table))

-- the DSDT that a FADT leads to, if it is valid (section 5.2.11.1)
unfoldable pub dsdt_place : Memory → Fadt → Result AddressRange AcpiError
dsdt_place m f = do
  address ← dsdt_address_of f
  table ← table_at m (plain_kind DSDT) address
  Ok (range address (length table))

-- Length of a FACS (section 5.2.10), at least 64, by its Signature and its Length
unfoldable pub facs_length : Signature → ℕ → Result ℕ AcpiError
facs_length signature length = do
  _ ← holds (bytes_eq signature.0 FACS.0) (SdtInvalidSignature FACS)
  _ ← holds (nat_le 64 length) (SdtInvalidLength FACS)
  Ok length

-- that of the bytes at its address: Signature, at 0, and Length, at 4, lie where those of a header do
abbrev pub facs_length_in : List ℕ → Result ℕ AcpiError
facs_length_in head = facs_length (header_at head).signature (header_at head).length

-- the FACS at an address
unfoldable pub facs_at : Memory → ℕ → Result AddressRange AcpiError
facs_at m address = do
  head ← lent m address 36
  length ← facs_length_in head
  _ ← lent m address length
  Ok (range address length)

-- the FACS that a FADT leads to
abbrev pub facs_place : Memory → Fadt → Result AddressRange AcpiError
facs_place m f = do
  address ← facs_address_of f
  facs_at m address

-- ---- of a root table

-- what the first FADT leads to that the bits of `accept` accept
abbrev pub by_accepted_fadt : {A : Type 0} → ℕ → (Memory → Fadt → Result A AcpiError) → Memory → List ℕ
    → Result A AcpiError
by_accepted_fadt accept place m ps = do
  found ← lookup m (accepted accept fadt_kind) ps
  place m (fadt_at found.1)

-- what the first valid FADT leads to
abbrev pub by_first_fadt : {A : Type 0} → (Memory → Fadt → Result A AcpiError) → Memory → List ℕ → Result A AcpiError
by_first_fadt = by_accepted_fadt 0

-- the valid members, then the DSDT and the FACS if a valid FADT leads to them
abbrev pub places_below : Memory → List ℕ → List AddressRange
places_below m ps = filter_map (λ p. result_ok (place_at m p)) ps
    ++ cons_option (result_ok (by_first_fadt dsdt_place m ps))
    (cons_option (result_ok (by_first_fadt facs_place m ps)) [])

-- the root table, and what lies below it
abbrev pub places_of : AddressRange → Memory → List ℕ → List AddressRange
places_of root m ps = root ∷ places_below m ps

-- ---- their ranges

-- those of `dsdt_place`
abbrev pub dsdt_place_ranges : Memory → Fadt → Ranges
dsdt_place_ranges m f = ranges.◌>>=◌ (dsdt_address_of f) (λ address. table_ranges m (plain_kind DSDT) address)

-- those of `facs_at`
abbrev pub facs_ranges : Memory → ℕ → Ranges
facs_ranges m address = (address, 36) ∷ ranges.◌>>=◌ (lent m address 36) (λ head.
    ranges.◌>>=◌ (facs_length_in head) (λ length. (address, length) ∷ []))

-- those of `facs_place`
abbrev pub facs_place_ranges : Memory → Fadt → Ranges
facs_place_ranges m f = ranges.◌>>=◌ (facs_address_of f) (λ address. facs_ranges m address)

-- those of `by_accepted_fadt`: the FADT's, and those of what it leads to
abbrev pub by_accepted_fadt_ranges : ℕ → (Memory → Fadt → Ranges) → Memory → List ℕ → Ranges
by_accepted_fadt_ranges accept place m ps = lookup_ranges m (accepted accept fadt_kind) ps
    ++ ranges.◌>>=◌ (lookup m (accepted accept fadt_kind) ps) (λ found. place m (fadt_at found.1))

-- those of `by_first_fadt`
abbrev pub by_first_fadt_ranges : (Memory → Fadt → Ranges) → Memory → List ℕ → Ranges
by_first_fadt_ranges = by_accepted_fadt_ranges 0

-- those of `dsdt_place` and of `facs_place`
abbrev pub both_place_ranges : Memory → Fadt → Ranges
both_place_ranges m f = dsdt_place_ranges m f ++ facs_place_ranges m f

-- those of the first valid FADT, and of the DSDT and the FACS that it leads to
abbrev pub dsdt_and_facs_ranges : Memory → List ℕ → Ranges
dsdt_and_facs_ranges = by_first_fadt_ranges both_place_ranges

-- those of `places_of`: each member's, under its own signature, and those of what the FADT leads to
abbrev pub place_ranges : Memory → List ℕ → Ranges
place_ranges m ps = header_ranges m ps ++ dsdt_and_facs_ranges m ps
