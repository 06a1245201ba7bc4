-- What walks along the members of the root table return.
use Rattle.std.specs.Prelude.{ℕ, List, [], ◌∷◌, ◌++◌, filter_map, length, Option, None, option_map, slice_get, Result, Ok, Err, ok_or}
use Rattle.acpi_base.specs.FromStd.{cons_option, result_ok}
use Rattle.acpi_base.specs.Words.{Memory, ◌>>=◌, plain_kind, accepted, own_accepted, table_at}
use Rattle.acpi.specs.Types.{TableMissing, AddressRange, DSDT, Fadt}
use Rattle.acpi_fixed.specs.Words.{dsdt_address_of, fadt_at}
use Rattle.acpi.specs.Words.{facs_place, fadt_kind, lookup, tables_found}
use Rattle.acpi_c_lib.specs.Answers.{result_map}
use Rattle.acpi_c_lib.specs.Below.{AcpiError, Refusal, Source, below_source, opened_below, pointers_in, rsdp_place_in}
use Rattle.acpi_c_lib.specs.Missing.{range_of}
use Rattle.acpi_c_lib.specs.Records as records
use Rattle.acpi_c_lib.specs.Shown.{Signature, Table, signature_named, table_record}
use Rattle.acpi_c_lib.specs.Types.{Range}

-- the table of a signature at an index, or that it is missing
abbrev pub nth_in : ℕ → Memory → Signature → ℕ → List ℕ → Result Table AcpiError
nth_in accept m s index ps = do
  found ← ok_or (slice_get (tables_found m (accepted accept (plain_kind s)) ps) index) (TableMissing s)
  Ok (table_record found)

abbrev pub nth_below : Source → records.Signature → ℕ → Result Table Refusal
nth_below s name index = below_source s (λ m ps. nth_in s.accept m (signature_named name) index ps)

abbrev pub range_record : AddressRange → Range
range_record r = record { address = r.address; length = r.length }

-- the range of a member, if it is accepted under its own signature
abbrev pub range_in : ℕ → Memory → ℕ → Option Range
range_in accept m p = result_ok (result_map (λ b. range_of (p, length b)) (own_accepted accept m p))

-- the range of the DSDT that a FADT points to, if it is accepted, and of the FACS, if it is valid
abbrev pub dsdt_range : ℕ → Memory → Fadt → Option Range
dsdt_range accept m f = result_ok (do
  address ← dsdt_address_of f
  table ← table_at m (accepted accept (plain_kind DSDT)) address
  Ok (range_of (address, length table)))

abbrev pub facs_range : Memory → Fadt → Option Range
facs_range m f = result_ok (result_map range_record (facs_place m f))

-- the ranges of the DSDT and the FACS of the first FADT that is accepted
abbrev pub dsdt_and_facs_ranges : ℕ → Memory → Result (ℕ × List ℕ) AcpiError → Option Range × Option Range
dsdt_and_facs_ranges accept m (Ok found) = let fadt = fadt_at found.1 in (dsdt_range accept m fadt, facs_range m fadt)
dsdt_and_facs_ranges accept m (Err e) = (None, None)

-- the members, and then those
abbrev pub members_ranges : ℕ → Memory → List ℕ → List Range
members_ranges accept m ps =
    let dsdt_and_facs = dsdt_and_facs_ranges accept m (lookup m (accepted accept fadt_kind) ps) in
    filter_map (range_in accept m) ps ++ cons_option dsdt_and_facs.0 (cons_option dsdt_and_facs.1 [])

-- the RSDP if one pointed to the root table, the root table, and the tables
abbrev pub ranges_below : Source → Result (List Range) Refusal
ranges_below s = opened_below s (λ m o. Ok (cons_option (option_map range_of (rsdp_place_in m s))
    (range_of (o.address, length o.root)
    ∷ members_ranges s.accept m (pointers_in o))))
