-- The tables that a memory is shown to have: each that its root table lists, and those that its FADT leads to, with
-- what the checks of each return.
use Rattle.std.specs.Prelude.{ℕ, ◌||◌, Bool, List, [], ◌∷◌, ◌++◌, Option, Some, None, Result, Ok, Err, bytes_eq, if◌then◌else◌, is_ok, length, map, max, nat_le, not, take}
use Rattle.acpi_base.specs.Words.{◌>>=◌, Memory, field_of, holds, own_table_at, part, plain_kind, rest_from, table_at}
use Rattle.acpi.specs.Types.{AcpiError, DSDT, FACS, Fadt, MapFailed, SdtInvalidChecksum, Signature}
use Rattle.acpi.specs.Words.{accepted_by, facs_length, fadt_kind, lookup, of_tables}
use Rattle.acpi.specs.declared.tables.AcpiTables.{AcpiTables}
use Rattle.acpi_fixed.specs.Words.{dsdt_address_of, facs_address_of, fadt_at}
use Rattle.acpi_fixed.specs.Flags.{system_is_hw_reduced_acpi}
use Rattle.acpi_dump_input.specs.declared.entries.Entry.{Entry}
use Rattle.acpi_dump_input.specs.declared.entries.Place.{Place}
use Rattle.acpi_dump_input.specs.declared.entries.Place.TheVariants as place
use Rattle.acpi_dump_input.specs.declared.status.Status.{Status}
use Rattle.acpi_dump_input.specs.declared.status.Status.TheVariants as status

-- what the checks of a table return by its status: one that is valid by its header and its sum stays so where its
-- type's lookup fails, bytes follow it, or a part of it doesn't match its layout
abbrev pub checked_of : Status → Result (Unit {0}) AcpiError
checked_of status.Valid = Ok tt
checked_of (status.NoLookup error) = Ok tt
checked_of (status.Longer over) = Ok tt
checked_of status.Malformed = Ok tt
checked_of (status.Refused error) = Err error
checked_of (status.WrongSum signature sum should) = Err (SdtInvalidChecksum signature)
checked_of (status.Cut error has long) = Err error
checked_of status.NotHere = Err MapFailed

-- the bytes of a table among those from its first one on: up to its Length, at 4, and at least a header
abbrev pub table_part : List ℕ → List ℕ
table_part rest = take (max (field_of rest 4 4) 36) rest

-- a FACS has no sum (section 5.2.10): its Signature and its Length are there, are right, and so many bytes are there
abbrev pub check_facs : AcpiError → List ℕ → Result (Unit {0}) AcpiError
check_facs missing rest = do
  _ ← holds (nat_le 8 (length rest)) missing
  long ← facs_length (record { 0 = part rest 0 4 }) (field_of rest 4 4)
  holds (nat_le long (length rest)) missing

-- the table at an address under the signature that it should have, or under the one that its header has
abbrev pub checked_table : Memory → Option Signature → ℕ → Result (Unit {0}) AcpiError
checked_table m None p = own_table_at m p >>= λ table. Ok tt
checked_table m (Some s) p = table_at m (plain_kind s) p >>= λ table. Ok tt

-- the same, and a FACS as one
abbrev pub checked_as : Memory → Option Signature → ℕ → Result (Unit {0}) AcpiError
checked_as m None p = checked_table m None p
checked_as m (Some s) p =
    if bytes_eq s.0 FACS.0 then check_facs MapFailed (rest_from m p) else checked_table m (Some s) p

-- ---- what is listed

-- a table as it is listed: where it is, the signature that it should have if that is known, its bytes as far as they
-- are there, and what its checks return
pub record Listed : Type 0 where
  pub place : Place
  pub sought : Option Signature
  pub bytes : List ℕ
  pub checked : Result (Unit {0}) AcpiError

abbrev pub seen : Entry → Listed
seen e = record { place = e.place; sought = e.sought; bytes = e.bytes.now; checked = checked_of e.status }

-- the table at an address
abbrev pub listed_at : Memory → Option Signature → ℕ → Listed
listed_at m sought p = record {
  place = place.Address p;
  sought = sought;
  bytes = table_part (rest_from m p);
  checked = checked_as m sought p;
}

-- the table of this signature to which a FADT has an address, or the error in place of that
abbrev pub led_to : Memory → Signature → Result ℕ AcpiError → Listed
led_to m s (Ok p) = listed_at m (Some s) p
led_to m s (Err error) = record { place = place.Nowhere; sought = Some s; bytes = []; checked = Err error }

-- the root table, and each table that it lists, once for each pointer and in their order
abbrev pub tables_listed : Memory → ℕ → List ℕ → List Listed
tables_listed m root ps = listed_at m None root ∷ map (listed_at m None) ps

-- whether a FADT leads to a FACS, which a machine of reduced hardware needn't have (section 5.2.9)
abbrev pub has_facs : Fadt → Bool
has_facs f = is_ok (facs_address_of f) || not (system_is_hw_reduced_acpi f.flags)

-- the DSDT, and the FACS if there is to be one
abbrev pub tables_led_to : Memory → Fadt → List Listed
tables_led_to m f =
    led_to m DSDT (dsdt_address_of f) ∷ (if has_facs f then led_to m FACS (facs_address_of f) ∷ [] else [])

-- the first valid FADT of the tables: its address and its bytes, or why there is none
abbrev pub first_fadt : {H P h p : _} → AcpiTables H P h p → Result (ℕ × List ℕ) AcpiError
first_fadt t = of_tables t (λ m. lookup m (accepted_by t fadt_kind))

-- the tables of a memory: those that are listed, and then those that the FADT leads to
abbrev pub tables_of : Memory → ℕ → List ℕ → Result (ℕ × List ℕ) AcpiError → List Listed
tables_of m root ps (Err error) = tables_listed m root ps
tables_of m root ps (Ok found) = tables_listed m root ps ++ tables_led_to m (fadt_at found.1)
