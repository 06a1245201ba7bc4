-- A start at the root table that a copy of the RSDP points to (ACPI 6.4, section 5.2.5.3).
use Rattle.std.specs.Prelude.{ℕ, ◌==◌, ◌&&◌, ◌||◌, Bool, nat_le, nat_lt, List, [], ◌∷◌, ◌++◌, length, replicate, take, Result, if◌then◌else◌}
use Rattle.acpi_c_lib.specs.Answers.{result_map}
use Rattle.acpi_c_lib.specs.Below.{AcpiError, Refusal, Source, refused_as}
use Rattle.acpi.specs.Words.{accepted_rsdp, accepted_rsdp_at}
use Rattle.acpi_base.specs.Words.{has_bit}
use Rattle.acpi_c_lib.specs.Types.{Memory, field_of, root_of, RootKind, Rsdp, Rsdt, Xsdt}

-- a copy ends after 20 bytes if its Revision is 0, and if by the bits of `accept` these are enough and there aren't 36
abbrev pub ends_early : ℕ → List ℕ → Bool
ends_early accept copy =
    field_of copy 15 1 == 0 || (nat_lt (length copy) 36
    && (has_bit accept 4 || (has_bit accept 3 && field_of copy 15 1 == 1)))

-- the bytes that are checked: after a copy that ends after 20 bytes zeros are in place of those that a memory has after
-- it, which mean nothing
abbrev pub padded : ℕ → List ℕ → List ℕ
padded accept copy =
    if nat_le 20 (length copy) && ends_early accept copy then take 20 copy ++ replicate 16 0 else copy

-- a memory that has them at address 0, and nothing else
abbrev pub copy_memory : ℕ → List ℕ → Memory
copy_memory accept copy = record { start = 0; bytes = padded accept copy } ∷ []

-- the RSDP there, by the checks of one at an address
abbrev pub copied_rsdp : ℕ → List ℕ → Result Rsdp AcpiError
copied_rsdp accept copy =
    let m = copy_memory accept copy in
    result_map (λ bytes. accepted_rsdp accept m (0, bytes)) (accepted_rsdp_at accept m 0)

-- the number of a start at a root table
abbrev pub start_at : RootKind → ℕ
start_at Rsdt = 1
start_at Xsdt = 2

-- the source with a start at the root table that an RSDP points to
abbrev pub started_by : Source → Rsdp → Source
started_by s rsdp = record {
  regions = s.regions;
  address = (root_of rsdp).address;
  start = start_at (root_of rsdp).kind;
  accept = s.accept;
}

abbrev pub source_of_rsdp : List ℕ → Source → Result Source Refusal
source_of_rsdp copy s = refused_as (result_map (started_by s) (copied_rsdp s.accept copy))
