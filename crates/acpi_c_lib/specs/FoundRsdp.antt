-- The RSDP (section 5.2.5.3) as C gets it.
use Rattle.std.specs.Prelude.{ℕ, List, Result, Ok, unwrap_or}
use Rattle.acpi_base.specs.Words.{◌>>=◌}
use Rattle.acpi.specs.Words.{accepted_rsdp}
use Rattle.acpi.specs.Rsdp.{unless_first}
use Rattle.acpi_c_lib.specs.Below.{Refusal, Source, check_policy, rsdp_in, rsdp_length}
use Rattle.acpi_c_lib.specs.Types.{Rsdp}
use Rattle.acpi_c_lib.specs.Records as records
use Rattle.acpi_c_lib.specs.Regions.{memory_in}

-- an RSDP at an address
abbrev pub rsdp_record : ℕ → Rsdp → records.Rsdp
rsdp_record address rsdp =
    record {
      address = address;
      xsdt_address = unwrap_or (unless_first rsdp rsdp.xsdt_address) 0;
      rsdt_address = rsdp.rsdt_address;
      length = rsdp_length rsdp;
      revision = rsdp.revision;
      oem_id = rsdp.oem_id;
      reserved = 0;
    }

-- that of the tables that a caller names
abbrev pub rsdp_below : Source → Result records.Rsdp Refusal
rsdp_below s = do
  m ← memory_in s.regions.now
  _ ← check_policy s
  found ← rsdp_in m s
  Ok (rsdp_record found.0 (accepted_rsdp s.accept m found))
