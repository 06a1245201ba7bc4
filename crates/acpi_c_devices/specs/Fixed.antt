-- The fixed hardware (FADT, section 5.2.9) as C gets it.
use Rattle.std.specs.Prelude.{ℕ, List, nat_lt, replicate, if◌then◌else◌, Option, Some, None, Result, Ok, Err}
use Rattle.acpi_base.specs.FromStd.{result_unwrap_or}
use Rattle.acpi_base.specs.Words.{field_of, generic_address_of, space_code}
use Rattle.acpi_fixed.specs.Words.{dsdt_address_of, facs_address_of, fadt_at, pm_timer_of, profile_code, profile_of, registers_of, arm_bits, feature_bits, pc_bits, gpe_of, block_of, optional_block_of, register_of}
use Rattle.acpi.specs.Types.{Fadt, GpeBlock}
use Rattle.acpi.specs.Words.{fadt_kind}
use Rattle.acpi_c_lib.specs.Below.{AcpiError, below_first}
use Rattle.acpi_c_devices.specs.Devices.{optional_register, required_register}
use Rattle.acpi_c_devices.specs.Records as records
use Rattle.acpi_c_devices.specs.Types.{FixedHardware, Refusal, Source}

-- no block of general purpose events: zeros, and 0 if there is none or 2 if its address is an error
abbrev pub no_gpe : ℕ → records.GpeBlock
no_gpe present = record { address = 0; space = 0; byte_length = 0; present = present; reserved = replicate 5 0 }

abbrev pub gpe_record : Result (Option GpeBlock) AcpiError → records.GpeBlock
gpe_record (Ok (Some b)) =
    record {
      address = b.address;
      space = space_code b.space;
      byte_length = b.byte_length;
      present = 1;
      reserved = replicate 5 0;
    }
gpe_record (Ok None) = no_gpe 0
gpe_record (Err e) = no_gpe 2

-- Revision: the FADT Major Version
abbrev pub revision_in : List ℕ → ℕ
revision_in table = field_of table 8 1

-- FADT Minor Version
abbrev pub minor_revision_in : List ℕ → ℕ
minor_revision_in table = field_of table 131 1

-- Hypervisor Vendor Identity, which a FADT has from revision 6 on
abbrev pub hypervisor_id_in : List ℕ → ℕ
hypervisor_id_in table = if nat_lt (revision_in table) 6 then 0 else field_of table 268 8

-- the fixed hardware that a FADT describes (section 5.2.9): fields that no call decodes are read as they are
abbrev pub fixed_record : Fadt → ℕ → ℕ → ℕ → FixedHardware
fixed_record f revision minor_revision hypervisor_id = record {
  -- an address is an error only if it is 0
  facs_address = result_unwrap_or (facs_address_of f) 0;
  dsdt_address = result_unwrap_or (dsdt_address_of f) 0;
  pm1a_event = required_register (block_of (registers_of f).pm1a_event);
  pm1b_event = optional_register (optional_block_of (registers_of f).pm1b_event);
  pm1a_control = required_register (block_of (registers_of f).pm1a_control);
  pm1b_control = optional_register (optional_block_of (registers_of f).pm1b_control);
  pm2_control = optional_register (optional_block_of (registers_of f).pm2_control);
  pm_timer = optional_register (pm_timer_of f);
  gpe0 = optional_register (optional_block_of (registers_of f).gpe0);
  gpe1 = optional_register (optional_block_of (registers_of f).gpe1);
  reset = required_register (generic_address_of (registers_of f).reset);
  sleep_control = optional_register (register_of (registers_of f).sleep_control);
  sleep_status = optional_register (register_of (registers_of f).sleep_status);
  gpe0_block = gpe_record (gpe_of (registers_of f).gpe0);
  gpe1_block = gpe_record (gpe_of (registers_of f).gpe1);
  smi_command = f.smi_cmd_port;
  flags = feature_bits f.flags;
  sci_interrupt = f.sci_interrupt;
  x86_boot_flags = pc_bits f.iapc_boot_arch;
  arm_boot_flags = arm_bits f.arm_boot_arch;
  c2_latency = f.worst_c2_latency;
  c3_latency = f.worst_c3_latency;
  flush_size = f.flush_size;
  flush_stride = f.flush_stride;
  power_profile = profile_code (profile_of f);
  acpi_enable = f.acpi_enable;
  acpi_disable = f.acpi_disable;
  s4bios_request = f.s4bios_req;
  pstate_control = f.pstate_control;
  c_state_control = f.c_state_control;
  gpe1_base = f.gpe1_base;
  duty_offset = f.duty_offset;
  duty_width = f.duty_width;
  day_alarm = f.day_alarm;
  month_alarm = f.month_alarm;
  century = f.century;
  reset_value = f.reset_value;
  revision = revision;
  minor_revision = minor_revision;
  hypervisor_id = hypervisor_id;
  reserved = replicate 3 0;
}

-- the fixed hardware of the first valid FADT
abbrev pub fixed_below : Source → Result FixedHardware Refusal
fixed_below s = below_first fadt_kind s (λ table.
    fixed_record (fadt_at table) (revision_in table) (minor_revision_in table) (hypervisor_id_in table))
