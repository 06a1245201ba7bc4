-- The fixed hardware: the Fixed ACPI Description Table, FADT (ACPI 6.4, section 5.2.9).
use Rattle.std.specs.Prelude.{ℕ, Bool, true, nat_lt, List, [], ◌∷◌, slice_index_or, Option, Result}
use Rattle.acpi_bytes.specs.declared.address.GenericAddress.{GenericAddress}
use Rattle.acpi_bytes.specs.declared.error.AcpiError.{AcpiError}
use Rattle.acpi_base.specs.Words.{IsNumbering, field_of, header_at}
use Rattle.acpi_fixed.specs.declared.fadt.Fadt.{Fadt}
use Rattle.acpi_fixed.specs.declared.fadt.PowerProfile.{PowerProfile}
use Rattle.acpi_fixed.specs.declared.fadt.registers.Registers.{Registers}
use Rattle.acpi_fixed.specs.Registers.{address_or, extended_number, registers_at, timer_block_of}
use Rattle.acpi_bytes.specs.declared.error.AcpiError.TheVariants as refusal
use Rattle.acpi_fixed.specs.declared.fadt.PowerProfile.TheVariants as profiles

-- what a table's bytes mean, in the order in which they are. A plain field that reaches past the end is read as if
-- zeros followed; an extended one is there only if the table has it whole (`Registers`). Made for `HasBlocks`, at least
-- 244 bytes
unfoldable pub fadt_at : List ℕ → Fadt
fadt_at b = record {
  header = header_at b;
  firmware_ctrl = field_of b 36 4;  -- FIRMWARE_CTRL
  dsdt_address = field_of b 40 4;  -- DSDT
  preferred_pm_profile = field_of b 45 1;  -- Preferred_PM_Profile
  sci_interrupt = field_of b 46 2;  -- SCI_INT
  smi_cmd_port = field_of b 48 4;  -- SMI_CMD
  acpi_enable = field_of b 52 1;  -- ACPI_ENABLE
  acpi_disable = field_of b 53 1;  -- ACPI_DISABLE
  s4bios_req = field_of b 54 1;  -- S4BIOS_REQ
  pstate_control = field_of b 55 1;  -- PSTATE_CNT
  registers = registers_at b;
  gpe1_base = field_of b 94 1;  -- GPE1_BASE
  c_state_control = field_of b 95 1;  -- CST_CNT
  worst_c2_latency = field_of b 96 2;  -- P_LVL2_LAT
  worst_c3_latency = field_of b 98 2;  -- P_LVL3_LAT
  flush_size = field_of b 100 2;  -- FLUSH_SIZE
  flush_stride = field_of b 102 2;  -- FLUSH_STRIDE
  duty_offset = field_of b 104 1;  -- DUTY_OFFSET
  duty_width = field_of b 105 1;  -- DUTY_WIDTH
  day_alarm = field_of b 106 1;  -- DAY_ALRM
  month_alarm = field_of b 107 1;  -- MON_ALRM
  century = field_of b 108 1;  -- CENTURY
  iapc_boot_arch = record { 0 = field_of b 109 2 };  -- IAPC_BOOT_ARCH
  flags = record { 0 = field_of b 112 4 };  -- Flags (Fixed Feature Flags)
  reset_value = field_of b 128 1;  -- RESET_VALUE
  arm_boot_arch = record { 0 = field_of b 129 2 };  -- ARM_BOOT_ARCH
  x_firmware_ctrl = extended_number b 132;  -- X_FIRMWARE_CTRL
  x_dsdt_address = extended_number b 140;  -- X_DSDT
}

-- ---- what calls return

-- Preferred_PM_Profile: the profiles in the order of their codes, from 0 on, and the code of each
abbrev pub named_profiles : List PowerProfile
named_profiles =
    profiles.Unspecified ∷ profiles.Desktop ∷ profiles.Mobile ∷ profiles.Workstation
    ∷ profiles.EnterpriseServer ∷ profiles.SohoServer ∷ profiles.AppliancePc
    ∷ profiles.PerformanceServer ∷ profiles.Tablet ∷ []

-- the profile of a code of Preferred_PM_Profile
abbrev pub profile_for : ℕ → PowerProfile
profile_for code = slice_index_or named_profiles code (profiles.Reserved code)

abbrev pub profile_code : PowerProfile → ℕ
profile_code profiles.Unspecified = 0
profile_code profiles.Desktop = 1
profile_code profiles.Mobile = 2
profile_code profiles.Workstation = 3
profile_code profiles.EnterpriseServer = 4
profile_code profiles.SohoServer = 5
profile_code profiles.AppliancePc = 6
profile_code profiles.PerformanceServer = 7
profile_code profiles.Tablet = 8
profile_code (profiles.Reserved code) = code

-- the code is no other profile's
abbrev pub is_profile : PowerProfile → Bool
is_profile (profiles.Reserved code) = nat_lt 8 code
is_profile _ = true

-- each code has one profile
abbrev pub ProfilesDecode : Type 0
ProfilesDecode = IsNumbering is_profile profile_code profile_for

-- what the machine is for
abbrev pub profile_of : Fadt → PowerProfile
profile_of f = profile_for f.preferred_pm_profile

-- the FACS: X_FIRMWARE_CTRL if that is not 0, else FIRMWARE_CTRL; and the DSDT: X_DSDT, else DSDT
abbrev pub facs_address_of : Fadt → Result ℕ AcpiError
facs_address_of f = address_or refusal.InvalidFacsAddress f.x_firmware_ctrl f.firmware_ctrl

abbrev pub dsdt_address_of : Fadt → Result ℕ AcpiError
dsdt_address_of f = address_or refusal.InvalidDsdtAddress f.x_dsdt_address f.dsdt_address

-- of a table's bytes they are its `registers_at`: the law `RegistersAreTheTables` of `acpi_laws`
abbrev pub registers_of : Fadt → Registers
registers_of f = f.registers

abbrev pub pm_timer_of : Fadt → Result (Option GenericAddress) AcpiError
pm_timer_of f = timer_block_of (registers_of f).pm_timer
