-- The bytes of a FADT with given contents (ACPI 6.4, section 5.2.9).
use Rattle.std.specs.Prelude.{ℕ, ◌*◌, ◌/◌, ◌^◌, ◌==◌, ◌&&◌, Bool, true, false, not, if◌then◌else◌, List, [], ◌∷◌, ◌++◌, flat_map, nat_le, nat_lt, replicate, Option, Some, None, Result, ◌≡◌, Ok, All, ok_or, option_map}
use Rattle.acpi.specs.Types.{Fadt}
use Rattle.acpi_table_writer.specs.Words.{fields_bytes, FitsField, flag_number, flag_at, is_register, register_bytes, register_or_zeros, FitsRegister, table_written, IsTableOf, IsValid}
use Rattle.acpi_writer.specs.Types.{list_all, ◌>>=◌, holds, generic_address_of, has_bit, Undefined, AddressSpace, SystemIo, GenericAddress, FADT, GpeBlock, InvalidFacsAddress, is_profile, profile_code, dsdt_address_of, facs_address_of, fadt_at, pm_timer_of, profile_of, registers_of, arm_bits, feature_bits, pc_bits, gpe_of, block_of, optional_block_of, register_of, WriterError, BadProfile, BadRegister, NoAddress, FadtContents, FadtHardware, Fixed, Reduced, FixedHardware, ArmBootFeatures, FixedFeatures, PcBootFeatures, TableIds, PmTimer, LegacyFields, timer_of, Field, U8, U16, U32, U64, Zeros}

-- ---- the values of fields

-- the fixed hardware, with zeros throughout if there is none
abbrev pub fixed_of : FadtHardware → FixedHardware
fixed_of (Fixed h) = h
fixed_of Reduced = record {
  smi_cmd_port = 0;
  acpi_enable = 0;
  acpi_disable = 0;
  s4bios_req = 0;
  pstate_control = 0;
  c_state_control = 0;
  pm1a_event = register_or_zeros None;
  pm1b_event = None;
  pm1a_control = register_or_zeros None;
  pm1b_control = None;
  pm2_control = None;
  pm_timer = None;
  gpe0 = None;
  gpe1 = None;
  gpe1_base = 0;
}

abbrev pub is_reduced : FadtHardware → Bool
is_reduced Reduced = true
is_reduced (Fixed h) = false

abbrev pub is_given : {A : Type 0} → Option A → Bool
is_given (Some x) = true
is_given None = false

-- a block of general purpose events as a register, eight bits for each byte as far as a width can hold it
abbrev pub gpe_register : Option GpeBlock → Option GenericAddress
gpe_register (Some b) = Some (record {
  address_space = b.space;
  bit_width = if nat_lt b.byte_length 32 then 8 * b.byte_length else 255;
  bit_offset = 0;
  access_size = Undefined;
  address = b.address;
})
gpe_register None = None

abbrev pub gpe_length : Option GpeBlock → ℕ
gpe_length (Some b) = b.byte_length
gpe_length None = 0

-- the whole bytes of a register
abbrev pub bytes_wide : Option GenericAddress → ℕ
bytes_wide o = (register_or_zeros o).bit_width / 8

-- PM_TMR_LEN: the bytes of the timer, if there is one
abbrev pub timer_length : Option GenericAddress → ℕ
timer_length o = if is_given o then 4 else 0

-- an address, if a field of 32 bits has a place for it, else 0
abbrev pub narrow : ℕ → ℕ
narrow a = if nat_lt a (2 ^ 32) then a else 0

-- an address of the processor's ports, in the same way
abbrev pub port_in : AddressSpace → ℕ → ℕ
port_in SystemIo a = narrow a
port_in _ a = 0

abbrev pub port_of : Option GenericAddress → ℕ
port_of (Some g) = port_in g.address_space g.address
port_of None = 0

abbrev pub address_or_zero : Option ℕ → ℕ
address_or_zero (Some a) = a
address_or_zero None = 0

-- ---- flags, bit 0 first

-- Fixed Feature Flags: what the fixed hardware does and needs (section 5.2.9). The fields `hardware` and
-- `reset_register` of the contents give HW_REDUCED_ACPI, bit 20, and RESET_REG_SUP, bit 10
abbrev pub flags_with : FixedFeatures → Bool → Bool → List Bool
flags_with f reset reduced =
    f.supports_equivalent_to_wbinvd  -- WBINVD
    ∷ f.wbinvd_flushes_all_caches  -- WBINVD_FLUSH
    ∷ f.all_procs_support_c1_power_state  -- PROC_C1
    ∷ f.c2_configured_for_mp_system  -- P_LVL2_UP
    ∷ f.power_button_is_control_method  -- PWR_BUTTON
    ∷ f.sleep_button_is_control_method  -- SLP_BUTTON
    ∷ f.no_rtc_wake_in_fixed_register_space  -- FIX_RTC
    ∷ f.rtc_wakes_system_from_s4  -- RTC_S4
    ∷ f.pm_timer_is_32_bit  -- TMR_VAL_EXT
    ∷ f.supports_docking  -- DCK_CAP
    ∷ reset  -- RESET_REG_SUP
    ∷ f.case_is_sealed  -- SEALED_CASE
    ∷ f.system_is_headless  -- HEADLESS
    ∷ f.use_instr_after_write_to_slp_typx  -- CPU_SW_SLP
    ∷ f.supports_pciexp_wake_in_pm1  -- PCI_EXP_WAK
    ∷ f.use_pm_or_hpet_for_monotonically_decreasing_timers  -- USE_PLATFORM_CLOCK
    ∷ f.rtc_sts_is_valid_after_wakeup_from_s4  -- S4_RTC_STS_VALID
    ∷ f.ospm_may_leave_gpe_wake_events_armed_before_s5  -- REMOTE_POWER_ON_CAPABLE
    ∷ f.lapics_must_use_cluster_model_for_logical_mode  -- FORCE_APIC_CLUSTER_MODEL
    ∷ f.local_xapics_must_use_physical_destination_mode  -- FORCE_APIC_PHYSICAL_DESTINATION_MODE
    ∷ reduced  -- HW_REDUCED_ACPI
    ∷ f.no_benefit_to_s3  -- LOW_POWER_S0_IDLE_CAPABLE
    ∷ []

abbrev pub feature_flags : FadtContents → List Bool
feature_flags c = flags_with c.features (is_given c.reset_register) (is_reduced c.hardware)

abbrev pub feature_number : FadtContents → ℕ
feature_number c = flag_number (feature_flags c)

-- IAPC_BOOT_ARCH, the IA-PC Boot Architecture Flags: the devices of a PC (section 5.2.9.3)
abbrev pub pc_flags : PcBootFeatures → List Bool
pc_flags p =
    p.legacy_devices_are_accessible  -- LEGACY_DEVICES
    ∷ p.motherboard_implements_8042  -- 8042
    ∷ p.dont_probe_vga  -- VGA Not Present
    ∷ p.dont_enable_msi  -- MSI Not Supported
    ∷ p.dont_enable_pcie_aspm  -- PCIe ASPM Controls
    ∷ p.use_time_and_alarm_namespace_for_rtc  -- CMOS RTC Not Present
    ∷ []

-- ARM_BOOT_ARCH, the Arm Boot Architecture Flags: the way in which the firmware of an Arm machine is called (section
-- 5.2.9.4)
abbrev pub arm_flags : ArmBootFeatures → List Bool
arm_flags a =
    a.implements_psci  -- PSCI_COMPLIANT
    ∷ a.use_hvc_as_psci_conduit  -- PSCI_USE_HVC
    ∷ []

-- ---- the fields after the header

-- the fields before RESET_REG
unfoldable pub front_fields : FadtContents → FixedHardware → List Field
front_fields c h =
    U32 (narrow (address_or_zero c.facs)) ∷ U32 (narrow c.dsdt)  -- 36: FIRMWARE_CTRL, 40: DSDT
    ∷ Zeros 1 ∷ U8 (profile_code c.power_profile)  -- 44: Reserved, 45: Preferred_PM_Profile
    ∷ U16 c.sci_interrupt ∷ U32 h.smi_cmd_port  -- 46: SCI_INT, 48: SMI_CMD
    ∷ U8 h.acpi_enable ∷ U8 h.acpi_disable  -- 52: ACPI_ENABLE, 53: ACPI_DISABLE
    ∷ U8 h.s4bios_req ∷ U8 h.pstate_control  -- 54: S4BIOS_REQ, 55: PSTATE_CNT
    ∷ U32 (port_of (Some h.pm1a_event)) ∷ U32 (port_of h.pm1b_event)  -- 56: PM1a_EVT_BLK, 60: PM1b_EVT_BLK
    ∷ U32 (port_of (Some h.pm1a_control)) ∷ U32 (port_of h.pm1b_control)  -- 64: PM1a_CNT_BLK, 68: PM1b_CNT_BLK
    ∷ U32 (port_of h.pm2_control) ∷ U32 (port_of h.pm_timer)  -- 72: PM2_CNT_BLK, 76: PM_TMR_BLK
    ∷ U32 (port_of (gpe_register h.gpe0)) ∷ U32 (port_of (gpe_register h.gpe1))  -- 80: GPE0_BLK, 84: GPE1_BLK
    ∷ U8 (bytes_wide (Some h.pm1a_event)) ∷ U8 (bytes_wide (Some h.pm1a_control))  -- 88: PM1_EVT_LEN, 89: PM1_CNT_LEN
    ∷ U8 (bytes_wide h.pm2_control) ∷ U8 (timer_length h.pm_timer)  -- 90: PM2_CNT_LEN, 91: PM_TMR_LEN
    ∷ U8 (gpe_length h.gpe0) ∷ U8 (gpe_length h.gpe1)  -- 92: GPE0_BLK_LEN, 93: GPE1_BLK_LEN
    ∷ U8 h.gpe1_base ∷ U8 h.c_state_control  -- 94: GPE1_BASE, 95: CST_CNT
    ∷ U16 c.legacy.worst_c2_latency ∷ U16 c.legacy.worst_c3_latency  -- 96: P_LVL2_LAT, 98: P_LVL3_LAT
    ∷ U16 c.legacy.flush_size ∷ U16 c.legacy.flush_stride  -- 100: FLUSH_SIZE, 102: FLUSH_STRIDE
    ∷ U8 c.legacy.duty_offset ∷ U8 c.legacy.duty_width  -- 104: DUTY_OFFSET, 105: DUTY_WIDTH
    ∷ U8 c.legacy.day_alarm ∷ U8 c.legacy.month_alarm  -- 106: DAY_ALRM, 107: MON_ALRM
    ∷ U8 c.legacy.century ∷ U16 (flag_number (pc_flags c.pc_boot))  -- 108: CENTURY, 109: IAPC_BOOT_ARCH
    ∷ Zeros 1 ∷ U32 (feature_number c)  -- 111: Reserved, 112: Flags
    ∷ []

-- the fields between RESET_REG, at 116, and the registers
unfoldable pub wide_fields : FadtContents → List Field
wide_fields c =
    U8 c.reset_value ∷ U16 (flag_number (arm_flags c.arm_boot))  -- 128: RESET_VALUE, 129: ARM_BOOT_ARCH
    ∷ U8 4  -- 131: FADT Minor Version
    ∷ U64 (address_or_zero c.facs) ∷ U64 c.dsdt  -- 132: X_FIRMWARE_CTRL, 140: X_DSDT
    ∷ []

-- at 148 X_PM1a_EVT_BLK, 160 X_PM1b_EVT_BLK, 172 X_PM1a_CNT_BLK, 184 X_PM1b_CNT_BLK, 196 X_PM2_CNT_BLK, 208
-- X_PM_TMR_BLK, 220 X_GPE0_BLK, 232 X_GPE1_BLK, 244 SLEEP_CONTROL_REG, 256 SLEEP_STATUS_REG
abbrev pub registers : FadtContents → FixedHardware → List (Option GenericAddress)
registers c h =
    Some h.pm1a_event ∷ h.pm1b_event ∷ Some h.pm1a_control ∷ h.pm1b_control ∷ h.pm2_control ∷ h.pm_timer
    ∷ gpe_register h.gpe0 ∷ gpe_register h.gpe1 ∷ c.sleep_control ∷ c.sleep_status ∷ []

-- all of it: Hypervisor Vendor Identity is at 268
abbrev pub body_with : FadtContents → FixedHardware → List ℕ
body_with c h =
    fields_bytes (front_fields c h) ++ (register_bytes c.reset_register ++ (fields_bytes (wide_fields c)
    ++ (flat_map register_bytes (registers c h) ++ replicate 8 0)))

abbrev pub fadt_body : FadtContents → List ℕ
fadt_body c = body_with c (fixed_of c.hardware)

-- ---- errors

-- the DSDT, and the FACS if there is one, are at an address other than 0
abbrev pub has_address : Option ℕ → Bool
has_address (Some a) = not (a == 0)
has_address None = true

abbrev pub are_placed : FadtContents → Bool
are_placed c = not (c.dsdt == 0) && has_address c.facs

-- a register of fixed hardware, if there is one, has bytes
abbrev pub has_bytes : Option GenericAddress → Bool
has_bytes (Some g) = nat_le 8 g.bit_width
has_bytes None = true

abbrev pub is_block : Option GenericAddress → Bool
is_block o = is_register o && has_bytes o

-- the blocks that fixed hardware need not have, but for the timer, of which PM_TMR_LEN is 4 whatever its width is
abbrev pub optional_blocks : FixedHardware → List (Option GenericAddress)
optional_blocks h =
    h.pm1b_event ∷ h.pm1b_control ∷ h.pm2_control ∷ gpe_register h.gpe0 ∷ gpe_register h.gpe1 ∷ []

abbrev pub are_blocks : FadtHardware → Bool
are_blocks Reduced = true
are_blocks (Fixed h) = is_register h.pm_timer
    && list_all is_block (Some h.pm1a_event ∷ Some h.pm1a_control ∷ optional_blocks h)

-- and of the registers that any hardware may have
abbrev pub are_registers : FadtContents → Bool
are_registers c =
    are_blocks c.hardware && (is_register c.reset_register
    && (is_register c.sleep_control && is_register c.sleep_status))

-- the first error of the contents
abbrev pub fadt_checked : FadtContents → Result (Unit {0}) WriterError
fadt_checked c = do
  _ ← holds (are_placed c) NoAddress
  _ ← holds (is_profile c.power_profile) BadProfile
  holds (are_registers c) BadRegister

-- the table, of revision 6, in so much room, or the first error
unfoldable pub fadt_written : ℕ → TableIds → FadtContents → Result (List ℕ) WriterError
fadt_written room ids c = do
  _ ← fadt_checked c
  table_written room FADT 6 ids (fadt_body c)

-- ---- the numbers have a place

abbrev pub AreFitFor : FadtContents → FixedHardware → Type 0
AreFitFor c h =
    All FitsField (front_fields c h) × (FitsRegister c.reset_register × (All FitsField (wide_fields c)
    × (All FitsRegister (registers c h) × Unit {0})))

abbrev pub FitsFadt : FadtContents → Type 0
FitsFadt c = AreFitFor c (fixed_of c.hardware)

-- the bytes are the table of contents whose numbers have a place, and that no error is for
pub record IsFadt (ids : TableIds) (c : FadtContents) (table : List ℕ) : Type 0 where
  pub written : IsTableOf FADT 6 ids (fadt_body c) table
  pub fit : FitsFadt c
  pub checked : fadt_checked c ≡ Ok tt

-- ---- what is to be read

-- the fields of any hardware
pub record HasFields (c : FadtContents) (f : Fadt) : Type 0 where
  pub dsdt : dsdt_address_of f ≡ Ok c.dsdt
  pub facs : facs_address_of f ≡ ok_or c.facs InvalidFacsAddress
  pub profile : profile_of f ≡ c.power_profile
  pub sci : f.sci_interrupt ≡ c.sci_interrupt
  pub reset_register : generic_address_of (registers_of f).reset ≡ Ok (register_or_zeros c.reset_register)
  pub reset_value : f.reset_value ≡ c.reset_value
  pub sleep_control : register_of (registers_of f).sleep_control ≡ Ok (Some (register_or_zeros c.sleep_control))
  pub sleep_status : register_of (registers_of f).sleep_status ≡ Ok (Some (register_or_zeros c.sleep_status))

-- each flag is at its bit, and all bits after them are clear
pub record HasFlags (c : FadtContents) (f : Fadt) : Type 0 where
  pub features : (k : ℕ) → has_bit (feature_bits f.flags) k ≡ flag_at (feature_flags c) k
  pub pc : (k : ℕ) → has_bit (pc_bits f.iapc_boot_arch) k ≡ flag_at (pc_flags c.pc_boot) k
  pub arm : (k : ℕ) → has_bit (arm_bits f.arm_boot_arch) k ≡ flag_at (arm_flags c.arm_boot) k

-- what the first versions have of processors and of the clock
pub record HasLegacy (l : LegacyFields) (f : Fadt) : Type 0 where
  pub c2 : f.worst_c2_latency ≡ l.worst_c2_latency
  pub c3 : f.worst_c3_latency ≡ l.worst_c3_latency
  pub size : f.flush_size ≡ l.flush_size
  pub stride : f.flush_stride ≡ l.flush_stride
  pub duty_offset : f.duty_offset ≡ l.duty_offset
  pub duty_width : f.duty_width ≡ l.duty_width
  pub day : f.day_alarm ≡ l.day_alarm
  pub month : f.month_alarm ≡ l.month_alarm
  pub century : f.century ≡ l.century

-- the fields of fixed hardware that are 0 if there is none, and the blocks that it need not have
pub record HasHardware (h : FixedHardware) (f : Fadt) : Type 0 where
  pub smi : f.smi_cmd_port ≡ h.smi_cmd_port
  pub enable : f.acpi_enable ≡ h.acpi_enable
  pub disable : f.acpi_disable ≡ h.acpi_disable
  pub s4 : f.s4bios_req ≡ h.s4bios_req
  pub performance : f.pstate_control ≡ h.pstate_control
  pub c_state : f.c_state_control ≡ h.c_state_control
  pub pm1b_event : optional_block_of (registers_of f).pm1b_event ≡ Ok h.pm1b_event
  pub pm1b_control : optional_block_of (registers_of f).pm1b_control ≡ Ok h.pm1b_control
  pub pm2_control : optional_block_of (registers_of f).pm2_control ≡ Ok h.pm2_control
  pub pm_timer : pm_timer_of f ≡ Ok h.pm_timer
  pub gpe0 : gpe_of (registers_of f).gpe0 ≡ Ok h.gpe0
  pub gpe1 : gpe_of (registers_of f).gpe1 ≡ Ok h.gpe1
  pub gpe1_base : f.gpe1_base ≡ h.gpe1_base

-- the blocks that fixed hardware has
pub record HasBlocks (h : FixedHardware) (f : Fadt) : Type 0 where
  pub pm1a_event : block_of (registers_of f).pm1a_event ≡ Ok h.pm1a_event
  pub pm1a_control : block_of (registers_of f).pm1a_control ≡ Ok h.pm1a_control

abbrev pub HasNeededBlocks : FadtHardware → Fadt → Type 0
HasNeededBlocks (Fixed h) f = HasBlocks h f
HasNeededBlocks Reduced f = Unit {0}

-- the timer as a summary has it
abbrev pub timer_read : FadtContents → Option PmTimer
timer_read c = option_map (λ b. record { base = b; supports_32bit = c.features.pm_timer_is_32_bit })
    (fixed_of c.hardware).pm_timer

-- all of it
pub record IsReadAs (c : FadtContents) (f : Fadt) : Type 0 where
  pub fields : HasFields c f
  pub flags : HasFlags c f
  pub legacy : HasLegacy c.legacy f
  pub hardware : HasHardware (fixed_of c.hardware) f
  pub blocks : HasNeededBlocks c.hardware f
  pub timer : timer_of f ≡ Ok (timer_read c)

-- ---- laws

-- such a table is valid
abbrev pub FadtIsValid : Type 0
FadtIsValid = (ids : TableIds) (c : FadtContents) (table : List ℕ) → IsFadt ids c table → IsValid FADT table

-- and what calls of the reader return of it is exactly what was given
abbrev pub FadtIsRead : Type 0
FadtIsRead = (ids : TableIds) (c : FadtContents) (table : List ℕ) → IsFadt ids c table → IsReadAs c (fadt_at table)
