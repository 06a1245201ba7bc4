-- The FADT that is written for C (section 5.2.9), from the record as which it is read.
use Rattle.std.specs.Prelude.{ℕ, ◌&&◌, ◌||◌, ◌==◌, Bool, not, is_ok, nat_le, Option, Some, None, if◌then◌else◌}
use Rattle.acpi_c_devices.specs.Records as records
use Rattle.acpi_c_devices.specs.Types.{result_unwrap_or, access_size_of, space_of, has_bit, Undefined, AddressSpace, SystemMemory, GenericAddress, GpeBlock, profile_for, FixedHardware, Register, FadtContents, FadtHardware, Fixed, Reduced, LegacyFields, ArmBootFeatures, FixedFeatures, PcBootFeatures}

-- ---- registers

abbrev pub is_space : ℕ → Bool
is_space code = is_ok (space_of code)

abbrev pub space : ℕ → AddressSpace
space code = result_unwrap_or (space_of code) SystemMemory

abbrev pub register : records.GenericAddress → GenericAddress
register g = record {
  address_space = space g.space;
  bit_width = g.bit_width;
  bit_offset = g.bit_offset;
  access_size = result_unwrap_or (access_size_of g.access_size) Undefined;
  address = g.address;
}

-- of registers and blocks that may not be there, none is at address 0
abbrev pub is_there : ℕ → ℕ → Bool
is_there present address = not (present == 0) && not (address == 0)

abbrev pub optional : Register → Option GenericAddress
optional r = if is_there r.present r.at.address then Some (register r.at) else None

abbrev pub gpe : records.GpeBlock → Option GpeBlock
gpe b =
    if is_there b.present b.address
    then Some (record { space = space b.space; address = b.address; byte_length = b.byte_length })
    else None

-- ---- flags, by name

abbrev pub features : ℕ → FixedFeatures
features n = record {
  supports_equivalent_to_wbinvd = has_bit n 0;  -- WBINVD
  wbinvd_flushes_all_caches = has_bit n 1;  -- WBINVD_FLUSH
  all_procs_support_c1_power_state = has_bit n 2;  -- PROC_C1
  c2_configured_for_mp_system = has_bit n 3;  -- P_LVL2_UP
  power_button_is_control_method = has_bit n 4;  -- PWR_BUTTON
  sleep_button_is_control_method = has_bit n 5;  -- SLP_BUTTON
  no_rtc_wake_in_fixed_register_space = has_bit n 6;  -- FIX_RTC
  rtc_wakes_system_from_s4 = has_bit n 7;  -- RTC_S4
  pm_timer_is_32_bit = has_bit n 8;  -- TMR_VAL_EXT
  supports_docking = has_bit n 9;  -- DCK_CAP
  case_is_sealed = has_bit n 11;  -- SEALED_CASE
  system_is_headless = has_bit n 12;  -- HEADLESS
  use_instr_after_write_to_slp_typx = has_bit n 13;  -- CPU_SW_SLP
  supports_pciexp_wake_in_pm1 = has_bit n 14;  -- PCI_EXP_WAK
  use_pm_or_hpet_for_monotonically_decreasing_timers = has_bit n 15;  -- USE_PLATFORM_CLOCK
  rtc_sts_is_valid_after_wakeup_from_s4 = has_bit n 16;  -- S4_RTC_STS_VALID
  ospm_may_leave_gpe_wake_events_armed_before_s5 = has_bit n 17;  -- REMOTE_POWER_ON_CAPABLE
  lapics_must_use_cluster_model_for_logical_mode = has_bit n 18;  -- FORCE_APIC_CLUSTER_MODEL
  local_xapics_must_use_physical_destination_mode = has_bit n 19;  -- FORCE_APIC_PHYSICAL_DESTINATION_MODE
  no_benefit_to_s3 = has_bit n 21;  -- LOW_POWER_S0_IDLE_CAPABLE
}

abbrev pub pc_boot : ℕ → PcBootFeatures
pc_boot n = record {
  legacy_devices_are_accessible = has_bit n 0;  -- LEGACY_DEVICES
  motherboard_implements_8042 = has_bit n 1;  -- 8042
  dont_probe_vga = has_bit n 2;  -- VGA Not Present
  dont_enable_msi = has_bit n 3;  -- MSI Not Supported
  dont_enable_pcie_aspm = has_bit n 4;  -- PCIe ASPM Controls
  use_time_and_alarm_namespace_for_rtc = has_bit n 5;  -- CMOS RTC Not Present
}

abbrev pub arm_boot : ℕ → ArmBootFeatures
arm_boot n = record {
  implements_psci = has_bit n 0;  -- PSCI_COMPLIANT
  use_hvc_as_psci_conduit = has_bit n 1;  -- PSCI_USE_HVC
}

-- ---- what the FADT is to contain

-- HW_REDUCED_ACPI means that there is no fixed hardware
abbrev pub hardware : FixedHardware → FadtHardware
hardware h = if has_bit h.flags 20 then Reduced else Fixed (record {
  smi_cmd_port = h.smi_command;
  acpi_enable = h.acpi_enable;
  acpi_disable = h.acpi_disable;
  s4bios_req = h.s4bios_request;
  pstate_control = h.pstate_control;
  c_state_control = h.c_state_control;
  pm1a_event = register h.pm1a_event.at;
  pm1b_event = optional h.pm1b_event;
  pm1a_control = register h.pm1a_control.at;
  pm1b_control = optional h.pm1b_control;
  pm2_control = optional h.pm2_control;
  pm_timer = optional h.pm_timer;
  gpe0 = gpe h.gpe0_block;
  gpe1 = gpe h.gpe1_block;
  gpe1_base = h.gpe1_base;
})

abbrev pub legacy : FixedHardware → LegacyFields
legacy h = record {
  worst_c2_latency = h.c2_latency;
  worst_c3_latency = h.c3_latency;
  flush_size = h.flush_size;
  flush_stride = h.flush_stride;
  duty_offset = h.duty_offset;
  duty_width = h.duty_width;
  day_alarm = h.day_alarm;
  month_alarm = h.month_alarm;
  century = h.century;
}

-- RESET_REG_SUP means that there is a register that resets the machine
abbrev pub reset : FixedHardware → Option GenericAddress
reset h = if has_bit h.flags 10 then Some (register h.reset.at) else None

abbrev pub facs : ℕ → Option ℕ
facs address = if address == 0 then None else Some address

abbrev pub contents : FixedHardware → FadtContents
contents h = record {
  dsdt = h.dsdt_address;
  facs = facs h.facs_address;
  power_profile = profile_for h.power_profile;
  sci_interrupt = h.sci_interrupt;
  hardware = hardware h;
  reset_register = reset h;
  reset_value = h.reset_value;
  sleep_control = optional h.sleep_control;
  sleep_status = optional h.sleep_status;
  features = features h.flags;
  pc_boot = pc_boot h.x86_boot_flags;
  arm_boot = arm_boot h.arm_boot_flags;
  legacy = legacy h;
}

-- ---- codes

-- the codes of a register are none that are reserved
abbrev pub has_codes_at : records.GenericAddress → Bool
has_codes_at a = is_space a.space && is_ok (access_size_of a.access_size)

-- `present` is 0 or 1, and so are the codes of a register that is there
abbrev pub has_optional_codes : Register → Bool
has_optional_codes r = nat_le r.present 1 && (not (is_there r.present r.at.address) || has_codes_at r.at)

abbrev pub has_gpe_codes : records.GpeBlock → Bool
has_gpe_codes b = nat_le b.present 1 && (not (is_there b.present b.address) || is_space b.space)

abbrev pub has_block_codes : FixedHardware → Bool
has_block_codes h =
    has_codes_at h.pm1a_event.at && (has_codes_at h.pm1a_control.at && (has_optional_codes h.pm1b_event
    && (has_optional_codes h.pm1b_control && (has_optional_codes h.pm2_control && (has_optional_codes h.pm_timer
    && (has_gpe_codes h.gpe0_block && has_gpe_codes h.gpe1_block))))))

-- of what is written: no block of reduced hardware, and no `reset` without RESET_REG_SUP
abbrev pub has_codes : FixedHardware → Bool
has_codes h =
    (has_bit h.flags 20 || has_block_codes h) && ((not (has_bit h.flags 10) || has_codes_at h.reset.at)
    && (has_optional_codes h.sleep_control && has_optional_codes h.sleep_status))
