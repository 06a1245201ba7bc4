-- The flags of the FADT: Fixed Feature Flags, IAPC_BOOT_ARCH and ARM_BOOT_ARCH (ACPI 6.4, sections 5.2.9, 5.2.9.3 and
-- 5.2.9.4).
use Rattle.std.specs.Prelude.{ℕ, Bool}
use Rattle.acpi_base.specs.Words.{has_bit}
use Rattle.acpi_fixed.specs.declared.fadt.flags.ArmBootArchFlags.{ArmBootArchFlags}
use Rattle.acpi_fixed.specs.declared.fadt.flags.FixedFeatureFlags.{FixedFeatureFlags}
use Rattle.acpi_fixed.specs.declared.fadt.flags.IaPcBootArchFlags.{IaPcBootArchFlags}

-- ---- Fixed Feature Flags

abbrev pub feature_bits : FixedFeatureFlags → ℕ
feature_bits f = f.0

-- WBINVD (bit 0, section 5.2.9): whether `WBINVD` or an equivalent writes back and drops all caches, with memory
-- coherent
abbrev pub supports_equivalent_to_wbinvd : FixedFeatureFlags → Bool
supports_equivalent_to_wbinvd f = has_bit (feature_bits f) 0

-- WBINVD_FLUSH (bit 1, section 5.2.9): whether `WBINVD` writes back all caches, with memory coherent, but may leave
-- them filled
abbrev pub wbinvd_flushes_all_caches : FixedFeatureFlags → Bool
wbinvd_flushes_all_caches f = has_bit (feature_bits f) 1

-- PROC_C1 (bit 2, section 5.2.9): whether each processor has the power state C1
abbrev pub all_procs_support_c1_power_state : FixedFeatureFlags → Bool
all_procs_support_c1_power_state f = has_bit (feature_bits f) 2

-- P_LVL2_UP (bit 3, section 5.2.9): whether the power state C2 works with several processors too, and not with one
-- alone
abbrev pub c2_configured_for_mp_system : FixedFeatureFlags → Bool
c2_configured_for_mp_system f = has_bit (feature_bits f) 3

-- PWR_BUTTON (bit 4, section 5.2.9): whether the power button is handled by a control method or is absent; else it is
-- handled by fixed registers
abbrev pub power_button_is_control_method : FixedFeatureFlags → Bool
power_button_is_control_method f = has_bit (feature_bits f) 4

-- SLP_BUTTON (bit 5, section 5.2.9): whether the sleep button is handled by a control method or is absent; else it is
-- handled by fixed registers
abbrev pub sleep_button_is_control_method : FixedFeatureFlags → Bool
sleep_button_is_control_method f = has_bit (feature_bits f) 5

-- FIX_RTC (bit 6, section 5.2.9): whether a wake by the real time clock shows in no fixed register
abbrev pub no_rtc_wake_in_fixed_register_space : FixedFeatureFlags → Bool
no_rtc_wake_in_fixed_register_space f = has_bit (feature_bits f) 6

-- RTC_S4 (bit 7, section 5.2.9): whether the real time clock can wake the machine from S4
abbrev pub rtc_wakes_system_from_s4 : FixedFeatureFlags → Bool
rtc_wakes_system_from_s4 f = has_bit (feature_bits f) 7

-- TMR_VAL_EXT (bit 8, section 5.2.9): whether the power management timer counts 32 bits; else it counts 24
abbrev pub pm_timer_is_32_bit : FixedFeatureFlags → Bool
pm_timer_is_32_bit f = has_bit (feature_bits f) 8

-- DCK_CAP (bit 9, section 5.2.9): whether the machine can be docked
abbrev pub supports_docking : FixedFeatureFlags → Bool
supports_docking f = has_bit (feature_bits f) 9

-- RESET_REG_SUP (bit 10, section 5.2.9): whether a write of `reset_value` to the reset register resets the machine
abbrev pub supports_system_reset_via_fadt : FixedFeatureFlags → Bool
supports_system_reset_via_fadt f = has_bit (feature_bits f) 10

-- SEALED_CASE (bit 11, section 5.2.9): whether the machine cannot be extended inside and its case is sealed
abbrev pub case_is_sealed : FixedFeatureFlags → Bool
case_is_sealed f = has_bit (feature_bits f) 11

-- HEADLESS (bit 12, section 5.2.9): whether the machine cannot detect if a screen, keyboard or mouse is there
abbrev pub system_is_headless : FixedFeatureFlags → Bool
system_is_headless f = has_bit (feature_bits f) 12

-- CPU_SW_SLP (bit 13, section 5.2.9): whether a processor instruction has to follow a write of the sleep type
abbrev pub use_instr_after_write_to_slp_typx : FixedFeatureFlags → Bool
use_instr_after_write_to_slp_typx f = has_bit (feature_bits f) 13

-- PCI_EXP_WAK (bit 14, section 5.2.9): whether the PM1 registers have the bits for a wake by PCI Express
abbrev pub supports_pciexp_wake_in_pm1 : FixedFeatureFlags → Bool
supports_pciexp_wake_in_pm1 f = has_bit (feature_bits f) 14

-- USE_PLATFORM_CLOCK (bit 15, section 5.2.9): whether timers should be taken from the power management timer or the
-- HPET
abbrev pub use_pm_or_hpet_for_monotonically_decreasing_timers : FixedFeatureFlags → Bool
use_pm_or_hpet_for_monotonically_decreasing_timers f = has_bit (feature_bits f) 15

-- S4_RTC_STS_VALID (bit 16, section 5.2.9): whether the clock's status is right after a wake from S4
abbrev pub rtc_sts_is_valid_after_wakeup_from_s4 : FixedFeatureFlags → Bool
rtc_sts_is_valid_after_wakeup_from_s4 f = has_bit (feature_bits f) 16

-- REMOTE_POWER_ON_CAPABLE (bit 17, section 5.2.9): whether wake events may stay armed when the machine enters S5
abbrev pub ospm_may_leave_gpe_wake_events_armed_before_s5 : FixedFeatureFlags → Bool
ospm_may_leave_gpe_wake_events_armed_before_s5 f = has_bit (feature_bits f) 17

-- FORCE_APIC_CLUSTER_MODEL (bit 18, section 5.2.9): whether local APICs have to use the cluster model in logical mode
abbrev pub lapics_must_use_cluster_model_for_logical_mode : FixedFeatureFlags → Bool
lapics_must_use_cluster_model_for_logical_mode f = has_bit (feature_bits f) 18

-- FORCE_APIC_PHYSICAL_DESTINATION_MODE (bit 19, section 5.2.9): whether local xAPICs have to use the physical
-- destination mode
abbrev pub local_xapics_must_use_physical_destination_mode : FixedFeatureFlags → Bool
local_xapics_must_use_physical_destination_mode f = has_bit (feature_bits f) 19

-- HW_REDUCED_ACPI (bit 20, section 5.2.9): whether the machine has reduced hardware, with software in place of the
-- fixed features
abbrev pub system_is_hw_reduced_acpi : FixedFeatureFlags → Bool
system_is_hw_reduced_acpi f = has_bit (feature_bits f) 20

-- LOW_POWER_S0_IDLE_CAPABLE (bit 21, section 5.2.9): whether S0 saves as much power as S3, so that S3 is of no use
abbrev pub no_benefit_to_s3 : FixedFeatureFlags → Bool
no_benefit_to_s3 f = has_bit (feature_bits f) 21

-- ---- IAPC_BOOT_ARCH

abbrev pub pc_bits : IaPcBootArchFlags → ℕ
pc_bits f = f.0

-- LEGACY_DEVICES (bit 0, section 5.2.9.3): whether the machine has devices on LPC or ISA that a user can see
abbrev pub legacy_devices_are_accessible : IaPcBootArchFlags → Bool
legacy_devices_are_accessible f = has_bit (pc_bits f) 0

-- 8042 (bit 1, section 5.2.9.3): whether the motherboard has a keyboard controller at the ports 0x60 and 0x64
abbrev pub motherboard_implements_8042 : IaPcBootArchFlags → Bool
motherboard_implements_8042 f = has_bit (pc_bits f) 1

-- VGA Not Present (bit 2, section 5.2.9.3): whether VGA hardware must not be probed blindly
abbrev pub dont_probe_vga : IaPcBootArchFlags → Bool
dont_probe_vga f = has_bit (pc_bits f) 2

-- MSI Not Supported (bit 3, section 5.2.9.3): whether message signalled interrupts must not be enabled
abbrev pub dont_enable_msi : IaPcBootArchFlags → Bool
dont_enable_msi f = has_bit (pc_bits f) 3

-- PCIe ASPM Controls (bit 4, section 5.2.9.3): whether power management of PCI Express links must not be enabled
abbrev pub dont_enable_pcie_aspm : IaPcBootArchFlags → Bool
dont_enable_pcie_aspm f = has_bit (pc_bits f) 4

-- CMOS RTC Not Present (bit 5, section 5.2.9.3): whether the clock must be used through its control method, and not by
-- its ports
abbrev pub use_time_and_alarm_namespace_for_rtc : IaPcBootArchFlags → Bool
use_time_and_alarm_namespace_for_rtc f = has_bit (pc_bits f) 5

-- ---- ARM_BOOT_ARCH

abbrev pub arm_bits : ArmBootArchFlags → ℕ
arm_bits f = f.0

-- PSCI_COMPLIANT (bit 0, section 5.2.9.4): whether the machine follows PSCI
abbrev pub implements_psci : ArmBootArchFlags → Bool
implements_psci f = has_bit (arm_bits f) 0

-- PSCI_USE_HVC (bit 1, section 5.2.9.4): whether PSCI is called by HVC in place of SMC
abbrev pub use_hvc_as_psci_conduit : ArmBootArchFlags → Bool
use_hvc_as_psci_conduit f = has_bit (arm_bits f) 1
