-- Made by scripts/words: what proofs, contracts and the crates above bring in from this crate's specs.
pub use Rattle.acpi.specs.Words.{
  ecam_address,
  is_of,
  pointers_left,
}
pub use Rattle.acpi_base.specs.Words.{
  IsEntry,
  mcfg_entries_left,
}
unfoldable pub use Rattle.acpi_base.specs.Words.{cut}
pub use Rattle.acpi_c_devices.specs.Affinities.{
  affinity_shown,
  below_srat,
  counted_if,
  initiator_shown,
  its_shown,
  memory_shown,
  processor_affinity,
}
pub use Rattle.acpi_c_devices.specs.Console.{console_below}
pub use Rattle.acpi_c_devices.specs.Devices.{
  generic_record,
  graphic_below,
  graphic_record,
  hpet_below,
  hpet_in,
  hpet_shown,
  hpets_below,
  hpets_in,
  no_register,
  optional_register,
  register_if,
  required_register,
  timer_below,
  timer_record,
}
pub use Rattle.acpi_c_devices.specs.Fixed.{
  fixed_below,
  gpe_record,
  hypervisor_id_in,
  no_gpe,
}
pub use Rattle.acpi_c_devices.specs.Iommu.{
  block_record,
  dmar_flags_below,
  dmar_flags_record,
  dmar_hpet_below,
  dmar_io_apic_below,
  dmar_reserved_below,
  dmar_unit_below,
  ivrs_memory_below,
  ivrs_unit_below,
  memory_record,
  reserved_record,
  source_record,
  unit_record,
}
pub use Rattle.acpi_c_devices.specs.IommuFaults.{
  dmar_faults_below,
  dmar_faults_of,
  iommu_fault,
  iommu_faults_from,
  ivrs_faults_below,
  ivrs_faults_of,
}
pub use Rattle.acpi_c_devices.specs.IommuLists.{
  dmar_scopes_below,
  drhd_shown,
  entry_shown,
  hid_part,
  is_ivhd_block,
  is_of_type,
  ivhd_in,
  ivhd_shown,
  ivrs_entries_below,
  scope_record,
  special_or,
  structure_in,
  structure_scopes_below,
}
pub use Rattle.acpi_c_devices.specs.IommuRegions.{
  below_dmar,
  below_ivrs,
  dmar_affinity_shown,
  ivmd_shown,
  rmrr_shown,
  root_ports_shown,
}
pub use Rattle.acpi_c_devices.specs.Numa.{
  IsLocalities,
  distance_below,
  domain_of_address_below,
  domain_of_apic_below,
  domain_of_processor_below,
  no_domain,
  slit_in,
  srat_fault,
  srat_faults_below,
  srat_faults_of,
}
pub use Rattle.acpi_c_devices.specs.Pci.{
  ecam_below,
  ecam_ranges_below,
  ecam_record,
  pci_record,
  pci_regions_below,
}
pub use Rattle.acpi_c_devices.specs.Power.{
  accepted_answer,
  dsdt_answer,
  enable_plan_below,
  kind_code,
  plan_record,
  plan_said,
  reset_plan_below,
  sleep_plan_below,
  sleep_types_below,
  step_record,
  types_below,
}
pub use Rattle.acpi_c_devices.specs.Types.{InvalidSratEntryLength}
pub use Rattle.acpi_c_devices.specs.WrittenFacs.{facs_contents}
pub use Rattle.acpi_numa.specs.Words.{
  revision_of,
  srat_grammar,
  srat_layout,
}
pub use Rattle.acpi_numa.specs.declared.srat.entry.SratEntry.{SratEntry}
