-- Made by scripts/words: what proofs, contracts and the crates above bring in from this crate's specs.
pub use Rattle.acpi_fixed.specs.Bgrt.{
  image_type_of,
  offset_of,
  rank_of,
  status_of,
}
unfoldable pub use Rattle.acpi_fixed.specs.Bgrt.{bgrt_at}
pub use Rattle.acpi_fixed.specs.Fadt.{
  ProfilesDecode,
  dsdt_address_of,
  facs_address_of,
  is_profile,
  named_profiles,
  pm_timer_of,
  profile_code,
  profile_for,
  profile_of,
  registers_of,
}
unfoldable pub use Rattle.acpi_fixed.specs.Fadt.{fadt_at}
pub use Rattle.acpi_fixed.specs.Flags.{
  arm_bits,
  feature_bits,
  pc_bits,
}
pub use Rattle.acpi_fixed.specs.Gpe.{
  base_beside,
  block_from,
  gpe1_base_of,
  gpe_of,
  gpe_with,
}
pub use Rattle.acpi_fixed.specs.Registers.{
  HasBlocks,
  address_or,
  block_of,
  block_or_ports,
  extended_address,
  extended_bytes,
  extended_number,
  extended_of,
  has_extended,
  kept_of,
  optional_block_of,
  optional_block_or_ports,
  port_of,
  ports_at,
  reach_of,
  register_of,
  registers_at,
  timer_block_of,
  timer_block_or_ports,
  usable_extended,
  whole_of,
}
unfoldable pub use Rattle.acpi_fixed.specs.Registers.{block_at}
pub use Rattle.acpi_fixed.specs.View.{viewed}
