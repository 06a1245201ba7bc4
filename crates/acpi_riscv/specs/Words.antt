-- Made by scripts/words: what proofs, contracts and the crates above bring in from this crate's specs.
pub use Rattle.acpi_riscv.specs.Entries.{
  aplic_at,
  entries_left,
  entries_of,
  entry_of,
  imsic_at,
  is_short,
  least_of,
  plic_at,
  rintc_at,
}
