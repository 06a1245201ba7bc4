-- Made by scripts/words: what proofs, contracts and the crates above bring in from this crate's specs.
pub use Rattle.acpi_numa.specs.Affinities.{
  IsDomainOf,
  LiesIn,
  affinities_of,
  domain_at,
  ends_below,
  found_affinities,
  lies_in,
  range_in,
  ranges_of,
  srat_kind,
}
pub use Rattle.acpi_numa.specs.ErrorText.{numa_error_text}
pub use Rattle.acpi_numa.specs.Slit.{
  IsRowSane,
  IsSane,
  fits,
  localities_of,
  slit_bytes,
}
unfoldable pub use Rattle.acpi_numa.specs.Slit.{distance_of}
pub use Rattle.acpi_numa.specs.Srat.{
  apic_domain,
  cut_of,
  domain_in,
  domain_of_apic,
  domain_of_processor,
  entries_of,
  entry_of,
  given_by,
  is_enabled,
  processor_domain,
  revision_of,
  srat_bytes,
  srat_grammar,
  srat_layout,
}
pub use Rattle.acpi_numa.specs.SratWalk.{
  EndsAtRest,
  entries_left,
  has_ended,
  is_malformed,
  rest_left,
}
pub use Rattle.acpi_numa.specs.declared.error.NumaError.TheVariants.{Acpi}
pub use Rattle.acpi_numa.specs.declared.srat.affinities.MemoryRange.{MemoryRange}
