use Rattle.acpi_base.proofs.Names.{flags_are_numbered}
use Rattle.acpi_iommu.proofs.Cuts.{block_is, entry_is, front_is_front, one_cut, scope_is, structure_is}
use Rattle.acpi_iommu.proofs.Units.{block_is_first, memory_is_meant, source_is_first, unit_is_first}
use Rattle.acpi_laws.proofs.devices.definitions_hold.Goals as goal

pub returns : goal.returns
returns c = record {
  structures = structure_is;
  scopes = scope_is;
  blocks = block_is;
  entries = entry_is;
  one_cut = one_cut;
  front = front_is_front;
  unit = unit_is_first;
  source = source_is_first;
  block = block_is_first;
  memory = memory_is_meant;
  flags = flags_are_numbered;
}
