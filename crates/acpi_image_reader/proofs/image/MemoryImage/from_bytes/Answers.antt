use Rattle.acpi_image_reader.proofs.Images.{image_law, image_memory}
use Rattle.acpi_image_reader.proofs.image.MemoryImage.from_bytes.Goals as goal

pub returns-in_err-records-clause-law : goal.returns-in_err-records-clause-law
returns-in_err-records-clause-law c m = image_law c.args.bytes.now m (λ i. (c.type_inv.bytes i).fits)

pub invariant_of-result : goal.invariant_of-result
invariant_of-result c = record {
  regions =
      image_memory c.args.bytes.now _ (λ i. (c.type_inv.bytes i).fits) c.in_ok-records.ensures;
}
