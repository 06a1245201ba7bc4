use Rattle.acpi_image_reader.proofs.Listing.{starts_with}
use Rattle.acpi_image_reader.proofs.start_index.add_start.Goals as goal

pub returns-in-Ok : goal.returns-in-Ok
returns-in-Ok g c = record {
  added = λ view m none some was. starts_with view c.args.starts.now c.insert.new.self m c.args.start c.args.value
      c.in-Ok.ensures.updates.0 none some was;
}
