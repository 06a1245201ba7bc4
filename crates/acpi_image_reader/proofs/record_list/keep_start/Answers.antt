use Rattle.std.proofs.Common.{◌≡◌, ◌<◌, length, arith}
use Rattle.acpi_base.proofs.FromStd.{common_steps, map-append}
use Rattle.acpi_image_reader.proofs.Listing.{starts_same}
use Rattle.acpi_image_reader.specs.Words.{region_of, regions_of}
use Rattle.acpi_image_reader.proofs.record_list.keep_start.Goals as goal

pub returns-then-is_empty-clause-kept : goal.returns-then-is_empty-clause-kept
returns-then-is_empty-clause-kept g c =
    let none : length c.args.added.bytes.now ≡ 0 = grind (arith, common_steps) in
    λ was. rw map-append (starts_same (λ b. b.now) c.args.starts.now (regions_of c.args.list.now)
    (region_of c.args.added) none was)

pub returns-clause-kept : goal.returns-clause-kept
returns-clause-kept g c =
    let some : 0 < length c.args.added.bytes.now = grind (arith, common_steps) in
    λ was. rw map-append (c.in-Ok.ensures.added (λ b. b.now) (regions_of c.args.list.now) c.requires some was)
