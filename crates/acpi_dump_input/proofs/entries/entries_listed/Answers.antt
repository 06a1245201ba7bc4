use Rattle.std.proofs.Common.{None, arith}
use Rattle.acpi_image_reader.specs.Words.{memory_of}
use Rattle.acpi_dump_input.proofs.Listing.{listed_more, parts_more}
use Rattle.acpi_dump_input.specs.Listed.{listed_at}
use Rattle.acpi_dump_input.proofs.entries.entries_listed.Goals as goal

pub loop-address-preserved : goal.loop-address-preserved
loop-address-preserved c =
    let m = memory_of c.args.image.now in
    let e = c.entry_at-in-loop-address in
    let more = c.in_ok-push.ensures.items in (
      parts_more m c.loop-address.entries.items _ e.result more e.ensures.part c.loop-address.invariant.0,
      grind (arith, more),
      listed_more (listed_at m None) c.loop-address.entries.items _ e.result c.in-Some.address _ _ _ more e.ensures.exact
          c.in-Some.ensures.steps c.loop-address.invariant.2,
    )
