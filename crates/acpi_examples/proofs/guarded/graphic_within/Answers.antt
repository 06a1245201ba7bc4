use Rattle.acpi_examples.proofs.Callers.{listed_allowed}
use Rattle.acpi_examples.proofs.guarded.graphic_within.Goals as goal

pub graphic_of-requires : goal.graphic_of-requires
graphic_of-requires g c =
    listed_allowed g.H.AcpiHandler.memory c.args.memory.now _ c.args.ranges.now _ c.args.rsdt c.new.ensures.handler
    c.new.ensures.ranges c.requires
