use Rattle.std.proofs.Common.{map, take}
use Rattle.acpi_dump_input.specs.Extract.{SavesWanted}
use Rattle.acpi_dump_input.proofs.extract.save_tables.Given as goal

abbrev pub invariant-loop-line : goal.invariant-loop-line
invariant-loop-line g l = SavesWanted (map (λ i. i.now) l.saving.inputs.now) l.folder (map (λ e. e.bytes.now) l.entries)
    (map (λ e. e.bytes.now) (take l.line l.entries)) l.log.is_incomplete (g.T.Storage.saved l.fn.storage)
    (g.T.Storage.saved l.storage)
