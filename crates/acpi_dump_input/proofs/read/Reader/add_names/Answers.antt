use Rattle.std.proofs.Common.{◌∙◌}
use Rattle.acpi_dump_input.proofs.Growing.{grows_within}
use Rattle.acpi_dump_input.proofs.read.Reader.add_names.Goals as goal

pub returns-in-OutOfMemory-clause-grows : goal.returns-in-OutOfMemory-clause-grows
returns-in-OutOfMemory-clause-grows g c = grows_within g.S.Sources.gives c.args.folder.now
    c.without_slash-place.result.now _ _ _ _ _ c.without_slash-place.ensures
    (c.as_str.ensures.value ∙ c.in_ok-path.ensures) c.loop-name.invariant c.add_within.ensures

pub loop-name-preserved : goal.loop-name-preserved
loop-name-preserved g c = grows_within g.S.Sources.gives c.args.folder.now
    c.without_slash-place.result.now _ _ _ _ _ c.without_slash-place.ensures
    (c.as_str.ensures.value ∙ c.in_ok-path.ensures) c.loop-name.invariant c.add_within.ensures
