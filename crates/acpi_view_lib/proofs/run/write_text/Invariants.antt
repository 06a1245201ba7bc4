use Rattle.acpi_view_lib.specs.Output.{AppendsUntil}
use Rattle.acpi_view_lib.proofs.run.write_text.Given as goal

-- what is left of the text is the rest
abbrev pub invariant-loop : goal.invariant-loop
invariant-loop g l = AppendsUntil l.rest (g.W.Write.contents l.initial.out) (g.W.Write.contents l.out) l.text
