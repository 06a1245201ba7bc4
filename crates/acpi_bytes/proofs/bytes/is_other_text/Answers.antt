use Rattle.acpi_bytes.proofs.Texts.{text_of_rest}
use Rattle.acpi_bytes.proofs.bytes.is_other_text.Goals as goal

pub loop-rest-preserved : goal.loop-rest-preserved
loop-rest-preserved c =
    text_of_rest c.loop-rest.rest.now _ _ c.leading_text-count.ensures.value c.loop-rest.invariant
