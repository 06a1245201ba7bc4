use Rattle.std.proofs.Common.{◌∙◌, length, ap, refl}
use Rattle.std.proofs.lemmas.Iterator.Consumers.{YieldsList-from_first, count_from_yields_List}
use Rattle.std.proofs.lemmas.List.{length-map}
use Rattle.acpi_examples.proofs.Callers.{guest_count, same_memory}
use Rattle.acpi_image.specs.Written.{placed_region, plan}
use Rattle.acpi_examples.proofs.writer.tables_of_guest.Goals as goal

pub returns : goal.returns
returns c =
    let law = c.in_ok-file.ensures.law in
    let read = same_memory _ _ (c.in_ok-image.ensures.only _ law.memory (c.deref.ensures.value ∙ law.image)) in
    let all = guest_count (plan 0x500 0x1000 2 c.args.placed.now) c.in_ok-file.file.items _ _ law read
    c.in_ok-tables.ensures.exact in
    let items = ap length c.headers.ensures.items in
    let drained = count_from_yields_List _ _ c.count.ensures.ran (YieldsList-from_first (λ x. x) _ _ refl) in
    drained ∙ items ∙ rw c.in_ok-tables.ensures.handler (all ∙ length-map c.args.placed.now placed_region)
