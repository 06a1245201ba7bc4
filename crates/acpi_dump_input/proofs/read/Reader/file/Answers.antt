use Rattle.std.proofs.Common.{◌∙◌, ap, inl, refl}
use Rattle.acpi_dump_input.proofs.Growing.{file_is_input, image_is_input, memory_is_input}
use Rattle.acpi_dump_input.proofs.Lists.{ok_weaker}
use Rattle.acpi_dump_input.specs.declared.gather.Input.TheVariants as input
use Rattle.acpi_dump_input.proofs.read.Reader.file.Goals as goal

pub returns-in-Some-Image : goal.returns-in-Some-Image
returns-in-Some-Image g c = λ none.
    image_is_input g.S.Sources.gives c.args.name.now (input.Memory c.in_ok-bytes_of.field-0) c.in_ok-bytes_of.ensures.given

pub returns-in-Some-Image-kind : goal.returns-in-Some-Image-kind
returns-in-Some-Image-kind g c = λ none.
    memory_is_input g.S.Sources.gives c.args.name.now c.in_ok-kind.bytes.items (input.Memory c.in_ok-kind.bytes)
    c.in_ok-kind.ensures.given (inl refl)

pub returns-in_ok-add-in_default-kind : goal.returns-in_ok-add-in_default-kind
returns-in_ok-add-in_default-kind g c = ok_weaker c.all.result _ _
    (λ i are none. file_is_input g.S.Sources.gives c.args.name.now c.in_ok-kind.bytes.items
    c.read.new.self.tables.items c.add.new.self.tables.items i c.in_ok-kind.ensures.given
    (ap (λ t. t.items) c.read.ensures.same ∙ none) c.add.ensures.grows c.in_ok-add-in_default-kind.ensures.some are)
    c.all.ensures
