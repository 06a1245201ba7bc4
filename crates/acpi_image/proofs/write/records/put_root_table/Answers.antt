use Rattle.std.proofs.Common.{◌∙◌, append_assoc}
use Rattle.acpi_base.specs.Words.{spelling}
use Rattle.acpi.specs.Words.{kind_of_revision}
use Rattle.acpi_image.proofs.Written.{after_root_head, in_root_head, says_err, still_err}
use Rattle.acpi_image.proofs.write.records.put_root_table.Goals as goal

pub returns-in_err-put_head-clause-front : goal.returns-in_err-put_head-clause-front
returns-in_err-put_head-clause-front g c =
    says_err c.from_residual.result _
    (in_root_head (kind_of_revision c.args.revision) c.args.tables.now _ _ _ _ c.root_length.ensures
    c.in_err-put_head.ensures.front)

pub returns-clause-front : goal.returns-clause-front
returns-clause-front g c =
    still_err c.put_table_of_pointers.result _ _
    (after_root_head (kind_of_revision c.args.revision) c.args.tables.now _ _ _ _ _ c.root_length.ensures
    (c.in_ok-put_head.ensures.put
    ∙ append_assoc c.args.file.now.items (spelling 8 c.args.address) (spelling 8 c.root_length.result)))
    c.put_table_of_pointers.ensures.front
