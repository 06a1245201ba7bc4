use Rattle.std.proofs.Common.{◌++◌, ap, ◌∙◌}
use Rattle.acpi.specs.Words.{kind_of_revision}
use Rattle.acpi_image.proofs.Written.{after_header, none_put, says_err}
use Rattle.acpi_image.proofs.write.records.put_table_of_pointers.Goals as goal

pub returns-in_err-put-clause-front : goal.returns-in_err-put-clause-front
returns-in_err-put-clause-front g c = says_err c.from_residual.result _ (none_put _ _ _ c.in_err-put.ensures.kept)

pub returns-in_err-put_pointers-clause-front : goal.returns-in_err-put_pointers-clause-front
returns-in_err-put_pointers-clause-front g c =
    says_err c.from_residual-in_err-put_pointers.result _
    (after_header (kind_of_revision c.args.revision) c.args.tables.now _ _ _ _ c.root_length-length.ensures
    (c.in_ok-put.ensures.put ∙ ap (λ z. c.args.file.now.items ++ z) c.root_header.ensures)
    c.in_err-put_pointers.ensures.front)
