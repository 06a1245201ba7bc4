use Rattle.std.proofs.Common.{◌∙◌, sym}
use Rattle.acpi_pack_lib.proofs.Placing.{files_packed}
use Rattle.acpi_pack_lib.specs.Words.{contents}
use Rattle.acpi_pack_lib.proofs.pack.pack_files.Goals as goal

pub returns-clause-law : goal.returns-clause-law
returns-clause-law c =
    files_packed c.args.addresses.now (contents c.args.files.now) _ _ c.in_ok-put_files.ensures.bytes
    (sym c.check_places.ensures ∙ c.in_ok-check_places.was)
    (rw c.new-file.ensures.items at c.in_ok-put_files.ensures.put)
