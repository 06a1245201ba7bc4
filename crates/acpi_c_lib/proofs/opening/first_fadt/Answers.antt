use Rattle.std.proofs.Common.{◌≡◌, Err, rules}
use Rattle.acpi.specs.Words.{fadt_kind}
use Rattle.acpi_c_lib.specs.Words.{found_table}
use Rattle.acpi_c_lib.proofs.Found.{no_bytes}
use Rattle.acpi_c_lib.proofs.opening.first_fadt.Goals as goal

pub returns-in-Err : goal.returns-in-Err
returns-in-Err c =
    let found : found_table fadt_kind c.args.source.now ≡ Err c.in-Err.refusal = search rules in
    no_bytes fadt_kind c.args.source.now c.in-Err.refusal found
