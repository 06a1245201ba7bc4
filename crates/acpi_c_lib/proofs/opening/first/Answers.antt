use Rattle.std.proofs.Common.{◌≡◌, Err, rules}
use Rattle.acpi_base.specs.Words.{sdt_kind}
use Rattle.acpi_c_lib.specs.Words.{found_table}
use Rattle.acpi_c_lib.proofs.Found.{no_bytes}
use Rattle.acpi_c_lib.proofs.opening.first.Goals as goal

pub returns-in-Err-clause-bytes : goal.returns-in-Err-clause-bytes
returns-in-Err-clause-bytes g c =
    let k = sdt_kind g.T.SdtTable.NAME g.T.PhysicalRecord.MIN_LENGTH in
    let found : found_table k c.args.source.now ≡ Err c.in-Err.refusal = search rules in
    no_bytes k c.args.source.now c.in-Err.refusal found
