use Rattle.std.proofs.Common.{ℕ, List, take, IfOk, Result, Ok, Err}
use Rattle.acpi_bytes.specs.declared.signature.TheConstants.Signature.{MADT}
use Rattle.acpi_table_writer.specs.MadtLaws.{IsMadt, MadtIsValid}
use Rattle.acpi_table_writer.specs.Table.{IsValid}
use Rattle.acpi_table_writer.specs.declared.error.WriterError.{WriterError}
use Rattle.acpi_table_writer.specs.declared.ids.TableIds.{TableIds}
use Rattle.acpi_table_writer.specs.Words.{MadtContents}
use Rattle.acpi_examples.proofs.machine.write_processors.Goals as goal

-- the law of the tables that are written, for one that was
valid_if : (r : Result ℕ WriterError) (ids : TableIds) (c : MadtContents) (new : List ℕ) → MadtIsValid
    → IfOk r (λ n. IsMadt ids c (take n new)) → IfOk r (λ n. IsValid MADT (take n new))
valid_if (Ok n) ids c new law is = law ids c (take n new) is
valid_if (Err e) ids c new law is = tt

pub returns : goal.returns
returns c = valid_if c.write_madt.result c.args.ids.now _ c.write_madt.new.out c.tables_are_valid.ensures.madt
    c.write_madt.ensures.fits
