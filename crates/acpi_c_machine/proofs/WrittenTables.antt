-- The address of a console's name doesn't matter to the SPCR that is written for C.
use Rattle.std.proofs.Common.{◌≡◌, ◌∙◌, ℕ, List, ap, refl, codes}
use Rattle.acpi_c_machine.specs.Words.{Bor, TableIds, fixed_list, spcr_written, SpcrContents}
use Rattle.acpi_c_devices.specs.WrittenSpcr as spcr
use Rattle.acpi_c_devices.specs.declared.written_records.SpcrContents as spcr_record

by_name : (room : ℕ) (ids : TableIds) (name : Bor (List ℕ)) (c : spcr_record.SpcrContents) → name.now ≡ codes "."
    → spcr_written room ids (spcr.contents name c) ≡ spcr.spcr_laid room ids c
unfolding spcr_written fixed_list
by_name room ids name c e = rw e refl

pub named : (room : ℕ) (ids : TableIds) (given : spcr_record.SpcrContents) (c : SpcrContents)
    → c ≡ spcr.contents c.namespace_string given → c.namespace_string.now ≡ codes "."
    → spcr_written room ids c ≡ spcr.spcr_laid room ids given
named room ids given c is_written name = ap (spcr_written room ids) is_written
    ∙ by_name room ids c.namespace_string given name
