-- What a view of a FADT shows.
use Rattle.acpi_base.specs.Words.{bytes_of}
use Rattle.acpi_fixed.specs.Fadt.{fadt_at}
use Rattle.acpi_fixed.specs.declared.fadt.Fadt.{Fadt}
use Rattle.acpi_fixed.specs.declared.fadt.view.FadtView.{FadtView}

-- what its bytes mean: what each of its calls returns is by this record
abbrev pub viewed : {H h : _} → FadtView H h → Fadt
viewed v = fadt_at (bytes_of v.mapping)
