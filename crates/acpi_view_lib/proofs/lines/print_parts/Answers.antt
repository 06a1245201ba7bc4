use Rattle.std.proofs.Common.{refl}
use Rattle.acpi.specs.Words.{opened_of, memory_of}
use Rattle.acpi_view_lib.specs.Output.{lines_of}
use Rattle.acpi_view_lib.proofs.Reports.{more}
use Rattle.acpi_view_lib.proofs.lines.print_parts.Goals as goal

pub returns : goal.returns
returns g c =
    let platform = c.in_ok-print_platform.ensures in
    let pci = c.in_ok-print_pci.ensures in (
      lines_of platform.0 pci.0 (memory_of c.args.tables.now) (opened_of c.args.tables.now),
      record { platform = platform.0; pci = pci.0; platform_is = platform.1; pci_is = pci.1; whole = refl },
      more _ _ _ _ _ (more _ _ _ _ _ (more _ _ _ _ _ (more _ _ _ _ _ (more _ _ _ _ _ (more _ _ _ _ _ (more _ _ _ _ _
          (more _ _ _ _ _ c.in_ok-print_revision.ensures c.in_ok-print_headers.ensures) c.in_ok-print_dsdt.ensures)
          c.in_ok-print_ssdts.ensures) platform.2) c.in_ok-print_hpet.ensures) pci.2)
          c.in_ok-print_bgrt.ensures) c.in_ok-print_spcr.ensures,
    )
