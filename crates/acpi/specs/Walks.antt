-- What a walk along the members shows: the items that are still to come.
use Rattle.std.specs.Prelude.{List}
use Rattle.acpi.specs.Types.{SdtHeader, AmlTable, TableFault, SSDT}
use Rattle.acpi_base.specs.Words.{Memory, Kind, accepted, plain_kind}
use Rattle.acpi.specs.Lists.{faults_of, streams_by, valid_headers}
use Rattle.acpi.specs.Pointers.{pointers_left}
use Rattle.acpi.specs.declared.headers.SdtHeaderIterator.{SdtHeaderIterator}
use Rattle.acpi.specs.declared.ssdts.SsdtIterator.{SsdtIterator}
use Rattle.acpi.specs.declared.faults.TableFaults.{TableFaults}

abbrev pub headers_left : {H : Type 0} {h : _} → (H → Memory) → SdtHeaderIterator H h → List SdtHeader
headers_left memory s = valid_headers (memory s.handler.now) (pointers_left s.pointers)

abbrev pub ssdts_left : {H : Type 0} {h : _} → (H → Memory) → SsdtIterator H h → List AmlTable
ssdts_left memory s = streams_by (memory s.handler.now) (accepted s.accept (plain_kind SSDT)) (pointers_left s.pointers)

abbrev pub faults_left : {H T : Type 0} {h t u : _} → (H → Memory) → Kind → TableFaults H T h t u → List TableFault
faults_left memory k s = faults_of (memory s.handler.now) (accepted s.accept k) (pointers_left s.pointers)
