-- What is still to come of walks along what the pointers lead to.
use Rattle.std.specs.Prelude.{ℕ, List, [], ◌++◌, filter_map, length}
use Rattle.acpi_base.specs.FromStd.{cons_option, result_ok}
use Rattle.acpi_base.specs.Words.{Memory, Kind, accepted}
use Rattle.acpi.specs.Types.{AddressRange}
use Rattle.acpi.specs.Members.{members_of, tables_found}
use Rattle.acpi.specs.Places.{place_at, range}
use Rattle.acpi.specs.Pointers.{pointers_left}
use Rattle.acpi.specs.Tables.{root_address_of, root_of}
use Rattle.acpi.specs.declared.members.TableMember.{TableMember}
use Rattle.acpi.specs.declared.members.TableMembers.{TableMembers}
use Rattle.acpi.specs.declared.matches.FoundTables.{FoundTables}
use Rattle.acpi.specs.declared.ranges.TableRanges.{TableRanges}
use Rattle.acpi.specs.declared.tables.AcpiTables.{AcpiTables}

abbrev pub members_left : {H : Type 0} {h : _} → (H → Memory) → TableMembers H h → List TableMember
members_left memory s = members_of (memory s.handler.now) (pointers_left s.pointers)

abbrev pub found_left : {H T : Type 0} {h t u : _} → (H → Memory) → Kind → FoundTables H T h t u → List (ℕ × List ℕ)
found_left memory k s = tables_found (memory s.handler.now) (accepted s.accept k) (pointers_left s.pointers)

-- the root table until it has come, the valid members, the DSDT and the FACS until they have come
abbrev pub places_left : {H : Type 0} {h : _} → (H → Memory) → TableRanges H h → List AddressRange
places_left memory s = cons_option s.root
    (filter_map (λ p. result_ok (place_at (memory s.handler.now) p)) (pointers_left s.pointers)
    ++ cons_option s.dsdt (cons_option s.facs []))

-- where the root table lies
abbrev pub root_place : {H P h p : _} → AcpiTables H P h p → AddressRange
root_place t = range (root_address_of t) (length (root_of t))
