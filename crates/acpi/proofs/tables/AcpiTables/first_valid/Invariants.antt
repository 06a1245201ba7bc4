use Rattle.std.proofs.Common.{◌≡◌}
use Rattle.acpi_base.specs.Words.{Allows}
use Rattle.acpi.specs.Words.{accepted_by, lookup_ranges, lookup, pointers_left, lender_of, may_of, pointers_of}
use Rattle.acpi.proofs.tables.AcpiTables.first_valid.Given as goal

-- no pointer that was passed leads to a valid table
abbrev pub invariant-loop-address : goal.invariant-loop-address
invariant-loop-address g l =
    let m = g.H.Lender.memory (lender_of l.self) in
    let k = accepted_by l.self g.T.AcpiTable.kind in
    (lookup m k (pointers_left l.address-iterator) ≡ lookup m k (pointers_of l.self))
    × Allows (may_of l.self) (lookup_ranges m k (pointers_left l.address-iterator))
