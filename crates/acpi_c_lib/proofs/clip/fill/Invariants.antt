use Rattle.std.proofs.Common.{◌≡◌, ◌-◌, ◌<◌, ◌≤◌, true}
use Rattle.acpi_c_lib.specs.Words.{wanted}
use Rattle.acpi_c_lib.proofs.Clipping.{IsWriting}
use Rattle.acpi_c_lib.proofs.clip.fill.Given as goal

-- the next range begins here, unless all are written
abbrev pub invariant-loop-address : goal.invariant-loop-address
invariant-loop-address l =
    IsWriting l.wanted.ranges.all.now l.wanted.without.all.now l.wanted.window l.initial.out l.out l.count l.address
    × (l.address < l.end → wanted l.wanted.ranges.all.now l.wanted.without.all.now l.wanted.window l.address ≡ true)
    × (l.count ≤ l.address)

abbrev pub decreases-loop-address : goal.decreases-loop-address
decreases-loop-address l = l.end - l.address
