-- A GIC depends on the valid MADT alone, wherever it lies.
use Rattle.std.proofs.Common.{lit≤}
use Rattle.acpi_base.specs.Words.{DependsOn, ◌>>=◌}
use Rattle.acpi.specs.Types.{MADT}
use Rattle.acpi.proofs.Agreed.{same_meaning}
use Rattle.acpi.proofs.Moved.{meaning_follows}
use Rattle.acpi.specs.Words.{lookup_ranges, madt_kind, FollowsTables}
use Rattle.acpi_arm.specs.Gic.{found_gic, gic_of}

pub same_gic : {A : Type 0} → DependsOn (λ m. lookup_ranges m madt_kind) (λ m ps. found_gic {A = A} m ps)
same_gic m n ps h = same_meaning madt_kind m n ps (λ r. r >>= λ f. gic_of f.1) h

pub gic_follows : {A : Type 0} → FollowsTables (λ m ps. found_gic {A = A} m ps)
gic_follows = meaning_follows MADT 44 (λ b. gic_of b) (lit≤ tt)
