-- How Interrupt Source Overrides wire the ISA interrupts (ACPI 6.4, section 5.2.12.5).
use Rattle.std.specs.Prelude.{◌≡◌, ℕ, ◌<◌, ◌≤◌, ◌==◌, List, Option, None, count_by, slice_index, slice_index_or}
use Rattle.acpi_base.specs.Types.{InterruptSourceOverride}
use Rattle.acpi_base.specs.Isa.{leads_to, override_for}

-- of each ISA interrupt its override, and of each source where its override leads, 16 for all above 15
pub record Gathered : Type 0 where
  pub own : List (Option InterruptSourceOverride)
  pub leads : List ℕ

-- this is gathered out of these overrides: enough for each ISA interrupt, so that a call needs one walk along them and
-- no list of them
pub record IsGathered (overrides : List InterruptSourceOverride) (g : Gathered) : Type 0 where
  pub own : (irq : ℕ) → irq < 16 → slice_index_or g.own irq None ≡ override_for overrides irq
  pub leads : (source irq : ℕ) → irq < 16
      → (slice_index_or g.leads source 16 == irq) ≡ leads_to overrides irq source

-- how many sources lead to each number
pub record AreCounted (leads counts : List ℕ) : Type 0 where
  pub within : (source : ℕ) → slice_index_or leads source 16 ≤ 16
  pub each : (number : ℕ) → number ≤ 16
      → slice_index counts number ≡ count_by (λ leads. leads == number) leads
