-- The bits of the sets of flags in the SPCR.
use Rattle.std.specs.Prelude.{◌≡◌, ℕ, [], ◌∷◌}
use Rattle.acpi_base.specs.FromStd.{AllByRecursion}
use Rattle.acpi_base.specs.Types.{DCD, RTS_CTS, XON_XOFF, DUAL_8259, IO_APIC, IO_SAPIC, ARMH_GIC, RISCV_PLIC, VT1000, EXTENDED_VT1000, VT_UTF8, ANSI, SpcrFlowControl, SpcrInterruptType, SpcrTerminalType}

abbrev pub interrupt_bits : SpcrInterruptType → ℕ
interrupt_bits s = s.0

abbrev pub terminal_bits : SpcrTerminalType → ℕ
terminal_bits s = s.0

abbrev pub flow_bits : SpcrFlowControl → ℕ
flow_bits s = s.0

-- each named flag has its number: the power of two of its bit
abbrev pub FlagsAreNumbered : Type 0
FlagsAreNumbered =
    AllByRecursion (λ (flag : SpcrInterruptType × ℕ). interrupt_bits flag.0 ≡ flag.1)
    ((DUAL_8259, 1) ∷ (IO_APIC, 2) ∷ (IO_SAPIC, 4) ∷ (ARMH_GIC, 8) ∷ (RISCV_PLIC, 16) ∷ [])
    × AllByRecursion (λ (flag : SpcrTerminalType × ℕ). terminal_bits flag.0 ≡ flag.1)
    ((VT1000, 1) ∷ (EXTENDED_VT1000, 2) ∷ (VT_UTF8, 4) ∷ (ANSI, 8) ∷ [])
    × AllByRecursion (λ (flag : SpcrFlowControl × ℕ). flow_bits flag.0 ≡ flag.1)
    ((DCD, 1) ∷ (RTS_CTS, 2) ∷ (XON_XOFF, 4) ∷ [])
