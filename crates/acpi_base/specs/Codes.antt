-- Codes of interrupts and serial ports, and the law of all codes (ACPI 6.4).
use Rattle.std.specs.Prelude.{◌≡◌, ℕ, ◌==◌, ◌||◌, Bool, true, nat_lt, List, [], ◌∷◌, slice_index_or, Result, if◌then◌else◌}
use Rattle.acpi_base.specs.Types.{MadtError, InvalidGenericAddress, InvalidLocalNmiLine, MpsIntiInvalidPolarity, MpsIntiInvalidTriggerMode, LocalInterruptLine, Lint0, Lint1, NmiProcessor, All, ProcessorUid, Polarity, TriggerMode, SpcrInterfaceType}
use Rattle.acpi_bytes.specs.Codes.{IsInverse, access_size_of, decoded, is_named_space, size_code, space_code, space_of}
use Rattle.acpi_base.specs.declared.model.interrupt.Polarity.TheVariants as polarity
use Rattle.acpi_base.specs.declared.model.interrupt.TriggerMode.TheVariants as trigger
use Rattle.acpi_base.specs.declared.tables.spcr.interface.SpcrInterfaceType.TheVariants as interface

-- ---- interrupts

-- Polarity, two bits of MPS INTI Flags; 2 is reserved (section 5.2.12.5)
abbrev pub polarity_code : Polarity → ℕ
polarity_code polarity.SameAsBus = 0
polarity_code polarity.ActiveHigh = 1
polarity_code polarity.ActiveLow = 3

abbrev pub polarities : List Polarity
polarities = polarity.SameAsBus ∷ polarity.ActiveHigh ∷ polarity.ActiveLow ∷ []

-- the polarity of a code. Fails for other codes, which are reserved, with `MpsIntiInvalidPolarity`
abbrev pub polarity_for : ℕ → Result Polarity MadtError
polarity_for code = decoded polarity_code polarities MpsIntiInvalidPolarity code

-- Trigger Mode, two bits of MPS INTI Flags; 2 is reserved (section 5.2.12.5)
abbrev pub trigger_code : TriggerMode → ℕ
trigger_code trigger.SameAsBus = 0
trigger_code trigger.Edge = 1
trigger_code trigger.Level = 3

abbrev pub trigger_modes : List TriggerMode
trigger_modes = trigger.SameAsBus ∷ trigger.Edge ∷ trigger.Level ∷ []

-- the trigger mode of a code. Fails for other codes, which are reserved, with `MpsIntiInvalidTriggerMode`
abbrev pub trigger_for : ℕ → Result TriggerMode MadtError
trigger_for code = decoded trigger_code trigger_modes MpsIntiInvalidTriggerMode code

-- LINT#, a pin of a local APIC (sections 5.2.12.7 and 5.2.12.13)
abbrev pub line_code : LocalInterruptLine → ℕ
line_code Lint0 = 0
line_code Lint1 = 1

abbrev pub local_lines : List LocalInterruptLine
local_lines = Lint0 ∷ Lint1 ∷ []

-- the pin of a number. Fails for other numbers than 0 and 1 with `InvalidLocalNmiLine`
abbrev pub line_of : ℕ → Result LocalInterruptLine MadtError
line_of code = decoded line_code local_lines InvalidLocalNmiLine code

-- ACPI Processor UID: the one that means all processors in a Local APIC NMI, and in a Local x2APIC NMI
abbrev pub all_apics : ℕ
all_apics = 0xff

abbrev pub all_x2apics : ℕ
all_x2apics = 0xffffffff

-- the UID of a processor, and the processor of a UID, if `all` means all of them
abbrev pub uid_code : ℕ → NmiProcessor → ℕ
uid_code all All = all
uid_code all (ProcessorUid uid) = uid

abbrev pub processor_for : ℕ → ℕ → NmiProcessor
processor_for all uid = if uid == all then All else ProcessorUid uid

-- ---- serial ports: Interface Type of the SPCR, whose layout is Microsoft's

-- the interfaces in the order of their codes, from 0 on; 7 is none of them
abbrev pub interfaces : List SpcrInterfaceType
interfaces =
    interface.Full16550 ∷ interface.Full16450 ∷ interface.MAX311xE ∷ interface.ArmPL011
    ∷ interface.MSM8x60 ∷ interface.Nvidia16550 ∷ interface.TiOmap ∷ interface.Unknown 7
    ∷ interface.APM88xxxx ∷ interface.Msm8974 ∷ interface.Sam5250 ∷ interface.IntelUSIF
    ∷ interface.Imx6 ∷ interface.ArmSBSAGeneric32bit ∷ interface.ArmSBSAGeneric
    ∷ interface.ArmDCC ∷ interface.Bcm2835 ∷ interface.Sdm845_18432 ∷ interface.Generic16550
    ∷ interface.Sdm845_7372 ∷ interface.IntelLPSS ∷ interface.RiscVSbi ∷ []

-- the interface of a code of Interface Type
abbrev pub interface_of : ℕ → SpcrInterfaceType
interface_of code = slice_index_or interfaces code (interface.Unknown code)

-- its code: Interface Type of the SPCR
abbrev pub interface_code : SpcrInterfaceType → ℕ
interface_code interface.Full16550 = 0x00
interface_code interface.Full16450 = 0x01
interface_code interface.MAX311xE = 0x02
interface_code interface.ArmPL011 = 0x03
interface_code interface.MSM8x60 = 0x04
interface_code interface.Nvidia16550 = 0x05
interface_code interface.TiOmap = 0x06
interface_code interface.APM88xxxx = 0x08
interface_code interface.Msm8974 = 0x09
interface_code interface.Sam5250 = 0x0a
interface_code interface.IntelUSIF = 0x0b
interface_code interface.Imx6 = 0x0c
interface_code interface.ArmSBSAGeneric32bit = 0x0d
interface_code interface.ArmSBSAGeneric = 0x0e
interface_code interface.ArmDCC = 0x0f
interface_code interface.Bcm2835 = 0x10
interface_code interface.Sdm845_18432 = 0x11
interface_code interface.Generic16550 = 0x12
interface_code interface.Sdm845_7372 = 0x13
interface_code interface.IntelLPSS = 0x14
interface_code interface.RiscVSbi = 0x15
interface_code (interface.Unknown code) = code

-- the code is no other interface's: 7 and those above 0x15 have no name
abbrev pub is_interface : SpcrInterfaceType → Bool
is_interface (interface.Unknown code) = code == 7 || nat_lt 0x15 code
is_interface _ = true

-- ---- laws

-- where each code has a value: that value has the code, and no other has
pub record IsNumbering {A : Type 0} (is_value : A → Bool) (code_of : A → ℕ) (decode : ℕ → A) : Type 0 where
  pub each : (x : A) → is_value x ≡ true → decode (code_of x) ≡ x
  pub only : (code : ℕ) → (is_value (decode code) ≡ true) × (code_of (decode code) ≡ code)

pub record CodesDecode : Type 0 where
  pub polarities : IsInverse (λ p. true) polarity_code polarity_for MpsIntiInvalidPolarity
  pub triggers : IsInverse (λ t. true) trigger_code trigger_for MpsIntiInvalidTriggerMode
  pub lines : IsInverse (λ l. true) line_code line_of InvalidLocalNmiLine
  pub spaces : IsInverse is_named_space space_code space_of InvalidGenericAddress
  pub sizes : IsInverse (λ s. true) size_code access_size_of InvalidGenericAddress
  pub interfaces : IsNumbering is_interface interface_code interface_of
