-- The lines of the platform.
use Rattle.std.specs.Prelude.{ℕ, List, [], ◌∷◌, ◌++◌, flat_map, codes, decimal, Option, Some, None, if◌then◌else◌}
use Rattle.acpi_base.specs.Words.{Memory, line_code}
use Rattle.acpi.specs.Types.{Apic, InterruptModel, InterruptSourceOverride, IoApic, NmiLine, NmiProcessor, All, ProcessorUid, NmiSource, Polarity, TriggerMode, Processor, ProcessorInfo, ProcessorState, Disabled, Running, WaitingForSipi, PowerProfile}
use Rattle.acpi_base.specs.declared.model.interrupt.InterruptModel.TheVariants as model
use Rattle.acpi_base.specs.declared.model.interrupt.Polarity.TheVariants as polarity
use Rattle.acpi_base.specs.declared.model.interrupt.TriggerMode.TheVariants as trigger
use Rattle.acpi_fixed.specs.Words.{profile_code}
use Rattle.acpi.specs.Words.{PlatformAsks, platform_of}
use Rattle.acpi.specs.declared.platform.PlatformInfo.{PlatformInfo}
use Rattle.acpi.specs.declared.platform.timer.PmTimer.{PmTimer}
use Rattle.acpi_view_lib.specs.Lines.{IsPartText, address_text, line, lines_or_refusal, yes_or_no}

-- platform profile N
unfoldable pub profile_line : PowerProfile → List ℕ
profile_line profile = line (codes "platform profile " ∷ decimal (profile_code profile) ∷ [])

-- ---- the interrupt model

abbrev pub polarity_word : Polarity → List ℕ
polarity_word polarity.SameAsBus = codes "bus"
polarity_word polarity.ActiveHigh = codes "high"
polarity_word polarity.ActiveLow = codes "low"

abbrev pub trigger_word : TriggerMode → List ℕ
trigger_word trigger.SameAsBus = codes "bus"
trigger_word trigger.Edge = codes "edge"
trigger_word trigger.Level = codes "level"

-- ioapic ID ADDRESS BASE
abbrev pub io_apic_line : IoApic → List ℕ
io_apic_line io_apic = line (
    codes "ioapic " ∷ decimal io_apic.id ∷ codes " " ∷ address_text io_apic.address
    ∷ codes " " ∷ decimal io_apic.global_system_interrupt_base ∷ [])

-- override SOURCE GSI POLARITY TRIGGER
abbrev pub override_line : InterruptSourceOverride → List ℕ
override_line wiring = line (
    codes "override " ∷ decimal wiring.isa_source
    ∷ codes " " ∷ decimal wiring.global_system_interrupt
    ∷ codes " " ∷ polarity_word wiring.polarity
    ∷ codes " " ∷ trigger_word wiring.trigger_mode ∷ [])

-- nmi GSI POLARITY TRIGGER
abbrev pub nmi_source_line : NmiSource → List ℕ
nmi_source_line source = line (
    codes "nmi " ∷ decimal source.global_system_interrupt
    ∷ codes " " ∷ polarity_word source.polarity
    ∷ codes " " ∷ trigger_word source.trigger_mode ∷ [])

abbrev pub whose_word : NmiProcessor → List ℕ
whose_word All = codes "all"
whose_word (ProcessorUid uid) = decimal uid

-- line all|UID lint0|lint1
abbrev pub nmi_input_line : NmiLine → List ℕ
nmi_input_line input = line (
    codes "line " ∷ whose_word input.processor ∷ codes " lint" ∷ decimal (line_code input.line) ∷ [])

-- model apic ADDRESS pics yes|no
unfoldable pub apic_line : {A : Type 0} → Apic A → List ℕ
apic_line apic = line (
    codes "model apic " ∷ address_text apic.local_apic_address
    ∷ codes " pics " ∷ yes_or_no apic.also_has_legacy_pics ∷ [])

-- that line, and after it the lines of each list
abbrev pub apic_lines : {A : Type 0} → Apic A → List ℕ
apic_lines apic =
    apic_line apic
    ++ flat_map io_apic_line apic.io_apics
    ++ flat_map override_line apic.interrupt_source_overrides
    ++ flat_map nmi_source_line apic.nmi_sources
    ++ flat_map nmi_input_line apic.local_apic_nmi_lines

-- model unknown, or the lines of the APICs
abbrev pub model_lines : {A : Type 0} → InterruptModel A → List ℕ
model_lines model.Unknown = line (codes "model unknown" ∷ [])
model_lines (model.Apic apic) = apic_lines apic

-- ---- processors

abbrev pub state_word : ProcessorState → List ℕ
state_word Disabled = codes "disabled"
state_word WaitingForSipi = codes "waiting"
state_word Running = codes "running"

-- processor UID ID running|waiting|disabled
abbrev pub processor_line : Processor → List ℕ
processor_line processor = line (
    codes "processor " ∷ decimal processor.processor_uid
    ∷ codes " " ∷ decimal processor.local_apic_id
    ∷ codes " " ∷ state_word processor.state ∷ [])

-- the boot processor first; none if no processor is listed
abbrev pub processor_lines : {A : Type 0} → Option (ProcessorInfo A) → List ℕ
processor_lines (Some info) =
    processor_line info.boot_processor ++ flat_map processor_line info.application_processors
processor_lines None = []

-- ---- the timer

-- timer none, or timer ADDRESS bits 24|32
abbrev pub timer_line : Option PmTimer → List ℕ
timer_line (Some timer) = line (
    codes "timer " ∷ address_text timer.base.address
    ∷ codes " bits " ∷ (if timer.supports_32bit then codes "32" else codes "24") ∷ [])
timer_line None = line (codes "timer none" ∷ [])

-- ---- all of it

abbrev pub info_lines : {A : Type 0} → PlatformInfo A → List ℕ
info_lines info =
    profile_line info.power_profile
    ++ model_lines info.interrupt_model
    ++ processor_lines info.processor_info
    ++ timer_line info.pm_timer

-- the lines of the platform that a list of pointers leads to, in memory of an allocator
abbrev pub platform_lines : Type 0 → Memory → List ℕ → List ℕ
platform_lines A m ps = lines_or_refusal (codes "platform") info_lines (platform_of {A = A} m ps)

-- what may be printed of it
abbrev pub IsPlatformText : Type 0 → Memory → List ℕ → List ℕ → Type 0
IsPlatformText A m ps text =
    IsPartText (PlatformAsks m ps) (codes "platform") (platform_lines A m ps) text
