-- What holds of the registers of a FADT, of the processors that a MADT lists, and of the platform.
use Rattle.std.specs.Prelude.{◌≡◌, ◌≢◌, ◌⊎◌, ℕ, true, false, List, [], ◌∷◌, Option, Some, None, Ok, Err, All, filter_map, map}
use Rattle.acpi_base.specs.Words.{Memory, model_of, processors_of}
use Rattle.acpi.specs.Types.{AcpiError, Unknown, MadtItem, Processor, ProcessorInfo, Running, WaitingForSipi}
use Rattle.acpi.specs.declared.platform.PlatformInfo.{PlatformInfo}
use Rattle.acpi.specs.Words.{fadt_kind, lookup, madt_kind, platform_of, timer_of}
use Rattle.acpi_base.specs.declared.model.item.MadtItem.TheVariants as item
use Rattle.acpi_fixed.specs.Words.{fadt_at, profile_of, registers_of, registers_at}

-- the registers in the record of a FADT are those that its bytes give
abbrev pub RegistersAreTheTables : Type 0
RegistersAreTheTables = (table : List ℕ) → registers_of (fadt_at table) ≡ registers_at table

-- ---- processors; the allocator of their list doesn't matter

abbrev pub Processors : Type 0
Processors = Option (ProcessorInfo (Unit {0}))

-- the UID and the local APIC id of the processor that an item lists
abbrev pub ids_in : MadtItem → Option (ℕ × ℕ)
ids_in (item.Processor uid id is_enabled) = Some (uid, id)
ids_in _ = None

abbrev pub ids_of : Processor → ℕ × ℕ
ids_of p = (p.processor_uid, p.local_apic_id)

-- all of them, the boot processor first
abbrev pub all_of : Processors → List Processor
all_of None = []
all_of (Some info) = info.boot_processor ∷ info.application_processors

-- those that the items list, each once and in order
abbrev pub ListedOnce : Type 0
ListedOnce = (items : List MadtItem) → map ids_of (all_of (processors_of items)) ≡ filter_map ids_in items

-- the first alone is the boot processor, which doesn't wait to be started; the others don't run yet
abbrev pub HaveRoles : Processors → Type 0
HaveRoles None = Unit {0}
HaveRoles (Some info) =
    (info.boot_processor.is_ap ≡ false) × (info.boot_processor.state ≢ WaitingForSipi)
    × All (λ p. (p.is_ap ≡ true) × (p.state ≢ Running)) info.application_processors

abbrev pub FirstBoots : Type 0
FirstBoots = (items : List MadtItem) → HaveRoles (processors_of items)

-- ---- the platform

-- it has the first valid FADT's profile and timer, and the first valid MADT's model, an unknown one if no MADT is valid
pub record IsPlatform (m : Memory) (ps : List ℕ) (platform : PlatformInfo (Unit {0})) : Type 0 where
  pub fadt : ℕ × List ℕ
  pub found : lookup m fadt_kind ps ≡ Ok fadt
  pub profile : platform.power_profile ≡ profile_of (fadt_at fadt.1)
  pub timer : timer_of (fadt_at fadt.1) ≡ Ok platform.pm_timer
  pub model : ((madt : ℕ × List ℕ) × (lookup m madt_kind ps ≡ Ok madt)
      × (model_of madt.1 ≡ Ok (platform.interrupt_model, platform.processor_info)))
      ⊎ ((e : AcpiError) × (lookup m madt_kind ps ≡ Err e)
      × (platform.interrupt_model ≡ Unknown) × (platform.processor_info ≡ None))

abbrev pub PlatformIsTheirs : Type 0
PlatformIsTheirs = (m : Memory) (ps : List ℕ) (platform : PlatformInfo (Unit {0}))
    → platform_of m ps ≡ Ok platform → IsPlatform m ps platform
