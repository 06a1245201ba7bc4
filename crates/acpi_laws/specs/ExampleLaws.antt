-- The laws of ranges and of relocation, each at the memories that are written out: an example shows that a law isn't
-- empty. The lemmas `instances` and `moved_instances` show them.
use Rattle.std.specs.Prelude.{◌≡◌, ℕ, true, false, List, [], ◌∷◌, map, Some, Ok, Err}
use Rattle.acpi.specs.Types.{Undefined, SystemIo, SdtInvalidOemId, SdtInvalidSignature, McfgEntry, Running, FADT, HPET, Desktop}
use Rattle.acpi_base.specs.declared.model.interrupt.InterruptModel.TheVariants.{Apic}
use Rattle.acpi_base.specs.Words.{header_at, Memory, AgreesOn, Ranges, own_table_ranges, table_ranges, own_table_at, plain_kind, table_at}
use Rattle.acpi_laws.specs.Examples.{here, hpet, listed, more, moved, moved_pointers, rsdp, rsdt, tables, there}
use Rattle.acpi.specs.Words.{dsdt_ranges, header_ranges, lookup_ranges, platform_ranges, ssdt_ranges, hpet_kind, hpet_of, dsdt_stream, faults_of, ssdt_streams, valid_headers, valid_tables, lookup, Opened, opened_by_rsdp, opened_from, opened_by_rsdp_ranges, opened_ranges, root_and_ranges, rsdp_ranges, found_regions, mcfg_kind, madt_kind, platform_of, bytes_found, root_pointer, rsdp_at, mailbox_found}
use Rattle.acpi.specs.declared.hpet.HpetInfo.{HpetInfo}
use Rattle.acpi.specs.declared.hpet.PageProtection.TheVariants as protections
use Rattle.acpi.specs.declared.platform.PlatformInfo.{PlatformInfo}
use Rattle.acpi.specs.declared.root.RootKind.TheVariants.{Rsdt}

-- ---- what the tables contain

abbrev pub said_of_timers : HpetInfo
said_of_timers = record {
  event_timer_block_id = 0x8086a201;
  base_address = 0xfed00000;
  hpet_number = 0;
  clock_tick_unit = 128;
  page_protection = protections.None;
}

abbrev pub said_of_regions : List McfgEntry
said_of_regions =
    record {
      base_address = 0xb0000000;
      pci_segment_group = 0;
      bus_number_start = 0;
      bus_number_end = 255;
    }
    ∷ []

abbrev pub said_of_platform : {A : Type 0} → PlatformInfo A
said_of_platform = record {
  power_profile = Desktop;
  interrupt_model = Apic (record {
    local_apic_address = 0xfee00000;
    io_apics = [];
    local_apic_nmi_lines = [];
    interrupt_source_overrides = [];
    nmi_sources = [];
    also_has_legacy_pics = true;
  });
  processor_info = Some (record {
    boot_processor = record {
      processor_uid = 0;
      local_apic_id = 0;
      state = Running;
      is_ap = false;
    };
    application_processors = [];
  });
  pm_timer = Some (record {
    base = record {
      address_space = SystemIo;
      bit_width = 32;
      bit_offset = 0;
      access_size = Undefined;
      address = 0x608;
    };
    supports_32bit = true;
  });
}

abbrev pub opened : Opened
opened = record { revision = 0; kind = Rsdt; address = 0x1000; root = rsdt }

-- ---- what is the same over both memories that differ

-- two memories agree on a definition's ranges, and this is what it is there
abbrev pub Instance : {X A : Type 0} → Memory → Memory → (Memory → X → Ranges) → (Memory → X → A) → X → A → Type 0
Instance m n ranges defined x answer = AgreesOn m n (ranges m x) × (defined m x ≡ answer)

abbrev pub At : {X A : Type 0} → (Memory → X → Ranges) → (Memory → X → A) → X → A → Type 0
At ranges defined x answer = Instance here there ranges defined x answer

pub record Instances (A : Type 0) : Type 0 where
  -- a table under a signature, and under the one that it has; one of another signature, and one whose id is not text
  pub table : At (λ m. table_ranges m (plain_kind HPET)) (λ m. table_at m (plain_kind HPET)) 0x4000 (Ok hpet)
  pub own_table : At own_table_ranges own_table_at 0x4000 (Ok hpet)
  pub other_table :
      At (λ m. table_ranges m (plain_kind FADT)) (λ m. table_at m (plain_kind FADT)) 0x2000
      (Err (SdtInvalidSignature FADT))
  pub unnamed_table : At own_table_ranges own_table_at 0x2000 (Err (SdtInvalidOemId HPET))
  -- below a root table
  pub lookup : At (λ m. lookup_ranges m hpet_kind) (λ m. lookup m hpet_kind) more (Ok (0x4000, hpet))
  pub faults :
      At (λ m. lookup_ranges m hpet_kind) (λ m. faults_of m hpet_kind) more
      (record { address = 0x2000; error = SdtInvalidOemId HPET } ∷ [])
  pub headers : At header_ranges valid_headers listed (map header_at tables)
  pub ssdts : At ssdt_ranges ssdt_streams more (record { address = 0x7024; length = 2 } ∷ [])
  pub dsdt : At dsdt_ranges dsdt_stream more (Ok (record { address = 0x8024; length = 4 }))
  pub platform : At platform_ranges (λ m ps. platform_of {A = A} m ps) more (Ok said_of_platform)
  pub event_timers : At (λ m. lookup_ranges m hpet_kind) hpet_of more (Ok said_of_timers)
  pub regions : At (λ m. lookup_ranges m mcfg_kind) found_regions more (Ok said_of_regions)
  pub mailbox : At (λ m. lookup_ranges m madt_kind) mailbox_found more (Ok 0xa000)
  -- what leads to a root table
  pub rsdp_there : At rsdp_ranges rsdp_at 0x500 (Ok rsdp)
  pub root : At opened_ranges opened_from (root_pointer 0 Rsdt 0x1000) (Ok opened)
  pub by_rsdp : At opened_by_rsdp_ranges opened_by_rsdp 0x500 (Ok opened)
  -- what may be requested to open the RSDT and to look the HPET up: of the table whose id is an error and of the FADT
  -- the header, and nothing after the HPET
  pub asked :
      root_and_ranges here (root_pointer 0 Rsdt 0x1000) (λ m. lookup_ranges m hpet_kind)
      ≡ (0x1000, 36) ∷ (0x1000, 60) ∷ (0x2000, 36) ∷ (0x3000, 36) ∷ (0x4000, 36) ∷ (0x4000, 56) ∷ []

-- ---- the same tables elsewhere

-- both memories lead to the same valid tables, and the definition has this value for both
abbrev pub AtMoved : {A : Type 0} → (Memory → List ℕ → A) → A → Type 0
AtMoved defined answer =
    (valid_tables moved moved_pointers ≡ valid_tables here listed)
    × (defined here listed ≡ answer)
    × (defined moved moved_pointers ≡ answer)

pub record MovedInstances (A : Type 0) : Type 0 where
  pub lookup : AtMoved (λ m ps. bytes_found (lookup m hpet_kind ps)) (Ok hpet)
  pub headers : AtMoved valid_headers (map header_at tables)
  pub platform : AtMoved (λ m ps. platform_of {A = A} m ps) (Ok said_of_platform)
  pub event_timers : AtMoved hpet_of (Ok said_of_timers)
  pub regions : AtMoved found_regions (Ok said_of_regions)
