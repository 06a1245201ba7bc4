-- The generic interrupt controller (GIC) of an Arm machine as C gets it: what the entries of a MADT contain of it, each
-- by itself.
use Rattle.std.specs.Prelude.{ℕ, Bool, false, true, List, map, replicate, slice_get, Option, Result, Ok, if◌then◌else◌, filter_map, ok_or, unwrap_or}
use Rattle.acpi_base.specs.Words.{holds}
use Rattle.acpi_base.specs.declared.tables.madt.entry.MadtEntry.TheVariants as kinds
use Rattle.acpi_c_interrupts.specs.Types.{is_some, list_any, cut_of, entries_of, is_left, trigger_code, ◌>>=◌, InvalidEntryLength, InvalidMadt, MadtEntry, madt_kind, cpu_interface_in, distributor_in, items_of, msi_frame_in, redistributors_in, translation_service_in, GicCpuInterface, GicDistributor, GicMsiFrame, GicRedistributors, GicTranslationService, SpiRange, Acpi, Range, NoGic, Refusal, Source}
use Rattle.acpi_c_lib.specs.Answers.{flag, result_map}
use Rattle.acpi_c_lib.specs.Below.{first_table}
use Rattle.acpi_c_interrupts.specs.Records as records

-- whether an entry is of a GIC: Types 0xb to 0xf
abbrev pub is_of_gic : MadtEntry → Bool
is_of_gic (kinds.Gicc e) = true
is_of_gic (kinds.Gicd e) = true
is_of_gic (kinds.GicMsiFrame e) = true
is_of_gic (kinds.GicRedistributor e) = true
is_of_gic (kinds.GicInterruptTranslationService e) = true
is_of_gic _ = false

-- the bytes of a table, if one of its entries up to the first malformed front is of a GIC
abbrev pub gic_among : List ℕ → Result (List ℕ) Refusal
gic_among table = do
  _ ← holds (list_any is_of_gic (entries_of table)) NoGic
  Ok table

-- the same bytes of the first valid MADT
unfoldable pub gic_table : Source → Result (List ℕ) Refusal
gic_table s = do
  table ← first_table madt_kind s
  gic_among table

-- what is shown of them
abbrev pub below_gic : {A : Type 0} → Source → (List ℕ → A) → Result A Refusal
below_gic s show = result_map show (gic_table s)

-- ---- the distributor (section 5.2.12.15)

abbrev pub distributor_record : GicDistributor → records.GicDistributor
distributor_record d = record {
  address = d.address;
  id = d.id;
  system_vector_base = d.system_vector_base;
  version = d.version;
  reserved = replicate 7 0;
}

-- why a table has no distributor: none of its entries is one, or the malformed front might be
abbrev pub no_distributor : List ℕ → Refusal
no_distributor table = if is_left (cut_of table).1 then Acpi (InvalidMadt InvalidEntryLength) else NoGic

-- that of the first GICD of the first valid MADT
abbrev pub distributor_below : Source → Result records.GicDistributor Refusal
distributor_below s = do
  table ← first_table madt_kind s
  found ← ok_or (slice_get (filter_map distributor_in (entries_of table)) 0) (no_distributor table)
  Ok (distributor_record found)

-- ---- processors' interfaces (section 5.2.12.14)

unfoldable pub cpu_interface_record : GicCpuInterface → records.GicCpuInterface
cpu_interface_record x = record {
  mpidr = x.mpidr;
  parked_address = x.parked_address;
  address = x.address;
  virtual_address = x.virtual_address;
  hypervisor_address = x.hypervisor_address;
  redistributor_address = x.redistributor_address;
  number = x.number;
  processor_uid = x.processor_uid;
  performance_interrupt = x.performance_interrupt;
  maintenance_interrupt = x.maintenance_interrupt;
  parking_protocol_version = x.parking_protocol_version;
  spe_overflow_interrupt = x.spe_overflow_interrupt;
  trace_buffer_interrupt = unwrap_or x.trace_buffer_interrupt 0;
  is_enabled = flag x.is_enabled;
  is_online_capable = flag x.is_online_capable;
  performance_trigger = trigger_code x.performance_trigger;
  maintenance_trigger = trigger_code x.maintenance_trigger;
  efficiency_class = x.efficiency_class;
  reserved = replicate 3 0;
}

abbrev pub cpu_interfaces_shown : List ℕ → List records.GicCpuInterface
cpu_interfaces_shown table = map cpu_interface_record (items_of cpu_interface_in table)

-- ---- redistributors (section 5.2.12.17)

abbrev pub redistributors_record : GicRedistributors → Range
redistributors_record r = record { address = r.address; length = r.length }

abbrev pub redistributors_shown : List ℕ → List Range
redistributors_shown table = map redistributors_record (items_of redistributors_in table)

-- ---- services that translate interrupts (section 5.2.12.18)

abbrev pub translation_service_record : GicTranslationService → records.GicTranslationService
translation_service_record t = record { address = t.address; id = t.id; reserved = replicate 4 0 }

abbrev pub translation_services_shown : List ℕ → List records.GicTranslationService
translation_services_shown table = map translation_service_record (items_of translation_service_in table)

-- ---- frames of messages (section 5.2.12.16)

-- the first SPI of a frame and its number of SPIs, or zeros if the entry has none
abbrev pub spis_or : Option SpiRange → SpiRange
spis_or spis = unwrap_or spis (record { base = 0; count = 0 })

abbrev pub msi_frame_record : GicMsiFrame → records.GicMsiFrame
msi_frame_record f = record {
  address = f.address;
  id = f.id;
  spi_base = (spis_or f.spis).base;
  spi_count = (spis_or f.spis).count;
  has_spis = flag (is_some f.spis);
  reserved = replicate 7 0;
}

abbrev pub msi_frames_shown : List ℕ → List records.GicMsiFrame
msi_frames_shown table = map msi_frame_record (items_of msi_frame_in table)
