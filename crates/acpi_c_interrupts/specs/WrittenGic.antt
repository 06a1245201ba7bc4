-- The MADT of an Arm machine that is written for C (sections 5.2.12.14 to 5.2.12.18).
use Rattle.std.specs.Prelude.{ℕ, ◌&&◌, ◌==◌, not, Option, Some, None, Result, if◌then◌else◌}
use Rattle.acpi_base.specs.Words.{holds, ◌>>=◌}
use Rattle.acpi_c_interrupts.specs.Types.{list_all, GicCpuInterface, GicDistributor, GicMsiFrame, GicTranslationService, GicContents, BadRange, gic_meant, Refusal, Range, UnknownCode, Writer}
use Rattle.acpi_c_interrupts.specs.Records as records
use Rattle.acpi_c_lib.specs.Redistributors.{is_short, redistributors_of}
use Rattle.acpi_c_interrupts.specs.WrittenMadt.{is_wiring, trigger_of}
use Rattle.acpi_table_writer.specs.Words.{GicContents as WriterGic}
use Rattle.acpi_table_writer.specs.declared.madt.gic.GicContents as writer

-- ---- records, as the writer has them

abbrev pub distributor_of : records.GicDistributor → GicDistributor
distributor_of d =
    record { id = d.id; address = d.address; system_vector_base = d.system_vector_base; version = d.version }

-- an interrupt of 0 is none
abbrev pub trace_of : ℕ → Option ℕ
trace_of interrupt = if interrupt == 0 then None else Some interrupt

abbrev pub cpu_interface_of : records.GicCpuInterface → GicCpuInterface
cpu_interface_of x = record {
  number = x.number;
  processor_uid = x.processor_uid;
  mpidr = x.mpidr;
  is_enabled = not (x.is_enabled == 0);
  is_online_capable = not (x.is_online_capable == 0);
  performance_interrupt = x.performance_interrupt;
  performance_trigger = trigger_of x.performance_trigger;
  parking_protocol_version = x.parking_protocol_version;
  parked_address = x.parked_address;
  address = x.address;
  virtual_address = x.virtual_address;
  hypervisor_address = x.hypervisor_address;
  maintenance_interrupt = x.maintenance_interrupt;
  maintenance_trigger = trigger_of x.maintenance_trigger;
  redistributor_address = x.redistributor_address;
  efficiency_class = x.efficiency_class;
  spe_overflow_interrupt = x.spe_overflow_interrupt;
  trace_buffer_interrupt = trace_of x.trace_buffer_interrupt;
}

abbrev pub translation_service_of : records.GicTranslationService → GicTranslationService
translation_service_of t = record { id = t.id; address = t.address }

abbrev pub msi_frame_of : records.GicMsiFrame → GicMsiFrame
msi_frame_of f = record {
  id = f.id;
  address = f.address;
  spis = if f.has_spis == 0 then None else Some (record { base = f.spi_base; count = f.spi_count });
}

-- ---- the table

-- the contents, as the writer has them
abbrev pub contents_of : GicContents
    → writer.GicContents records.GicCpuInterface Range records.GicTranslationService records.GicMsiFrame
contents_of c = record {
  distributor = distributor_of c.distributor;
  cpu_interfaces = c.cpu_interfaces;
  redistributors = c.redistributors;
  translation_services = c.translation_services;
  msi_frames = c.msi_frames;
}

abbrev pub gic_of : GicContents → WriterGic
gic_of c = gic_meant cpu_interface_of redistributors_of translation_service_of msi_frame_of (contents_of c)

-- each trigger mode is one that there is, and no range of redistributors has 2^32 bytes or more
abbrev pub checked : GicContents → Result (Unit {0}) Refusal
checked c = do
  _ ← holds (list_all (λ x. is_wiring x.performance_trigger && is_wiring x.maintenance_trigger) c.cpu_interfaces.now)
      UnknownCode
  holds (list_all is_short c.redistributors.now) (Writer BadRange)
