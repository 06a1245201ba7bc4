use Rattle.std.proofs.Common.{◌≡◌, ◌+◌, ◌≤◌, length, filter_map}
use Rattle.acpi_base.specs.Words.{entries_left}
use Rattle.acpi_c_lib.specs.Words.{put_from}
use Rattle.acpi_c_interrupts.specs.Words.{io_apic_in, nmi_line_in, nmi_source_in, override_in, processor_in}
use Rattle.acpi_c_interrupts.proofs.apics.platform.write_all.Given as goal

-- of each list, what is written and what is left are the whole, and what is left can be counted
abbrev pub invariant-loop-entry : goal.invariant-loop-entry
invariant-loop-entry l =
    let left = entries_left l.entry-iterator in
    let all = entries_left l.initial.entry-iterator in
    let processor_said = processor_in l.revision in
    (put_from l.processors l.processor (filter_map processor_said left)
    ≡ put_from l.initial.processors 0 (filter_map processor_said all))
    × (l.processor + length (filter_map processor_said left) ≡ length (filter_map processor_said all))
    × (put_from l.io_apics l.io_apic (filter_map io_apic_in left)
    ≡ put_from l.initial.io_apics 0 (filter_map io_apic_in all))
    × (put_from l.overrides l.wiring (filter_map override_in left)
    ≡ put_from l.initial.overrides 0 (filter_map override_in all))
    × (put_from l.nmi_sources l.nmi_source (filter_map nmi_source_in left)
    ≡ put_from l.initial.nmi_sources 0 (filter_map nmi_source_in all))
    × (put_from l.nmi_lines l.nmi_line (filter_map nmi_line_in left)
    ≡ put_from l.initial.nmi_lines 0 (filter_map nmi_line_in all))
    × (l.processor + length left ≤ length all) × (l.io_apic + length left ≤ length all)
    × (l.wiring + length left ≤ length all)
    × (l.nmi_source + length left ≤ length all) × (l.nmi_line + length left ≤ length all)
