use Rattle.std.proofs.Common.{◌≡◌, ◌++◌, map, string_bytes}
use Rattle.acpi_pack_lib.specs.Words.{entries_left, left_out_lines}
use Rattle.acpi_pack_lib.proofs.outcome.put_left_out.Given as goal

abbrev pub invariant-loop-file : goal.invariant-loop-file
invariant-loop-file l = string_bytes l.text ++ left_out_lines (map (λ n. n.now) l.names) (entries_left l.file-iterator)
    ≡ string_bytes l.initial.text ++ left_out_lines (map (λ n. n.now) l.names) (entries_left l.fn.files)
