use Rattle.std.proofs.Common.{◌≡◌, ◌++◌, map}
use Rattle.acpi_pack_lib.specs.Words.{entries_left, label_text, table_label}
use Rattle.acpi_pack_lib.proofs.listing.put_labels.Given as goal

abbrev pub invariant-loop-table : goal.invariant-loop-table
invariant-loop-table l = map label_text l.labels.items ++ map (table_label (map (λ n. n.now) l.names))
    (entries_left l.table-iterator) ≡ map label_text l.initial.labels.items
    ++ map (table_label (map (λ n. n.now) l.names)) (entries_left l.fn.files)
