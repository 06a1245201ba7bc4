-- The nodes of an RHCT's harts.
use Rattle.std.proofs.Common.{◌≡◌, ℕ, List, map, flat_map}
use Rattle.std.proofs.lemmas.List.Folds.{flat_map-map}
use Rattle.acpi_table_writer.specs.Words.{fields_bytes, hart_fields, hart_node, HartNode}

abbrev node : ℕ → HartNode
node uid = record { 0 = uid }

pub hart_nodes : (uids : List ℕ)
    → flat_map (λ n. fields_bytes (hart_fields n.0)) (map node uids) ≡ flat_map hart_node uids
hart_nodes uids = flat_map-map (λ n. fields_bytes (hart_fields n.0)) node uids
