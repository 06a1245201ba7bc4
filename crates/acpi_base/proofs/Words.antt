-- This crate's lemmas that the crates above cite.
pub use Rattle.acpi_base.proofs.AllowedRanges.{all_back, all_front, all_rest, each_back, each_front}
pub use Rattle.acpi_base.proofs.Decoding.{by_place, codes_decode, interface_read, line_read, polarity_read, trigger_read}
pub use Rattle.acpi_base.proofs.EntryLists.{said_faults, said_items}
pub use Rattle.acpi_base.proofs.OwnTable.{good_rest, header_front, is_whole, own_table, own_table_is, part_within, passed, passes, same_own_table, same_table, served, serves, table_bytes}
pub use Rattle.acpi_base.proofs.Pin.{kept, one_nearer, or_nearer}
pub use Rattle.acpi_bytes.proofs.Cuts.{cut_is_cut, one_cut}
pub use Rattle.acpi_bytes.proofs.Decoding.{size_read, space_read}
pub use Rattle.acpi_bytes.proofs.LentRanges.{at-front, lent_ends, lent_front, lent_inside, lent_is_inside}
pub use Rattle.acpi_bytes.proofs.Spelling.{IsBytes-drop, IsBytes-take, field_past_end, length-spelling, number-spelling, number_filled, spelling-number}
pub use Rattle.acpi_bytes.proofs.Steps.{bind_ok, holds_ok, same_ok, some_lent}
