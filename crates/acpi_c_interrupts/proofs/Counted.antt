-- How many processors a model lists.
use Rattle.std.proofs.Common.{◌≡◌, List, [], ◌∷◌, length, arith, true, refl, filter_map}
use Rattle.acpi_c_interrupts.specs.Words.{MadtItem, listed}
use Rattle.acpi_base.specs.Words.{processor_in, processors_of}

-- the number of those listed is that of the entries of processors
pub as_many : (items : List MadtItem) → length (listed (processors_of items))
    ≡ length (filter_map (processor_in true) items)
as_many [] = refl
as_many (x ∷ items) = grind (arith, as_many items)
