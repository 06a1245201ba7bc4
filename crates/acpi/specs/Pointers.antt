-- What a walk along the pointers shows.
use Rattle.std.specs.Prelude.{ℕ, List}
use Rattle.acpi.specs.Root.{pointers}
use Rattle.acpi.specs.declared.pointers.Pointers.{Pointers}

-- the pointers that are still to come
abbrev pub pointers_left : Pointers → List ℕ
pointers_left s = pointers s.width s.rest.now
