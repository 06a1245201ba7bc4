-- What a call prints onto a text that keeps whether memory for a piece of it was refused.
use Rattle.std.specs.Prelude.{◌≡◌, ◌++◌, ℕ, List, if◌then◌else◌, true}
use Rattle.acpi_dump_walk.specs.declared.out.Out.{Out}

-- all of these bytes come after what was printed, or none if memory is refused for them or was for a piece before
pub record Prints (old new : Out) (bytes : List ℕ) : Type 0 where
  pub items : new.bytes.items ≡ (if new.is_refused then old.bytes.items else old.bytes.items ++ bytes)
  pub refused : old.is_refused ≡ true → new.is_refused ≡ true
