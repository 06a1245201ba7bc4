-- What the program's arguments request.
use Rattle.std.specs.Prelude.{ℕ, List, [], ◌∷◌, Option, Some, None}
use Rattle.acpi_cli.specs.Root.{root_of}
use Rattle.acpi_cli.specs.declared.root.Root.{Root}

-- what leads to the tables, by the arguments after the program's name: a file, and then what
-- root_of reads; none if they are no command
abbrev pub root_for : List (List ℕ) → Option Root
root_for (image ∷ rest) = root_of rest
root_for [] = None

-- the file that is read for these arguments: the first of them, if they are a command
abbrev pub file_with : Option Root → List (List ℕ) → Option (List ℕ)
file_with (Some root) (image ∷ rest) = Some image
file_with (Some root) [] = None
file_with None arguments = None

abbrev pub file_for : List (List ℕ) → Option (List ℕ)
file_for arguments = file_with (root_for arguments) arguments
