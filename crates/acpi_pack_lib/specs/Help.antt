-- The help and the version that the program prints.
use Rattle.std.specs.Prelude.{ℕ, List, [], ◌∷◌, ◌++◌, Option, Some, None, if◌then◌else◌, codes, bytes_eq}

abbrev pub help_text : List ℕ
help_text = codes "usage: acpi_pack [--fix-checksum] [--raw] OUT "
    ++ codes "memory ADDRESS FILE [ADDRESS FILE]... | tables FILE...\n"
    ++ codes "       acpi_pack --help | --version\n"

abbrev pub version_text : List ℕ
version_text = codes "acpi_pack 1.0.0\n"

-- what is printed for a single argument that requests it
abbrev pub text_of_argument : List ℕ → Option (List ℕ)
text_of_argument argument =
    if bytes_eq argument (codes "--help") then Some help_text
    else if bytes_eq argument (codes "--version") then Some version_text
    else None

-- what is printed for arguments that request it
abbrev pub help_or_version_of : List (List ℕ) → Option (List ℕ)
help_or_version_of (argument ∷ []) = text_of_argument argument
help_or_version_of _ = None
