-- What the arguments request.
use Rattle.std.specs.Prelude.{ℕ, true, false, List, [], ◌∷◌, map, Option, Some, None, if◌then◌else◌, codes, bytes_eq}
use Rattle.acpi_pack_lib.specs.declared.arguments.Command.{Command}
use Rattle.acpi_pack_lib.specs.declared.arguments.Form.{Form}
use Rattle.acpi_pack_lib.specs.declared.arguments.Form.TheVariants.{Memory, Tables}
use Rattle.acpi_pack_lib.specs.declared.arguments.Options.{Options}
use Rattle.acpi_cli.specs.Numbers.{address_of}

-- the options, the file that is to be made, the files that it is made from, and the addresses of these, or none if they
-- are tables
pub record Request : Type 0 where
  pub options : Options
  pub out : List ℕ
  pub names : List (List ℕ)
  pub addresses : Option (List ℕ)

abbrev pub addresses_of : Form → Option (List ℕ)
addresses_of (Memory addresses) = Some addresses.items
addresses_of Tables = None

-- what a command requests
abbrev pub request_of : Command → Request
request_of c = record {
  options = c.options;
  out = c.out.now;
  names = map (λ n. n.now) c.names.items;
  addresses = addresses_of c.form;
}

-- the first of pairs of arguments is an address
abbrev pub with_address : Option ℕ → Option (List ℕ) → Option (List ℕ)
with_address None rest = None
with_address (Some address) None = None
with_address (Some address) (Some rest) = Some (address ∷ rest)

abbrev pub addresses_in : List (List ℕ) → Option (List ℕ)
addresses_in [] = Some []
addresses_in (address ∷ []) = None
addresses_in (address ∷ file ∷ rest) = with_address (address_of address) (addresses_in rest)

-- and the second a file
abbrev pub names_in : List (List ℕ) → List (List ℕ)
names_in [] = []
names_in (address ∷ []) = []
names_in (address ∷ file ∷ rest) = file ∷ names_in rest

abbrev pub memory_with : Options → List ℕ → List (List ℕ) → Option (List ℕ) → Option Request
memory_with options out names None = None
memory_with options out names (Some addresses) =
    Some (record { options = options; out = out; names = names; addresses = Some addresses })

abbrev pub memory_request : Options → List ℕ → List (List ℕ) → Option Request
memory_request options out pairs = memory_with options out (names_in pairs) (addresses_in pairs)

abbrev pub tables_request : Options → List ℕ → List (List ℕ) → Option Request
tables_request options out names = Some (record { options = options; out = out; names = names; addresses = None })

-- what a form and the arguments after it request
abbrev pub form_request : Options → List ℕ → List ℕ → List (List ℕ) → Option Request
form_request options out form words =
    if bytes_eq form (codes "memory") then memory_request options out words
    else if bytes_eq form (codes "tables") then tables_request options out words
    else None

-- a file, a form, and one file at least
abbrev pub command_request : Options × List (List ℕ) → Option Request
command_request (options, out ∷ form ∷ word ∷ words) = form_request options out form (word ∷ words)
command_request _ = None

abbrev pub no_options : Options
no_options = record { fixes_sums = false; is_plain = false }

-- the options that arguments begin with, in any order, after those before them, and the other arguments
abbrev pub options_from : Options → List (List ℕ) → Options × List (List ℕ)
options_from options [] = (options, [])
options_from options (word ∷ words) =
    if bytes_eq word (codes "--fix-checksum")
    then options_from (record { fixes_sums = true; is_plain = options.is_plain }) words
    else if bytes_eq word (codes "--raw")
    then options_from (record { fixes_sums = options.fixes_sums; is_plain = true }) words
    else (options, word ∷ words)

-- what the arguments after the program's name request
abbrev pub request_in : List (List ℕ) → Option Request
request_in words = command_request (options_from no_options words)
