-- What holds of the members of a root table, and of the ranges in which the tables are (`definitions_hold`).
use Rattle.std.specs.Prelude.{◌≡◌, ◌⊎◌, ℕ, ◌+◌, ◌≤◌, List, [], ◌∷◌, None, IsErr, Ok, filter_map, length, map, slice_get}
use Rattle.acpi_base.specs.FromStd.{AllByRecursion, result_ok}
use Rattle.acpi.specs.Types.{DSDT, AddressRange}
use Rattle.acpi_base.specs.Words.{check_names, check_table, Memory, Ranges, Kind, own_table_at, plain_kind, table_at}
use Rattle.acpi_fixed.specs.Words.{dsdt_address_of, fadt_at}
use Rattle.acpi.specs.Words.{dsdt_ranges, header_ranges, lookup_ranges, platform_ranges, root_ranges, ssdt_ranges, fadt_kind, valid_headers, lookup, kind_ranges, members_of, tables_found, places_of, range, root_at}
use Rattle.acpi.specs.declared.root.RootKind.{RootKind}

-- there is exactly one member for each pointer: their addresses are the pointers
abbrev pub OneForEach : Type 0
OneForEach = (m : Memory) (ps : List ℕ) → map (λ x. x.address) (members_of m ps) ≡ ps

-- the headers of the members without an error are all valid headers
abbrev pub HeadersOfMembers : Type 0
HeadersOfMembers = (m : Memory) (ps : List ℕ)
    → filter_map (λ x. result_ok x.header) (members_of m ps) ≡ valid_headers m ps

-- the first of all tables of a kind is what a lookup finds, and there is one exactly if it finds one
abbrev pub FirstIsFound : Type 0
FirstIsFound = (m : Memory) (k : Kind) (ps : List ℕ)
    → slice_get (tables_found m k ps) 0 ≡ result_ok (lookup m k ps)

-- a lookup by a signature alone is the lookup of a type that wants no more than a header's checks
abbrev pub FoundBySignature : Type 0
FoundBySignature = (m : Memory) (k : Kind) (ps : List ℕ)
    → k.least ≡ 36 → k.names ≡ check_names k.signature → k.check ≡ check_table k.signature → k.own ≡ None
    → lookup m (plain_kind k.signature) ps ≡ lookup m k ps

-- ---- the ranges in which the tables are

-- that many bytes at an address are inside a range
abbrev pub LiesIn : ℕ × ℕ → AddressRange → Type 0
LiesIn asked r = (r.address ≤ asked.0) × (asked.0 + asked.1 ≤ r.address + r.length)

-- they are inside one of these
abbrev pub LiesInOne : ℕ × ℕ → List AddressRange → Type 0
LiesInOne asked [] = ⊥
LiesInOne asked (r ∷ rs) = LiesIn asked r ⊎ LiesInOne asked rs

-- they begin at a member that is an error under the signature that it has
abbrev pub BeginsRefused : Memory → List ℕ → ℕ → Type 0
BeginsRefused m [] a = ⊥
BeginsRefused m (p ∷ ps) a = ((a ≡ p) × IsErr (own_table_at m p)) ⊎ BeginsRefused m ps a

-- they begin where the first valid FADT has the DSDT, and no valid one is there
abbrev pub BeginsNoDsdt : Memory → List ℕ → ℕ → Type 0
BeginsNoDsdt m ps a = (found : ℕ × List ℕ) × (lookup m fadt_kind ps ≡ Ok found)
    × (dsdt_address_of (fadt_at found.1) ≡ Ok a) × IsErr (table_at m (plain_kind DSDT) a)

-- each of these is where the tables are, or begins at a member with an error, or at no valid DSDT
abbrev pub AreReserved : AddressRange → Memory → List ℕ → Ranges → Type 0
AreReserved root m ps = AllByRecursion (λ asked. LiesInOne asked (places_of root m ps)
    ⊎ (BeginsRefused m ps asked.0 ⊎ BeginsNoDsdt m ps asked.0))

-- the ranges that these depend on and request: lookups and faults of any type, `find_tables`,
-- headers and members, SSDTs, the DSDT, the platform
pub record TablesLieThere (root : AddressRange) (m : Memory) (ps : List ℕ) : Type 0 where
  pub lookups : (k : Kind) → AreReserved root m ps (lookup_ranges m k ps)
  pub kinds : (k : Kind) → AreReserved root m ps (kind_ranges m k ps)
  pub headers : AreReserved root m ps (header_ranges m ps)
  pub ssdts : AreReserved root m ps (ssdt_ranges m ps)
  pub dsdt : AreReserved root m ps (dsdt_ranges m ps)
  pub platform : AreReserved root m ps (platform_ranges m ps)

abbrev pub TablesLieInRanges : Type 0
TablesLieInRanges = (root : AddressRange) (m : Memory) (ps : List ℕ) → TablesLieThere root m ps

-- the root table's are where it is
abbrev pub RootLiesInRange : Type 0
RootLiesInRange = (m : Memory) (kind : RootKind) (address : ℕ) (table : List ℕ)
    → root_at m kind address ≡ Ok table
    → AllByRecursion (λ asked. LiesIn asked (range address (length table))) (root_ranges m kind address)
