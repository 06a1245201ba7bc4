-- Memories written out: two that differ, and one with the same tables elsewhere.
use Rattle.std.specs.Prelude.{◌≡◌, ℕ, List, [], ◌∷◌, ◌++◌, codes, map, replicate, Some, Ok}
use Rattle.acpi_base.specs.Words.{IsMemory, Memory, Region, at}
use Rattle.acpi.specs.Words.{below}
use Rattle.acpi.specs.declared.root.RootKind.TheVariants.{Rsdt, Xsdt}

-- ---- tables

-- a table: its name, one byte each for its length and its checksum, and what is after the
-- header; the revision is 1, and all else in the header is 0
abbrev pub table : List ℕ → ℕ → ℕ → List ℕ → List ℕ
table name length checksum body =
    name ++ length ∷ 0 ∷ 0 ∷ 0 ∷ 1 ∷ checksum ∷ replicate 26 0 ++ body

-- these bytes, and one more after them
abbrev pub region : ℕ → List ℕ → ℕ → Region
region start bytes behind = record { start = start; bytes = bytes ++ behind ∷ [] }

-- the DSDT at 0x8000, a desktop, a timer of 32 bits at port 0x608
unfoldable pub fadt : List ℕ
fadt = table (codes "FACP") 116 221
    (replicate 4 0 ++ 0 ∷ 0x80 ∷ 0 ∷ 0 ∷ 0 ∷ 1 ∷ replicate 30 0
    ++ 8 ∷ 6 ∷ 0 ∷ 0 ∷ replicate 11 0 ++ 4 ∷ replicate 20 0 ++ 0 ∷ 1 ∷ 0 ∷ 0 ∷ [])

-- local APICs at 0xfee00000 and two 8259 controllers; one processor, and the mailbox at 0xa000
unfoldable pub madt : List ℕ
madt = table (codes "APIC") 68 246
    (0 ∷ 0 ∷ 0xe0 ∷ 0xfe ∷ 1 ∷ 0 ∷ 0 ∷ 0
    ∷ 0 ∷ 8 ∷ 0 ∷ 0 ∷ 1 ∷ 0 ∷ 0 ∷ 0
    ∷ 16 ∷ 16 ∷ 0 ∷ 0 ∷ 0 ∷ 0 ∷ 0 ∷ 0 ∷ 0 ∷ 0xa0 ∷ replicate 6 0)

-- one region at 0xb0000000, of all buses of the segment group 0
unfoldable pub mcfg : List ℕ
mcfg = table (codes "MCFG") 60 247
    (replicate 8 0 ++ 0 ∷ 0 ∷ 0 ∷ 0xb0 ∷ replicate 4 0 ++ 0 ∷ 0 ∷ 0 ∷ 255 ∷ replicate 4 0)

-- two bytes of AML, and four
unfoldable pub ssdt : List ℕ
ssdt = table (codes "SSDT") 38 85 (replicate 2 0xa3)

unfoldable pub dsdt : List ℕ
dsdt = table (codes "DSDT") 40 28 (replicate 4 0xa3)

-- event timers at 0xfed00000, of the block 0x8086a201, with ticks of at least 128
unfoldable pub hpet : List ℕ
hpet = table (codes "HPET") 56 95
    (1 ∷ 0xa2 ∷ 0x86 ∷ 0x80 ∷ 0 ∷ 64 ∷ 0 ∷ 0
    ∷ 0 ∷ 0 ∷ 0xd0 ∷ 0xfe ∷ 0 ∷ 0 ∷ 0 ∷ 0 ∷ 0 ∷ 128 ∷ 0 ∷ 0 ∷ [])

-- the name HPET with an OEM id that is not text, and 24 times this byte after the header
unfoldable pub unnamed : ℕ → List ℕ
unnamed body =
    codes "HPET" ++ 60 ∷ 0 ∷ 0 ∷ 0 ∷ 1 ∷ 0 ∷ 255 ∷ replicate 25 0 ++ replicate 24 body

-- a table whose bytes don't sum to 0, with 20 times this byte after the header
unfoldable pub damaged : ℕ → List ℕ
damaged body = table (codes "HPET") 56 0 (replicate 20 body)

-- ---- two memories

unfoldable pub rsdt : List ℕ
rsdt = table (codes "RSDT") 60 214
    (0 ∷ 0x20 ∷ 0 ∷ 0 ∷ 0 ∷ 0x30 ∷ 0 ∷ 0 ∷ 0 ∷ 0x40 ∷ 0 ∷ 0
    ∷ 0 ∷ 0x50 ∷ 0 ∷ 0 ∷ 0 ∷ 0x60 ∷ 0 ∷ 0 ∷ 0 ∷ 0x70 ∷ 0 ∷ 0 ∷ [])

-- of revision 0, with the RSDT at 0x1000
unfoldable pub rsdp : List ℕ
rsdp = codes "RSD PTR " ++ 209 ∷ replicate 7 0 ++ 0 ∷ 0x10 ∷ 0 ∷ 0 ∷ replicate 16 0

-- each in a region of its own, which has this byte after it
unfoldable pub memory : ℕ → Memory
memory other =
    region 0x500 rsdp other
    ∷ region 0x1000 rsdt other
    ∷ region 0x2000 (unnamed other) other
    ∷ region 0x3000 fadt other
    ∷ region 0x4000 hpet other
    ∷ region 0x5000 madt other
    ∷ region 0x6000 mcfg other
    ∷ region 0x7000 ssdt other
    ∷ region 0x8000 dsdt other
    ∷ region 0x9000 (damaged other) other ∷ []

abbrev pub here : Memory
here = memory 0

abbrev pub there : Memory
there = memory 255

-- what the RSDT lists
abbrev pub listed : List ℕ
listed = 0x2000 ∷ 0x3000 ∷ 0x4000 ∷ 0x5000 ∷ 0x6000 ∷ 0x7000 ∷ []

-- and the damaged table after it
abbrev pub more : List ℕ
more = listed ++ 0x9000 ∷ []

-- the tables that are valid among them
abbrev pub tables : List (List ℕ)
tables = fadt ∷ hpet ∷ madt ∷ mcfg ∷ ssdt ∷ []

-- ---- the same tables elsewhere

-- it lists the address 0, where nothing is, and the addresses of the tables
unfoldable pub xsdt : List ℕ
xsdt = table (codes "XSDT") 84 211
    (replicate 8 0
    ++ 0 ∷ 0x30 ∷ 0 ∷ 0 ∷ 1 ∷ 0 ∷ 0 ∷ 0 ∷ 0 ∷ 0x40 ∷ 0 ∷ 0 ∷ 1 ∷ 0 ∷ 0 ∷ 0
    ∷ 0 ∷ 0x50 ∷ 0 ∷ 0 ∷ 1 ∷ 0 ∷ 0 ∷ 0 ∷ 0 ∷ 0x60 ∷ 0 ∷ 0 ∷ 1 ∷ 0 ∷ 0 ∷ 0
    ∷ 0 ∷ 0x70 ∷ 0 ∷ 0 ∷ 1 ∷ 0 ∷ 0 ∷ 0 ∷ [])

unfoldable pub moved : Memory
moved =
    region 0x100001000 xsdt 0
    ∷ region 0x100003000 fadt 0
    ∷ region 0x100004000 hpet 0
    ∷ region 0x100005000 madt 0
    ∷ region 0x100006000 mcfg 0
    ∷ region 0x100007000 ssdt 0 ∷ []

abbrev pub moved_pointers : List ℕ
moved_pointers =
    0 ∷ 0x100003000 ∷ 0x100004000 ∷ 0x100005000 ∷ 0x100006000 ∷ 0x100007000 ∷ []

-- the root tables list these pointers
abbrev pub TheyList : Type 0
TheyList =
    (below here Rsdt 0x1000 (λ ps. Ok ps) ≡ Ok listed)
    × (below moved Xsdt 0x100001000 (λ ps. Ok ps) ≡ Ok moved_pointers)

abbrev pub AreMemories : Type 0
AreMemories = IsMemory here × IsMemory there × IsMemory moved

-- ---- how they differ

-- at each of these addresses one has the byte 0 and the other 255
abbrev pub DifferAt : Memory → Memory → List ℕ → Type 0
DifferAt m n addresses =
    (map (λ a. at m a 1) addresses ≡ map (λ a. Some (0 ∷ [])) addresses)
    × (map (λ a. at n a 1) addresses ≡ map (λ a. Some (255 ∷ [])) addresses)

-- after each table, after the header of the one whose id is an error and at its end, and after the header of the
-- damaged one
abbrev pub differing : List ℕ
differing =
    0x524 ∷ 0x103c ∷ 0x2024 ∷ 0x203b ∷ 0x203c ∷ 0x3074 ∷ 0x4038 ∷ 0x5044 ∷ 0x603c ∷ 0x7026 ∷ 0x8028 ∷ 0x9024 ∷ []

abbrev pub TheyDiffer : Type 0
TheyDiffer = DifferAt here there differing
