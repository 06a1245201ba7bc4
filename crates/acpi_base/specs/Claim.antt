-- What a claim shows.
use Rattle.std.specs.Prelude.{◌≡◌, ◌+◌, ◌^◌, ◌<◌, ◌≤◌, ℕ, List, length, take, Some, None, Ok}
use Rattle.acpi_bytes.specs.Memory.{Memory, at}
use Rattle.acpi_bytes.specs.Table.{Kind}
use Rattle.acpi_base.specs.declared.memory.claim.Claim.{Claim}

-- where the mapped bytes start
abbrev pub claimed_at : {H h : _} → Claim H h → ℕ
claimed_at c = c.start

-- all the mapped bytes
abbrev pub all_of : {H h : _} → Claim H h → List ℕ
all_of c = c.lent.now

-- the ones of them that are shown
abbrev pub shown_by : {H h : _} → Claim H h → List ℕ
shown_by c = take c.region_length c.lent.now

-- the handler that maps them
abbrev pub claimed_from : {H h : _} → Claim H h → H
claimed_from c = c.handler.now

-- however many bytes are mapped, all of them are the memory's
abbrev pub IsLentOf : {H h : _} → Memory → Claim H h → Type 0
IsLentOf m c = at m (claimed_at c) (length (all_of c)) ≡ Some (all_of c)

-- a kind without checks of bytes: what is claimed before these are looked at
abbrev pub unchecked : Kind → Kind
unchecked k = record { signature = k.signature; least = k.least; names = k.names; check = λ _. Ok tt; own = None }

-- it shows at least this number of bytes and fewer than 2^32, at the place and from the handler of the claim of their
-- header, all mapped bytes are the memory's, and they end below 2^64
abbrev pub IsWholeClaim : {H h : _} → Memory → Claim H h → ℕ → Claim H h → Type 0
IsWholeClaim m head least c =
    (claimed_at c ≡ claimed_at head) × (claimed_from c ≡ claimed_from head) × IsLentOf m c
    × (least ≤ length (shown_by c)) × (length (shown_by c) < 2 ^ 32) × (claimed_at c + length (shown_by c) < 2 ^ 64)
