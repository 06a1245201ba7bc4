-- What a search finds is valid there.
use Rattle.std.proofs.Common.{◌≡◌, ℕ, List, Ok, inl, inr}
use Rattle.acpi_c_lib.specs.Words.{Memory, AddressRange, IsFirstIn, accepted_rsdp_at, IsFound}

pub found_valid : (accept : ℕ) (m : Memory) (found : ℕ × List ℕ) → IsFound accept m found
    → accepted_rsdp_at accept m found.0 ≡ Ok found.1
found_valid accept m found (s, second, inl first) = first.valid
found_valid accept m found (s, second, inr last) = last.1.valid

pub listed_valid : (accept : ℕ) (m : Memory) (areas : List AddressRange) (found : ℕ × List ℕ)
    → IsFirstIn accept m areas found
    → accepted_rsdp_at accept m found.0 ≡ Ok found.1
listed_valid accept m areas found first = first.valid
