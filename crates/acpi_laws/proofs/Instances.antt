-- The examples by computation.
use Rattle.std.proofs.Common.{◌≡◌, ℕ, zero, suc, ◌<◌, ◌≤◌, Bool, true, List, [], ◌∷◌, arith, lit≤, refl, ◌&&◌, ◌^◌, nat_le, nat_lt}
use Rattle.acpi_base.specs.FromStd.{AllByRecursion, chars, is_utf8}
use Rattle.acpi_base.proofs.FromStd.{and_parts, leb-true, ltb-true}
use Rattle.acpi_base.specs.Words.{IsBytes, field_of, sum_of, AreApart, IsMemory, Memory, Region, end_of, at, rest_from, cut, front, check_names, check_table, header_at, item_of, madt_at, own_accepted, table_at}
use Rattle.acpi_fixed.specs.Words.{fadt_at, block_at}
use Rattle.acpi_laws.specs.Examples.{AreMemories, TheyDiffer, TheyList, damaged, dsdt, fadt, here, hpet, madt, mcfg, memory, moved, rsdp, rsdt, ssdt, there, unnamed, xsdt}
use Rattle.acpi_laws.specs.ExampleLaws.{Instances, MovedInstances}
use Rattle.acpi.specs.Words.{hpet_at, own_header_at, stream_by, pointers, accepted_length, accepted_rsdp_at, check_first, check_sum, rsdp_of}

-- ---- a test that regions, written out in order, are a memory

abbrev pub all_bytes : List ℕ → Bool
all_bytes [] = true
all_bytes (b ∷ bytes) = nat_lt b 256 && all_bytes bytes

bytes_are : (bytes : List ℕ) → all_bytes bytes ≡ true → IsBytes bytes
bytes_are [] e i = lit≤ tt
bytes_are (b ∷ bytes) e zero = ltb-true _ _ (and_parts _ _ e).0
bytes_are (b ∷ bytes) e (suc i) = bytes_are bytes (and_parts _ _ e).1 i

apart_are : (r s : Region) → end_of r ≤ s.start → AreApart r s
apart_are r s ends a first second =
    let below : a < end_of r = ltb-true a (end_of r) (and_parts (nat_le r.start a) (nat_lt a (end_of r)) first).1 in
    let above : s.start ≤ a = leb-true s.start a (and_parts (nat_le s.start a) (nat_lt a (end_of s)) second).0 in
    omega arith

abbrev pub is_below : Region → Memory → Bool
is_below r [] = true
is_below r (s ∷ m) = nat_le (end_of r) s.start && is_below r m

below_are : (r : Region) (m : Memory) → is_below r m ≡ true → AllByRecursion (AreApart r) m
below_are r [] e = tt
below_are r (s ∷ m) e = (apart_are r s (leb-true _ _ (and_parts _ _ e).0), below_are r m (and_parts _ _ e).1)

abbrev pub is_memory : Memory → Bool
is_memory [] = true
is_memory (r ∷ m) = (nat_lt (end_of r) (2 ^ 64) && all_bytes r.bytes) && (is_below r m && is_memory m)

pub memory_is : (m : Memory) → is_memory m ≡ true → IsMemory m
memory_is [] e = tt
memory_is (r ∷ m) e =
    let own = and_parts _ _ (and_parts (nat_lt (end_of r) (2 ^ 64) && all_bytes r.bytes) _ e).0 in
    let rest = and_parts _ _ (and_parts (nat_lt (end_of r) (2 ^ 64) && all_bytes r.bytes) _ e).1 in
    ((ltb-true _ _ own.0, bytes_are r.bytes own.1), (below_are r m rest.0, memory_is m rest.1))

-- ---- the memories

pub are_memories : AreMemories
unfolding memory moved rsdp rsdt xsdt fadt hpet madt mcfg ssdt dsdt unnamed damaged
are_memories = (
  memory_is here refl,
  memory_is there refl,
  memory_is moved refl,
)

pub they_differ : TheyDiffer
unfolding at rest_from memory rsdp rsdt fadt hpet madt mcfg ssdt dsdt unnamed damaged
they_differ = (refl, refl)

pub they_list : TheyList
unfolding at rest_from table_at header_at check_names check_table field_of sum_of is_utf8 chars lib.Utf8.encode pointers
    memory rsdp rsdt fadt hpet madt mcfg ssdt dsdt unnamed damaged moved xsdt
they_list = (refl, refl)

-- ---- over both memories

pub instances : {A : Type 0} → Instances A
unfolding at rest_from table_at own_accepted header_at check_names check_table field_of sum_of is_utf8 chars
    lib.Utf8.encode own_header_at stream_by fadt_at block_at madt_at front cut item_of hpet_at accepted_rsdp_at rsdp_of
    accepted_length check_first check_sum pointers memory rsdp rsdt fadt hpet madt mcfg ssdt dsdt unnamed damaged
instances = record {
  table = ((refl, (refl, tt)), refl);
  own_table = ((refl, (refl, tt)), refl);
  other_table = ((refl, tt), refl);
  unnamed_table = ((refl, tt), refl);
  lookup = ((refl, (refl, (refl, (refl, tt)))), refl);
  faults = ((refl, (refl, (refl, (refl, tt)))), refl);
  headers = ((refl, (refl, (refl, (refl, (refl, (refl, (refl, (refl, (refl, (refl, (refl, tt))))))))))), refl);
  ssdts = ((refl, (refl, (refl, (refl, (refl, (refl, (refl, (refl, tt)))))))), refl);
  dsdt = ((refl, (refl, (refl, (refl, (refl, tt))))), refl);
  platform = ((refl, (refl, (refl, (refl, (refl, (refl, (refl, (refl, tt)))))))), refl);
  event_timers = ((refl, (refl, (refl, (refl, tt)))), refl);
  regions = ((refl, (refl, (refl, (refl, (refl, (refl, tt)))))), refl);
  mailbox = ((refl, (refl, (refl, (refl, (refl, tt))))), refl);
  rsdp_there = ((refl, tt), refl);
  root = ((refl, (refl, tt)), refl);
  by_rsdp = ((refl, (refl, (refl, tt))), refl);
  asked = refl;
}

pub moved_instances : {A : Type 0} → MovedInstances A
unfolding at rest_from table_at own_accepted header_at check_names check_table field_of sum_of is_utf8 chars
    lib.Utf8.encode own_header_at fadt_at block_at madt_at front cut item_of hpet_at memory rsdp rsdt fadt hpet madt
    mcfg ssdt dsdt unnamed damaged moved xsdt
moved_instances = record {
  lookup = (refl, refl, refl);
  headers = (refl, refl, refl);
  platform = (refl, refl, refl);
  event_timers = (refl, refl, refl);
  regions = (refl, refl, refl);
}
