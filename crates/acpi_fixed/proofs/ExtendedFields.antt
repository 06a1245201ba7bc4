-- Fields that came with revision 2.
use Rattle.std.proofs.Common.{◌-◌, Some, None, ap, drop, length-drop, option_and_then, replicate, ◌≡◌, ℕ, ◌+◌, ◌<◌, ◌≤◌, ◌&&◌, Bool, true, false, List, length, arith, refl, sym, ◌∙◌, nat_le, if◌then◌else◌}
use Rattle.acpi_base.proofs.FromStd.{and_from, and_parts, le-leb, leb-true, length-take-le, lt-leb, take_at}
use Rattle.acpi_base.specs.Words.{field_of, filled_part, number, part}
use Rattle.acpi_fixed.specs.Words.{HasBlocks, extended_bytes, has_extended, reach_of, usable_extended}

-- a table that has all blocks has each field up to the last of them
pub has_all : (b : List ℕ) (offset n : ℕ) → HasBlocks b → offset + n ≤ 244 → has_extended b offset n ≡ true
has_all b offset n blocks within =
    and_from _ _ (le-leb 2 (field_of b 8 1) blocks.0)
    (le-leb (offset + n) (length b) (omega (arith, blocks.1, within)))

tested : (new : Bool) (e l : ℕ) → 0 < e → (new && nat_le e l) ≡ nat_le e (if new then l else 0)
tested true e l some = refl
tested false e l some = sym (lt-leb e 0 some)

-- a table has a field if that ends by the reach
pub reaches : (b : List ℕ) (offset n : ℕ) → 0 < n → has_extended b offset n ≡ nat_le (offset + n) (reach_of b)
reaches b offset n some = tested (nat_le 2 (field_of b 8 1)) (offset + n) (length b) (omega (arith, some))

-- which then is there
pub is_there : (b : List ℕ) (offset n : ℕ) → 0 < n → offset + n ≤ reach_of b → offset + n ≤ length b
is_there b offset n some there =
    leb-true _ _ ((and_parts (nat_le 2 (field_of b 8 1)) _
    (reaches b offset n some ∙ le-leb (offset + n) (reach_of b) there)).1)

-- what a usable field is, by the reach
usable_cases : (b : List ℕ) (offset : ℕ) (t : Bool)
    → option_and_then usable_extended (if t then Some (filled_part b offset 12) else None)
    ≡ usable_extended (if t then filled_part b offset 12 else replicate 12 0)
unfolding field_of
usable_cases b offset true = refl
usable_cases b offset false = refl

pub usable_in : (b : List ℕ) (reach offset : ℕ) → reach ≡ reach_of b
    → option_and_then usable_extended (if nat_le (offset + 12) reach then Some (filled_part b offset 12) else None)
    ≡ usable_extended (extended_bytes b offset)
usable_in b reach offset is =
    usable_cases b offset (nat_le (offset + 12) reach)
    ∙ ap (λ t. usable_extended (if t then filled_part b offset 12 else replicate 12 0))
    (ap (λ r. nat_le (offset + 12) r) is ∙ sym (reaches b offset 12 (omega arith)))

-- a field of a part that is there is the table's
pub part_field : (b : List ℕ) (offset n : ℕ) → offset + n ≤ length b
    → field_of (filled_part b offset n) 0 n ≡ field_of b offset n
unfolding field_of
part_field b offset n there =
    let long : length (part b offset n) ≡ n =
    length-take-le n (drop offset b) (omega (arith, length-drop offset b, there)) in
    ap number (take_at (part b offset n) (replicate (n - length (part b offset n)) 0) n long)
