-- Decoding a code of an interrupt or a serial port gives the one value that has it.
use Rattle.std.proofs.Common.{◌≡◌, ℕ, zero, suc, ◌+◌, ◌<◌, Bool, true, false, List, [], ◌∷◌, length, get_or, Ok, refl, subst, arith, nat_lt, ◌==◌, ◌&&◌, ◌||◌}
use Rattle.acpi_base.proofs.FromStd.{and_parts, eqb-true, ltb-false, ltb-true, get_or_past, or_right}
use Rattle.acpi_base.specs.Types.{InvalidGenericAddress, InvalidLocalNmiLine, MpsIntiInvalidPolarity, MpsIntiInvalidTriggerMode, LocalInterruptLine, Lint0, Lint1, Polarity, TriggerMode, SpcrInterfaceType}
use Rattle.acpi_base.specs.declared.model.interrupt.Polarity.TheVariants as polarity
use Rattle.acpi_base.specs.declared.model.interrupt.TriggerMode.TheVariants as trigger
use Rattle.acpi_base.specs.declared.tables.spcr.interface.SpcrInterfaceType.TheVariants as interface
use Rattle.acpi_base.specs.Codes.{CodesDecode, interface_code, interface_of, interfaces, is_interface, line_code, line_of, local_lines, polarities, polarity_code, polarity_for, trigger_code, trigger_for, trigger_modes}
use Rattle.acpi_bytes.specs.Codes.{access_sizes, size_code}
use Rattle.acpi_bytes.proofs.Decoding.{Has, by_list, size_read, spaces_decode}

-- ---- values in a list

-- each value in the list has its place, counted from n, as its code
abbrev pub are_placed : {A : Type 0} → (A → Bool) → (A → ℕ) → List A → ℕ → Bool
are_placed is_value code_of [] n = true
are_placed is_value code_of (x ∷ xs) n =
    (is_value x && (code_of x == n)) && are_placed is_value code_of xs (suc n)

pub at_place : {A : Type 0} (is_value : A → Bool) (code_of : A → ℕ) (xs : List A) (n : ℕ) (i : ℕ) (d : A)
    → are_placed is_value code_of xs n ≡ true → i < length xs → Has is_value code_of (get_or xs i d) (n + i)
at_place is_value code_of [] n i d p h = absurd (omega (arith, h))
at_place is_value code_of (x ∷ xs) n zero d p h =
    let first = is_value x && (code_of x == n) in
    let placed = and_parts first (are_placed is_value code_of xs (suc n)) p in
    let here = and_parts (is_value x) (code_of x == n) placed.0 in
    let same : n + zero ≡ n = omega arith in
    rw same (here.0, eqb-true _ _ here.1)
at_place is_value code_of (x ∷ xs) n (suc i) d p h =
    let first = is_value x && (code_of x == n) in
    let later = (and_parts first (are_placed is_value code_of xs (suc n)) p).1 in
    let next : n + suc i ≡ suc n + i = omega arith in
    rw next (at_place is_value code_of xs (suc n) i d later (omega (arith, h)))

-- a code below the length of the list is that of the value at this place
pub by_place : {A : Type 0} (is_value : A → Bool) (code_of : A → ℕ) (xs : List A) (code : ℕ) (d : A)
    → are_placed is_value code_of xs 0 ≡ true → code < length xs → Has is_value code_of (get_or xs code d) code
by_place is_value code_of xs code d p h =
    let from_0 : 0 + code ≡ code = omega arith in
    subst (Has is_value code_of (get_or xs code d)) from_0 (at_place is_value code_of xs 0 code d p h)

-- ---- interrupts

pub polarity_read : (p : Polarity) → polarity_for (polarity_code p) ≡ Ok p
polarity_read polarity.SameAsBus = refl
polarity_read _ = refl

pub trigger_read : (t : TriggerMode) → trigger_for (trigger_code t) ≡ Ok t
trigger_read trigger.SameAsBus = refl
trigger_read _ = refl

pub line_read : (l : LocalInterruptLine) → line_of (line_code l) ≡ Ok l
line_read Lint0 = refl
line_read Lint1 = refl

-- ---- serial ports

unnamed : (code : ℕ) (seven : Bool) → (code == 7) ≡ seven → (seven || nat_lt 0x15 code) ≡ true
    → interface_of code ≡ interface.Unknown code
unnamed code true e h = rw (eqb-true code 7 e) refl
unnamed code false e h = get_or_past interfaces code (interface.Unknown code) (omega (arith, ltb-true 0x15 code h))

pub interface_read : (i : SpcrInterfaceType) → is_interface i ≡ true → interface_of (interface_code i) ≡ i
interface_read (interface.Unknown code) h = unnamed code (code == 7) refl h
interface_read _ h = refl

only_interface : (code : ℕ) (b : Bool) → nat_lt 0x15 code ≡ b
    → Has is_interface interface_code (interface_of code) code
only_interface code true past =
    rw (get_or_past interfaces code (interface.Unknown code) (omega (arith, ltb-true 0x15 code past)))
    (or_right (code == 7) (nat_lt 0x15 code) past, refl)
only_interface code false named =
    by_place is_interface interface_code interfaces code (interface.Unknown code) refl
    (omega (arith, ltb-false 0x15 code named))

pub codes_decode : CodesDecode
codes_decode = record {
  polarities = by_list polarity_code polarities MpsIntiInvalidPolarity polarity_read;
  triggers = by_list trigger_code trigger_modes MpsIntiInvalidTriggerMode trigger_read;
  lines = by_list line_code local_lines InvalidLocalNmiLine line_read;
  spaces = spaces_decode;
  sizes = by_list size_code access_sizes InvalidGenericAddress size_read;
  interfaces = record { each = interface_read; only = λ code. only_interface code (nat_lt 0x15 code) refl };
}
