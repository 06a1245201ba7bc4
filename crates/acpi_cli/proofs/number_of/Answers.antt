-- Numbers that digits encode.
use Rattle.std.proofs.Common.{◌≡◌, ℕ, ◌^◌, ◌<◌, ◌≤◌, List, [], ◌∷◌, length, refl, ap, ◌∙◌, sym, arith, true, Result, Ok, Err}
use Rattle.acpi_base.specs.FromStd.{is_digit, digit_value, list_all, result_ok, AllDigits, ParsesUnsigned, digits_value, without_leading_plus}
use Rattle.acpi_base.proofs.FromStd.{ltb-true, and_parts, le-leb, digits_value-lt, without_leading_plus_none, pow-le-pow_right}
use Rattle.acpi_cli.specs.Numbers.{numeral}
use Rattle.acpi_cli.proofs.number_of.Goals as goal

-- a list that passes the test is all digits
all_digits : (base : ℕ) (ds : List ℕ)
    → list_all (λ c. is_digit c base) ds ≡ true → AllDigits base ds
all_digits base [] h = tt
all_digits base (c ∷ cs) h =
    let parts = and_parts (is_digit c base) (list_all (λ d. is_digit d base) cs) h in
    (ltb-true (digit_value c) base parts.0, all_digits base cs parts.1)

-- a plus is not a digit
no_plus : (base : ℕ) (ds : List ℕ) → base ≤ 36 → AllDigits base ds → without_leading_plus ds ≡ ds
no_plus base [] high h = refl
no_plus base (c ∷ cs) high h =
    without_leading_plus_none (c ∷ cs)
    (λ e. let value : digit_value c ≡ 36 = ap digit_value e in absurd (omega (arith, h.0)))

-- that number of digits fits
small : (base most : ℕ) (ds : List ℕ) → 1 ≤ base → base ^ most ≤ 2 ^ 64 → length ds ≤ most
    → AllDigits base ds → digits_value base ds < 2 ^ 64
small base most ds low fits short h =
    let value = digits_value-lt base ds h in
    let room : base ^ length ds ≤ base ^ most = pow-le-pow_right low short in
    omega (arith, value, room)

-- what std parses of digits that are few enough is the number that is defined
parsed : {E : Type 0} (base most : ℕ) (ds : List ℕ) (r : Result ℕ E)
    → 1 ≤ base → base ≤ 36 → base ^ most ≤ 2 ^ 64 → length ds ≤ most
    → list_all (λ c. is_digit c base) ds ≡ true → ParsesUnsigned 64 base ds r
    → result_ok r ≡ numeral base most ds
parsed base most [] (Ok x) low high fits short all given = absurd (omega (arith, given.0.0.0))
parsed base most [] (Err e) low high fits short all given = refl
parsed base most (c ∷ cs) (Ok x) low high fits short all given =
    let plain = no_plus base (c ∷ cs) high (all_digits base (c ∷ cs) all) in
    let value = given.1 ∙ ap (digits_value base) plain in
    let some : 1 ≤ length (c ∷ cs) = omega arith in
    rw (value, le-leb _ _ some, le-leb _ _ short, all) refl
parsed base most (c ∷ cs) (Err e) low high fits short all given =
    let digits = all_digits base (c ∷ cs) all in
    let plain = no_plus base (c ∷ cs) high digits in
    absurd (given (rw plain ((omega arith, digits), small base most (c ∷ cs) low fits short digits)))

pub returns : goal.returns
returns c =
    c.ok.ensures.value
    ∙ parsed c.args.base c.args.most c.args.digits.now c.from_str_radix.result
    (omega arith) c.requires.high c.requires.fits (omega arith)
    (sym c.are_digits.ensures ∙ c.if-not-are_digits.false)
    c.from_str_radix.ensures.value
