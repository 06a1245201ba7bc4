-- Texts, and how a signature is printed.
use Rattle.std.specs.Prelude.{◌≡◌, Result, Ok, Err, IsUtf8, MatchOption, Option, ℕ, List, [], ◌∷◌, ◌+◌, ◌/◌, ◌%◌, if◌then◌else◌, nat_lt}
use Rattle.acpi_bytes.specs.FromStd.{Bor, is_utf8}
use Rattle.acpi_bytes.specs.Types.{Signature}

-- what is returned is the text that the bytes encode in UTF-8, or none if they encode none
abbrev pub IsTextOf : Option (Bor (List ℕ)) → List ℕ → Type 0
IsTextOf answer bytes =
    MatchOption answer (¬ (IsUtf8 bytes)) (λ text. (text.now ≡ bytes) × IsUtf8 bytes)

-- what is returned is the text, or the error, that is defined
abbrev pub Shows : {E : Type 0} → Result (Bor (List ℕ)) E → Result (List ℕ) E → Type 0
Shows (Ok text) defined = defined ≡ Ok text.now
Shows (Err e) defined = defined ≡ Err e

-- the four bytes of a signature
abbrev pub letters_of : Signature → List ℕ
letters_of s = s.0

-- a hexadecimal digit in lower case
abbrev pub hex_digit : ℕ → ℕ
hex_digit d = if nat_lt d 10 then 48 + d else 87 + d

-- two digits for each byte
abbrev pub hex_text : List ℕ → List ℕ
hex_text [] = []
hex_text (b ∷ bs) = hex_digit (b / 16) ∷ hex_digit (b % 16) ∷ hex_text bs

-- the bytes if they are a text, else their digits
abbrev pub bytes_text : List ℕ → List ℕ
bytes_text bytes = if is_utf8 bytes then bytes else hex_text bytes

abbrev pub signature_text : Signature → List ℕ
signature_text s = bytes_text (letters_of s)
