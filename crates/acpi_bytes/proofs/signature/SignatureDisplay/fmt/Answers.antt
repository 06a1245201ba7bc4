use Rattle.std.proofs.Common.{◌≡◌, ℕ, List, [], ◌∷◌, Bool, true, false, length, get_or, refl, sym, arith, IsUtf8}
use Rattle.acpi_bytes.specs.FromStd.{is_utf8}
use Rattle.acpi_bytes.proofs.FromStd.{is_utf8-from_IsUtf8, IsUtf8-from_is_utf8}
use Rattle.acpi_bytes.specs.Words.{bytes_text, hex_text}
use Rattle.acpi_bytes.proofs.signature.SignatureDisplay.fmt.Goals as goal

as_text : (bs : List ℕ) → IsUtf8 bs → bytes_text bs ≡ bs
as_text bs text = rw (is_utf8-from_IsUtf8 bs text)

pub returns-in-Some-clause-writes : goal.returns-in-Some-clause-writes
returns-in-Some-clause-writes g c = λ plain ok. rw (
  as_text c.args.self.now.0 (c.in-Some.ensures).1,
  ← (c.in-Some.ensures).0,
) (c.write_str.ensures.writes plain ok)

not_text : (bs : List ℕ) → (b : Bool) → b ≡ is_utf8 bs → ¬ (IsUtf8 bs) → b ≡ false
not_text bs true same bad = absurd (bad (IsUtf8-from_is_utf8 bs (sym same)))
not_text bs false same bad = refl

four : (bs : List ℕ) → length bs ≡ 4 → ¬ (IsUtf8 bs)
    → bytes_text bs ≡ hex_text (get_or bs 0 0 ∷ get_or bs 1 0 ∷ get_or bs 2 0 ∷ get_or bs 3 0 ∷ [])
four [] long bad = absurd (omega arith)
four (a ∷ []) long bad = absurd (omega arith)
four (a ∷ b ∷ []) long bad = absurd (omega arith)
four (a ∷ b ∷ c ∷ []) long bad = absurd (omega arith)
four (a ∷ b ∷ c ∷ d ∷ []) long bad = rw (not_text (a ∷ b ∷ c ∷ d ∷ []) (is_utf8 (a ∷ b ∷ c ∷ d ∷ [])) refl bad)
four (a ∷ b ∷ c ∷ d ∷ e ∷ more) long bad = absurd (omega arith)

pub returns-in-None-clause-writes : goal.returns-in-None-clause-writes
returns-in-None-clause-writes g c = λ plain ok. rw (four c.args.self.now.0 (c.type_inv.self.0.1.0.1) c.in-None.ensures)
    (c.write.ensures.writes plain ok)
