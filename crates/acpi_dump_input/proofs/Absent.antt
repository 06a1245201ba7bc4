-- Where a memory has no byte, it has no table.
use Rattle.std.proofs.Common.{◌≡◌, ℕ, Bool, true, false, List, [], ◌∷◌, length, Option, Some, Result, Err, arith, refl, sym, ◌∙◌}
use Rattle.std.specs.Prelude.{bytes_eq, if◌then◌else◌}
use Rattle.acpi.specs.Types.{AcpiError, FACS, MapFailed, Signature}
use Rattle.acpi_base.specs.Words.{Kind, Memory, at, plain_kind, rest_from, table_at}
use Rattle.acpi_dump_input.specs.Listed.{check_facs, checked_as, checked_table}

no_byte : (rest : List ℕ) → length rest ≡ 0 → rest ≡ []
no_byte [] none = refl
no_byte (b ∷ rest) none = absurd (omega (arith, none))

no_table : (m : Memory) (k : Kind) (a : ℕ) → rest_from m a ≡ [] → table_at m k a ≡ Err MapFailed
unfolding table_at at
no_table m k a none = rw none refl

either : (b : Bool) (x y : Result (Unit {0}) AcpiError) (e : AcpiError) → x ≡ Err e → y ≡ Err e
    → (if b then x else y) ≡ Err e
either true x y e p q = p
either false x y e p q = q

pub nothing_here : (m : Memory) (sought : Option Signature) (s : Signature) (a : ℕ) (rest : List ℕ)
    → rest ≡ rest_from m a → length rest ≡ 0 → sought ≡ Some s → Err MapFailed ≡ checked_as m sought a
nothing_here m sought s a rest is none named =
    let empty : rest_from m a ≡ [] = sym is ∙ no_byte rest none in
    let facs : check_facs MapFailed (rest_from m a) ≡ Err MapFailed = rw empty refl in
    let table : checked_table m (Some s) a ≡ Err MapFailed = rw (no_table m (plain_kind s) a empty) refl in
    rw named (sym (either (bytes_eq s.0 FACS.0) _ _ MapFailed facs table))
