-- The tables that a text spells.
use Rattle.std.proofs.Common.{◌≡◌, ℕ, ◌<◌, length, List, Ok, inr, sym, subst}
use Rattle.std.specs.Prelude.{slice_index_or}
use Rattle.acpi_dump_input.proofs.Growing.{grows_more, grows_weaker}
use Rattle.acpi_dump_input.proofs.Lists.{has_map, has_mapped}
use Rattle.acpi_dump_input.specs.DumpText.{Spelled, tables_of}
use Rattle.acpi_dump_input.specs.Given.{Grows, HasTable}
use Rattle.acpi_dump_input.specs.Held.{spelled_of, tables_in}
use Rattle.acpi_dump_input.specs.declared.text.SpelledTable.{SpelledTable}

has_spelled : (text bytes : List ℕ) (ts : List SpelledTable) (t : SpelledTable) (i : ℕ) → text ≡ bytes
    → tables_of text ≡ Ok (tables_in ts) → i < length ts → t ≡ slice_index_or ts i t → HasTable bytes t.bytes.items
has_spelled text bytes ts t i same spelled less is =
    inr (
      tables_in ts,
      subst (λ b. tables_of b ≡ Ok (tables_in ts)) same spelled,
      has_map (λ (s : Spelled). s.bytes) (tables_in ts) (spelled_of t) (has_mapped spelled_of ts t i less is),
    )

-- one more of them is added
pub grows_spelled : (text bytes : List ℕ) (ts : List SpelledTable) (t : SpelledTable) (i : ℕ)
    (before between after : List (List ℕ)) → text ≡ bytes → tables_of text ≡ Ok (tables_in ts)
    → ((i < length ts) × (t ≡ slice_index_or ts i t)) → Grows (HasTable bytes) before between
    → Grows (λ b. b ≡ t.bytes.items) between after → Grows (HasTable bytes) before after
grows_spelled text bytes ts t i before between after same spelled at some more =
    grows_more (HasTable bytes) before between after some
    (grows_weaker (λ b. b ≡ t.bytes.items) (HasTable bytes) between after
    (λ b is. subst (HasTable bytes) (sym is) (has_spelled text bytes ts t i same spelled at.0 at.1)) more)
