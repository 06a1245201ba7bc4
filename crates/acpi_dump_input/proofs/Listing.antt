-- One more table in a list.
use Rattle.std.proofs.Common.{◌≡◌, ◌∙◌, ℕ, List, [], ◌∷◌, ◌++◌, ap, append_assoc}
use Rattle.std.specs.Prelude.{All, map}
use Rattle.std.proofs.lemmas.List.Elements.{All-append, All-cons, All-nil}
use Rattle.acpi_base.proofs.FromStd.{map-append}
use Rattle.acpi_base.specs.Words.{Memory}
use Rattle.acpi_dump_input.specs.Inputs.{IsPart}
use Rattle.acpi_dump_input.specs.Listed.{Listed, seen}
use Rattle.acpi_dump_input.specs.declared.entries.Entry.{Entry}

pub parts_more : (m : Memory) (es more : List Entry) (e : Entry) → more ≡ es ++ e ∷ [] → IsPart m e.bytes.now
    → All (IsPart m) (map (λ e. e.bytes.now) es) → All (IsPart m) (map (λ e. e.bytes.now) more)
parts_more m es more e is part all =
    rw (is, map-append (λ (x : Entry). x.bytes.now) es (e ∷ []))
    (All-append (IsPart m) (map (λ (x : Entry). x.bytes.now) es) (e.bytes.now ∷ []) all
    (All-cons (IsPart m) e.bytes.now [] part (All-nil (IsPart m))))

pub seen_more : (es more : List Entry) (e : Entry) (shown : Listed) → more ≡ es ++ e ∷ [] → seen e ≡ shown
    → map seen more ≡ map seen es ++ shown ∷ []
seen_more es more e shown is same =
    ap (map seen) is ∙ map-append seen es (e ∷ []) ∙ ap (λ (x : Listed). map seen es ++ x ∷ []) same

-- those to which the pointers that are left lead come after it
pub listed_more : (f : ℕ → Listed) (es more : List Entry) (e : Entry) (p : ℕ) (ps left : List ℕ) (all : List Listed)
    → more ≡ es ++ e ∷ [] → seen e ≡ f p → ps ≡ p ∷ left → map seen es ++ map f ps ≡ all
    → map seen more ++ map f left ≡ all
listed_more f es more e p ps left all is same first so_far =
    rw (seen_more es more e (f p) is same, append_assoc) (rw first at so_far)
