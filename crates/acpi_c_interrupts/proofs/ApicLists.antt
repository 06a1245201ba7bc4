-- The list of processors, whose first is made the boot processor after all are written, and what the strict model has
-- of the same entries.
use Rattle.std.proofs.Common.{◌≡◌, ℕ, suc, ◌+◌, ◌<◌, ◌≤◌, zero, List, [], ◌∷◌, drop, length, get_or, slice_set, subst, true, refl, add-one, arith, ◌∙◌, sym, ap, filter_map, Option, Some, None}
use Rattle.std.specs.Prelude.{unwrap_or}
use Rattle.acpi_base.specs.FromStd.{last_or, list_any}
use Rattle.acpi_base.specs.Words.{item_in, item_of, last_address}
use Rattle.acpi_base.specs.Model.{is_of_apic}
use Rattle.acpi.specs.Types.{MadtEntry}
use Rattle.acpi_base.specs.declared.tables.madt.entry.MadtEntry.TheVariants as entry
use Rattle.acpi_c_lib.specs.Words.{put_from}
use Rattle.acpi_c_interrupts.specs.Words.{Processor, boot_first, booted, is_of_apics}

-- what is written from the second place on leaves the first
put_later : {X : Type 0} (z : X) (zs xs : List X) (n : ℕ) → put_from (z ∷ zs) (suc n) xs ≡ z ∷ put_from zs n xs
put_later z zs [] n = refl
put_later z zs (x ∷ xs) n = rw (add-one n, add-one (suc n)) (put_later z (slice_set zs n x) xs (suc n))

put_none : {X : Type 0} (xs : List X) (n : ℕ) → put_from {X = X} [] n xs ≡ []
put_none [] n = refl
put_none (x ∷ xs) n = put_none xs (n + 1)

pub as_many : (ps : List Processor) → length (boot_first ps) ≡ length ps
as_many [] = refl
as_many (p ∷ ps) = refl

-- from the second on they are as they were
pub later_same : (from : ℕ) (ps : List Processor) → 0 < from → drop from (boot_first ps) ≡ drop from ps
later_same zero ps some = absurd (omega (arith, some))
later_same (suc n) [] some = refl
later_same (suc n) (p ∷ ps) some = refl

-- what is written has the number of places that there were
none_written : (before ps : List Processor) → length (put_from before 0 ps) ≤ 0 → before ≡ []
none_written [] ps none = refl
none_written (o ∷ before) [] none = absurd (omega (arith, none))
none_written (o ∷ before) (p ∷ ps) none =
    let later = ap length (put_later p before ps 0) in
    absurd (omega (arith, none, later))

-- the one written first is made the boot processor
pub first_booted : (before ps out : List Processor) (or : Processor) → out ≡ put_from before 0 ps → 0 < length ps
    → 0 < length out → slice_set out 0 (booted (get_or out 0 or)) ≡ put_from before 0 (boot_first ps)
first_booted before [] out or is some room = absurd (omega (arith, some))
first_booted [] (p ∷ ps) out or is some room =
    let none = ap length (is ∙ put_none (p ∷ ps) 0) in
    absurd (omega (arith, none, room))
first_booted (o ∷ before) (p ∷ ps) out or is some room =
    let same = is ∙ put_later p before ps 0 in
    let later = put_later (booted p) before ps 0 in
    rw (same, later) refl

pub none_booted : (before ps out : List Processor) → out ≡ put_from before 0 ps → length out ≤ 0
    → out ≡ put_from before 0 (boot_first ps)
none_booted before ps out is none =
    let empty = none_written before ps (subst (λ xs. length xs ≤ 0) is none) in
    is ∙ rw (empty, put_none ps 0) (sym (put_none (boot_first ps) 0))

pub no_processor : (before ps out : List Processor) → out ≡ put_from before 0 ps → length ps ≤ 0
    → out ≡ put_from before 0 (boot_first ps)
no_processor before [] out is none = is
no_processor before (p ∷ ps) out is none = absurd (omega (arith, none))

-- ---- a table that the strict model takes

-- an entry whose item is of APICs is of APICs
any_with : (e : MadtEntry) (es : List MadtEntry)
    → (list_any is_of_apic (filter_map item_in es) ≡ true → list_any is_of_apics es ≡ true)
    → list_any is_of_apic (filter_map item_in (e ∷ es)) ≡ true → list_any is_of_apics (e ∷ es) ≡ true
unfolding item_of
any_with (entry.IoSapic e) es more any = more any
any_with (entry.LocalSapic e) es more any = more any
any_with (entry.PlatformInterruptSource e) es more any = more any
any_with (entry.Gicc e) es more any = more any
any_with (entry.Gicd e) es more any = more any
any_with (entry.GicMsiFrame e) es more any = more any
any_with (entry.GicRedistributor e) es more any = more any
any_with (entry.GicInterruptTranslationService e) es more any = more any
any_with (entry.MultiprocessorWakeup e) es more any = more any
any_with _ es more any = refl

pub any_said : (es : List MadtEntry) → list_any is_of_apic (filter_map item_in es) ≡ true
    → list_any is_of_apics es ≡ true
any_said [] any = any
any_said (e ∷ es) any = any_with e es (any_said es) any

-- ---- the address of the local APICs

last_after : (address : ℕ) (so_far : Option ℕ) (given : List ℕ)
    → unwrap_or (last_or so_far given) address ≡ last_address (unwrap_or so_far address) given
last_after address so_far [] = refl
last_after address so_far (x ∷ given) = last_after address (Some x) given

pub last_said : (address : ℕ) (given : List ℕ) → unwrap_or (last_or None given) address ≡ last_address address given
last_said address given = last_after address None given
