-- The registers of a FADT are its bytes'; the processors, and the platform, are the tables'.
use Rattle.std.proofs.Common.{◌≡◌, ◌≢◌, ◌⊎◌, ℕ, Bool, true, false, List, [], ◌∷◌, Option, None, Result, Ok, Err, refl, ap, All, filter_map, map, inl, inr}
use Rattle.acpi_base.proofs.FromStd.{All-cons, All-nil}
use Rattle.acpi_base.specs.Words.{Memory, Model, model_of, processor_in, state_of, ◌>>=◌}
use Rattle.acpi_base.specs.declared.model.item.MadtItem.TheVariants as item
use Rattle.acpi.specs.Types.{AcpiError, Unknown, MadtItem, Processor, Running, WaitingForSipi}
use Rattle.acpi.specs.declared.platform.PlatformInfo.{PlatformInfo}
use Rattle.acpi.specs.declared.platform.timer.PmTimer.{PmTimer}
use Rattle.acpi.specs.Words.{fadt_kind, lookup, madt_kind, model_in, or_later, timer_of}
use Rattle.acpi_fixed.specs.Words.{fadt_at, profile_of}
use Rattle.acpi_laws.specs.PlatformLaws.{FirstBoots, IsPlatform, ListedOnce, PlatformIsTheirs, RegistersAreTheTables, ids_in, ids_of}

pub registers_are : RegistersAreTheTables
unfolding fadt_at
registers_are table = refl

-- ---- processors

others_listed : (items : List MadtItem) → map ids_of (filter_map (processor_in true) items) ≡ filter_map ids_in items
others_listed [] = refl
others_listed (item.Processor uid id is_enabled ∷ items) = ap (λ more. (uid, id) ∷ more) (others_listed items)
others_listed (_ ∷ items) = others_listed items

pub listed_once : ListedOnce
listed_once [] = refl
listed_once (item.Processor uid id is_enabled ∷ items) = ap (λ more. (uid, id) ∷ more) (others_listed items)
listed_once (_ ∷ items) = listed_once items

waits : (is_enabled : Bool) → state_of true is_enabled ≢ Running
waits true e = absurd cc
waits false e = absurd cc

runs : (is_enabled : Bool) → state_of false is_enabled ≢ WaitingForSipi
runs true e = absurd cc
runs false e = absurd cc

others_wait : (items : List MadtItem)
    → All (λ (p : Processor). (p.is_ap ≡ true) × (p.state ≢ Running)) (filter_map (processor_in true) items)
others_wait [] = All-nil (λ (p : Processor). (p.is_ap ≡ true) × (p.state ≢ Running))
others_wait (item.Processor uid id is_enabled ∷ items) =
    All-cons (λ (p : Processor). (p.is_ap ≡ true) × (p.state ≢ Running)) _ (filter_map (processor_in true) items)
    (refl, waits is_enabled) (others_wait items)
others_wait (_ ∷ items) = others_wait items

pub first_boots : FirstBoots
first_boots [] = tt
first_boots (item.Processor uid id is_enabled ∷ items) = (refl, runs is_enabled, others_wait items)
first_boots (_ ∷ items) = first_boots items

-- ---- the platform

abbrev platform_from : ℕ × List ℕ → Model (Unit {0}) → Option PmTimer → PlatformInfo (Unit {0})
platform_from fadt read_model timer = record {
  power_profile = profile_of (fadt_at fadt.1);
  interrupt_model = read_model.0;
  processor_info = read_model.1;
  pm_timer = timer;
}

module _ (m : Memory) (ps : List ℕ) where
  abbrev IsModel : Model (Unit {0}) → Type 0
  IsModel read_model = ((madt : ℕ × List ℕ) × (lookup m madt_kind ps ≡ Ok madt) × (model_of madt.1
      ≡ Ok (read_model.0, read_model.1)))
      ⊎ ((e : AcpiError) × (lookup m madt_kind ps ≡ Err e) × (read_model.0 ≡ Unknown) × (read_model.1 ≡ None))

  model_by : (found : Result (ℕ × List ℕ) AcpiError) (read_model : Model (Unit {0})) → lookup m madt_kind ps ≡ found
      → or_later (λ madt. model_of madt.1) found (Ok (Unknown, None)) ≡ Ok read_model → IsModel read_model
  model_by (Ok madt) read_model h is = inl (madt, h, is)
  model_by (Err e) read_model h is =
      let same : (Unknown, None) ≡ read_model = cc in
      inr (e, h, rw (← same) refl, rw (← same) refl)

  platform_by : (fadt : ℕ × List ℕ) (read_model : Result (Model (Unit {0})) AcpiError)
      (timer : Result (Option PmTimer) AcpiError) (platform : PlatformInfo (Unit {0})) → lookup m fadt_kind ps ≡ Ok fadt
      → model_in m ps ≡ read_model → timer_of (fadt_at fadt.1) ≡ timer
      → (read_model >>= (λ s. timer >>= (λ t. Ok (platform_from fadt s t)))) ≡ Ok platform → IsPlatform m ps platform
  platform_by fadt (Err e) timer platform h s t is = absurd cc
  platform_by fadt (Ok read_model) (Err e) platform h s t is = absurd cc
  platform_by fadt (Ok read_model) (Ok timer) platform h s t is =
      let same : platform_from fadt read_model timer ≡ platform = cc in
      rw (← same) (record {
        fadt = fadt;
        found = h;
        profile = refl;
        timer = t;
        model = model_by (lookup m madt_kind ps) read_model refl s;
      })

  found_by : (found : Result (ℕ × List ℕ) AcpiError) (platform : PlatformInfo (Unit {0}))
      → lookup m fadt_kind ps ≡ found
      → (found >>= (λ f. model_in m ps >>= (λ s. timer_of (fadt_at f.1) >>= (λ t. Ok (platform_from f s t)))))
      ≡ Ok platform → IsPlatform m ps platform
  found_by (Err e) platform h is = absurd cc
  found_by (Ok fadt) platform h is =
      platform_by fadt (model_in m ps) (timer_of (fadt_at fadt.1)) platform h refl refl is

pub platform_is_theirs : PlatformIsTheirs
platform_is_theirs m ps platform is = found_by m ps (lookup m fadt_kind ps) platform refl is
