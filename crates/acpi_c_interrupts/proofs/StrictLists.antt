-- Of a MADT none of whose entries is at fault, the lists are as in the strict model.
use Rattle.std.proofs.Common.{◌≡◌, ℕ, List, [], ◌∷◌, map, Bool, true, false, Option, Some, None, Result, Ok, Err, refl, ap, sym, ◌∙◌, filter_map, option_map}
use Rattle.std.specs.Prelude.{◌==◌, option_and_then, replicate, if◌then◌else◌}
use Rattle.acpi_base.proofs.FromStd.{eqb-true}
use Rattle.acpi_base.specs.Interrupts.{nmi_line_of, nmi_source_of, override_of, polarity_of}
use Rattle.acpi_base.specs.Model as base
use Rattle.acpi_base.proofs.Words.{codes_decode}
use Rattle.acpi_base.specs.declared.model.item.MadtItem.TheVariants as item
use Rattle.acpi_base.specs.declared.model.interrupt.Polarity.TheVariants as polarity
use Rattle.acpi_base.specs.declared.model.interrupt.TriggerMode.TheVariants as trigger
use Rattle.acpi_base.specs.declared.tables.madt.entry.MadtEntry.TheVariants as entry
use Rattle.acpi_c_interrupts.specs.Records as records
use Rattle.acpi_c_lib.specs.Words.{flag}
use Rattle.acpi_c_interrupts.specs.Words.{cons_option, result_err, result_ok, result_unwrap_or, all_apics, all_x2apics, line_of, processor_for, flags_fault, item_of, override_fault, trigger_mode_of, unless_fault, bits_of, cut_of, entries_of, field_of, has_bit, polarity_code, trigger_code, uid_code, ◌>>=◌, All, Lint0, LocalInterruptLine, MadtEntry, MadtError, MadtItem, Polarity, ProcessorUid, TriggerMode, InterruptOverrideEntryHasInvalidBus, InterruptSourceOverrideEntry, NmiSourceEntry, ListsAreModels, line_said, line_shown, nmi_source_record, of_all, override_record, processor_said, processor_shown, state_code, boot_first, io_apic_in, io_apic_record, listed, nmi_line, nmi_line_in, nmi_source_in, override_in, processor_in}

-- ---- what holds of each entry holds of the lists

no_fault : (faults : List MadtError) (rest : List ℕ) → base.first_fault faults rest ≡ None → faults ≡ []
no_fault [] rest h = refl
no_fault (f ∷ faults) rest h = absurd cc

both_none : (o : Option MadtError) (faults : List MadtError) → cons_option o faults ≡ [] → (o ≡ None) × (faults ≡ [])
both_none None faults h = (refl, h)
both_none (Some f) faults h = absurd cc

map_first : {B R : Type 0} (r : B → R) (o : Option B) (xs : List B)
    → map r (cons_option o xs) ≡ cons_option (option_map r o) (map r xs)
map_first r None xs = refl
map_first r (Some x) xs = refl

said_first : {B R : Type 0} (g : MadtItem → Option B) (r : B → R) (i : Option MadtItem) (items : List MadtItem)
    → map r (filter_map g (cons_option i items))
    ≡ cons_option (option_map r (option_and_then g i)) (map r (filter_map g items))
said_first g r None items = refl
said_first g r (Some x) items = map_first r (g x) (filter_map g items)

-- ---- what an entry contains, whatever its fault

abbrev item_without_fault : MadtEntry → Option MadtItem
item_without_fault (entry.InterruptSourceOverride e) = Some (item.Override (override_of e))
item_without_fault (entry.NmiSource e) = Some (item.NmiSource (nmi_source_of e))
item_without_fault (entry.LocalApicNmi e) = Some (item.NmiLine (nmi_line_of
    (processor_for all_apics e.processor_id) e.nmi_line))
item_without_fault (entry.X2ApicNmi e) = Some (item.NmiLine (nmi_line_of
    (processor_for all_x2apics e.processor_uid) e.nmi_line))
item_without_fault e = base.item_in e

-- the fault of an entry that has none, and its item
unfaulted : (o : Option MadtError) (x : MadtItem) → result_err (unless_fault o x) ≡ None → o ≡ None
unfaulted None x h = refl
unfaulted (Some fault) x h = absurd cc

fault_or_none : (o : Option MadtError) (x : MadtItem) → result_err (unless_fault o x) ≡ None
    → result_ok (unless_fault o x) ≡ Some x
fault_or_none None x h = refl
fault_or_none (Some fault) x h = absurd cc

all_without_fault : (e : MadtEntry) → base.fault_in e ≡ None → base.item_in e ≡ item_without_fault e
unfolding item_of
all_without_fault (entry.InterruptSourceOverride e) h = fault_or_none (override_fault e) _ h
all_without_fault (entry.NmiSource e) h = fault_or_none (flags_fault e.flags) _ h
all_without_fault (entry.LocalApicNmi e) h = fault_or_none (result_err (line_of e.nmi_line)) _ h
all_without_fault (entry.X2ApicNmi e) h = fault_or_none (result_err (line_of e.nmi_line)) _ h
all_without_fault _ h = refl

-- the records of a sort of entries show what their items contain
abbrev Agree : {A B R : Type 0} → (MadtEntry → Option A) → (A → R) → (MadtItem → Option B) → (B → R) → Type 0
Agree f s g r =
    (e : MadtEntry) → base.fault_in e ≡ None → option_map s (f e)
    ≡ option_map r (option_and_then g (item_without_fault e))

agree : {A B R : Type 0} (f : MadtEntry → Option A) (s : A → R) (g : MadtItem → Option B) (r : B → R) → Agree f s g r
    → (es : List MadtEntry) → filter_map base.fault_in es ≡ []
    → map s (filter_map f es) ≡ map r (filter_map g (filter_map base.item_in es))
agree f s g r each [] h = refl
agree f s g r each (e ∷ es) h =
    let both = both_none (base.fault_in e) (filter_map base.fault_in es) h in
    map_first s (f e) (filter_map f es)
    ∙ ap (λ o. cons_option o (map s (filter_map f es))) (each e both.0)
    ∙ ap (cons_option (option_map r (option_and_then g (item_without_fault e)))) (agree f s g r each es both.1)
    ∙ sym (said_first g r (item_without_fault e) (filter_map base.item_in es))
    ∙ ap (λ i. map r (filter_map g (cons_option i (filter_map base.item_in es)))) (sym (all_without_fault e both.0))

-- ---- I/O APICs

io_apics : Agree io_apic_in (λ x. x) base.io_apic_in io_apic_record
unfolding item_of
io_apics (entry.IoApic e) h = refl
io_apics _ h = refl

-- ---- polarity and trigger mode

wired : (p : Result Polarity MadtError) (t : Result TriggerMode MadtError) → result_err (p >>= λ a. t) ≡ None
    → (a : Polarity) × (b : TriggerMode) × (p ≡ Ok a) × (t ≡ Ok b)
wired (Ok a) (Ok b) h = (a, b, refl, refl)
wired (Ok a) (Err e) h = absurd cc
wired (Err e) t h = absurd cc

-- the code that is read of flags that are no fault
as_polarity : (p : Result Polarity MadtError) (a : Polarity) → p ≡ Ok a
    → polarity_code (result_unwrap_or p polarity.SameAsBus) ≡ polarity_code a
as_polarity (Ok b) a h = cc
as_polarity (Err e) a h = absurd cc

as_trigger : (t : Result TriggerMode MadtError) (a : TriggerMode) → t ≡ Ok a
    → trigger_code (result_unwrap_or t trigger.SameAsBus) ≡ trigger_code a
as_trigger (Ok b) a h = cc
as_trigger (Err e) a h = absurd cc

on_bus : (b : Bool) (o : Option MadtError)
    → (if b then o else Some InterruptOverrideEntryHasInvalidBus) ≡ None → (b ≡ true) × (o ≡ None)
on_bus true o h = (refl, h)
on_bus false o h = absurd cc

-- a record of an override, by its codes
abbrev overriding : InterruptSourceOverrideEntry → ℕ → ℕ → ℕ → records.InterruptSourceOverride
overriding e p t bus = record {
  global_system_interrupt = e.global_system_interrupt;
  isa_source = e.irq;
  polarity = p;
  trigger = t;
  bus = bus;
}

same_override : (e : InterruptSourceOverrideEntry) (p q t u bus : ℕ) → p ≡ q → t ≡ u → bus ≡ 0
    → overriding e p t bus ≡ overriding e q u 0
same_override e p q t u bus polarity trigger isa = rw (polarity, trigger, isa) refl

overrides_said : (e : InterruptSourceOverrideEntry) → override_fault e ≡ None
    → override_in (entry.InterruptSourceOverride e) ≡ Some (override_record (override_of e))
overrides_said e h =
    let s = on_bus (e.bus == 0) (flags_fault e.flags) h in
    let w = wired (polarity_of e.flags) (trigger_mode_of e.flags) s.1 in
    let p = codes_decode.polarities.only (bits_of e.flags 0 2) w.0 w.2 in
    let t = codes_decode.triggers.only (bits_of e.flags 2 2) w.1 w.3 in
    ap Some (same_override e _ _ _ _ _ (sym p.1 ∙ sym (as_polarity _ _ w.2)) (sym t.1 ∙ sym (as_trigger _ _ w.3))
    (eqb-true e.bus 0 s.0))

overrides : Agree override_in (λ x. x) base.override_in override_record
unfolding item_of
overrides (entry.InterruptSourceOverride e) h = overrides_said e (unfaulted (override_fault e) _ h)
overrides _ h = refl

-- ---- NMI sources

abbrev sourcing : NmiSourceEntry → ℕ → ℕ → records.NmiSource
sourcing e p t = record {
  global_system_interrupt = e.global_system_interrupt;
  polarity = p;
  trigger = t;
  reserved = replicate 2 0;
}

same_source : (e : NmiSourceEntry) (p q t u : ℕ) → p ≡ q → t ≡ u → sourcing e p t ≡ sourcing e q u
same_source e p q t u polarity trigger = rw (polarity, trigger) refl

sources_said : (e : NmiSourceEntry) → flags_fault e.flags ≡ None
    → nmi_source_in (entry.NmiSource e) ≡ Some (nmi_source_record (nmi_source_of e))
sources_said e h =
    let w = wired (polarity_of e.flags) (trigger_mode_of e.flags) h in
    let p = codes_decode.polarities.only (bits_of e.flags 0 2) w.0 w.2 in
    let t = codes_decode.triggers.only (bits_of e.flags 2 2) w.1 w.3 in
    ap Some (same_source e _ _ _ _ (sym p.1 ∙ sym (as_polarity _ _ w.2)) (sym t.1 ∙ sym (as_trigger _ _ w.3)))

nmi_sources : Agree nmi_source_in (λ x. x) base.nmi_source_in nmi_source_record
unfolding item_of
nmi_sources (entry.NmiSource e) h = sources_said e (unfaulted (flags_fault e.flags) _ h)
nmi_sources _ h = refl

-- ---- LINT pins

same_processor : (b : Bool) (uid n : ℕ)
    → ◌≡◌ {A = ℕ × ℕ × ℕ} (if b then 0 else uid, flag b, n)
    (uid_code 0 (if b then All else ProcessorUid uid), of_all (if b then All else ProcessorUid uid), n)
same_processor true uid n = refl
same_processor false uid n = refl

lines_said : (all uid number flags : ℕ) (o : Result LocalInterruptLine MadtError) → line_of number ≡ o
    → result_err o ≡ None
    → line_shown (nmi_line all uid number flags)
    ≡ line_said (record { processor = processor_for all uid; line = result_unwrap_or o Lint0 })
lines_said all uid number flags (Ok line) is h =
    let n = codes_decode.lines.only number line is in
    rw (n.1) (same_processor (uid == all) uid number)
lines_said all uid number flags (Err f) is h = absurd cc

nmi_lines : Agree nmi_line_in line_shown base.nmi_line_in line_said
unfolding item_of
nmi_lines (entry.LocalApicNmi e) h =
    ap Some (lines_said all_apics e.processor_id e.nmi_line e.flags _ refl
    (unfaulted (result_err (line_of e.nmi_line)) _ h))
nmi_lines (entry.X2ApicNmi e) h =
    ap Some (lines_said all_x2apics e.processor_uid e.nmi_line e.flags _ refl
    (unfaulted (result_err (line_of e.nmi_line)) _ h))
nmi_lines _ h = refl

-- ---- processors

waits : (b : Bool) (uid id : ℕ) → ◌≡◌ {A = Option (ℕ × ℕ × ℕ × ℕ)} (Some (uid, id, flag b, 0))
    (Some (uid, id, state_code (base.state_of true b), 0))
waits true uid id = refl
waits false uid id = refl

waiting : (revision : ℕ) → Agree (processor_in revision) processor_shown (base.processor_in true) processor_said
unfolding item_of
waiting revision (entry.LocalApic e) h = waits (has_bit e.flags 0) e.processor_id e.apic_id
waiting revision (entry.LocalX2Apic e) h = waits (has_bit e.flags 0) e.processor_uid e.x2apic_id
waiting revision _ h = refl

runs : (b : Bool) (uid id : ℕ) (xs ys : List (ℕ × ℕ × ℕ × ℕ)) → xs ≡ ys
    → ◌≡◌ {A = List (ℕ × ℕ × ℕ × ℕ)} ((uid, id, if flag b == 0 then 0 else 2, 1) ∷ xs)
    ((uid, id, state_code (base.state_of false b), 1) ∷ ys)
runs true uid id xs ys h = ap (λ zs. (uid, id, 2, 1) ∷ zs) h
runs false uid id xs ys h = ap (λ zs. (uid, id, 0, 1) ∷ zs) h

abbrev said_by : List MadtItem → List (ℕ × ℕ × ℕ × ℕ)
said_by items = map processor_said (listed (base.processors_of items))

-- one more entry before others, whose first processor is the boot processor
one_more : (revision : ℕ) (e : MadtEntry) (es : List MadtEntry) → filter_map base.fault_in es ≡ []
    → map processor_shown (boot_first (filter_map (processor_in revision) es)) ≡ said_by (filter_map base.item_in es)
    → map processor_shown (boot_first (filter_map (processor_in revision) (e ∷ es)))
    ≡ said_by (cons_option (item_without_fault e) (filter_map base.item_in es))
unfolding item_of
one_more revision (entry.LocalApic e) es none more = runs (has_bit e.flags 0) e.processor_id e.apic_id _ _
    (agree (processor_in revision) processor_shown (base.processor_in true) processor_said (waiting revision) es none)
one_more revision (entry.LocalX2Apic e) es none more = runs (has_bit e.flags 0) e.processor_uid e.x2apic_id _ _
    (agree (processor_in revision) processor_shown (base.processor_in true) processor_said (waiting revision) es none)
one_more revision _ es none more = more

processors : (revision : ℕ) (es : List MadtEntry) → filter_map base.fault_in es ≡ []
    → map processor_shown (boot_first (filter_map (processor_in revision) es)) ≡ said_by (filter_map base.item_in es)
processors revision [] h = refl
processors revision (e ∷ es) h =
    let both = both_none (base.fault_in e) (filter_map base.fault_in es) h in
    one_more revision e es both.1 (processors revision es both.1)
    ∙ ap (λ i. said_by (cons_option i (filter_map base.item_in es))) (sym (all_without_fault e both.0))

-- ---- the law

unmapped : {A : Type 0} (xs : List A) → map (λ x. x) xs ≡ xs
unmapped [] = refl
unmapped (x ∷ xs) = ap (λ ys. x ∷ ys) (unmapped xs)

pub lists_are_models : ListsAreModels
lists_are_models table h =
    let es = entries_of table in
    let none = no_fault (filter_map base.fault_in es) (cut_of table).1 h in record {
      io_apics = sym (unmapped _) ∙ agree io_apic_in (λ x. x) base.io_apic_in io_apic_record io_apics es none;
      overrides = sym (unmapped _) ∙ agree override_in (λ x. x) base.override_in override_record overrides es none;
      nmi_sources =
          sym (unmapped _) ∙ agree nmi_source_in (λ x. x) base.nmi_source_in nmi_source_record nmi_sources es none;
      nmi_lines = agree nmi_line_in line_shown base.nmi_line_in line_said nmi_lines es none;
      processors = processors (field_of table 8 1) es none;
    }
