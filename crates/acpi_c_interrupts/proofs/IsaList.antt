-- The ISA interrupts' pins, found by one walk along the I/O APICs.
use Rattle.std.proofs.Common.{◌≡◌, ℕ, ◌<◌, List, [], ◌∷◌, length, get_or, arith, map, refl, sym, subst, ◌∙◌, ap, Option, Some, None, Result, Ok, Err, filter_map}
use Rattle.acpi_base.proofs.FromStd.{fill_by_all, get_or-map-range_with_len}
use Rattle.acpi_base.specs.Words.{io_apic_for, nearest, ◌>>=◌}
use Rattle.acpi.specs.Types.{IoApic, MadtEntry}
use Rattle.acpi_base.proofs.Words.{kept, one_nearer, or_nearer}
use Rattle.acpi_c_lib.specs.Words.{result_map}
use Rattle.acpi_c_interrupts.specs.Words.{IsaInterrupts, IsaRoute, ItemsAreAnswers, apic_entries, apic_in, isa_in, isa_list, isa_numbers, isa_route, nearer_of, no_route, number_of, route_by, route_of, Interrupt, pin_in, pin_or, Refusal}

-- ---- a walk along the I/O APICs

-- each interrupt has the nearest of the I/O APICs so far, which with those that are left are all
abbrev pub Routed : (ℕ → Result Interrupt Refusal) → List IsaRoute → List IoApic → List IoApic → Type 0
Routed isa routes left all =
    (irq : ℕ) → irq < 16 → (found : Option IoApic)
    × (get_or routes irq no_route ≡ route_of (isa irq) found)
    × (or_nearer found (nearest (number_of (isa irq)) left) ≡ nearest (number_of (isa irq)) all)

-- what one I/O APIC changes of a route
abbrev pub MeetsAt : IoApic → IsaRoute → IsaRoute → Type 0
MeetsAt x before after =
    (interrupt : Result Interrupt Refusal) (found : Option IoApic) → before ≡ route_of interrupt found
    → after ≡ route_of interrupt (nearer_of (number_of interrupt) found x)

same_nearer : (n : ℕ) (found : Option IoApic) (x : IoApic) → nearer_of n found x ≡ kept n found x
same_nearer n None x = refl
same_nearer n (Some y) x = refl

pub none_met : (isa : ℕ → Result Interrupt Refusal) (routes : List IsaRoute) (all : List IoApic)
    → ((irq : ℕ) → irq < 16 → get_or routes irq no_route ≡ route_of (isa irq) None)
    → Routed isa routes all all
none_met isa routes all is = λ irq small. (None, is irq small, refl)

pub one_met : (isa : ℕ → Result Interrupt Refusal) (before after : List IsaRoute) (x : IoApic) (left all : List IoApic)
    → ((irq : ℕ) → irq < 16 → MeetsAt x (get_or before irq no_route) (get_or after irq no_route))
    → Routed isa before (x ∷ left) all
    → Routed isa after left all
one_met isa before after x left all meets routed = λ irq small.
    let so_far = routed irq small in
    let n = number_of (isa irq) in (
      nearer_of n so_far.0 x,
      meets irq small (isa irq) so_far.0 so_far.1,
      ap (λ o. or_nearer o (nearest n left)) (same_nearer n so_far.0 x) ∙ one_nearer n so_far.0 x (nearest n left)
          ∙ so_far.2,
    )

-- other entries change nothing
pub none_more : (entry : MadtEntry) (left : List MadtEntry) → apic_in entry ≡ None
    → filter_map apic_in (entry ∷ left) ≡ filter_map apic_in left
none_more entry left other = rw other refl

pub one_more : (entry : MadtEntry) (x : IoApic) (left : List MadtEntry) → apic_in entry ≡ Some x
    → filter_map apic_in (entry ∷ left) ≡ x ∷ filter_map apic_in left
one_more entry x left is = rw is refl

found_last : (found : Option IoApic) → or_nearer found None ≡ found
found_last None = refl
found_last (Some x) = refl

-- after the last one, each is the result for its number
pub all_met : (isa : ℕ → Result Interrupt Refusal) (answer : ℕ → IsaRoute) (routes : List IsaRoute) (all : List IoApic)
    → length routes ≡ 16
    → ((irq : ℕ) → route_of (isa irq) (nearest (number_of (isa irq)) all) ≡ answer irq) → Routed isa routes [] all
    → routes ≡ map answer isa_numbers
unfolding isa_numbers
all_met isa answer routes all long same routed =
    fill_by_all answer routes 16 no_route long (λ irq small.
    let end = routed irq small in
    end.1 ∙ ap (route_of (isa irq)) (sym (found_last end.0) ∙ end.2) ∙ same irq)

-- what is found for an interrupt is its result
pub same_answer : (io_apics : List IoApic) (r : Result Interrupt Refusal)
    → route_of r (nearest (number_of r) io_apics) ≡ route_by (λ n. pin_or (io_apic_for io_apics n)) r
same_answer io_apics (Ok i) = refl
same_answer io_apics (Err e) = refl

-- ---- the law

-- of entries that are found, or of the error
item_of : (r : Result (List MadtEntry) Refusal) (list : IsaInterrupts) (irq : ℕ) → result_map isa_list r ≡ Ok list
    → irq < 16
    → get_or list.routes irq no_route
    ≡ route_by (λ n. r >>= λ entries. pin_in entries n) (r >>= λ entries. isa_in entries irq)
unfolding isa_numbers
item_of (Ok entries) list irq is small =
    let route : ℕ → IsaRoute = isa_route entries in
    let same : map route isa_numbers ≡ list.routes = ap (λ (l : IsaInterrupts). l.routes) (ok_is _ _ is) in
    subst (λ routes. get_or routes irq no_route ≡ route irq) same
    (get_or-map-range_with_len route 0 16 irq irq no_route small (omega arith)) where
      ok_is : (x y : IsaInterrupts) → ◌≡◌ {A = Result IsaInterrupts Refusal} (Ok x) (Ok y) → x ≡ y
      ok_is x y e = cc
item_of (Err e) list irq is small = absurd cc

pub items_are_answers : ItemsAreAnswers
items_are_answers s list is irq small = item_of (apic_entries s) list irq is small
