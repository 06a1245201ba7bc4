use Rattle.std.proofs.Common.{◌≡◌, [], ◌∷◌, ◌∙◌, ap, sym, subst, filter_map, None, Some}
use Rattle.acpi_base.specs.Words.{entries_left, entries_of}
use Rattle.acpi_c_interrupts.specs.Words.{apic_in, isa_in, isa_route}
use Rattle.acpi_c_interrupts.proofs.IsaList.{Routed, all_met, none_more, one_met, one_more, same_answer}
use Rattle.acpi_c_interrupts.proofs.routes.isa_list.write_routes.Goals as goal

pub loop-entry-preserved-in-Some-io_apic : goal.loop-entry-preserved-in-Some-io_apic
loop-entry-preserved-in-Some-io_apic c =
    let isa = isa_in (entries_of c.args.table.now) in
    let left = filter_map apic_in (entries_left c.next.new.self) in
    let all = filter_map apic_in (entries_left c.into_iter-entry-iterator.result) in
    let is : apic_in c.in-Some.entry ≡ Some c.in-Some-io_apic.io_apic =
    sym c.io_apic.ensures ∙ c.in-Some-io_apic.is in
    let more : filter_map apic_in (entries_left c.loop-entry.entry-iterator) ≡ c.in-Some-io_apic.io_apic ∷ left =
    ap (filter_map apic_in) c.in-Some.ensures.steps.0 ∙ one_more _ _ (entries_left c.next.new.self) is in
    let routed = subst (λ xs. Routed isa c.loop-entry.routes xs all) more c.loop-entry.invariant.1 in
    (c.meet_all.array_long, one_met isa _ _ _ left all c.meet_all.ensures routed)

pub loop-entry-preserved : goal.loop-entry-preserved
loop-entry-preserved c =
    let isa = isa_in (entries_of c.args.table.now) in
    let left = filter_map apic_in (entries_left c.next.new.self) in
    let all = filter_map apic_in (entries_left c.into_iter-entry-iterator.result) in
    let is : apic_in c.in-Some.entry ≡ None = sym c.io_apic.ensures ∙ c.in_default.is in
    let more : filter_map apic_in (entries_left c.loop-entry.entry-iterator) ≡ left =
    ap (filter_map apic_in) c.in-Some.ensures.steps.0 ∙ none_more _ (entries_left c.next.new.self) is in
    (c.loop-entry.invariant.0, subst (λ xs. Routed isa c.loop-entry.routes xs all) more c.loop-entry.invariant.1)

pub returns : goal.returns
returns c =
    let entries = entries_of c.args.table.now in
    let isa = isa_in entries in
    let routes = c.loop-entry.routes in
    let all = filter_map apic_in (entries_left c.into_iter-entry-iterator.result) in
    let first : entries_left c.into_iter-entry-iterator.result ≡ entries = cc in
    let none : filter_map apic_in (entries_left c.loop-entry.entry-iterator) ≡ [] =
    ap (filter_map apic_in) c.in-None.ensures.steps.0.0 in
    let routed = subst (λ xs. Routed isa routes xs all) none c.loop-entry.invariant.1 in
    let last = subst (λ xs. Routed isa routes [] xs) (ap (filter_map apic_in) first) routed in
    all_met isa (isa_route entries) routes (filter_map apic_in entries) c.loop-entry.invariant.0
    (λ irq. same_answer (filter_map apic_in entries) (isa irq)) last
