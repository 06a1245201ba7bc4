use Rattle.std.proofs.Common.{◌≡◌, ◌<◌, ◌-◌, refl, length, get_or, subst, sym, arith}
use Rattle.acpi_base.proofs.FromStd.{get_or_default}
use Rattle.acpi_base.specs.Words.{IsGathered}
use Rattle.acpi_base.proofs.Isa.{from_counted, one_counted, one_gathered, own_if_above, own_if_below, still_few}
use Rattle.acpi_base.proofs.model.isa_overrides.IsaOverrides.add.Goals as goal

pub bounds-self-inside-self-inside : goal.bounds-self-inside-self-inside
bounds-self-inside-self-inside c =
    omega (
      arith,
      c.self.invariant.within c.args.wiring.now.isa_source,
      get_or_default c.self.inside.leads c.args.wiring.now.isa_source 16 0 (omega arith),
    )

pub overflow_sub-self : goal.overflow_sub-self
overflow_sub-self c =
    let s = c.self.inside in
    let source = c.args.wiring.now.isa_source in
    let fits : source < length s.leads = omega arith in
    omega (
      arith,
      from_counted s.leads s.leading source (get_or s.leads source 0) c.self.invariant fits
          (get_or_default s.leads source 16 0 fits),
    )

pub bounds-self-inside-self-inside-2 : goal.bounds-self-inside-self-inside-2
bounds-self-inside-self-inside-2 c =
    omega (
      arith,
      c.self.invariant.within c.args.wiring.now.isa_source,
      get_or_default c.self.inside.leads c.args.wiring.now.isa_source 16 0 (omega arith),
    )

pub overflow_add-self : goal.overflow_add-self
overflow_add-self c =
    let s = c.self.inside in
    let source = c.args.wiring.now.isa_source in
    let fits : source < length s.leads = omega arith in
    let from = get_or s.leads source 0 in
    omega (
      arith,
      still_few s.leads s.leading source from c.self.invariant fits
          (get_or_default s.leads source 16 0 fits) c.min-leads.result (get_or s.leading from 0 - 1) (omega arith)
          (omega arith) (omega arith),
    )

pub invariant_of-self : goal.invariant_of-self
invariant_of-self c =
    let s = c.self.inside in
    let source = c.args.wiring.now.isa_source in
    let fits : source < length s.leads = omega arith in
    let from = get_or s.leads source 0 in
    let is : get_or s.leads source 16 ≡ from = get_or_default s.leads source 16 0 fits in
    let some : 0 < get_or s.leading from 0 = from_counted s.leads s.leading source from c.self.invariant fits is in
    one_counted s.leads s.leading source from c.self.invariant fits is c.min-leads.result (get_or s.leading from 0 - 1)
    _ (omega arith) (omega arith) (omega arith) refl

pub returns-then-source-lt16 : goal.returns-then-source-lt16
returns-then-source-lt16 c = λ before gathered.
    let so_far = subst (IsGathered before) (sym c.self.view_is) gathered in
    one_gathered before c.args.wiring.now _ _ c.min-leads.result (omega arith) (omega arith)
    (own_if_below before c.args.wiring.now _ (omega arith) so_far.own) so_far

pub returns-else-source-lt16 : goal.returns-else-source-lt16
returns-else-source-lt16 c = λ before gathered.
    let so_far = subst (IsGathered before) (sym c.self.view_is) gathered in
    one_gathered before c.args.wiring.now _ _ c.min-leads.result (omega arith) (omega arith)
    (own_if_above before c.args.wiring.now _ (omega arith) so_far.own) so_far
