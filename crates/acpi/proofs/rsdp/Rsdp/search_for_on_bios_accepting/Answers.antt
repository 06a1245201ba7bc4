use Rattle.std.proofs.Common.{ℕ, List, Ok, Err, rules, subst, sym}
use Rattle.acpi_base.specs.Words.{Allows}
use Rattle.acpi.specs.Words.{area_ranges, accepted_found_rsdp, placed}
use Rattle.acpi.proofs.Agreed.{same_search}
use Rattle.acpi.proofs.Asked.{asked_first_area, asked_second_area}
use Rattle.acpi.proofs.Search.{found_valid, searched}
use Rattle.acpi.proofs.rsdp.Rsdp.search_for_on_bios_accepting.Goals as goal

pub search_area-requires-clause-asked : goal.search_area-requires-clause-asked
search_area-requires-clause-asked g c =
    let h = c.args.handler.now in
    asked_first_area (g.H.Lender.may h) c.args.accept (g.H.Lender.memory h) c.in-Ok.word c.requires c.in-Ok.ensures

pub search_last-requires-clause-asked : goal.search_last-requires-clause-asked
search_last-requires-clause-asked g c =
    let h = c.args.handler.now in
    subst (λ s. Allows (g.H.Lender.may h) (area_ranges c.args.accept (g.H.Lender.memory h) s))
    (sym c.second_area.ensures.value)
    (asked_second_area (g.H.Lender.may h) c.args.accept (g.H.Lender.memory h) c.in-Ok.word c.requires c.in-Ok.ensures
    (rw c.in-Ok-None.field-0-is at c.in-Ok-None.ensures.found))

pub returns-in-Ok-Some-clause-exact : goal.returns-in-Ok-Some-clause-exact
unfolding accepted_found_rsdp
returns-in-Ok-Some-clause-exact g c = search rules

pub returns-in-Ok-Some-clause-valid : goal.returns-in-Ok-Some-clause-valid
returns-in-Ok-Some-clause-valid g c = found_valid c.args.accept _ (Ok c.in-Ok-Some.found)
    (returns-in-Ok-Some-clause-exact g c)

pub returns-in-Ok-Some-clause-least : goal.returns-in-Ok-Some-clause-least
returns-in-Ok-Some-clause-least g c = searched c.args.accept (g.H.Lender.memory c.args.handler.now) placed
    (Ok c.in-Ok-Some.found)
    (returns-in-Ok-Some-clause-exact g c)

pub returns-in-Ok-Some-clause-footprint : goal.returns-in-Ok-Some-clause-footprint
returns-in-Ok-Some-clause-footprint g c = λ n h. rw (same_search c.args.accept _ n h)
    (returns-in-Ok-Some-clause-exact g c)

pub returns-in-Ok-None-clause-exact : goal.returns-in-Ok-None-clause-exact
unfolding accepted_found_rsdp
returns-in-Ok-None-clause-exact g c = search rules

pub returns-in-Ok-None-clause-valid : goal.returns-in-Ok-None-clause-valid
returns-in-Ok-None-clause-valid g c = found_valid c.args.accept _ c.search_last.result
    (returns-in-Ok-None-clause-exact g c)

pub returns-in-Ok-None-clause-least : goal.returns-in-Ok-None-clause-least
returns-in-Ok-None-clause-least g c = searched c.args.accept
    (g.H.Lender.memory c.args.handler.now) placed c.search_last.result
    (returns-in-Ok-None-clause-exact g c)

pub returns-in-Ok-None-clause-footprint : goal.returns-in-Ok-None-clause-footprint
returns-in-Ok-None-clause-footprint g c = λ n h. rw (same_search c.args.accept _ n h)
    (returns-in-Ok-None-clause-exact g c)

pub returns-in-Err-search_area-clause-exact : goal.returns-in-Err-search_area-clause-exact
unfolding accepted_found_rsdp
returns-in-Err-search_area-clause-exact g c = search rules

pub returns-in-Err-search_area-clause-least : goal.returns-in-Err-search_area-clause-least
returns-in-Err-search_area-clause-least g c =
    searched c.args.accept (g.H.Lender.memory c.args.handler.now) (λ (found : ℕ × List ℕ). found)
    (Err c.in-Err-search_area.error)
    (returns-in-Err-search_area-clause-exact g c)

pub returns-in-Err-search_area-clause-footprint : goal.returns-in-Err-search_area-clause-footprint
returns-in-Err-search_area-clause-footprint g c =
    λ n h. rw (same_search c.args.accept _ n h) (returns-in-Err-search_area-clause-exact g c)

pub returns-in-Err-clause-exact : goal.returns-in-Err-clause-exact
unfolding accepted_found_rsdp
returns-in-Err-clause-exact g c = search rules

pub returns-in-Err-clause-least : goal.returns-in-Err-clause-least
returns-in-Err-clause-least g c = searched c.args.accept (g.H.Lender.memory c.args.handler.now)
    (λ (found : ℕ × List ℕ). found)
    (Err c.in-Err.error) (returns-in-Err-clause-exact g c)

pub returns-in-Err-clause-footprint : goal.returns-in-Err-clause-footprint
returns-in-Err-clause-footprint g c = λ n h. rw (same_search c.args.accept _ n h) (returns-in-Err-clause-exact g c)
