use Rattle.std.proofs.Common.{arith, ◌≡◌, ℕ, List, ap, subst, sym, ◌∙◌, filter_map}
use Rattle.acpi_base.specs.FromStd.{cons_option, result_ok}
use Rattle.acpi_base.specs.Words.{cut, with_entry, item_of_entry, items_or_faults_in, madt_grammar, Model, HasRoom, model_behind, ModelBuilder, MadtItem}
use Rattle.acpi_base.proofs.EntryLists.{said_items, said_more}
use Rattle.acpi_base.proofs.model.gather.gather.Goals as goal

abbrev left : List ℕ → List MadtItem
left rest = filter_map result_ok (items_or_faults_in rest)

-- what is left says what the next entry says, and then what the others say
left_said : (rest entry others : List ℕ) → cut madt_grammar rest ≡ with_entry entry (cut madt_grammar others)
    → left rest ≡ cons_option (item_of_entry entry) (left others)
left_said rest entry others found = rw found (said_more entry (cut madt_grammar others).0)

still_behind : {A : Type 0} (old new : ModelBuilder A) (whole : Model A) (rest entry others : List ℕ)
    → cut madt_grammar rest ≡ with_entry entry (cut madt_grammar others)
    → ((items : List MadtItem) → model_behind new items ≡ model_behind old (cons_option (item_of_entry entry) items))
    → model_behind old (left rest) ≡ whole → model_behind new (left others) ≡ whole
still_behind old new whole rest entry others found added behind =
    added (left others) ∙ (ap (λ items. model_behind old items) (sym (left_said rest entry others found)) ∙ behind)

pub loop-entry-preserved : goal.loop-entry-preserved
loop-entry-preserved g c = (
  still_behind c.loop-entry.builder c.add_entry.new.self _ c.loop-entry.rest.now c.in-Some.entry.now
      c.in-Some.others.now c.in-Some.ensures.found c.add_entry.ensures.added c.loop-entry.invariant.0,
  c.add_entry.ensures.room _ (subst (HasRoom c.loop-entry.builder)
      (left_said c.loop-entry.rest.now c.in-Some.entry.now c.in-Some.others.now c.in-Some.ensures.found)
      c.loop-entry.invariant.1),
  ap (λ r. r.1) (sym c.in-Some.ensures.found) ∙ c.loop-entry.invariant.2,
)

pub loop-entry-init : goal.loop-entry-init
loop-entry-init g c = grind (arith, said_items)
