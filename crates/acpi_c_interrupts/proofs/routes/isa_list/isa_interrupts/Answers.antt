use Rattle.std.proofs.Common.{◌≡◌, ℕ, Result, Ok, Err}
use Rattle.acpi_base.specs.FromStd.{result_unwrap_or}
use Rattle.acpi_c_lib.specs.Words.{Answers, result_map}
use Rattle.acpi_c_lib.specs.declared.records.Signature.{Signature}
use Rattle.acpi_c_lib.specs.declared.refusal.Refusal.{Refusal}
use Rattle.acpi_c_interrupts.proofs.routes.isa_list.isa_interrupts.Goals as goal

-- a value that was written is answered
written : {A : Type 0} (said : Result A Refusal) (old new : A) (status : ℕ) (old_unit new_unit : Unit {0})
    (old_name new_name : Signature)
    → Answers status old_unit new_unit old_name new_name (result_map (λ x. tt) said) → new ≡ result_unwrap_or said old
    → Answers status old new old_name new_name said
written (Ok x) old new status old_unit new_unit old_name new_name answers is = (answers.0, is, answers.2)
written (Err e) old new status old_unit new_unit old_name new_name answers is = (answers.0, is, answers.2)

pub returns : goal.returns
returns c = written _ _ _ _ tt c.answer.new.out _ _ (rw c.isa_list.ensures.status at c.answer.ensures)
    c.isa_list.ensures.written
