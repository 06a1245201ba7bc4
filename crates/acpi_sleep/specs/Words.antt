-- Made by scripts/words: what proofs, contracts and the crates above bring in from this crate's specs.
pub use Rattle.acpi_sleep.specs.Apart.{
  ArgumentsBeginNoTerm,
  begins_argument,
}
pub use Rattle.acpi_sleep.specs.Arguments.{
  EachArgumentEnds,
  IsArgument,
  arguments_end,
  block_end,
  integer_width,
  is_operator,
  is_single,
  name_end,
  no_operand,
  operand,
  operation,
  other_end,
  text_end,
}
unfoldable pub use Rattle.acpi_sleep.specs.Arguments.{
  argument_end,
  integer_at,
  operand_end,
}
pub use Rattle.acpi_sleep.specs.Behind.{NothingBehindMatters}
pub use Rattle.acpi_sleep.specs.Blocks.{
  byte_at,
  bytes_end,
  package_size,
}
unfoldable pub use Rattle.acpi_sleep.specs.Blocks.{block_at}
pub use Rattle.acpi_sleep.specs.ErrorText.{aml_error_text}
pub use Rattle.acpi_sleep.specs.Names.{
  begins_name,
  carets,
  is_lead,
  is_letter,
  is_root,
  many_at,
  name_of,
  path_at,
  segments_end,
}
unfoldable pub use Rattle.acpi_sleep.specs.Names.{
  name_at,
  segment_end,
}
pub use Rattle.acpi_sleep.specs.Opcodes.{
  is_expression,
  is_statement,
}
unfoldable pub use Rattle.acpi_sleep.specs.Opcodes.{opcode_at}
pub use Rattle.acpi_sleep.specs.Plans.{
  byte_step,
  fits,
  is_always_enabled,
  pm1_step,
  port,
  sci_step,
  sleep_control_step,
  timer_bits,
  timer_ticks,
  unless_zero,
}
unfoldable pub use Rattle.acpi_sleep.specs.Plans.{
  enable_plan,
  pm1a_control,
  reset_plan,
  sleep_control,
  sleep_plan,
}
pub use Rattle.acpi_sleep.specs.Sleep.{
  contains_name,
  elements_at,
  package_types,
  state_code,
}
unfoldable pub use Rattle.acpi_sleep.specs.Sleep.{types_at}
pub use Rattle.acpi_sleep.specs.Steps.{
  IsAfter,
  IsAnswer,
  IsInside,
  IsReached,
  IsWithin,
  after_step,
  after_unseen,
  answer_past,
  at_start,
  first_place,
  has_arguments,
  is_conditional,
  is_state,
  is_value,
  may_define,
  no_term,
  or_hidden,
  part_of,
  passed,
  place_after,
  walked,
}
unfoldable pub use Rattle.acpi_sleep.specs.Steps.{
  alias_at,
  method_at,
  named_at,
  object_at,
  passed_at,
  scope_at,
  seen_at,
  sleep_types_of,
  step_at,
}
pub use Rattle.acpi_sleep.specs.Tables.{
  Answer,
  AnswerIsFirst,
  FirstTypes,
  FirstUnknown,
  HasNoTypes,
  IsFirstAnswer,
  answer_ranges,
  dsdt_said,
  first_answer,
  joined,
  or_after,
  ssdt_answers,
  tables_answer,
}
unfoldable pub use Rattle.acpi_sleep.specs.Tables.{
  block_answer,
  dsdt_answer,
}
pub use Rattle.acpi_sleep.specs.Terms.{
  field_end,
  part_end,
  parts_end,
}
unfoldable pub use Rattle.acpi_sleep.specs.Terms.{parts_of}
pub use Rattle.acpi_sleep.specs.declared.block.Block.{Block}
pub use Rattle.acpi_sleep.specs.declared.error.AmlError.{AmlError}
pub use Rattle.acpi_sleep.specs.declared.error.AmlError.TheVariants.{
  InvalidLength,
  InvalidName,
  NotRead,
  PastEnd,
  UnknownTerm,
}
pub use Rattle.acpi_sleep.specs.declared.error.PlanError.TheVariants.{BadRegister}
pub use Rattle.acpi_sleep.specs.declared.error.SleepError.{SleepError}
pub use Rattle.acpi_sleep.specs.declared.error.SleepError.TheVariants.{Acpi}
pub use Rattle.acpi_sleep.specs.declared.name.Name.{Name}
pub use Rattle.acpi_sleep.specs.declared.sleep.SleepAnswer.{SleepAnswer}
pub use Rattle.acpi_sleep.specs.declared.sleep.SleepAnswer.TheVariants.{
  Absent,
  NotSeen,
  Types,
}
pub use Rattle.acpi_sleep.specs.declared.sleep.SleepTypes.{SleepTypes}
pub use Rattle.acpi_sleep.specs.declared.step.Place.{Place}
pub use Rattle.acpi_sleep.specs.declared.step.Step.{Step}
pub use Rattle.acpi_sleep.specs.declared.step.Step.TheVariants.{
  Found,
  On,
  Unseen,
}
pub use Rattle.acpi_sleep.specs.declared.term.Part.{Part}
