-- The walk along the objects at the root of a block of AML, and what it finds (ACPI 6.4, section 20.2.5).
use Rattle.std.specs.Prelude.{◌≡◌, ℕ, zero, suc, ◌==◌, ◌&&◌, ◌||◌, ◌<◌, ◌≤◌, Bool, false, not, nat_le, nat_lt, List, drop, length, slice_index, take, Option, Some, None, IfSome, Result, Ok, Err, if◌then◌else◌}
use Rattle.std.specs.Option.{option_or}
use Rattle.acpi_bytes.specs.Bytes.{field_of}
use Rattle.acpi_bytes.specs.Steps.{◌>>=◌}
use Rattle.acpi_sleep.specs.Arguments.{argument_end, is_operator, operand_end}
use Rattle.acpi_sleep.specs.Blocks.{block_at, byte_at}
use Rattle.acpi_sleep.specs.Names.{begins_name, is_root, name_at}
use Rattle.acpi_sleep.specs.Opcodes.{is_expression, is_statement, opcode_at}
use Rattle.acpi_sleep.specs.Sleep.{contains_name, state_code, types_at}
use Rattle.acpi_sleep.specs.Terms.{parts_end, parts_of}
use Rattle.acpi_sleep.specs.declared.error.AmlError.{AmlError}
use Rattle.acpi_sleep.specs.declared.error.AmlError.TheVariants.{NotRead, UnknownTerm}
use Rattle.acpi_sleep.specs.declared.name.Name.{Name}
use Rattle.acpi_sleep.specs.declared.sleep.SleepAnswer.{SleepAnswer}
use Rattle.acpi_sleep.specs.declared.sleep.SleepAnswer.TheVariants.{Absent, NotSeen, Types}
use Rattle.acpi_sleep.specs.declared.step.Place.{Place}
use Rattle.acpi_sleep.specs.declared.step.Step.{Step}
use Rattle.acpi_sleep.specs.declared.step.Step.TheVariants.{Found, On, Unseen}
use Rattle.acpi_sleep.specs.declared.term.Part.{Part}

-- ---- one object. The bytes end with the scope of the root that it is in, if there is one

-- whether a name that is at the root is that of a sleep state there: one segment, which is the state's
abbrev pub is_state : List ℕ → ℕ → Name → Bool
is_state aml state name =
    (name.ups == 0 && name.segments == 1) && field_of aml name.first 4 == state_code state

-- the bytes between two offsets
abbrev pub part_of : List ℕ → ℕ → ℕ → List ℕ
part_of aml start end = drop start (take end aml)

-- an object is passed. If it may define the state's name, that isn't seen
abbrev pub passed : Bool → Place → Step
passed may_define next = if may_define then Unseen next else On next

-- where the walk goes on after an object without arguments
abbrev pub place_after : Option ℕ → ℕ → Place
place_after scope end = record { at = end; scope = scope; called = false }

-- DefName: the sought one has sleep types, and another is passed. A name in an argument may be a call
unfoldable pub named_at : List ℕ → ℕ → Option ℕ → ℕ → Result Step AmlError
named_at aml state scope at = do
  name ← name_at aml at
  if is_state aml state name then (do
    types ← types_at aml name.end
    Ok (Found types))
      else (do
        lead ← byte_at aml name.end
        next ← argument_end aml name.end
        Ok (On (record { at = next; scope = scope; called = begins_name lead || is_operator lead })))

-- DefScope: a scope of the root is entered, also one in another. A scope of another name is passed
unfoldable pub scope_at : List ℕ → ℕ → Option ℕ → ℕ → Result Step AmlError
scope_at aml state scope at = do
  block ← block_at aml at
  name ← name_at (take block.end aml) block.start
  if is_root name then Ok (On (place_after (option_or scope (Some block.end)) name.end))
      else Ok (passed (contains_name (state_code state) (part_of aml block.start block.end)) (place_after scope block.end))

-- DefAlias: another name of an object is passed. What the state's name is then isn't seen
unfoldable pub alias_at : List ℕ → ℕ → Option ℕ → ℕ → Result Step AmlError
alias_at aml state scope at = do
  object ← name_at aml at
  name ← name_at aml object.end
  Ok (passed (is_state aml state name) (place_after scope name.end))

-- DefMethod: a method is passed, since what its body defines ends with a call of it. What one of the state's name
-- returns isn't seen
unfoldable pub method_at : List ℕ → ℕ → Option ℕ → ℕ → Result Step AmlError
method_at aml state scope at = do
  block ← block_at aml at
  name ← name_at (take block.end aml) block.start
  Ok (passed (is_state aml state name) (place_after scope block.end))

-- DefIfElse and DefWhile, whose objects are there only if they are run
abbrev pub is_conditional : ℕ → Bool
is_conditional code = nat_le 0xA0 code && nat_le code 0xA2

-- whether a term may define the state's name: if its objects are run, or if its bytes contain the name. By
-- DefExternal only another block does
abbrev pub may_define : ℕ → ℕ → List ℕ → Bool
may_define state code bytes =
    is_conditional code || (not (code == 0x15) && contains_name (state_code state) bytes)

-- DefCreateField and the like, DefOpRegion and DefDataRegion
abbrev pub has_arguments : ℕ → Bool
has_arguments code =
    ((nat_le 0x8A code && nat_le code 0x8F) || code == 0x5B13) || (code == 0x5B80 || code == 0x5B88)

-- any other term whose parts are known is passed
unfoldable pub passed_at : List ℕ → ℕ → Option ℕ → ℕ → List Part → ℕ → Result Step AmlError
passed_at aml state scope code parts after = do
  end ← parts_end parts aml after
  Ok (passed (may_define state code (part_of aml after end))
      (record { at = end; scope = scope; called = has_arguments code }))

-- DefBuffer, DefPackage and DefVarPackage, and MethodInvocation
abbrev pub is_value : ℕ → Bool
is_value lead = (nat_le 0x11 lead && nat_le lead 0x13) || begins_name lead

-- why a term isn't passed: it is run, as an argument of a call is too, or it is no term
abbrev pub no_term : List ℕ → ℕ → Bool → ℕ → AmlError
no_term aml code called at =
    if is_statement code || is_expression code then NotRead at
    else if called || is_value (slice_index aml at) then elim (operand_end aml at) [
      | Ok end ↦ NotRead at
      | Err e ↦ e
    ]
    else UnknownTerm at

unfoldable pub object_at : List ℕ → ℕ → Option ℕ → Bool → ℕ → Result Step AmlError
object_at aml state scope called at = do
  opcode ← opcode_at aml at
  if opcode.code == 0x08 then named_at aml state scope opcode.end
      else if opcode.code == 0x10 then scope_at aml state scope opcode.end
      else if opcode.code == 0x14 then method_at aml state scope opcode.end
      else if opcode.code == 0x06 then alias_at aml state scope opcode.end
      else elim (parts_of opcode.code) [
        | Some parts ↦ passed_at aml state scope opcode.code parts opcode.end
        | None ↦ Err (no_term aml opcode.code called at)
      ]

-- what isn't read hides all that follows it in its block, of which this is the end
abbrev pub or_hidden : Option ℕ → ℕ → Result Step AmlError → Result Step AmlError
or_hidden scope end (Err (NotRead at)) = Ok (Unseen (place_after scope end))
or_hidden scope end step = step

unfoldable pub seen_at : List ℕ → ℕ → Option ℕ → Place → Result Step AmlError
seen_at aml state scope place = or_hidden scope (length aml) (object_at aml state scope place.called place.at)

-- ---- the walk

-- the object at a place. At the end of a scope of the root the walk has left it, with those in it
unfoldable pub step_at : List ℕ → ℕ → Place → Result Step AmlError
step_at aml state place = elim place.scope [
  | Some end ↦ if nat_lt place.at end then seen_at (take end aml) state (Some end) place
      else seen_at aml state None place
  | None ↦ seen_at aml state None place
]

-- the first object
abbrev pub first_place : Place
first_place = place_after None 0

-- what is returned at the end, if this object is the first that isn't seen
abbrev pub answer_past : Option ℕ → SleepAnswer
answer_past None = Absent
answer_past (Some at) = NotSeen at

-- what is returned from a place on, in that many steps
abbrev pub walked : ℕ → List ℕ → ℕ → Place → Option ℕ → Result SleepAnswer AmlError
walked zero aml state place unseen = Ok (answer_past unseen)
walked (suc more) aml state place unseen =
    if nat_le (length aml) place.at then Ok (answer_past unseen)
    else (do
      s ← step_at aml state place
      elim s [
        | Found types ↦ Ok (Types types)
        | On next ↦ walked more aml state next unseen
        | Unseen next ↦ walked more aml state next (option_or unseen (Some place.at))
      ])

-- the sleep types of a state: the types of the first name of it at the root. Each step passes a byte at least
unfoldable pub sleep_types_of : List ℕ → ℕ → Result SleepAnswer AmlError
sleep_types_of aml state = walked (length aml) aml state first_place None

-- ---- what to believe of the walk

-- a place that the walk comes to, and where the first object on the way is that isn't seen
pub data IsReached (aml : List ℕ) (state : ℕ) : Place → Option ℕ → Type 0 where
  at_start : IsReached aml state first_place None
  after_step : (here there : Place) (unseen : Option ℕ) → IsReached aml state here unseen
      → step_at aml state here ≡ Ok (On there) → IsReached aml state there unseen
  after_unseen : (here there : Place) (unseen : Option ℕ) → IsReached aml state here unseen
      → step_at aml state here ≡ Ok (Unseen there) → IsReached aml state there (option_or unseen (Some here.at))

-- what is returned is at a place that the walk comes to: the types or the error of the object there, and at the end
-- of the bytes alone whether an object wasn't seen
abbrev pub IsAnswer : List ℕ → ℕ → Result SleepAnswer AmlError → Type 0
IsAnswer aml state (Ok (Types types)) = (place : Place) × (unseen : Option ℕ) × IsReached aml state place unseen ×
    (step_at aml state place ≡ Ok (Found types))
IsAnswer aml state (Ok Absent) = (place : Place) × IsReached aml state place None × (place.at ≡ length aml)
IsAnswer aml state (Ok (NotSeen at)) = (place : Place) × IsReached aml state place (Some at) × (place.at ≡ length aml)
IsAnswer aml state (Err error) = (place : Place) × (unseen : Option ℕ) × IsReached aml state place unseen ×
    (step_at aml state place ≡ Err error)

-- ---- for the code

-- a step goes on after an offset
abbrev pub IsAfter : ℕ → Step → Type 0
IsAfter at (Found types) = Unit {0}
IsAfter at (On place) = at < place.at
IsAfter at (Unseen place) = at < place.at

-- it goes on within the bytes, and so does the scope
abbrev pub IsInside : ℕ → Place → Type 0
IsInside n place = (place.at ≤ n) × IfSome place.scope (λ end. end ≤ n)

abbrev pub IsWithin : ℕ → Step → Type 0
IsWithin n (Found types) = Unit {0}
IsWithin n (On place) = IsInside n place
IsWithin n (Unseen place) = IsInside n place
