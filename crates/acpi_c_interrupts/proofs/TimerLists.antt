-- The lists of a GTDT: frames and watchdogs, and how many there are at most.
use Rattle.std.proofs.Common.{◌≡◌, ◌∙◌, ◌+◌, ℕ, List, [], ◌∷◌, ◌++◌, length, length-append, ap, sym, arith, drop, zero, suc, map, Some, None, true, refl, ◌≤◌, Bool, false, Option, length-drop, inl, inr, ◌-◌, ◌/◌, ◌==◌, min, nat_lt, if◌then◌else◌, filter_map}
use Rattle.acpi_base.proofs.FromStd.{length-map}
use Rattle.acpi_c_lib.specs.Words.{put_from}
use Rattle.acpi_c_interrupts.specs.Words.{GtFrame, frame_record, frames_in, frames_of, frames_shown, watchdog_in, watchdogs_shown, concat, AllByRecursion, cons_option, field_of, IsEntry, cut, Timer, first_frames, frame_count, frames_there, kind_of, timer_bytes, timer_count, timer_there, timers_grammar, timers_layout, timers_offset, watchdog_at}
use Rattle.std.proofs.Math.Nat.{div-le_self, min-le_left, min-le_right}
use Rattle.acpi.proofs.First.{filter_map_few}
use Rattle.acpi_base.proofs.Words.{cut_is_cut}
use Rattle.acpi_arm.specs.Timers as arm
use Rattle.acpi_c_interrupts.specs.Records as records
use Rattle.acpi_c_lib.proofs.Written.{put_parts}

-- ---- frames

length_frames : (n : ℕ) (bytes : List ℕ) → length (arm.frames_in n bytes) ≡ n
length_frames zero bytes = refl
length_frames (suc n) bytes = ap suc (length_frames n (drop 40 bytes))

-- no more of a block are there than it has bytes
there_few : (b : Bool) (n room : ℕ) → (if b then 0 else min n (room / 40)) ≤ room
there_few true n room = omega arith
there_few false n room = omega (arith, div-le_self room 40, min-le_right n (room / 40))

abbrev frames_given : Option Timer → List records.GtFrame
frames_given (Some t) = frames_in t
frames_given None = []

by_kind : (e : List ℕ) (b c : Bool)
    → length (frames_given (if b then Some (inl (field_of e 4 8, first_frames (frames_there e) e))
    else if c then Some (inr (watchdog_at e))
    else None)) ≤ length e
by_kind e true c =
    let many = length-map (first_frames (frames_there e) e) (frame_record (field_of e 4 8))
    ∙ length_frames (frames_there e) (drop (arm.frames_offset e) e) in
    omega (arith, many, there_few (nat_lt (arm.frames_offset e) 20) (frame_count e) (length e - arm.frames_offset e))
by_kind e false true = omega arith
by_kind e false false = omega arith

with_frames : (o : Option Timer) (timers : List Timer) (n m : ℕ) → length (frames_given o) ≤ n → length (frames_of timers) ≤ m
    → length (frames_of (cons_option o timers)) ≤ n + m
with_frames (Some t) timers n m h k = omega (arith, h, k, length-append (frames_in t) (frames_of timers))
with_frames None timers n m h k = omega (arith, k)

frames_among : (es : List (List ℕ)) → length (frames_of (filter_map timer_there es)) ≤ length (concat es)
frames_among [] = omega arith
frames_among (e ∷ es) =
    omega (
      arith,
      with_frames (timer_there e) (filter_map timer_there es) (length e) (length (concat es))
          (by_kind e (kind_of e == 0) (kind_of e == 1)) (frames_among es),
      length-append e (concat es),
    )

cut_whole : (count : ℕ) (bytes : List ℕ) → length (concat (cut (timers_grammar count) bytes).0) ≤ length bytes
cut_whole count bytes =
    let c = cut_is_cut 2 (timers_grammar count) bytes in
    let long : length bytes ≡ length (concat (cut (timers_grammar count) bytes).0
    ++ (cut (timers_grammar count) bytes).1) = ap length c.whole in
    omega (
      arith,
      long,
      length-append (concat (cut (timers_grammar count) bytes).0)
          (cut (timers_grammar count) bytes).1,
    )

few_bytes : (b : Bool) (table : List ℕ) (n : ℕ) → length (if b then [] else drop n table) ≤ length table
few_bytes true table n = omega arith
few_bytes false table n = omega (arith, length-drop n table)

pub bytes_few : (table : List ℕ) → length (timer_bytes table) ≤ length table
bytes_few table = few_bytes _ table (field_of table 92 4)

-- the structures of platform timers are in their table
lie_inside : (b : Bool) (table : List ℕ) (n : ℕ)
    → min n (length table) + length (if b then [] else drop n table) ≤ length table
lie_inside true table n = omega (arith, min-le_right n (length table))
lie_inside false table n =
    omega (arith, length-drop n table, min-le_left n (length table), min-le_right n (length table))

pub timers_inside : (table : List ℕ) → timers_offset table + length (timer_bytes table) ≤ length table
timers_inside table = lie_inside _ table (field_of table 92 4)

pub frames_few : (table : List ℕ) → length (frames_shown table) ≤ length table
frames_few table =
    omega (
      arith,
      frames_among (cut (timers_grammar (timer_count table)) (timer_bytes table)).0,
      cut_whole (timer_count table) (timer_bytes table),
      bytes_few table,
    )

-- ---- watchdogs

one_each : (es : List (List ℕ)) → AllByRecursion (IsEntry timers_layout) es → length es ≤ length (concat es)
one_each [] a = omega arith
one_each (e ∷ es) a = omega (arith, one_each es a.1, a.0.header, length-append e (concat es))

pub watchdogs_few : (table : List ℕ) → length (watchdogs_shown table) ≤ length table
watchdogs_few table =
    let es = (cut (timers_grammar (timer_count table)) (timer_bytes table)).0 in
    let c = cut_is_cut 2 (timers_grammar (timer_count table)) (timer_bytes table) in
    omega (
      arith,
      filter_map_few watchdog_in (filter_map timer_there es),
      filter_map_few timer_there es,
      one_each es c.entries,
      cut_whole (timer_count table) (timer_bytes table),
      bytes_few table,
    )

-- ---- blocks one after the other

-- the frames that are left before a block, with the block's frames first

pub block_first : (all : ℕ) (count : ℕ) (block : ℕ) (frames : List GtFrame) (left more : List Timer)
    → left ≡ inl (block, frames) ∷ more → count + length (frames_of left) ≡ all
    → count + length (map (frame_record block) frames) + length (frames_of more) ≡ all
block_first all count block frames left more e h =
    let many = rw (e, length-append (map (frame_record block) frames) (frames_of more)) at h in
    omega (arith, many)

pub block_written : (old out : List records.GtFrame) (all : List records.GtFrame) (count : ℕ) (block : ℕ)
    (frames : List GtFrame) (left more : List Timer) → left ≡ inl (block, frames) ∷ more
    → put_from out count (frames_of left) ≡ put_from old 0 all
    → put_from (put_from out count (map (frame_record block) frames)) (count + length (map (frame_record block) frames))
    (frames_of more) ≡ put_from old 0 all
block_written old out all count block frames left more e h =
    let whole = rw e at h in
    sym (put_parts out count (map (frame_record block) frames) (frames_of more)) ∙ whole
