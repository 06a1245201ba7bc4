-- Why tables are not laid out.
use Rattle.std.proofs.Common.{◌≡◌, ℕ, ◌+◌, ◌^◌, ◌<◌, List, length, Some, Result, Ok, Err, refl, sym, ◌∙◌, inl, inr, ap, ◌≢◌, IfErr, IsErrAnd, IsOk, Option}
use Rattle.acpi_base.proofs.FromStd.{lt-ltb}
use Rattle.acpi.specs.declared.root.RootKind.TheVariants.{Xsdt}
use Rattle.acpi_base.proofs.Words.{bind_ok}
use Rattle.acpi_base.specs.Words.{Memory, Region, ◌>>=◌}
use Rattle.acpi_image.specs.Words.{root_length}
use Rattle.acpi_pack_lib.specs.Words.{RefusesOrRunsOut, all_regions, first_address, fixed_of, laid_out, place_at, placed_from, room, Refusal, contents, entries, listed, Listed}
use Rattle.acpi_pack_lib.specs.declared.error.Refusal.TheVariants as refusal
use Rattle.acpi_pack_lib.proofs.Placing.{listed_length}
use Rattle.acpi_pack_lib.proofs.pack.lay_out.Goals as goal

abbrev done : Memory → Result Memory Refusal
done m = Ok m

abbrev checked : Result (Unit {0}) Refusal
checked = Ok tt

-- a result that passes an error on
refuses : {X : Type 0} (r : Result X Refusal) (d : Refusal) (packed : Result Memory Refusal) → IsErrAnd r (λ x. x ≡ d)
    → RefusesOrRunsOut packed d → IfErr r (λ e. RefusesOrRunsOut packed e)
refuses (Ok x) d packed h says = tt
refuses (Err x) d packed h says = rw h says

-- an error that can't be another
only_memory : (e : Refusal) → (e ≢ refusal.OutOfMemory → ⊥) → e ≡ refusal.OutOfMemory
only_memory refusal.OutOfMemory none = refl
only_memory refusal.NoRoom none = absurd (none (λ x. absurd cc))
only_memory refusal.TooLarge none = absurd (none (λ x. absurd cc))
only_memory (refusal.File n f) none = absurd (none (λ x. absurd cc))

room_fails : (r : Result Memory Refusal) (e : Refusal) → (r >>= λ _. checked) ≡ Err e → r ≡ Err e
room_fails (Ok m) e fails = absurd cc
room_fails (Err d) e fails = cc

module _ (dsdt : Option Region) (fixed : Region) (files : List (Option (List ℕ))) (n count root : ℕ) (found : Option ℕ)
    (fixed_is : fixed ≡ fixed_of dsdt) (n_is : n ≡ length (entries Listed 0 files)) (count_is : count ≡ root_length Xsdt n)
    (low : count < 2 ^ 32) (found_is : found ≡ place_at fixed first_address count) (there : found ≡ Some root) where
  abbrev tables : List (List ℕ)
  tables = listed files

  abbrev behind_root : ℕ
  behind_root = root + root_length Xsdt (length tables)

  counted : count ≡ root_length Xsdt (length tables)
  counted = count_is ∙ ap (root_length Xsdt) (n_is ∙ sym (listed_length files))

  laid : laid_out dsdt tables ≡ (placed_from (fixed_of dsdt) behind_root tables >>= λ placed.
      done (all_regions root placed dsdt))
  unfolding laid_out
  laid =
      let short = lt-ltb _ _ (rw counted at low) in
      let lies : place_at (fixed_of dsdt) first_address (root_length Xsdt (length tables)) ≡ Some root =
      rw (fixed_is, counted) at (sym found_is ∙ there) in
      rw (short, lies) refl

  no_room : (e : Refusal) → room fixed (root + count) tables ≡ Err e → RefusesOrRunsOut (laid_out dsdt tables) e
  no_room e fails =
      let why : placed_from (fixed_of dsdt) behind_root tables ≡ Err e =
      room_fails _ e (rw (fixed_is, counted) at fails) in
      inl (laid ∙ rw why refl)

  module _ (x : Unit {0}) (passed : room fixed (root + count) tables ≡ Ok x) where
    all : (m : Memory) × (placed_from (fixed_of dsdt) behind_root tables ≡ Ok m)
    all =
        let parts = bind_ok (placed_from (fixed_of dsdt) behind_root tables) (λ _. checked) x
        (rw (fixed_is, counted) at passed) in
        (parts.0, parts.1)

    has_room : IsOk (laid_out dsdt tables)
    has_room = rw (laid, all.1) refl

    out_of_memory : (e : Refusal) → e ≡ refusal.OutOfMemory → RefusesOrRunsOut (laid_out dsdt tables) e
    out_of_memory e is = inr (is, has_room)

    not_placed : (e : Refusal) → (e ≢ refusal.OutOfMemory → placed_from fixed (root + count) tables ≡ Err e)
        → RefusesOrRunsOut (laid_out dsdt tables) e
    not_placed e named =
        out_of_memory e (only_memory e (λ other.
        let both : done all.0 ≡ Err e = sym all.1 ∙ rw (fixed_is, counted) at (named other) in
        absurd cc))

pub returns-in_err-check_room-clause-refused : goal.returns-in_err-check_room-clause-refused
returns-in_err-check_room-clause-refused c =
    refuses _ _ _ c.from_residual.ensures.1
    (no_room _ _ (contents c.args.files.now) _ _ _ _ c.fixed_of-fixed.ensures c.listed_count.ensures
    c.in-Some.ensures.there c.in-Some.ensures.low c.place_one.ensures.value c.in-Some-place_one.is _
    (sym c.check_room.ensures ∙ c.in_err-check_room.was))

pub returns-in_err-tables-clause-refused : goal.returns-in_err-tables-clause-refused
returns-in_err-tables-clause-refused c =
    refuses _ _ _ c.from_residual-in_err-tables.ensures.1
    (not_placed _ _ (contents c.args.files.now) _ _ _ _ c.fixed_of-fixed.ensures c.listed_count.ensures
    c.in-Some.ensures.there c.in-Some.ensures.low c.place_one.ensures.value c.in-Some-place_one.is _
    (sym c.check_room.ensures ∙ c.in_ok-check_room.was) _ c.in_err-tables.ensures.refused)

pub returns-in_err-put_all-clause-refused : goal.returns-in_err-put_all-clause-refused
returns-in_err-put_all-clause-refused c =
    refuses _ _ _ c.from_residual-in_err-put_all.ensures.1
    (out_of_memory _ _ (contents c.args.files.now) _ _ _ _ c.fixed_of-fixed.ensures c.listed_count.ensures
    c.in-Some.ensures.there c.in-Some.ensures.low c.place_one.ensures.value c.in-Some-place_one.is _
    (sym c.check_room.ensures ∙ c.in_ok-check_room.was) _ c.in_err-put_all.ensures.refused)
