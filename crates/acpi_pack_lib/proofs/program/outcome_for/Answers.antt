-- What becomes of what is read.
use Rattle.std.proofs.Common.{◌≡◌, ◌∙◌, ℕ, Bor, List, [], IfOk, OnErr, ap, drop, length, map, option_map, refl, subst, sym, Option, Some, None, Result, Ok, Err}
use Rattle.acpi_base.proofs.FromStd.{drop-append_seam, append-nil}
use Rattle.acpi_pack_lib.specs.Reads.{Asks, FileRead, contents_of}
use Rattle.acpi_pack_lib.specs.Words.{IsOutcome, IsOutcomeFor, Packs, Request, contents, request_in, request_of, sources_for, help_or_version_of}
use Rattle.acpi_pack_lib.specs.declared.arguments.Command.{Command}
use Rattle.acpi_pack_lib.specs.declared.outcome.Outcome.{Outcome}
use Rattle.acpi_pack_lib.proofs.program.outcome_for.Goals as goal

on_err : {T E : Type 0} (r : Result T E) (P : Type 0) → P → OnErr r P
on_err (Ok x) P p = tt
on_err (Err e) P p = p

-- what was read since is what is packed
read_since : {E : Type 0} (result : Result Outcome E) (arguments : List (List ℕ)) (r : Request) (names : List (List ℕ))
    (before after : List FileRead) (start : ℕ) (kept : List (Option (List ℕ)))
    → help_or_version_of arguments ≡ None → request_in arguments ≡ Some r → names ≡ r.names → Asks names before after
    → start ≡ length before → kept ≡ contents_of (drop start after)
    → IfOk result (λ o. Packs r (sources_for r kept) o) → IfOk result (λ o. IsOutcome arguments before after o)
read_since (Ok o) arguments r names before after start kept untold requested named asks at_start are_read packs =
    let same : kept ≡ contents_of asks.reads =
    are_read ∙ ap contents_of (ap (λ n. drop n after) at_start
    ∙ ap (drop (length before)) asks.grown ∙ drop-append_seam before asks.reads) in
    let is : IsOutcomeFor None (Some r) before after o = record {
      asks = record { reads = asks.reads; names_are = asks.names_are ∙ named; grown = asks.grown };
      becomes = subst (λ (cs : List (Option (List ℕ))). Packs r (sources_for r cs) o) same packs;
    } in
    subst (λ (t : Option (List ℕ)). IsOutcomeFor t (request_in arguments) before after o) (sym untold)
    (subst (λ (q : Option Request). IsOutcomeFor None q before after o) (sym requested) is)
read_since (Err e) arguments r names before after start kept untold requested named asks at_start are_read packs = tt

pub returns-in_err-command-clause-refused : goal.returns-in_err-command-clause-refused
returns-in_err-command-clause-refused g c = on_err c.from_residual.result _ (
  _,
  record {
    front = [];
    names_are = refl;
    asks = record { reads = []; names_are = refl; grown = sym (append-nil _) };
  },
)

pub returns-clause-exact : goal.returns-clause-exact
returns-clause-exact g c =
    read_since c.outcome_of.result (map (λ w. w.now) c.args.arguments.now) (request_of c.in-Some-2.command) _ _ _
    c.count-start.result _
    (sym c.help_or_version.ensures ∙ ap (λ (t : Option (Bor (List ℕ))). option_map (λ n. n.now) t) c.in_default.is)
    (sym c.in_ok-command.ensures ∙ ap (λ (o : Option Command). option_map request_of o) c.in-Some-2.is)
    (ap (map (λ n. n.now)) c.deref.ensures.value) c.in_ok-read_all.ensures.asked c.count-start.ensures
    (ap contents c.deref-2.ensures.value ∙ c.in_ok-sources.ensures) c.outcome_of.ensures
