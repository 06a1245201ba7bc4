use Rattle.std.proofs.Common.{refl, ◌≡◌, ◌+◌, ◌*◌, ◌<◌, ◌≤◌, sym, arith, ◌∙◌, length}
use Rattle.acpi_base.specs.Words.{Allows}
use Rattle.acpi.specs.Words.{walk_ranges, count_of, room_of, walk}
use Rattle.acpi.proofs.Asked.{asked_candidate, asked_next, asked_walk}
use Rattle.acpi.proofs.Search.{not_begun, length_lent, unsigned_refused, walk_here, walk_later, walk_past}
use Rattle.acpi.proofs.rsdp.bios.first_candidate.Goals as goal

pub loop-k-preserved-then-not-has_signature : goal.loop-k-preserved-then-not-has_signature
loop-k-preserved-then-not-has_signature g c =
    let turn : c.loop-k.k < count_of c.args.area = omega arith in
    let memory = g.met.H.Lender.regions c.args.handler.now in
    let m = g.H.Lender.memory c.args.handler.now in
    let room : 16 * c.loop-k.k + 36 ≤ room_of c.args.area = omega arith in
    let other = sym c.has_signature.ensures ∙ c.if-not-has_signature.true in (
      walk_past c.args.accept _ _ _ _ _ c.loop-k.invariant.0 turn _ _ memory c.requires.lent room other,
      asked_next (g.H.Lender.may c.args.handler.now) c.args.accept m _ _ _ _ turn c.loop-k.invariant.1
          (unsigned_refused c.args.accept m _ _ _ _ memory c.requires.lent room other),
    )

pub returns-in-Ok-clause-found : goal.returns-in-Ok-clause-found
returns-in-Ok-clause-found g c =
    let turn : c.loop-k.k < count_of c.args.area = omega arith in
    rw c.in-Ok.ensures.place (walk_here c.args.accept _ _ _ _ _ c.loop-k.invariant.0 turn _ c.in-Ok.ensures.rsdp)

pub loop-k-preserved : goal.loop-k-preserved
loop-k-preserved g c =
    let turn : c.loop-k.k < count_of c.args.area = omega arith in (
      walk_later c.args.accept _ _ _ _ _ c.loop-k.invariant.0 turn _ c.in_default.ensures.rsdp,
      asked_next (g.H.Lender.may c.args.handler.now) c.args.accept (g.H.Lender.memory c.args.handler.now) _ _ _ _ turn
          c.loop-k.invariant.1 c.in_default.ensures.rsdp,
    )

pub map_accepted_rsdp-requires : goal.map_accepted_rsdp-requires
map_accepted_rsdp-requires g c =
    let turn : c.loop-k.k < count_of c.args.area = omega arith in
    asked_candidate (g.H.Lender.may c.args.handler.now) c.args.accept (g.H.Lender.memory c.args.handler.now) _ _ _ turn
    c.loop-k.invariant.1

pub has_signature-requires : goal.has_signature-requires
has_signature-requires g c =
    let long : length c.args.bytes.now ≡ room_of c.args.area = length_lent _ _ _ _ c.requires.lent in
    omega arith

pub loop-k-init : goal.loop-k-init
loop-k-init g c =
    let m = g.H.Lender.memory c.args.handler.now in
    let may = g.H.Lender.may c.args.handler.now in
    let s = c.args.area in
    not_begun (λ n a. (walk c.args.accept m n a ≡ walk c.args.accept m (count_of s) s.start)
    × Allows may (walk_ranges c.args.accept m n a)) (count_of s) s.start
    (refl, asked_walk may c.args.accept m s _ c.requires.asked c.requires.lent)
