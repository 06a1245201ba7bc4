use Rattle.std.proofs.Common.{◌≡◌, ℕ, ◌^◌, ◌<◌, ◌≤◌, length, IfOk, Result, Ok, Err, arith}
use Rattle.acpi_base.proofs.FromStd.{common_steps}
use Rattle.acpi_base.proofs.AllowedRanges.{asked_length}
use Rattle.acpi_bytes.proofs.LentRanges.{lent_ends, lent_shown}
use Rattle.acpi_base.specs.Words.{IsLentOf, IsWholeClaim, claimed_at, claimed_from, shown_by, Memory, IsMemory, Gives, lent, table_at, Claim, AcpiError}
use Rattle.acpi_base.proofs.table.lookup.claim_whole.Goals as goal

by_length : {H h : _} (r : Result (Claim H h) AcpiError) (m : Memory) (head : Claim H h) (least n : ℕ) → IsMemory m
    → 0 < n
    → least ≤ n → n < 2 ^ 32 → IfOk r (λ c. claimed_at c ≡ claimed_at head)
    → IfOk r (λ c. claimed_from c ≡ claimed_from head) → IfOk r (λ c. length (shown_by c) ≡ n)
    → IfOk r (λ c. IsLentOf m c) → Gives (λ c. shown_by c) r (lent m (claimed_at head) n)
    → IfOk r (λ c. IsWholeClaim m head least c)
by_length (Ok c) m head least n h some long short start from size all shown =
    let ends = lent_ends m (claimed_at head) n _ h some shown in
    (start, from, all, omega (arith, long, size), omega (arith, short, size), rw start ends)
by_length (Err e) m head least n h some long short start from size all shown = tt

pub returns-in-Ok-clause-whole : goal.returns-in-Ok-clause-whole
returns-in-Ok-clause-whole g c =
    let some : 0 < c.in-Ok.length = omega (arith, c.requires.some, c.in-Ok.ensures.long) in
    let w = c.widen.ensures in
    by_length c.widen.result _ c.args.head _ _
    (g.met.H.Lender.regions _) some c.in-Ok.ensures.long c.in-Ok.ensures.short
    w.start w.handler w.size w.all w.shown

pub widen-requires-clause-asked : goal.widen-requires-clause-asked
widen-requires-clause-asked g c = grind (arith, asked_length)

pub returns-in-Ok-clause-shown : goal.returns-in-Ok-clause-shown
unfolding table_at
returns-in-Ok-clause-shown g c =
    let front = lent_shown _ (claimed_at c.args.head) c.args.head.region_length 36 _ c.requires.lent (omega arith)
    c.requires.header in
    grind (arith, common_steps)

pub returns-in-Err-clause-shown : goal.returns-in-Err-clause-shown
unfolding table_at
returns-in-Err-clause-shown g c =
    let front = lent_shown _ (claimed_at c.args.head) c.args.head.region_length 36 _ c.requires.lent (omega arith)
    c.requires.header in
    grind (arith, common_steps)
