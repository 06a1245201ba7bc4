-- The calls that are made of a mailbox, one after the other.
use Rattle.std.proofs.Common.{◌≡◌, ℕ, zero, suc, ◌+◌, List, [], ◌∷◌, ◌++◌, refl, sym, ap, ◌∙◌, arith}
use Rattle.acpi.specs.Words.{Makes, MakesUntilWoken, NoneBelow, reads, MailboxCall, Read}

module _ {S : Type 0} (called : S → MailboxCall → S → Type 0) where
  -- no call and then others
  begun : (s u t : S) (cs : List MailboxCall) → u ≡ s → Makes called u cs t → Makes called s cs t
  begun s u t cs same m = rw (← same) m

  pub makes_append : (s u t : S) (cs ds : List MailboxCall) → Makes called s cs u → Makes called u ds t
      → Makes called s (cs ++ ds) t
  makes_append s u t [] ds m n = begun s u t ds m n
  makes_append s u t (c ∷ cs) ds m n = (m.0, m.1, makes_append m.0 u t cs ds m.2 n)

  reads_suc : (n : ℕ) → reads n ++ Read ∷ [] ≡ reads (suc n)
  reads_suc zero = refl
  reads_suc (suc n) = ap (λ x. Read ∷ x) (reads_suc n)

  reads_more : (n : ℕ) → reads n ++ Read ∷ [] ≡ reads (n + 1)
  reads_more n = let one : suc n ≡ n + 1 = omega arith in reads_suc n ∙ ap reads one

  pub one_read : (s u t : S) (n : ℕ) → Makes called s (reads n) u → called u Read t → Makes called s (reads (n + 1)) t
  one_read s u t n m last = rw (← reads_more n) (makes_append s u t (reads n) (Read ∷ []) m (t, last, refl))

  pub woken : (answer : ℕ → ℕ) (s u t : S) (n : ℕ) → Makes called s (reads n) u → called u Read t → answer n ≡ 0
      → NoneBelow answer n → MakesUntilWoken called answer s [] t
  woken answer s u t n m last here none = (n, here, none, one_read s u t n m last)

  pub woken_after : (answer later : ℕ → ℕ) (s u t : S) (cs : List MailboxCall) → ((i : ℕ) → later i ≡ answer i)
      → Makes called s cs u → MakesUntilWoken called later u [] t → MakesUntilWoken called answer s cs t
  woken_after answer later s u t cs same m w = (
    w.0,
    sym (same w.0) ∙ w.1,
    (λ k below none. w.2 k below (same k ∙ none)),
    makes_append s u t cs (reads (w.0 + 1)) m w.3,
  )
