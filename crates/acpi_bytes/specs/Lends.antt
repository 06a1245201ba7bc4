-- What an owned slice ends as, once a mutable borrow of its items ends: they are the ones that were last written
-- through it, and as many as before.
use Rattle.std.specs.Prelude.{List, length, take, drop, ◌++◌}
use Rattle.acpi_bytes.specs.FromStd.{Lends, Fml, RattleType, MutBor, Array, Ghosts}
use Rattle.acpi_bytes.specs.contracts.managed_slice.ManagedSlice.{the_row}

-- items with others written over the first of them
abbrev pub refilled : {X : Type 0} → List X → List X → List X
refilled xs ws = take (length xs) (ws ++ drop (length ws) xs)

-- the items are then the ones that the borrow has last
module _ (T A : RattleType) (alloc : Ghosts A.Denot) (s : MutBor (List T.Denot)) where
  abbrev pub lends_slice : MutBor (List T.Denot) → Fml
  lends_slice r = Lends (the_row T A alloc) (Array T 0) s r (refilled s.now)
