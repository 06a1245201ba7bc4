-- How the bytes of AML are passed: in terms, each of which begins where the one before it ends.
use Rattle.std.specs.Prelude.{◌≡◌, ◌⊎◌, ℕ, ◌+◌, ◌<◌, ◌≤◌, ◌||◌, Bool, List, [], ◌∷◌, bytes_eq, codes}
use Rattle.acpi.specs.Types.{Signature}
use Rattle.acpi_dump_walk.specs.declared.aml.Ends.{Ends}
use Rattle.acpi_dump_walk.specs.declared.aml.Object.{Object}

-- whether tables of a signature have AML after the header (section 5.2.11)
abbrev pub has_aml : Signature → Bool
has_aml s = bytes_eq s.0 (codes "DSDT") || bytes_eq s.0 (codes "SSDT") || bytes_eq s.0 (codes "PSDT")

-- the offset after an object
abbrev pub end_of : Object → ℕ
end_of o = o.offset + o.length

-- what is shown is states of who it is shown to, one after the other: `shows` and `stops` are what each leads to
module _ {S : Type 0} (shows : Object → S → S → Type 0) where
  -- these objects are shown, each behind the one before it, and all of them in the bytes between two offsets
  abbrev pub AreWithin : ℕ → ℕ → List Object → S → S → Type 0
  AreWithin from to [] old new = old ≡ new
  AreWithin from to (o ∷ os) old new = (from ≤ o.offset) × (end_of o ≤ to)
      × ((middle : S) × shows o old middle × AreWithin (end_of o) to os middle new)

  abbrev pub Within : ℕ → ℕ → S → S → Type 0
  Within from to old new = (os : List Object) × AreWithin from to os old new

  -- a term: the object that begins at its first byte is shown, and then the units of a field in that. It is all of the
  -- object, or its bytes up to the first object in it
  pub record IsTerm (at next : ℕ) (old new : S) : Type 0 where
    pub object : Object
    pub begins : object.offset ≡ at
    pub some : at < next
    pub ends : (next ≡ end_of object) ⊎ ((next ≡ object.own.1) × (next < end_of object))
    pub middle : S
    pub first : shows object old middle
    pub units : Within at (end_of object) middle new

  -- of the term there nothing is shown, or the object and some of the units in it
  abbrev pub IsBegun : ℕ → S → S → Type 0
  IsBegun at old new = (old ≡ new) ⊎ ((object : Object) × (object.offset ≡ at)
      × ((middle : S) × shows object old middle × Within at (end_of object) middle new))

  -- terms that are a division of the bytes between two offsets: each byte is in exactly one of them. The list is where
  -- each term ends
  abbrev pub AreTerms : ℕ → List ℕ → ℕ → S → S → Type 0
  AreTerms at [] stop old new = (at ≡ stop) × (old ≡ new)
  AreTerms at (next ∷ nexts) stop old new =
      (middle : S) × IsTerm at next old middle × AreTerms next nexts stop middle new

  -- the bytes up to an end are passed so, or those up to an offset before it, which is then named with the reason
  pub record IsPassed (stops : ℕ → Ends → S → S → Type 0) (start end : ℕ) (old new : S) : Type 0 where
    pub terms : List ℕ
    pub stop : ℕ
    pub middle : S
    pub passed : AreTerms start terms stop old middle
    pub last : ((stop ≡ end) × (middle ≡ new)) ⊎ ((stop < end)
        × ((why : Ends) × (begun : S) × IsBegun stop middle begun × stops stop why begun new))
