-- What the first valid SRAT says depends on what its lookup depends on, wherever the tables lie; the domain that is
-- computed is that of the first range in which the address lies; and there are few ranges.
use Rattle.std.proofs.Common.{Result, Ok, lit≤, ◌≡◌, ℕ, true, false, List, [], ◌∷◌, Option, Some, None, refl, ap, arith, ◌-◌, ◌≤◌, ◌++◌, length, length-drop, drop, length-append, find, option_map}
use Rattle.acpi_base.specs.Words.{DependsOn, ◌>>=◌, IsEntry, cut}
use Rattle.acpi.specs.Types.{AcpiError, SRAT}
use Rattle.acpi.proofs.Agreed.{same_meaning}
use Rattle.acpi.proofs.First.{filter_map_few}
use Rattle.acpi.proofs.Moved.{meaning_follows}
use Rattle.acpi.specs.Words.{lookup_ranges, FollowsTables}
use Rattle.acpi_numa.specs.Words.{affinities_of, found_affinities, srat_kind, IsDomainOf, LiesIn, domain_at, lies_in, range_in, ranges_of, MemoryRange, entries_of, entry_of, revision_of, srat_grammar, srat_layout}
use Rattle.acpi_base.proofs.FromStd.{nat_tests}
use Rattle.std.proofs.lemmas.Bool.{cond_both}
use Rattle.acpi_base.specs.FromStd.{concat, AllByRecursion}
use Rattle.acpi_base.proofs.Words.{cut_is_cut}

abbrev done : {A : Type 0} → A → Result A AcpiError
done x = Ok x

pub same_affinities : DependsOn (λ m. lookup_ranges m srat_kind) found_affinities
same_affinities m n ps h = same_meaning srat_kind m n ps (λ r. r >>= λ f. done (affinities_of f.1)) h

pub affinities_follow : FollowsTables found_affinities
affinities_follow = meaning_follows SRAT 48 (λ b. done (affinities_of b)) (lit≤ tt)

-- ---- the domain of an address

lies : (r : MemoryRange) (a : ℕ) → lies_in a r ≡ true → LiesIn r a
lies r a h = grind (arith, nat_tests)

lies_not : (r : MemoryRange) (a : ℕ) → lies_in a r ≡ false → LiesIn r a → ⊥
lies_not r a h within = grind (arith, nat_tests)

-- a range in which the address doesn't lie changes nothing
before_others : (r : MemoryRange) (ranges : List MemoryRange) (a : ℕ) (o : Option ℕ) → (LiesIn r a → ⊥)
    → IsDomainOf ranges a o → IsDomainOf (r ∷ ranges) a o
before_others r ranges a None out none = (out, none)
before_others r ranges a (Some d) out first = record {
  before = r ∷ first.before;
  range = first.range;
  after = first.after;
  listed = ap (λ others. r ∷ others) first.listed;
  none_before = (out, first.none_before);
  lies = first.lies;
  domain_is = first.domain_is;
}

first_of_all : (ranges : List MemoryRange) (a : ℕ) → IsDomainOf ranges a (domain_at ranges a)
first_of_all [] a = tt
first_of_all (r ∷ ranges) a =
    cond_both (lies_in a r) (Some r) (find (lies_in a) ranges)
    (λ o. IsDomainOf (r ∷ ranges) a (option_map (λ r. r.domain) o))
    (λ is. record {
      before = [];
      range = r;
      after = ranges;
      listed = refl;
      none_before = tt;
      lies = lies r a is;
      domain_is = refl;
    })
    (λ is. before_others r ranges a (domain_at ranges a) (lies_not r a is) (first_of_all ranges a))

pub domain_first : (o : Option ℕ) (ranges : List MemoryRange) (a : ℕ) → o ≡ domain_at ranges a → IsDomainOf ranges a o
domain_first o ranges a is = rw is (first_of_all ranges a)

-- ---- how many entries and ranges there are at most

-- each has a kind and a length
one_each : (es : List (List ℕ)) → AllByRecursion (IsEntry srat_layout) es → length es ≤ length (concat es)
one_each [] a = omega arith
one_each (e ∷ es) a = omega (arith, one_each es a.1, a.0.header, length-append e (concat es))

cut_few : (bytes : List ℕ) → length (cut srat_grammar bytes).0 ≤ length bytes
cut_few bytes =
    let c = cut_is_cut 7 srat_grammar bytes in
    let long : length bytes ≡ length (concat (cut srat_grammar bytes).0 ++ (cut srat_grammar bytes).1) =
    ap length c.whole in
    omega (
      arith,
      one_each (cut srat_grammar bytes).0 c.entries,
      long,
      length-append (concat (cut srat_grammar bytes).0) (cut srat_grammar bytes).1,
    )

pub entries_few : (table : List ℕ) → length (entries_of table) ≤ length table - 48
entries_few table =
    omega (
      arith,
      filter_map_few (entry_of (revision_of table)) (cut srat_grammar (drop 48 table)).0,
      cut_few (drop 48 table),
      length-drop 48 table,
    )

pub ranges_few : (table : List ℕ) → length (ranges_of table) ≤ length table - 48
ranges_few table = omega (arith, filter_map_few range_in (entries_of table), entries_few table)
