-- What lists have.
use Rattle.std.proofs.Common.{◌≡◌, ◌∙◌, ℕ, zero, suc, ◌+◌, ◌<◌, length, List, [], ◌∷◌, ◌++◌, Result, Ok, Err, ap, subst, sym, arith, take}
use Rattle.std.specs.Borrow.{Bor}
use Rattle.std.specs.Prelude.{All, Contains, IfOk, map, slice_index_or}
use Rattle.std.proofs.lemmas.List.{take_more}
use Rattle.std.proofs.lemmas.List.Elements.{All-append, All-cons, All-nil, All-weaker, Contains-append_left, Contains-get_or, Contains-push}
use Rattle.std.proofs.lemmas.List.Sorted.{Contains-permutation, IsPermutation-sym, length_permutation}
use Rattle.std.specs.List.Sorted.{IsPermutation}
use Rattle.acpi_base.proofs.FromStd.{map-append}

module _ {A B : Type 0} (f : A → B) where
  pub has_mapped : (xs : List A) (x : A) (i : ℕ) → i < length xs → x ≡ slice_index_or xs i x → Contains (map f xs) (f x)
  has_mapped [] x i less e = absurd (omega (arith, less))
  has_mapped (y ∷ xs) x zero less e = (0, omega arith, ap f (sym e))
  has_mapped (y ∷ xs) x (suc i) less e =
      let later = has_mapped xs x i (omega (arith, less)) e in
      (suc later.0, omega (arith, later.1), later.2)

  pub has_map : (xs : List A) (x : A) → Contains xs x → Contains (map f xs) (f x)
  has_map xs x has = has_mapped xs x has.0 has.1 (sym has.2)

  pub map_take_more : (xs : List A) (x : A) (i : ℕ) → i < length xs → x ≡ slice_index_or xs i x
      → map f (take (i + 1) xs) ≡ map f (take i xs) ++ f x ∷ []
  map_take_more xs x i less e =
      ap (map f) (take_more xs i x less) ∙ map-append f (take i xs) (slice_index_or xs i x ∷ [])
      ∙ ap (λ y. map f (take i xs) ++ f y ∷ []) (sym e)

  -- what some of a list are, they are of a longer one
  pub few_of_more : (xs few : List A) (x : A) → All (Contains (map f xs)) (map f few)
      → All (Contains (map f (xs ++ x ∷ []))) (map f few)
  few_of_more xs few x all = rw (map-append f xs (x ∷ []))
      (All-weaker (Contains (map f xs)) (Contains (map f xs ++ f x ∷ []))
      (λ y has. Contains-append_left (map f xs) (f x ∷ []) y has) (map f few) all)

  pub more_of_more : (xs few : List A) (x : A) → All (Contains (map f xs)) (map f few)
      → All (Contains (map f (xs ++ x ∷ []))) (map f (few ++ x ∷ []))
  more_of_more xs few x all = rw (map-append f few (x ∷ []))
      (All-append (Contains (map f (xs ++ x ∷ []))) (map f few) (f x ∷ []) (few_of_more xs few x all)
      (All-cons (Contains (map f (xs ++ x ∷ []))) (f x) []
      (has_map (xs ++ x ∷ []) x (Contains-push xs x)) (All-nil (Contains (map f (xs ++ x ∷ []))))))

-- a name in order is one of the names
pub is_name : (names sorted shown : List (Bor (List ℕ))) (i : ℕ) (d : Bor (List ℕ)) → IsPermutation names sorted
    → shown ≡ sorted → i < length shown → Contains (map (λ n. n.now) names) (slice_index_or shown i d).now
is_name names sorted shown i d same e less =
    has_map (λ (n : Bor (List ℕ)). n.now) names (slice_index_or shown i d)
    (Contains-permutation shown names (slice_index_or shown i d)
    (IsPermutation-sym names shown (subst (IsPermutation names) (sym e) same)) (Contains-get_or shown i d less))

pub name_count : (names sorted shown : List (Bor (List ℕ))) → IsPermutation names sorted → shown ≡ sorted
    → length shown ≡ length names
name_count names sorted shown same e = ap length e ∙ length_permutation names sorted same

pub ok_weaker : {A E : Type 0} (r : Result A E) (P Q : A → Type 0) → ((x : A) → P x → Q x) → IfOk r P → IfOk r Q
ok_weaker (Ok x) P Q f is = f x is
ok_weaker (Err e) P Q f is = tt
