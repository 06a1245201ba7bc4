-- What a walk lists for C: the records of the items that have one.
use Rattle.std.specs.Prelude.{◌≡◌, List, [], ◌∷◌, map, Option, Some, None, refl, filter_map, option_map}
use Rattle.acpi_base.specs.FromStd.{cons_option, YieldsFirst, YieldsFirstBy}
use Rattle.std.proofs.Common.{◌∙◌, ap}

-- a call from s that returned an item and left t: with the item's record, if it has one, what t lists is what s lists
abbrev pub ListsFirst : {S A R : Type 0} → (A → Option R) → (S → List R) → S → Option A → S → Type 0
ListsFirst record_of left s None t = left s ≡ []
ListsFirst record_of left s (Some x) t = left s ≡ cons_option (record_of x) (left t)

-- a list of what items show, and the walk that shows the items that are left
pub lists_by : {S A B R : Type 0} (view : A → B) (f : B → Option R) (list : List B → List R) (rest : S → List B)
    → list [] ≡ [] → ((x : B) (xs : List B) → list (x ∷ xs) ≡ cons_option (f x) (list xs))
    → (s : S) (item : Option A) (t : S) → YieldsFirstBy view rest s item t
    → ListsFirst (λ x. f (view x)) (λ u. list (rest u)) s item t
lists_by view f list rest none more s None t given = ap list given.0 ∙ none
lists_by view f list rest none more s (Some x) t given = ap list given ∙ more (view x) (rest t)

-- every item has a record
pub lists_each : {S A R : Type 0} (f : A → R) (rest : S → List A) (s : S) (item : Option A) (t : S)
    → YieldsFirst rest s item t → ListsFirst (λ x. Some (f x)) (λ u. map f (rest u)) s item t
lists_each f rest = lists_by (λ x. x) (λ x. Some (f x)) (map f) rest refl (λ x xs. refl)

-- some have
pub lists_some : {S A R : Type 0} (f : A → Option R) (rest : S → List A) (s : S) (item : Option A) (t : S)
    → YieldsFirst rest s item t → ListsFirst f (λ u. filter_map f (rest u)) s item t
lists_some f rest = lists_by (λ x. x) f (filter_map f) rest refl (λ x xs. refl)

map_option : {B R : Type 0} (f : B → R) (o : Option B) (xs : List B)
    → map f (cons_option o xs) ≡ cons_option (option_map f o) (map f xs)
map_option f None xs = refl
map_option f (Some x) xs = refl

-- some have, by what is found in them
pub lists_found : {S A B R : Type 0} (f : B → R) (g : A → Option B) (rest : S
    → List A) (s : S) (item : Option A) (t : S)
    → YieldsFirst rest s item t
    → ListsFirst (λ x. option_map f (g x)) (λ u. map f (filter_map g (rest u))) s item t
lists_found f g rest =
    lists_by (λ x. x) (λ x. option_map f (g x)) (λ xs. map f (filter_map g xs)) rest refl
    (λ x xs. map_option f (g x) (filter_map g xs))
