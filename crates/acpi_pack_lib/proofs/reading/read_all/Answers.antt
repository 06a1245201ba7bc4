-- Asking for files one after the other.
use Rattle.std.proofs.Common.{Bor, ◌+◌, ◌<◌, ◌≤◌, drop, get_or, length, subst, ◌≡◌, ◌∙◌, ℕ, List, [], ◌∷◌, ◌++◌, ap, arith, map, refl, sym, Option}
use Rattle.acpi_base.proofs.FromStd.{drop_of_length-le, drop_more, append_assoc, append-nil, map-append}
use Rattle.acpi_pack_lib.specs.Reads.{Asks, AsksUntil, FileRead}
use Rattle.acpi_pack_lib.proofs.reading.read_all.Goals as goal

-- at first none was requested
none_asked : (names : List (List ℕ)) (before : List FileRead) → AsksUntil names names before before
none_asked names before = record {
  front = [];
  names_are = refl;
  asks = record { reads = []; names_are = refl; grown = sym (append-nil before) };
}

-- one more is requested
next_asked : (n : List ℕ) (left names : List (List ℕ)) (before now after : List FileRead)
    → AsksUntil (n ∷ left) names before now
    → ((content : Option (List ℕ)) × (after ≡ now ++ record { name = n; content = content } ∷ []))
    → AsksUntil left names before after
next_asked n left names before now after until (content, grown) = record {
  front = until.front ++ n ∷ [];
  names_are = until.names_are ∙ sym (append_assoc until.front (n ∷ []) left);
  asks = record {
    reads = until.asks.reads ++ record { name = n; content = content } ∷ [];
    names_are = map-append (λ r. r.name) until.asks.reads (record { name = n; content = content } ∷ [])
        ∙ ap (λ ns. ns ++ n ∷ []) until.asks.names_are;
    grown = grown ∙ ap (λ rs. rs ++ record { name = n; content = content } ∷ []) until.asks.grown
        ∙ append_assoc before until.asks.reads (record { name = n; content = content } ∷ []);
  };
}

-- none is left
all_asked : (names : List (List ℕ)) (before after : List FileRead)
    → AsksUntil [] names before after → Asks names before after
all_asked names before after until = record {
  reads = until.asks.reads;
  names_are = until.asks.names_are ∙ sym (until.names_are ∙ append-nil until.front);
  grown = until.asks.grown;
}

-- one more name is requested, of names that are borrowed and come one after the other
next_name : (names : List (Bor (List ℕ))) (i : ℕ) (n : Bor (List ℕ)) (before now after : List FileRead)
    → i < length names
    → AsksUntil (map (λ n. n.now) (drop i names)) (map (λ n. n.now) names) before now
    → ((content : Option (List ℕ))
    × (after ≡ now ++ record { name = (get_or names i n).now; content = content } ∷ []))
    → AsksUntil (map (λ n. n.now) (drop (i + 1) names)) (map (λ n. n.now) names) before after
next_name names i n before now after inside until grown =
    next_asked (get_or names i n).now (map (λ n. n.now) (drop (i + 1) names)) (map (λ n. n.now) names)
    before now after
    (subst (λ left. AsksUntil (map (λ n. n.now) left) (map (λ n. n.now) names) before now)
    (drop_more names i n inside) until)
    grown

pub loop-name-init : goal.loop-name-init
loop-name-init g c = none_asked _ _

pub loop-name-preserved : goal.loop-name-preserved
loop-name-preserved g c =
    next_name c.args.names.now c.loop-name.name-index _ _ _ _ c.loop-name-test.true
    c.loop-name.invariant c.in_ok-read.ensures.asked

pub returns-clause-asked : goal.returns-clause-asked
returns-clause-asked g c =
    let over : length c.args.names.now ≤ c.loop-name.name-index = omega (arith, c.loop-name-test.false) in
    all_asked (map (λ n. n.now) c.args.names.now) _ _
    (rw (drop_of_length-le c.args.names.now over) at c.loop-name.invariant)
