-- What every table that is written has: that it is valid, and what its header has of its makers.
use Rattle.std.proofs.Common.{◌≡◌, ℕ, zero, suc, ◌+◌, true, List, [], ◌∷◌, ◌++◌, length, take, drop, get_or, set, Ok, refl, sym, ap, ◌∙◌, arith, eq-eqb, length-append}
use Rattle.acpi_base.proofs.FromStd.{and_from, and_parts, bytes_eq-Decides, le-leb, take_all}
use Rattle.acpi_base.proofs.Words.{number-spelling}
use Rattle.acpi_image.proofs.Written.{sum_is_set, length-with_sum, IsTable}
use Rattle.acpi_table_writer.specs.Words.{is_utf8, field_of, number, part, spelling, sum_of, check_names, check_table, header_at, letters_of, Signature, is_table, sum_byte, with_sum, is_named, AreIds, IsTableOf, IsValid, table_bytes, table_head, unsummed, HasIds, IdsAreRead, TableIds}
use Rattle.acpi_table_writer.proofs.Bits.{one}
use Rattle.acpi_table_writer.proofs.FieldsRead.{part_in}

-- ---- its length

raw_long : (s : Signature) (revision : ℕ) (ids : TableIds) (body : List ℕ) → length (letters_of s) ≡ 4 → AreIds ids
    → length (unsummed s revision ids body) ≡ 36 + length body
unfolding table_head spelling
raw_long s revision ids body letters are =
    simp length-append (omega (arith, letters, are.oem_id, are.oem_table_id, are.creator_id))

pub table_length : (s : Signature) (revision : ℕ) (ids : TableIds) (body : List ℕ) → length (letters_of s) ≡ 4
    → AreIds ids → length (table_bytes s revision ids body) ≡ 36 + length body
unfolding table_bytes
table_length s revision ids body letters are =
    length-with_sum 9 (unsummed s revision ids body) ∙ raw_long s revision ids body letters are

-- ---- its bytes, one by one

abbrev firsts : ℕ → List ℕ → List ℕ
firsts zero l = []
firsts (suc n) l = get_or l 0 0 ∷ firsts n (drop 1 l)

one_by_one : (n : ℕ) (l : List ℕ) → length l ≡ n → l ≡ firsts n l
one_by_one zero [] e = refl
one_by_one zero (x ∷ l) e = absurd cc
one_by_one (suc n) [] e = absurd cc
one_by_one (suc n) (x ∷ l) e = ap (λ m. x ∷ m) (one_by_one n l (omega arith))

abbrev head : Signature → ℕ → TableIds → ℕ → List ℕ
head s revision ids n =
    firsts 4 (letters_of s) ++ (spelling 4 n ++ (revision ∷ 0 ∷ (firsts 6 ids.oem_id ++ (firsts 8 ids.oem_table_id
    ++ (spelling 4 ids.oem_revision ++ (firsts 4 ids.creator_id ++ spelling 4 ids.creator_revision))))))

-- ---- what a reader makes of such bytes

is_taken : (b : List ℕ) → IsTable b → is_table b ≡ true
unfolding is_table
is_taken b is =
    and_from _ _ (le-leb 36 (length b) is.long)
    (and_from _ _ (eq-eqb (field_of b 4 4) (length b) is.whole)
    (and_from _ _ is.signature (and_from _ _ is.id is.table_id)))

is_checked : (s : Signature) (b : List ℕ) → IsTable b → is_named s b ≡ true → sum_of b ≡ 0 → check_table s b ≡ Ok tt
unfolding check_table check_names header_at
is_checked s b is named sum =
    let all : take (length b) b ≡ b = take_all (length b) b (omega arith) in
    rw (named, is.signature, is.id, is.table_id, is.whole, le-leb 36 (length b) is.long)
    (rw (le-leb (length b) (length b) (omega arith), all, sum) refl)

module _ {s : Signature} {revision : ℕ} {ids : TableIds} {body table : List ℕ} (letters : length (letters_of s) ≡ 4)
    (is : IsTableOf s revision ids body table) where
  abbrev ids_fit : AreIds ids
  ids_fit = is.ids_fit

  abbrev sum : ℕ
  sum = sum_byte 9 (unsummed s revision ids body)

  opened : table ≡ set (head s revision ids (36 + length body) ++ body) 9 sum
  unfolding table_bytes table_head with_sum
  opened =
      let a = one_by_one 4 (letters_of s) letters in
      let b = one_by_one 6 ids.oem_id ids_fit.oem_id in
      let c = one_by_one 8 ids.oem_table_id ids_fit.oem_table_id in
      let d = one_by_one 4 ids.creator_id ids_fit.creator_id in
      let same : table_head s revision ids (36 + length body) ≡ head s revision ids (36 + length body) = cc in
      is.bytes ∙ ap (λ h. set (h ++ body) 9 sum) same

  pub long : length table ≡ 36 + length body
  long = ap length is.bytes ∙ table_length s revision ids body letters ids_fit

  -- the bytes after the header are not touched
  pub rest : drop 36 table ≡ body
  unfolding spelling
  rest = ap (drop 36) opened

  pub part_of : (k n : ℕ) → part table (36 + k) n ≡ part body k n
  part_of k n = part_in table body 36 rest k n

  pub field : (k n : ℕ) → field_of table (36 + k) n ≡ field_of body k n
  unfolding field_of
  field k n = ap number (part_of k n)

  pub letters_are : part table 0 4 ≡ letters_of s
  letters_are = ap (λ b. part b 0 4) opened ∙ sym (one_by_one 4 (letters_of s) letters)

  pub named : is_named s table ≡ true
  named = rw letters_are ((bytes_eq-Decides (letters_of s) (letters_of s)).1 refl)

  id_is : part table 10 6 ≡ ids.oem_id
  unfolding spelling
  id_is = ap (λ b. part b 10 6) opened ∙ sym (one_by_one 6 ids.oem_id ids_fit.oem_id)

  table_id_is : part table 16 8 ≡ ids.oem_table_id
  unfolding spelling
  table_id_is = ap (λ b. part b 16 8) opened ∙ sym (one_by_one 8 ids.oem_table_id ids_fit.oem_table_id)

  whole : field_of table 4 4 ≡ length table
  unfolding field_of spelling
  whole = ap (λ b. number (part b 4 4)) opened
      ∙ number-spelling 4 (36 + length body) (omega (arith, is.short)) ∙ sym long

  pub valid : is_utf8 (letters_of s) ≡ true → IsValid s table
  unfolding table_bytes
  valid text =
      let p = and_parts _ _ is.texts in
      let q = and_parts _ _ p.1 in
      let taken : IsTable table = record {
        long = omega (arith, long);
        whole = whole;
        signature = ap is_utf8 letters_are ∙ text;
        id = ap is_utf8 id_is ∙ p.0;
        table_id = ap is_utf8 table_id_is ∙ q.0;
      } in
      let summed : sum_of table ≡ 0 = ap sum_of is.bytes
      ∙ sum_is_set 9 (unsummed s revision ids body)
      (omega (arith, raw_long s revision ids body letters ids_fit)) in
      record { checked = is_checked s table taken named summed; taken = is_taken table taken }

  pub says : HasIds revision ids (header_at table)
  unfolding header_at field_of spelling
  says = record {
    revision_is = ap (λ b. number (part b 8 1)) opened ∙ one revision;
    oem_id = id_is;
    oem_table_id = table_id_is;
    oem_revision = ap (λ b. number (part b 24 4)) opened
        ∙ number-spelling 4 ids.oem_revision (omega (arith, ids_fit.oem_revision));
    creator_id = ap (λ b. number (part b 28 4)) opened
        ∙ ap number (sym (one_by_one 4 ids.creator_id ids_fit.creator_id));
    creator_revision = ap (λ b. number (part b 32 4)) opened
        ∙ number-spelling 4 ids.creator_revision (omega (arith, ids_fit.creator_revision));
  }

pub ids_are_read : IdsAreRead
ids_are_read s a b c d revision ids body table letters is = says (ap length letters) is
