-- A file is read one record at a time, as the regions whose records it is, and as no others.
use Rattle.std.proofs.Common.{◌≡◌, ◌≢◌, ℕ, zero, suc, ◌<◌, ◌≤◌, false, List, [], ◌∷◌, ◌++◌, ◌+◌, length, Result, Ok, Err, refl, sym, ◌∙◌, arith, ◌^◌, take, drop, ap, subst, drop-drop, append_assoc, IsErrAnd, IfOk, ◌↔◌, flat_map}
use Rattle.acpi_base.proofs.FromStd.{lt-ltb, leb-true, le-leb, ltb-true, length-append, nil_from_length, length-take, length-take-le, length-drop, take-append-drop, append-nil, flat_map-append, take-append_seam, drop-append_seam}
use Rattle.acpi_base.specs.Words.{Memory, Region, IsMemory, IsRegion, ◌>>=◌, IsBytes, number, spelling, field_of}
use Rattle.acpi_image_reader.specs.Words.{next_at, records_from, records_in, GivesOrRunsOut, Refuses, RunsOut, IsImage, record_at, record_spelling, shares_any, ImageError, memory_of, MemoryImage}
use Rattle.acpi_base.proofs.Words.{bind_ok, holds_ok, same_ok, IsBytes-drop, IsBytes-take, length-spelling, number-spelling, spelling-number}
use Rattle.acpi_image_reader.proofs.Sharing.{all_apart, memory_at, memory_with, shares_none}
use Rattle.std.proofs.lemmas.Bool.{not-true}
use Rattle.acpi_image_reader.specs.declared.error.ImageError.TheVariants as refusal

records_nil : (n : ℕ) (kept : Memory) → records_from n kept [] ≡ Ok kept
records_nil zero kept = refl
records_nil (suc n) kept = refl

records_step : (n : ℕ) (kept : Memory) (left : List ℕ) → 0 < length left → records_from (suc n) kept left
    ≡ (next_at kept left >>= λ found. records_from n (kept ++ (found.0 ∷ [])) found.1)
records_step n kept [] some = absurd (omega arith)
records_step n kept (b ∷ bs) some = refl

-- an answer that hands a refusal on
pub handed_on : {X : Type 0} (file : List ℕ) (view : X → Memory) (r : Result X ImageError) (x : ImageError)
    (expected : Result Memory ImageError) → IsErrAnd r (λ e. e ≡ x) → Refuses file x expected
    → GivesOrRunsOut file view r expected
handed_on file view (Ok y) x expected h k = absurd h
handed_on file view (Err e) x expected h k = rw h k

refuses : (file : List ℕ) (x : ImageError) (expected : Result Memory ImageError) → x ≢ refusal.OutOfMemory → expected
    ≡ Err x
    → Refuses file x expected
refuses file refusal.Truncated expected other e = e
refuses file refusal.EndTooLarge expected other e = e
refuses file refusal.Overlap expected other e = e
refuses file refusal.OutOfMemory expected other e = absurd (other refl)

-- ---- one record

-- what was read is what the bytes begin with
record IsRead (b : List ℕ) (found : Region × List ℕ) : Type 0 where
  pub parts : b ≡ record_spelling found.0 ++ found.1
  pub region : IsRegion found.0
  pub rest : IsBytes found.1
  pub less : length found.1 < length b

spelled_at : (b : List ℕ) (o : ℕ) → IsBytes b → o + 8 ≤ length b → spelling 8 (field_of b o 8) ≡ take 8 (drop o b)
unfolding field_of
spelled_at b o h room =
    let len : length (take 8 (drop o b)) ≡ 8 = simp (length-take, length-drop) (omega arith) in
    let all = spelling-number (take 8 (drop o b)) (IsBytes-take 8 (drop o b) (IsBytes-drop o b h)) in
    rw len at all

cut_at : (b : List ℕ) (n : ℕ) → (take 8 b ++ (take 8 (drop 8 b) ++ take n (drop 16 b))) ++ drop n (drop 16 b) ≡ b
cut_at b n =
    let two : drop 16 b ≡ drop 8 (drop 8 b) = sym (drop-drop 8 8 b) in
    rw two (simp (append_assoc, take-append-drop))

abbrev front_of : List ℕ → Region × List ℕ
front_of b = (
  record { start = field_of b 0 8; bytes = take (field_of b 8 8) (drop 16 b) },
  drop (field_of b 8 8) (drop 16 b),
)

front_is : (b : List ℕ) → IsBytes b → 16 ≤ length b → field_of b 8 8 ≤ length (drop 16 b)
    → b ≡ record_spelling (front_of b).0 ++ (front_of b).1
front_is b h room fits =
    let many : length (take (field_of b 8 8) (drop 16 b)) ≡ field_of b 8 8 =
    length-take-le (field_of b 8 8) (drop 16 b) fits in
    let start = spelled_at b 0 h (omega arith) in
    let count = spelled_at b 8 h (omega arith) in
    rw (many, start, count) (sym (cut_at b (field_of b 8 8)))

record_is : (b : List ℕ) (found : Region × List ℕ) → IsBytes b → record_at b ≡ Ok found → IsRead b found
unfolding record_at
record_is b found h e =
    let p = holds_ok _ _ _ _ e in
    let q = holds_ok _ _ _ _ p.1 in
    let s = holds_ok _ _ _ _ q.1 in
    let room : 16 ≤ length b = leb-true _ _ p.0 in
    let fits : field_of b 8 8 ≤ length (drop 16 b) = leb-true _ _ q.0 in
    let low : field_of b 0 8 + field_of b 8 8 < 2 ^ 64 = ltb-true _ _ s.0 in
    let many : length (take (field_of b 8 8) (drop 16 b)) ≡ field_of b 8 8 =
    length-take-le (field_of b 8 8) (drop 16 b) fits in
    let same : front_of b ≡ found = same_ok _ _ s.1 in
    subst (λ (f : Region × List ℕ). IsRead b f) same (record {
      parts = front_is b h room fits;
      region = (omega arith, IsBytes-take (field_of b 8 8) (drop 16 b) (IsBytes-drop 16 b h));
      rest = IsBytes-drop (field_of b 8 8) (drop 16 b) (IsBytes-drop 16 b h);
      less = simp (length-drop) (omega arith);
    })

start_at : (r : Region) (rest : List ℕ) → field_of (record_spelling r ++ rest) 0 8 ≡ number (spelling 8 r.start)
unfolding field_of spelling
start_at r rest = refl

count_at : (r : Region) (rest : List ℕ)
    → field_of (record_spelling r ++ rest) 8 8 ≡ number (spelling 8 (length r.bytes))
unfolding field_of spelling
count_at r rest = refl

behind_at : (r : Region) (rest : List ℕ) → drop 16 (record_spelling r ++ rest) ≡ r.bytes ++ rest
unfolding spelling
behind_at r rest = refl

record_long : (r : Region) (rest : List ℕ) → 16 + length rest ≤ length (record_spelling r ++ rest)
record_long r rest = simp (length-append, length-spelling) (omega arith)

record_again : (r : Region) (rest : List ℕ) → IsRegion r → record_at (record_spelling r ++ rest) ≡ Ok (r, rest)
unfolding record_at
record_again r rest h =
    let start = start_at r rest ∙ number-spelling 8 r.start (omega arith) in
    let count = count_at r rest ∙ number-spelling 8 (length r.bytes) (omega arith) in
    let long : 16 ≤ length (record_spelling r ++ rest) = omega (arith, record_long r rest) in
    let fits : length r.bytes ≤ length (r.bytes ++ rest) = omega (arith, length-append r.bytes rest) in
    rw (le-leb _ _ long, start, count, behind_at r rest, le-leb _ _ fits, lt-ltb _ _ h.0)
    (rw (take-append_seam r.bytes rest, drop-append_seam r.bytes rest) refl)

-- ---- the next record

next_is : (m : Memory) (b : List ℕ) (found : Region × List ℕ) → next_at m b ≡ Ok found
    → (record_at b ≡ Ok found) × (shares_any m found.0 ≡ false)
unfolding next_at
next_is m b found e =
    let p = bind_ok _ _ _ e in
    let q = holds_ok _ _ _ _ p.2 in
    let same : p.0 ≡ found = same_ok _ _ q.1 in
    subst (λ (f : Region × List ℕ). (record_at b ≡ Ok f) × (shares_any m f.0 ≡ false)) same (p.1, not-true _ q.0)

next_again : (m : Memory) (b : List ℕ) (found : Region × List ℕ) → record_at b ≡ Ok found → shares_any m found.0 ≡ false
    → next_at m b ≡ Ok found
unfolding next_at
next_again m b found e none = rw (e, none) refl

-- ---- all records

-- the regions that are kept are those of the file's front, and with at most n records of the bytes that are left they
-- lead to what the file leads to
pub record IsReading (n : ℕ) (kept : Memory) (left file : List ℕ) : Type 0 where
  pub room : length left ≤ n
  pub same : records_from n kept left ≡ records_in file
  pub front : file ≡ flat_map record_spelling kept ++ left
  pub memory : IsMemory kept
  pub bytes : IsBytes left

abbrev pub Reads : Memory → List ℕ → List ℕ → Type 0
Reads kept left file = (n : ℕ) × IsReading n kept left file

pub reading_begins : (file : List ℕ) → IsBytes file → Reads [] file file
unfolding records_in
reading_begins file h =
    (length file, record { room = omega arith; same = refl; front = refl; memory = tt; bytes = h })

module _ (kept : Memory) (left file : List ℕ) where
  -- no byte is left
  pub reading_ends : length left ≡ 0 → Reads kept left file → records_in file ≡ Ok kept
  reading_ends none r =
      let empty : left ≡ [] = nil_from_length left none in
      sym r.1.same ∙ rw empty (records_nil r.0 kept)

  module _ (some : 0 < length left) where
    one_more : (n : ℕ) (found : Region × List ℕ) → next_at kept left ≡ Ok found → IsReading (suc n) kept left file
        → IsReading n (kept ++ (found.0 ∷ [])) found.1 file
    one_more n found next r =
        let one = next_is kept left found next in
        let is = record_is left found r.bytes one.0 in
        record {
          room = omega (arith, is.less, r.room);
          same = rw (records_step n kept left some, next) at r.same;
          front = r.front ∙ ap (λ (x : List ℕ). flat_map record_spelling kept ++ x) is.parts
              ∙ simp (flat_map-append, append_assoc, append-nil);
          memory = memory_with kept found.0 r.memory is.region (all_apart kept found.0 one.1);
          bytes = is.rest;
        }

    -- the next record is read
    pub reading_goes_on : (found : Region × List ℕ) → next_at kept left ≡ Ok found → Reads kept left file
        → Reads (kept ++ (found.0 ∷ [])) found.1 file
    reading_goes_on found next (zero, r) = absurd (omega (arith, some, r.room))
    reading_goes_on found next (suc n, r) = (n, one_more n found next r)

    -- it is refused
    pub reading_refuses : (x : ImageError) → x ≢ refusal.OutOfMemory → next_at kept left ≡ Err x → Reads kept left file
        → Refuses file x (records_in file)
    reading_refuses x other next (zero, r) = absurd (omega (arith, some, r.room))
    reading_refuses x other next (suc n, r) =
        refuses file x _ other (sym (rw (records_step n kept left some, next) at r.same))

    -- there is no memory for it
    pub reading_runs_out : (found : Region × List ℕ) → next_at kept left ≡ Ok found → Reads kept left file
        → RunsOut file
    reading_runs_out found next r =
        let more = (reading_goes_on found next r).1 in
        record { earlier = kept; last = found.0; rest = found.1; front = more.front; memory = more.memory }

all_read : (n : ℕ) (kept : Memory) (left file : List ℕ) (all : Memory) → IsReading n kept left file
    → records_in file ≡ Ok all → IsImage file all × IsMemory all
all_read n kept [] file all r e =
    let same : kept ≡ all = same_ok _ _ (sym (records_nil n kept) ∙ r.same ∙ e) in
    subst (λ (m : Memory). IsImage file m × IsMemory m) same (r.front ∙ append-nil _, r.memory)
all_read zero kept (b ∷ bs) file all r e = absurd (omega (arith, r.room))
all_read (suc n) kept (b ∷ bs) file all r e =
    let t = bind_ok _ _ _ (r.same ∙ e) in
    all_read n (kept ++ (t.0.0 ∷ [])) t.0.1 file all (one_more kept (b ∷ bs) file (omega arith) n t.0 t.1 r) e

records_again : (n : ℕ) (m rs : Memory) → length (flat_map record_spelling rs) ≤ n → IsMemory (m ++ rs)
    → records_from n m (flat_map record_spelling rs) ≡ Ok (m ++ rs)
records_again n m [] room h = rw append-nil (records_nil n m)
records_again zero m (r ∷ rs) room h =
    let long = record_long r (flat_map record_spelling rs) in
    absurd (omega arith)
records_again (suc n) m (r ∷ rs) room h =
    let long = record_long r (flat_map record_spelling rs) in
    let here = memory_at m r rs h in
    let next = next_again m (record_spelling r ++ flat_map record_spelling rs) (r, flat_map record_spelling rs)
    (record_again r (flat_map record_spelling rs) here.0) (shares_none m r here.1) in
    let rest = records_again n (m ++ (r ∷ [])) rs (omega arith) (rw append_assoc h) in
    records_step n m (record_spelling r ++ flat_map record_spelling rs) (omega arith)
    ∙ rw next (rw append_assoc at rest)

pub image_is : (file : List ℕ) (rs : Memory) → IsBytes file → records_in file ≡ Ok rs → IsImage file rs × IsMemory rs
image_is file rs h e = let begun = reading_begins file h in all_read begun.0 [] file file rs begun.1 e

pub image_again : (file : List ℕ) (rs : Memory) → IsMemory rs → IsImage file rs → records_in file ≡ Ok rs
unfolding records_in
image_again file rs h e = rw e (records_again (length (flat_map record_spelling rs)) [] rs (omega arith) h)

-- the regions that a file is read as are a memory
pub image_memory : (file : List ℕ) (rs : Memory) → IsBytes file → records_in file ≡ Ok rs → IsMemory rs
image_memory file rs h e = (image_is file rs h e).1

-- ---- what a call answered

abbrev Answer : Type 0
Answer = Result MemoryImage ImageError

-- it is what the definition says, unless memory ran out
abbrev Answers : List ℕ → Answer → Result Memory ImageError → Type 0
Answers file answer expected = GivesOrRunsOut file (λ i. memory_of i) answer expected

-- an image that was found is the file's
pub image_found : (file : List ℕ) (answer : Answer) → IsBytes file → Answers file answer (records_in file)
    → IfOk answer (λ i. IsImage file (memory_of i))
image_found file (Ok i) h e = (image_is file (memory_of i) h e).0
image_found file (Err x) h e = tt

-- a file that is the records of a memory is read as that memory
pub image_only : (file : List ℕ) (answer : Answer) (m : Memory) → IsMemory m → IsImage file m
    → Answers file answer (records_in file) → Answers file answer (Ok m)
image_only file answer m h same e = rw (image_again file m h same) at e

-- the definition reads a file as the one memory whose records it is
pub image_law : (file : List ℕ) (m : Memory) → IsBytes file → (records_in file ≡ Ok m) ↔ (IsImage file m × IsMemory m)
image_law file m h = (image_is file m h, λ both. image_again file m both.1 both.0)
