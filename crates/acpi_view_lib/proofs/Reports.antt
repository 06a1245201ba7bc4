-- What a run is to end with, and how far it gets.
use Rattle.std.proofs.Common.{◌≡◌, ◌∙◌, ◌≤◌, ◌-◌, ℕ, List, [], ◌++◌, ap, append_assoc, arith, drop, inl, inr, length, refl, subst, sym, take, take-append-drop, Option, Ok, Err}
use Rattle.acpi_base.proofs.FromStd.{Appends-kept, Appends-nil, Appends-trans, length-drop, length-take, take-take, take_all}
use Rattle.acpi_base.specs.FromStd.{Appends, Keeps, Global}
use Rattle.acpi_cli.specs.declared.root.Root.{Root}
use Rattle.acpi_view_lib.specs.Command.{root_for}
use Rattle.acpi_view_lib.specs.Lines.{pci_lines}
use Rattle.acpi_view_lib.specs.Output.{AppendsFront, AppendsUntil, Found, IsOutput, IsReport, Runs, found_with, lines_of, pointers_in, stderr_of}
use Rattle.acpi_view_lib.specs.PlatformLines.{platform_lines}
use Rattle.acpi_view_lib.specs.Status.{status_with}

-- a text grows by these bytes, and then by those
pub more : (s t u x y : List ℕ) → t ≡ s ++ x → u ≡ t ++ y → u ≡ s ++ (x ++ y)
more s t u x y first second = second ∙ ap (λ l. l ++ y) first ∙ append_assoc s x y

-- there is a text for whatever is found
some_output : (found : Found) → (text : List ℕ) × IsOutput found text
some_output (Ok found) =
    let platform = platform_lines Global found.0 (pointers_in found.1) in
    let pci = pci_lines found.0 (pointers_in found.1) in (
      lines_of platform pci found.0 found.1,
      record { platform = platform; pci = pci; platform_is = inl refl; pci_is = inl refl; whole = refl },
    )
some_output (Err complaint) = ([], refl)

-- a run has something to end with
pub some_report : (asked : Option Root) (file : Option (List ℕ)) → (lines : List ℕ)
    × IsReport asked file (status_with asked file) lines (stderr_of (found_with asked file))
some_report asked file =
    let output = some_output (found_with asked file) in
    (output.0, inl (refl, output.1, refl))

-- ---- how far a run gets

-- nothing is written
pub front_none : (a : Option (List ℕ)) (text : List ℕ) → AppendsFront a a text
front_none a text = (text, ([], refl, Appends-nil a))

-- a flush keeps what is written
pub front_kept : (a b c : Option (List ℕ)) (text : List ℕ) → AppendsFront a b text → Keeps b c → AppendsFront a c text
front_kept a b c text so_far kept = (so_far.0, (so_far.1.0, so_far.1.1, Appends-kept a b c so_far.1.0 so_far.1.2 kept))

-- that number of further bytes is written, of the bytes that are written at a time
pub front_more : (rest text : List ℕ) (a b c : Option (List ℕ)) (n m : ℕ) → n ≤ length (take m rest)
    → AppendsUntil rest a b text → Appends b c (take n (take m rest))
    → AppendsUntil (take (length rest - n) (drop n rest)) a c text
front_more rest text a b c n m bound so_far taken =
    let all : take (length rest - n) (drop n rest) ≡ drop n rest =
    take_all (length rest - n) (drop n rest) (omega (arith, length-drop n rest)) in
    let cut : text ≡ (so_far.0 ++ take n rest) ++ drop n rest =
    so_far.1 ∙ ap (λ l. so_far.0 ++ l) (sym (take-append-drop n rest))
    ∙ sym (append_assoc so_far.0 (take n rest) (drop n rest)) in
    let first : take n (take m rest) ≡ take n rest =
    take-take n m rest (omega (arith, bound, length-take m rest)) in
    (so_far.0 ++ take n rest, rw all cut, Appends-trans a b c so_far.0 (take n rest) so_far.2 (rw first at taken))

-- a run that stops before its end has status 1
pub stopped : (arguments : List (List ℕ)) (asked : Option Root) (file : Option (List ℕ)) (status : ℕ)
    (lines complaints : List ℕ) (a b c d : Option (List ℕ))
    → asked ≡ root_for arguments → IsReport asked file status lines complaints
    → AppendsFront a b lines → AppendsFront c d complaints → Runs arguments file 1 a b c d
stopped arguments asked file status lines complaints a b c d is report out err = record {
  defined = status;
  lines = lines;
  complaints = complaints;
  report = subst (λ o. IsReport o file status lines complaints) is report;
  ends = inr (refl, out, err);
}
