-- What checked regions are.
use Rattle.std.proofs.Common.{◌≡◌, List, Result, Ok, Err}
use Rattle.acpi_c_lib.specs.Words.{Memory, ◌>>=◌, Refusal, memory_in, memory_of, Region, check_regions}

memory_by : (m x : Memory) (checked : Result (Unit {0}) Refusal) → (checked >>= λ _. Ok x) ≡ Ok m → m ≡ x
memory_by m x (Ok done) e = cc
memory_by m x (Err d) e = cc

-- they are the memory of the regions
pub memory_is : (r : List Region) (m : Memory) → memory_in r ≡ Ok m → m ≡ memory_of r
memory_is r m e = memory_by m (memory_of r) (check_regions (memory_of r)) e
