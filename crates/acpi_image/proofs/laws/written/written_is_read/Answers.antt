use Rattle.acpi_image.proofs.Written.{sum_is_set}
use Rattle.acpi_image.proofs.WrittenLaws as laws
use Rattle.acpi_image.proofs.laws.written.written_is_read.Goals as goal

pub returns-clause-sum : goal.returns-clause-sum
returns-clause-sum g c = sum_is_set

pub returns-clause-read : goal.returns-clause-read
returns-clause-read g c = laws.written_is_read

pub returns-clause-headers : goal.returns-clause-headers
returns-clause-headers g c = laws.headers_say

pub returns-clause-platform : goal.returns-clause-platform
returns-clause-platform g c = laws.platform_says

pub returns-clause-hpet : goal.returns-clause-hpet
returns-clause-hpet g c = laws.hpet_says

pub returns-clause-regions : goal.returns-clause-regions
returns-clause-regions g c = laws.regions_say
