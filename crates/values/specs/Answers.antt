-- "Status, in order": the numbers of the statuses, and FSR.
use Rattle.std.specs.Prelude.{ℕ, ◌+◌, ◌*◌}
use Rattle.values.specs.declared.Status.{Status}
use Rattle.values.specs.declared.Status.TheVariants.{Alignment, WalkFirst, WalkSecond, TranslationSection, TranslationPage, DomainSection}
use Rattle.values.specs.declared.Status.TheVariants.{DomainPage, PermissionSection, PermissionPage, FillSection, FillPage, OtherSection, OtherPage}
use Rattle.values.specs.declared.Fault.{Fault}

-- "alignment 1; walk outside memory 12 (level 1), 14 (level 2); translation 5, 7; domain 9, 11; permission 13, 15;
-- outside memory on line fill 4, 6, otherwise 8, 10. The second of each pair is for pages"
abbrev pub status_of : Status → ℕ
status_of Alignment = 1
status_of WalkFirst = 12
status_of WalkSecond = 14
status_of TranslationSection = 5
status_of TranslationPage = 7
status_of DomainSection = 9
status_of DomainPage = 11
status_of PermissionSection = 13
status_of PermissionPage = 15
status_of FillSection = 4
status_of FillPage = 6
status_of OtherSection = 8
status_of OtherPage = 10

-- "5 (FSR) keeps 8 bits, domain times 16 plus status"
abbrev pub fsr_of : Fault → ℕ
fsr_of f = f.domain * 16 + status_of f.status
