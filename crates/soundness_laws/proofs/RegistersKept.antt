-- Faults and writes keep the registers sound.
use Prim.Native.Nat.{ℕ, ◌+◌, ◌*◌, ◌/◌, ◌%◌, ◌<◌}
use native.Mathlib.Omega.{arith}
use mathlib.Core.Bool.{true}
use mathlib.Core.Path.{◌≡◌, refl, ◌∙◌}
use lib.Dec.{eqb}
use borrow.Author.Tests.{eqb-true}
use Rattle.values.specs.Answers.{status_of, fsr_of}
use Rattle.values.specs.Control.{kept, listed}
use Rattle.values.specs.Registers.{with_control, with_base, with_domains, with_fsr, with_far}
use Rattle.values.specs.declared.Registers.{Registers}
use Rattle.values.specs.declared.Fault.{Fault}
use Rattle.values.specs.declared.Status.{Status}
use Rattle.values.specs.declared.Status.TheVariants.{Alignment, WalkFirst, WalkSecond, TranslationSection, TranslationPage, DomainSection, DomainPage}
use Rattle.values.specs.declared.Status.TheVariants.{PermissionSection, PermissionPage, FillSection, FillPage, OtherSection, OtherPage}
use Rattle.values.proofs.Cases.{case}
use Rattle.translation.specs.Faults.{fault_set}
use Rattle.registers.specs.Registers.{written_of}
use Rattle.soundness_laws.proofs.ScalarParts.{RegistersAre}

-- ---- one register replaced

module _ (r : Registers) (v : ℕ) (k : RegistersAre r) where
  control_kept : kept v ≡ v → listed v ≡ true → RegistersAre (with_control r v)
  control_kept e l = record { control = e; combination = l; base = k.base; base_low = k.base_low; domains = k.domains; fsr = k.fsr; far = k.far }

  base_kept : v / 0x4000 * 0x4000 ≡ v → v < 0x100000000 → RegistersAre (with_base r v)
  base_kept e h = record { control = k.control; combination = k.combination; base = e; base_low = h; domains = k.domains; fsr = k.fsr; far = k.far }

  -- the other three have a range alone
  domains_kept : v < 0x100000000 → RegistersAre (with_domains r v)
  domains_kept h =
      record { control = k.control; combination = k.combination; base = k.base; base_low = k.base_low; domains = h; fsr = k.fsr; far = k.far }

  fsr_kept : v < 256 → RegistersAre (with_fsr r v)
  fsr_kept h =
      record { control = k.control; combination = k.combination; base = k.base; base_low = k.base_low; domains = k.domains; fsr = h; far = k.far }

  far_kept : v < 0x100000000 → RegistersAre (with_far r v)
  far_kept h =
      record { control = k.control; combination = k.combination; base = k.base; base_low = k.base_low; domains = k.domains; fsr = k.fsr; far = h }

-- ---- a fault

pub status_low : (s : Status) → status_of s < 16
status_low Alignment = omega arith
status_low WalkFirst = omega arith
status_low WalkSecond = omega arith
status_low TranslationSection = omega arith
status_low TranslationPage = omega arith
status_low DomainSection = omega arith
status_low DomainPage = omega arith
status_low PermissionSection = omega arith
status_low PermissionPage = omega arith
status_low FillSection = omega arith
status_low FillPage = omega arith
status_low OtherSection = omega arith
status_low OtherPage = omega arith

pub fault_kept : (r : Registers) (f : Fault) → RegistersAre r → f.domain < 16 → f.address.0 < 0x100000000 → RegistersAre (fault_set r f)
unfolding fault_set
fault_kept r f k d a =
    let s = status_low f.status in
    far_kept (with_fsr r (fsr_of f)) f.address.0 (fsr_kept r (fsr_of f) k (omega arith)) a

-- ---- a write

-- the bits that are kept, and the bits that the list names
low_part : (v : ℕ) → kept v % 16 ≡ v % 16
unfolding kept
low_part v = omega arith

pub kept_twice : (v : ℕ) → kept (kept v) ≡ kept v
unfolding kept
kept_twice v =
    parts (v % 16) (v / 256 % 4) (v / 0x1000 % 2) (omega arith) (omega arith) (omega arith)
  where
    parts : (a b c : ℕ) → a < 16 → b < 4 → c < 2
        → (a + b * 256 + c * 0x1000) % 16 + (a + b * 256 + c * 0x1000) / 256 % 4 * 256 + (a + b * 256 + c * 0x1000) / 0x1000 % 2 * 0x1000
        ≡ a + b * 256 + c * 0x1000
    parts a b c ha hb hc =
        let x = a + b * 256 + c * 0x1000 in
        let e : x % 16 ≡ a = omega arith in
        let f : x / 256 ≡ b + c * 16 = omega arith in
        let g : x / 0x1000 ≡ c = omega arith in
        let h : (b + c * 16) % 4 ≡ b = omega arith in
        let i : c % 2 ≡ c = omega arith in
        rw (e, f, g, h, i)

even : (a b y : ℕ) → y ≡ a * 2 + b → y % 2 ≡ b % 2
even a b y e = omega arith

-- bits 0, 2 and 3 depend on the low four bits alone
low_bit : (v : ℕ) → (v / 1 % 2 ≡ v % 16 % 2) × (v / 4 % 2 ≡ v % 16 / 4 % 2) × (v / 8 % 2 ≡ v % 16 / 8 % 2)
low_bit v = (omega arith, third (v / 16) (v % 16) v (omega arith) (omega arith), fourth (v / 16) (v % 16) v (omega arith) (omega arith))
  where
    third : (q r x : ℕ) → x ≡ q * 16 + r → r < 16 → x / 4 % 2 ≡ r / 4 % 2
    third q r x e h = let f : x / 4 ≡ q * 4 + r / 4 = omega arith in rw f (even (q * 2) (r / 4) (q * 4 + r / 4) (omega arith))

    fourth : (q r x : ℕ) → x ≡ q * 16 + r → r < 16 → x / 8 % 2 ≡ r / 8 % 2
    fourth q r x e h = let f : x / 8 ≡ q * 2 + r / 8 = omega arith in rw f (even q (r / 8) (q * 2 + r / 8) refl)

pub listed_kept : (v : ℕ) → listed (kept v) ≡ listed v
unfolding listed
listed_kept v =
    let e = low_part v in
    let a = low_bit (kept v) in
    let b = low_bit v in
    rw (a.0, a.1, a.2, e, b.0, b.1, b.2)

-- a served write: a control value is listed
pub written_kept : (r : Registers) (n v : ℕ) → RegistersAre r → v < 0x100000000 → (n ≡ 1 → listed v ≡ true) → RegistersAre (written_of r n v)
unfolding written_of
written_kept r n v k h l =
    case (eqb n 1)
    (λ t. rw t (control_kept r (kept v) k (kept_twice v) (listed_kept v ∙ l (eqb-true n 1 t))))
    (λ t.
    case (eqb n 2)
    (λ u. rw (t, u) (base_kept r (v / 0x4000 * 0x4000) k (omega arith) (omega arith)))
    (λ u.
    case (eqb n 3)
    (λ w. rw (t, u, w) (domains_kept r v k h))
    (λ w.
    case (eqb n 5)
    (λ x. rw (t, u, w, x) (fsr_kept r (v % 256) k (omega arith)))
    (λ x.
    case (eqb n 6)
    (λ y. rw (t, u, w, x, y) (far_kept r v k h))
    (λ y. rw (t, u, w, x, y) k)))))
