-- The two machines before a call that is not refused, once it has been counted, and after it.
use Prim.Native.Nat.{ℕ, ◌%◌}
use mathlib.Core.Path.{◌≡◌, refl, sym, ap, subst}
use lib.ListN.{length}
use Rattle.values.specs.declared.VirtualAddress.{VirtualAddress}
use Rattle.values.specs.declared.Registers.{Registers}
use Rattle.values.specs.declared.Fault.{Fault}
use Rattle.values.specs.declared.Status.{Status}
use Rattle.values.specs.declared.Answer.{Answer}
use Rattle.translation.specs.Faults.{fault_set}
use Rattle.machine.specs.Machine.{Machine, bad_of, Stepped, stepped_from}
use Rattle.reach.specs.Reach.{faulted}
use Rattle.plain.specs.Plain.{Plain, PlainStepped, plain_stepped, plain_faulted}
use Rattle.soundness_laws.proofs.CacheKept.{SideIs}
use Rattle.terms.specs.History.{History}
use Rattle.terms.proofs.Invariant.{SideAgrees, TlbAgrees}

-- before, for a memory of n bytes
pub record Shared (n : ℕ) (m : Machine) (p : Plain) (h : History) : Type 0 where
  pub registers : m.cp15.registers ≡ p.registers
  pub calls : m.counts.calls ≡ p.calls
  pub long : length p.memory ≡ n
  pub whole : n % 32 ≡ 0
  pub aligned : p.registers.base % 4 ≡ 0
  pub side_is : SideIs n m.side
  pub same_map : bad_of m ≡ p.bad
  pub side : SideAgrees m.side p.memory h
  pub tlb : TlbAgrees m.entries p.registers.base p.memory p.bad h

-- after: the same answer, and what they share
pub record Alike (n : ℕ) (x : Stepped) (y : PlainStepped) (h : History) : Type 0 where
  pub same_answer : x.answer ≡ y.answer
  pub registers : x.machine.cp15.registers ≡ y.plain.registers
  pub calls : x.machine.counts.calls ≡ y.plain.calls
  pub long : length y.plain.memory ≡ n
  pub same_map : bad_of x.machine ≡ y.plain.bad
  pub side : SideAgrees x.machine.side y.plain.memory h
  pub tlb : TlbAgrees x.machine.entries y.plain.registers.base y.plain.memory y.plain.bad h

pub alike_by : (n : ℕ) (x x' : Stepped) (y y' : PlainStepped) (h : History) → x ≡ x' → y ≡ y' → Alike n x' y' h → Alike n x y h
alike_by n x x' y y' h e f a = subst (λ (z : Stepped). Alike n z y h) (sym e) (subst (λ (z : PlainStepped). Alike n x' z h) (sym f) a)

-- the machines stay as they are
pub still_alike : (n : ℕ) (m : Machine) (p : Plain) (h : History) → Shared n m p h → (x y : Answer) → x ≡ y
    → Alike n (stepped_from m x) (plain_stepped p y) h
still_alike n m p h k x y e =
    record {
      same_answer = e;
      registers = k.registers;
      calls = k.calls;
      long = k.long;
      same_map = k.same_map;
      side = k.side;
      tlb = k.tlb;
    }

-- a fault sets FSR and FAR of both
pub faulted_alike : (n : ℕ) (m : Machine) (p : Plain) (h : History) → Shared n m p h → (s : Status) (d : ℕ) (va : VirtualAddress)
    → Alike n (faulted m s d va) (plain_faulted p s d va) h
unfolding faulted plain_faulted fault_set
faulted_alike n m p h k s d va =
    let f : Fault = record { status = s; domain = d; address = va } in
    record {
      same_answer = refl;
      registers = ap (λ (r : Registers). fault_set r f) k.registers;
      calls = k.calls;
      long = k.long;
      same_map = k.same_map;
      side = k.side;
      tlb = k.tlb;
    }
