-- What loads, stores and swaps that pass share: the words that abort, the line that is hit, and faults.
use Rattle.std.specs.Prelude.{Some}
use Prim.Native.Nat.{ℕ, zero, suc, ◌+◌, ◌*◌, ◌/◌, ◌%◌, ◌<◌, ◌≤◌}
use native.Mathlib.Omega.{arith}
use native.Mathlib.Numerals.{add-one}
use mathlib.Core.Bool.{true, false}
use mathlib.Core.Path.{◌≡◌, sym, ◌∙◌, subst}
use lib.ListN.{length}
use Rattle.values.specs.Addresses.{virtual_line, physical_line, word_in_line, word_of_line}
use Rattle.values.specs.declared.PhysicalAddress.{PhysicalAddress}
use Rattle.values.specs.declared.Access.{Access}
use Rattle.values.specs.declared.Status.{Status}
use Rattle.words.specs.Words.{is_width}
use Rattle.bus.specs.Physical.{Physical, is_bad, aborts, aborts_within, wanted_aborts, line_aborts}
use Rattle.bus.proofs.Laws.{answers, aborts_same, within_same, line_wanted, wanted_own, good_answers, within_zero, within_next}
use Rattle.cache.specs.Dcache.{find}
use Rattle.cache.proofs.Finds.{found}
use Rattle.translation.specs.Alignment.{cleared}
use Rattle.translation.specs.declared.Place.{Place}
use Rattle.machine.specs.Machine.{Machine, physical_of, Stepped}
use Rattle.reach.specs.Reach.{faulted}
use Rattle.plain.specs.Plain.{Plain, PlainStepped, plain_physical, plain_faulted}
use Rattle.terms.specs.History.{History}
use Rattle.terms.proofs.Invariant.{at}
use Rattle.terms.proofs.HeldLines.{found_frame}
use Rattle.terms.proofs.Alike.{Shared, Alike, alike_by, faulted_alike}

-- a line inside memory of which no word is bad is read whole
pub good_line : (m : Physical) (pa : PhysicalAddress) → pa.0 / 32 * 32 + 32 ≤ length m.bytes
    → ((p : ℕ) → p / 32 ≡ pa.0 / 32 → is_bad m.bad (p / 4) ≡ false) → line_aborts m pa ≡ false
good_line m pa h f = go 8 (omega arith)
  where
    go : (n : ℕ) → n ≤ 8 → aborts_within m pa n ≡ false
    go zero l = within_zero m pa
    go (suc n) l =
        subst (λ (i : ℕ). aborts_within m pa i ≡ false) (add-one n)
        (within_next m pa n (go n (omega arith))
        (good_answers m (word_of_line pa n) (omega arith) (f (pa.0 / 32 * 32 + n * 4) (omega arith))))

-- an access of a width, at the place l, once the TLB has changed and the line reached stands in the history
pub record Passes (n : ℕ) (m : Machine) (p : Plain) (h : History) (a : Access) (l : Place) : Type 0 where
  pub shared : Shared n m p h
  pub here : h.reached (virtual_line (cleared a)) (physical_line l.address) ≡ true
  pub width : is_width a.width ≡ true
  pub within : l.address.0 % 0x1000 ≡ (cleared a).0 % 0x1000

module _ (n : ℕ) (m : Machine) (p : Plain) (h : History) (a : Access) (l : Place) (k : Passes n m p h a l) where
  -- the word aborts on both machines or answers on both
  pub plain_aborts : aborts (plain_physical p) l.address ≡ aborts (physical_of m) l.address
  plain_aborts =
      aborts_same (plain_physical p) (physical_of m) (k.shared.long ∙ sym k.shared.side_is.backing.memory_long) (sym k.shared.same_map) l.address

  -- and so do the words of its line up to it
  pub plain_wanted : wanted_aborts (plain_physical p) l.address ≡ wanted_aborts (physical_of m) l.address
  plain_wanted =
      within_same (plain_physical p) (physical_of m) (k.shared.long ∙ sym k.shared.side_is.backing.memory_long) (sym k.shared.same_map) l.address
      (word_in_line l.address + 1)

  -- a place whose word answers lies inside memory
  pub answers_inside : aborts (plain_physical p) l.address ≡ false → l.address.0 < n
  answers_inside e = let i = answers (plain_physical p) l.address e in omega (arith, k.shared.long)

  -- the line that is hit is the place's, and its words answer
  module _ (i : ℕ) (e : find m.side.cache.lines (cleared a) ≡ Some i) where
    pub hit_frame : (at m.side.cache.lines i).frame ≡ l.address.0 / 32
    hit_frame =
        let g = k.shared.side.cache in
        found_frame n m.side.cache k.shared.side_is.cache h.reached g.one g.line_reached (cleared a) (l.address.0 / 32) k.here i e

    hit_whole : line_aborts (physical_of m) l.address ≡ false
    hit_whole =
        let v = (found m.side.cache.lines (cleared a) i e).valid in
        let inside = (k.shared.side_is.cache.lines i).inside v in
        let f = hit_frame in
        good_line (physical_of m) l.address (omega (arith, k.shared.side_is.backing.memory_long))
        (λ x q. k.shared.side.good i x v (q ∙ sym f))

    pub hit_answers : aborts (plain_physical p) l.address ≡ false
    hit_answers = plain_aborts ∙ wanted_own (physical_of m) l.address (line_wanted (physical_of m) l.address hit_whole)

    pub hit_wanted : wanted_aborts (plain_physical p) l.address ≡ false
    hit_wanted = plain_wanted ∙ line_wanted (physical_of m) l.address hit_whole

  -- both machines fault
  pub both_fault : (x : Stepped) (y : PlainStepped) (s : Status) → x ≡ faulted m s l.domain a.address
      → y ≡ plain_faulted p s l.domain a.address → Alike n x y h
  both_fault x y s e f =
      alike_by n x (faulted m s l.domain a.address) y (plain_faulted p s l.domain a.address) h e f
      (faulted_alike n m p h k.shared s l.domain a.address)
