-- What the search of a set says, and when it says it.
use Rattle.std.specs.Prelude.{Option, Some, None}
use Prim.Native.Nat.{ℕ, ◌+◌, ◌-◌, ◌*◌, ◌/◌, ◌<◌, ◌≤◌, min}
use native.Mathlib.Omega.{arith}
use mathlib.Core.Bool.{true, false}
use mathlib.Core.Path.{◌≡◌, refl, sym, ◌∙◌, ap}
use mathlib.Core.List.{List}
use lib.Dec.{eqb, ltb}
use lib.ListN.{length, length-take, length-drop, get_or, take, drop, get_or-eq_default}
use lib.Seq.{get_or-take, get_or-drop}
use borrow.Author.Tests.{eqb-true, eq-eqb, ltb-true, ltb-false}
use Rattle.values.specs.Empty.{empty_line}
use Rattle.values.specs.Addresses.{set_of, tag_of}
use Rattle.values.specs.declared.VirtualAddress.{VirtualAddress}
use Rattle.values.specs.declared.Line.{Line}
use Rattle.values.proofs.Cases.{case, clash, and_left, and_right}
use Rattle.values.proofs.Searches.{matched, unmatched}
use Rattle.values.proofs.Firsts.{first_at, first_none}
use Rattle.cache.specs.Dcache.{Dcache, Side, matches, find, hit_store, cleaned, all_flushed}
use Rattle.cache.proofs.PutGet.{SameLine, same_stored, same_cleaned, all_flushed_lem}

-- line i is the first of the address's set that matches
pub record Found (lines : List Line) (va : VirtualAddress) (i : ℕ) : Type 0 where
  pub from : set_of va * 32 ≤ i
  pub below : i < set_of va * 32 + 32
  pub in_set : i / 32 ≡ set_of va
  pub low : i < 512
  pub there : i < length lines
  pub valid : (get_or lines i empty_line).valid ≡ true
  pub tag : (get_or lines i empty_line).tag ≡ tag_of va
  pub first : (j : ℕ) → set_of va * 32 ≤ j → j < i → matches va (get_or lines j empty_line) ≡ false

-- no line of the address's set matches
abbrev pub Missed : List Line → VirtualAddress → Type 0
Missed lines va = (j : ℕ) → set_of va * 32 ≤ j → j < set_of va * 32 + 32 → matches va (get_or lines j empty_line) ≡ false

module _ (lines : List Line) (va : VirtualAddress) where
  abbrev base : ℕ
  base = set_of va * 32

  abbrev ways : List Line
  ways = take 32 (drop base lines)

  -- way k of the set
  way_at : (k : ℕ) → k < 32 → get_or ways k empty_line ≡ get_or lines (base + k) empty_line
  way_at k h = get_or-take 32 (drop base lines) k empty_line h ∙ get_or-drop base lines k empty_line

  line_at : (j : ℕ) → base ≤ j → j < base + 32 → get_or ways (j - base) empty_line ≡ get_or lines j empty_line
  line_at j h l = let e : base + (j - base) ≡ j = omega arith in way_at (j - base) (omega arith) ∙ ap (λ (k : ℕ). get_or lines k empty_line) e

  long : length ways ≡ min 32 (length lines - base)
  long = length-take 32 (drop base lines) ∙ ap (min 32) (length-drop base lines)

  set_of_lem : (i : ℕ) → base ≤ i → i < base + 32 → i / 32 ≡ set_of va
  set_of_lem i h k = quotient (set_of va) h k
    where
      quotient : (s : ℕ) → s * 32 ≤ i → i < s * 32 + 32 → i / 32 ≡ s
      quotient s f g = omega arith

  -- a line that is found is the first that matches
  pub found : (i : ℕ) → find lines va ≡ Some i → Found lines va i
  unfolding find
  found i e =
      let m = matched (matches va) base ways empty_line i e in
      let n = long in
      let short : i < base + 32 = omega (arith, m.below) in
      let hit : matches va (get_or lines i empty_line) ≡ true = ap (matches va) (sym (line_at i m.from short)) ∙ m.match in
      let l = get_or lines i empty_line in
      record {
        from = m.from;
        below = short;
        in_set = set_of_lem i m.from short;
        low = omega arith;
        there = omega (arith, m.below, m.from);
        valid = and_left l.valid (eqb l.tag (tag_of va)) hit;
        tag = eqb-true l.tag (tag_of va) (and_right l.valid (eqb l.tag (tag_of va)) hit);
        first = λ j h k. ap (matches va) (sym (line_at j h (omega arith))) ∙ m.first (j - base) (omega arith);
      }

  -- where none is found, none matches
  pub missed : find lines va ≡ None → Missed lines va
  unfolding find
  missed e j h k =
      case (ltb (j - base) (length ways))
      (λ t.
      ap (matches va) (sym (line_at j h k)) ∙ unmatched (matches va) base ways empty_line e (j - base) (ltb-true (j - base) (length ways) t))
      (λ t. let n = long in ap (matches va) (get_or-eq_default lines empty_line {n = j} (omega (arith, ltb-false (j - base) (length ways) t))))

  -- the first that matches is found
  pub found_at : (i : ℕ) → set_of va * 32 ≤ i → i < set_of va * 32 + 32 → matches va (get_or lines i empty_line) ≡ true
      → ((j : ℕ) → set_of va * 32 ≤ j → j < i → matches va (get_or lines j empty_line) ≡ false) → find lines va ≡ Some i
  unfolding find
  found_at i h k t f =
      case (ltb i (length lines))
      (λ u.
      let n = long in
      let e : base + (i - base) ≡ i = omega arith in
      let l : i - base < length ways = omega (arith, ltb-true i (length lines) u) in
      first_at (matches va) empty_line base ways (i - base) l (ap (matches va) (line_at i h k) ∙ t)
      (λ j b. ap (matches va) (way_at j (omega arith)) ∙ f (base + j) (omega arith) (omega arith))
      ∙ ap {B = Option ℕ} Some e)
      (λ u. clash t (ap (matches va) (get_or-eq_default lines empty_line {n = i} (ltb-false i (length lines) u))))

  -- none is found where none matches
  pub missed_none : Missed lines va → find lines va ≡ None
  unfolding find
  missed_none f =
      let n = long in
      first_none (matches va) empty_line base ways
      (λ j b. ap (matches va) (way_at j (omega arith)) ∙ f (base + j) (omega arith) (omega arith))

-- lines of the same mappings have the same search
pub find_same : (old new : List Line) (va : VirtualAddress) → ((j : ℕ) → SameLine (get_or old j empty_line) (get_or new j empty_line)) → find new va ≡ find old va
find_same old new va f = by (find old va) refl
  where
    alike : (j : ℕ) → matches va (get_or new j empty_line) ≡ matches va (get_or old j empty_line)
    alike j = rw ((f j).valid, (f j).tag)

    by : (x : Option ℕ) → find old va ≡ x → find new va ≡ find old va
    by None e = missed_none new va (λ j h k. alike j ∙ missed old va e j h k) ∙ sym e
    by (Some i) e =
        let o = found old va i e in
        let hit : matches va (get_or old i empty_line) ≡ true = rw (o.valid, eq-eqb (get_or old i empty_line).tag (tag_of va) o.tag) in
        found_at new va i o.from o.below (alike i ∙ hit) (λ j h k. alike j ∙ o.first j h k) ∙ sym e

-- a store on a hit leaves every search as it was
pub find_stored : (c : Dcache) (i : ℕ) (va : VirtualAddress) (width v : ℕ) (wa : VirtualAddress)
    → find (hit_store c i va width v).lines wa ≡ find c.lines wa
find_stored c i va width v wa = find_same c.lines (hit_store c i va width v).lines wa (same_stored c i va width v)

-- a clean leaves every search as it was
pub find_cleaned : (s : Side) (va wa : VirtualAddress) → find (cleaned s va).side.cache.lines wa ≡ find s.cache.lines wa
find_cleaned s va wa = find_same s.cache.lines (cleaned s va).side.cache.lines wa (same_cleaned s va)

-- nothing is found once all lines are flushed
pub find_all_flushed : (c : Dcache) (va : VirtualAddress) → find (all_flushed c).lines va ≡ None
find_all_flushed c va = missed_none (all_flushed c).lines va (λ j h k. ap (matches va) (all_flushed_lem c j))
