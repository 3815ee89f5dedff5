-- What the test of the TLB means: each entry.
use Prim.Native.Nat.{ℕ, ◌<◌}
use mathlib.Core.Bool.{true, false, not, ◌&&◌}
use mathlib.Core.Path.{◌≡◌, refl}
use mathlib.Core.List.{List}
use lib.Dec.{eqb, ltb}
use lib.ListN.{get_or}
use borrow.Author.Tests.{eqb-true, eq-eqb, lt-ltb, ltb-true, not-true}
use Rattle.values.specs.Lists.{all}
use Rattle.values.specs.Empty.{empty_entry}
use Rattle.values.specs.declared.Entry.{Entry}
use Rattle.values.proofs.Cases.{case, and_left, and_right}
use Rattle.tlb.specs.Tlb.{base_of}
use Rattle.soundness.specs.Soundness.{entry_empty, entry_in_range, entry_sound}
use Rattle.soundness_laws.proofs.Elements.{each_means, each_of, choice_yes, choice_no, seven}

-- the ranges of a valid one
pub record EntryRanges (e : Entry) : Type 0 where
  pub size : e.size < 3
  pub vbase : base_of e.size e.vbase ≡ e.vbase
  pub pbase : base_of e.size e.pbase ≡ e.pbase
  pub vbase_low : e.vbase < 0x100000000
  pub pbase_low : e.pbase < 0x100000000
  pub domain : e.domain < 16
  pub aps : e.aps < 256

pub ranges_mean : (e : Entry) → entry_in_range e ≡ true → EntryRanges e
ranges_mean e h =
    let s =
    seven
    (ltb e.size 3)
    (eqb (base_of e.size e.vbase) e.vbase)
    (eqb (base_of e.size e.pbase) e.pbase)
    (ltb e.vbase 0x100000000)
    (ltb e.pbase 0x100000000)
    (ltb e.domain 16)
    (ltb e.aps 256)
    h in
    record {
      size = ltb-true e.size 3 s.first;
      vbase = eqb-true (base_of e.size e.vbase) e.vbase s.second;
      pbase = eqb-true (base_of e.size e.pbase) e.pbase s.third;
      vbase_low = ltb-true e.vbase 0x100000000 s.fourth;
      pbase_low = ltb-true e.pbase 0x100000000 s.fifth;
      domain = ltb-true e.domain 16 s.sixth;
      aps = ltb-true e.aps 256 s.seventh;
    }

pub ranges_of : (e : Entry) → EntryRanges e → entry_in_range e ≡ true
ranges_of e r =
    rw (
      lt-ltb e.size 3 r.size,
      eq-eqb (base_of e.size e.vbase) e.vbase r.vbase,
      eq-eqb (base_of e.size e.pbase) e.pbase r.pbase,
      lt-ltb e.vbase 0x100000000 r.vbase_low,
      lt-ltb e.pbase 0x100000000 r.pbase_low,
      lt-ltb e.domain 16 r.domain,
      lt-ltb e.aps 256 r.aps,
    )

-- an entry whose fields are those of the empty entry
entry_zero : (e : Entry) → entry_empty e ≡ true → e ≡ empty_entry
entry_zero e h =
    let a = eqb e.size 0 in
    let b = eqb e.vbase 0 in
    let c = eqb e.pbase 0 in
    let d = eqb e.domain 0 in
    let f = eqb e.aps 0 in
    let g = not e.cacheable in
    let i = not e.bufferable in
    let t = a && (b && (c && (d && (f && (g && i))))) in
    let s = seven a b c d f g i (and_right (not e.valid) t h) in
    let ev : e.valid ≡ false = not-true e.valid (and_left (not e.valid) t h) in
    let ea : e.size ≡ 0 = eqb-true e.size 0 s.first in
    let eb : e.vbase ≡ 0 = eqb-true e.vbase 0 s.second in
    let ec : e.pbase ≡ 0 = eqb-true e.pbase 0 s.third in
    let ed : e.domain ≡ 0 = eqb-true e.domain 0 s.fourth in
    let ef : e.aps ≡ 0 = eqb-true e.aps 0 s.fifth in
    let eg : e.cacheable ≡ false = not-true e.cacheable s.sixth in
    let ei : e.bufferable ≡ false = not-true e.bufferable s.seventh in
    rw (ev, ea, eb, ec, ed, ef, eg, ei)

pub record EntryIs (e : Entry) : Type 0 where
  pub ranges : e.valid ≡ true → EntryRanges e
  pub empty : e.valid ≡ false → e ≡ empty_entry

pub entry_means : (e : Entry) → entry_sound e ≡ true → EntryIs e
unfolding entry_sound
entry_means e h =
    record {
      ranges = λ v. ranges_mean e (choice_yes e.valid (entry_in_range e) (entry_empty e) v h);
      empty = λ v. entry_zero e (choice_no e.valid (entry_in_range e) (entry_empty e) v h);
    }

pub entry_of : (e : Entry) → EntryIs e → entry_sound e ≡ true
unfolding entry_sound
entry_of e r = case e.valid (λ v. rw v (ranges_of e (r.ranges v))) (λ v. rw (r.empty v))

module _ (l : List Entry) where
  empty_entry_lem : entry_sound empty_entry ≡ true
  unfolding entry_sound
  empty_entry_lem = refl

  pub entries_mean : all entry_sound l ≡ true → (i : ℕ) → EntryIs (get_or l i empty_entry)
  entries_mean h i = entry_means (get_or l i empty_entry) (each_means entry_sound empty_entry empty_entry_lem l h i)

  pub entries_of_lem : ((i : ℕ) → EntryIs (get_or l i empty_entry)) → all entry_sound l ≡ true
  entries_of_lem f = each_of entry_sound empty_entry empty_entry_lem l (λ i. entry_of (get_or l i empty_entry) (f i))
