-- A walk whose words all meet a test, in two memories that have the same words wherever the test holds.
use Rattle.std.specs.Prelude.{Option, Some, None}
use Prim.Native.Nat.{ℕ, ◌*◌, ◌%◌}
use mathlib.Core.Bool.{Bool, true}
use mathlib.Core.Path.{◌≡◌, refl, ◌∙◌, ap}
use mathlib.Core.List.{List, [], ◌∷◌, ◌++◌}
use lib.Dec.{eqb}
use borrow.Author.Tests.{eqb-true}
use Rattle.values.specs.Lists.{all, any}
use Rattle.values.specs.declared.VirtualAddress.{VirtualAddress}
use Rattle.values.specs.declared.PhysicalAddress.{PhysicalAddress}
use Rattle.values.proofs.Cases.{case, clash, and_left, and_right, and_both, or_cases}
use Rattle.words.specs.Words.{value_at}
use Rattle.bus.specs.Physical.{Physical, aborts}
use Rattle.bus.specs.Reader.{descriptor_at}
use Rattle.walk.specs.Walk.{first_address, second_address, walk}
use Rattle.walk.specs.Reads.{read_at, second_reads, words_read}
use Rattle.walk.proofs.Depends.{Agree, descriptor_same, walk_same}

-- ---- a test of every number of a list

module _ (f : ℕ → Bool) where
  -- it holds of a number in the list
  pub all_has : (ws : List ℕ) → all f ws ≡ true → (w : ℕ) → any (eqb w) ws ≡ true → f w ≡ true
  unfolding all any
  all_has [] e w h = clash h refl
  all_has (x ∷ xs) e w h =
      or_cases (eqb w x) (any (eqb w) xs) h
      (λ t. let q : w ≡ x = eqb-true w x t in rw q (and_left (f x) (all f xs) e))
      (λ t. all_has xs (and_right (f x) (all f xs) e) w t)

  -- it holds of both parts of a list
  pub all_front : (xs ys : List ℕ) → all f (xs ++ ys) ≡ true → all f xs ≡ true
  unfolding all
  all_front [] ys e = refl
  all_front (x ∷ xs) ys e =
      and_both (f x) (all f xs) (and_left (f x) (all f (xs ++ ys)) e) (all_front xs ys (and_right (f x) (all f (xs ++ ys)) e))

  pub all_back : (xs ys : List ℕ) → all f (xs ++ ys) ≡ true → all f ys ≡ true
  unfolding all
  all_back [] ys e = e
  all_back (x ∷ xs) ys e = all_back xs ys (and_right (f x) (all f (xs ++ ys)) e)

-- a weaker test
pub all_weaker : (f g : ℕ → Bool) → ((w : ℕ) → f w ≡ true → g w ≡ true) → (ws : List ℕ) → all f ws ≡ true → all g ws ≡ true
unfolding all
all_weaker f g i [] e = refl
all_weaker f g i (x ∷ xs) e =
    and_both (g x) (all g xs) (i x (and_left (f x) (all f xs) e)) (all_weaker f g i xs (and_right (f x) (all f xs) e))

-- ---- the walk and the words that it reads

module _ (m l : Physical) (same_aborts : (pa : PhysicalAddress) → aborts m pa ≡ aborts l pa) (f : ℕ → Bool)
    (same : (w : ℕ) → f w ≡ true → value_at 4 m.bytes (w * 4) ≡ value_at 4 l.bytes (w * 4)) where
  agree : (ws : List ℕ) → all f ws ≡ true → Agree m l ws
  agree ws e w h = same w (all_has f ws e w h)

  second_reads_where : (va : VirtualAddress) (d : Option ℕ) → all f (second_reads m va d) ≡ true → second_reads m va d ≡ second_reads l va d
  unfolding second_reads
  second_reads_where va None e = refl
  second_reads_where va (Some w) e =
      case (eqb (w % 4) 1)
      (λ t.
      let pa = second_address w va in
      let k : all f (read_at pa (descriptor_at m pa)) ≡ true = rw t at e in
      rw t (ap (read_at pa) (descriptor_same m l same_aborts pa (agree (read_at pa (descriptor_at m pa)) k))))
      (λ t. rw t)

  module _ (base : ℕ) (va : VirtualAddress) (e : all f (words_read m base va) ≡ true) where
    pub walk_where : walk m base va ≡ walk l base va
    walk_where = walk_same m l same_aborts base va (agree (words_read m base va) e)

    pub reads_where : words_read m base va ≡ words_read l base va
    unfolding words_read
    reads_where =
        let pa = first_address base va in
        let d = descriptor_at m pa in
        let front = all_front f (read_at pa d) (second_reads m va d) e in
        let q : d ≡ descriptor_at l pa = descriptor_same m l same_aborts pa (agree (read_at pa d) front) in
        let r = second_reads_where va d (all_back f (read_at pa d) (second_reads m va d) e) in
        ap (λ (ws : List ℕ). read_at pa d ++ ws) r ∙ ap (λ (x : Option ℕ). read_at pa x ++ second_reads l va x) q
