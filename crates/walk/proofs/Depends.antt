-- A walk depends on which words abort and on the words that it reads alone.
use Rattle.std.specs.Prelude.{Option, Some, None}
use Prim.Native.Nat.{ℕ, ◌*◌, ◌%◌}
use mathlib.Core.Bool.{Bool, true, false}
use mathlib.Core.Path.{◌≡◌, refl, sym, ◌∙◌, ap, subst}
use mathlib.Core.List.{List, [], ◌∷◌, ◌++◌}
use lib.Dec.{eqb}
use borrow.Author.Tests.{eq-eqb}
use Rattle.values.specs.Lists.{any}
use Rattle.values.specs.Addresses.{word_of}
use Rattle.values.specs.declared.VirtualAddress.{VirtualAddress}
use Rattle.values.specs.declared.PhysicalAddress.{PhysicalAddress}
use Rattle.values.proofs.Cases.{case, or_left, or_right}
use Rattle.words.specs.Words.{value_at}
use Rattle.bus.specs.Physical.{Physical, aborts}
use Rattle.bus.specs.Reader.{descriptor_at}
use Rattle.walk.specs.Walk.{first_address, second_address, domain_of, first, second, walk}
use Rattle.walk.specs.Reads.{read_at, second_reads, words_read}
use Rattle.bus.proofs.Laws.{descriptor_in, descriptor_out}
use Rattle.walk.proofs.Laws.{walk_by}

-- two memories have the same words at these numbers
abbrev pub Agree : Physical → Physical → List ℕ → Type 0
Agree m l ws = (w : ℕ) → any (eqb w) ws ≡ true → value_at 4 m.bytes (w * 4) ≡ value_at 4 l.bytes (w * 4)

any_front : (w : ℕ) (xs ys : List ℕ) → any (eqb w) xs ≡ true → any (eqb w) (xs ++ ys) ≡ true
unfolding any
any_front w [] ys h = let z : ◌≡◌ {A = Bool} false true = h in cc
any_front w (x ∷ xs) ys h = case (eqb w x) (λ t. rw t) (λ t. rw t (any_front w xs ys (rw t at h)))

any_back : (w : ℕ) (xs ys : List ℕ) → any (eqb w) ys ≡ true → any (eqb w) (xs ++ ys) ≡ true
unfolding any
any_back w [] ys h = h
any_back w (x ∷ xs) ys h = or_right (eqb w x) (any (eqb w) (xs ++ ys)) (any_back w xs ys h)

module _ (m l : Physical) (same_aborts : (pa : PhysicalAddress) → aborts m pa ≡ aborts l pa) where
  pub descriptor_same : (pa : PhysicalAddress) → Agree m l (read_at pa (descriptor_at m pa)) → descriptor_at m pa ≡ descriptor_at l pa
  unfolding any
  descriptor_same pa a =
      case (aborts m pa)
      (λ t. descriptor_out m pa t ∙ sym (descriptor_out l pa (sym (same_aborts pa) ∙ t)))
      (λ t.
      let e = descriptor_in m pa t in
      let b : Agree m l (word_of pa ∷ []) = subst (λ (d : Option ℕ). Agree m l (read_at pa d)) e a in
      let v = b (word_of pa) (or_left (eqb (word_of pa) (word_of pa)) false (eq-eqb (word_of pa) (word_of pa) refl)) in
      e ∙ ap Some v ∙ sym (descriptor_in l pa (sym (same_aborts pa) ∙ t)))

  first_same : (va : VirtualAddress) (d : Option ℕ) → Agree m l (second_reads m va d) → first m va d ≡ first l va d
  unfolding first second_reads
  first_same va None a = refl
  first_same va (Some w) a =
      case (eqb (w % 4) 1)
      (λ t.
      let b : Agree m l (read_at (second_address w va) (descriptor_at m (second_address w va))) = rw t at a in
      let e = descriptor_same (second_address w va) b in
      rw t (ap (λ (d : Option ℕ). second (domain_of w) va d) e))
      (λ t. rw t)

  pub walk_same : (base : ℕ) (va : VirtualAddress) → Agree m l (words_read m base va) → walk m base va ≡ walk l base va
  unfolding words_read
  walk_same base va a =
      let d = descriptor_at m (first_address base va) in
      let e = descriptor_same (first_address base va) (λ w t. a w (any_front w (read_at (first_address base va) d) (second_reads m va d) t)) in
      walk_by m base va d refl ∙ first_same va d (λ w t. a w (any_back w (read_at (first_address base va) d) (second_reads m va d) t))
      ∙ sym (walk_by l base va d (sym e))
