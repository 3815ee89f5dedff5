-- An access that passes reaches a line: R2 keeps the lines reached one to one. The one place where R2 is used.
use Rattle.std.specs.Prelude.{Ok}
use Prim.Native.Nat.{ℕ}
use mathlib.Core.Bool.{Bool, true, ◌&&◌, ◌||◌}
use mathlib.Core.Path.{◌≡◌, refl, sym, ◌∙◌}
use mathlib.Core.List.{List}
use lib.Dec.{eqb}
use borrow.Author.Tests.{eqb-true, eq-eqb}
use Rattle.values.specs.Addresses.{virtual_line, physical_line}
use Rattle.values.specs.declared.VirtualAddress.{VirtualAddress}
use Rattle.values.proofs.Cases.{and_left, and_right, and_both, or_left, or_right, or_cases}
use Rattle.cache.specs.Dcache.{Side}
use Rattle.translation.specs.declared.Place.{Place}
use Rattle.terms.specs.History.{History, after_reach}
use Rattle.terms.specs.Rules.{R2}
use Rattle.terms.proofs.Invariant.{at, virtual_at, OneToOne, SideAgrees}

module _ (h : History) (va : VirtualAddress) (l : Place) where
  abbrev v₀ : ℕ
  v₀ = virtual_line va

  abbrev p₀ : ℕ
  p₀ = physical_line l.address

  abbrev also : ℕ → ℕ → Bool
  also v p = (eqb v v₀ && eqb p p₀) || h.reached v p

  -- a pair reached is the new one or an old one
  either {ℓ} : {A : Type ℓ} (v p : ℕ) → also v p ≡ true → (v ≡ v₀ → p ≡ p₀ → A) → (h.reached v p ≡ true → A) → A
  either v p t f g =
      or_cases (eqb v v₀ && eqb p p₀) (h.reached v p) t
      (λ a. f (eqb-true v v₀ (and_left (eqb v v₀) (eqb p p₀) a)) (eqb-true p p₀ (and_right (eqb v v₀) (eqb p p₀) a))) g

  also_one : OneToOne h.reached → R2 h va (Ok l) → OneToOne also
  also_one o r =
      record {
        physical = λ v p q a b.
            either v p a
            (λ e f. either v q b (λ e' f'. f ∙ sym f') (λ t. f ∙ sym ((r v q t).0 e)))
            (λ s. either v q b (λ e' f'. (r v p s).0 e' ∙ sym f') (λ t. o.physical v p q s t));
        virtual = λ v w p a b.
            either v p a
            (λ e f. either w p b (λ e' f'. e ∙ sym e') (λ t. e ∙ sym ((r w p t).1 f)))
            (λ s. either w p b (λ e' f'. (r v p s).1 f' ∙ sym e') (λ t. o.virtual v w p s t));
      }

  later : (v p : ℕ) → h.reached v p ≡ true → also v p ≡ true
  later v p t = or_right (eqb v v₀ && eqb p p₀) (h.reached v p) t

  -- the access's own pair
  pub reach_here : (after_reach h va (Ok l)).reached (virtual_line va) (physical_line l.address) ≡ true
  unfolding after_reach
  reach_here = or_left (eqb v₀ v₀ && eqb p₀ p₀) (h.reached v₀ p₀) (and_both (eqb v₀ v₀) (eqb p₀ p₀) (eq-eqb v₀ v₀ refl) (eq-eqb p₀ p₀ refl))

  pub reach_side : (s : Side) (pm : List ℕ) → SideAgrees s pm h → R2 h va (Ok l) → SideAgrees s pm (after_reach h va (Ok l))
  unfolding after_reach
  reach_side s pm g r =
      record {
        cache = record {
          held = g.cache.held;
          line_reached = λ i v. later (virtual_at s.cache.lines i) (at s.cache.lines i).frame (g.cache.line_reached i v);
          dirty_stored = g.cache.dirty_stored;
          dirty_through = g.cache.dirty_through;
          one = also_one g.cache.one r;
        };
        good = g.good;
        under = g.under;
        words = g.words;
        lines = g.lines;
      }
