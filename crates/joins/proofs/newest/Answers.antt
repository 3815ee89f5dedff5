use Rattle.std.specs.Prelude.{None}
use Rattle.buffer.specs.Buffer.{newest_of}
use Rattle.buffer.specs.Packing.{slots_of}
use Rattle.buffer.proofs.NewestOf.{newest_hit, newest_on, newest_none}
use mathlib.Core.Path.{◌≡◌, refl, sym, ◌∙◌, ap}
use native.Mathlib.Omega.{arith}
use Prim.Native.Nat.{ℕ, zero, suc, ◌-◌, ◌/◌, ◌<◌, ◌≤◌}
use lib.ListN.{length, get_or}
use mathlib.Core.List.{List}
use Rattle.joins.proofs.newest.Goals as goal

-- where no place has the block, no entry has it
absent : (ws : List ℕ) (bs : List (List ℕ)) → length ws ≡ length bs → (block : ℕ)
    → ((i : ℕ) → i < 8 → get_or ws i 0 / 0x100000000 ≡ block → ⊥) → (n : ℕ) → n ≤ 8 → newest_of (slots_of ws bs) block n ≡ None
absent ws bs long block none zero h = newest_none (slots_of ws bs) block 0 refl
absent ws bs long block none (suc n) h =
    let e : suc n - 1 ≡ n = omega arith in
    newest_on ws bs long block (suc n) (omega arith) (none (suc n - 1) (omega arith))
    ∙ ap (λ (k : ℕ). newest_of (slots_of ws bs) block k) e ∙ absent ws bs long block none n (omega arith)

pub returns-then-used-eq0 : goal.returns-then-used-eq0
returns-then-used-eq0 c = let a = c.args in
    λ bytes h. sym (newest_none (slots_of a.words.now bytes) a.block a.used c.if-used-eq0.true)

pub returns-then-words-used : goal.returns-then-words-used
returns-then-words-used c = let a = c.args in
    λ bytes h. sym (newest_hit a.words.now bytes (omega arith) a.block a.used (omega (arith, c.if-used-eq0.false)) c.if-words-used.true)

pub returns-then-not-may_hold : goal.returns-then-not-may_hold
returns-then-not-may_hold c = let a = c.args in
    λ bytes h. sym (absent a.words.now bytes (omega arith) a.block (c.may_hold.ensures c.if-not-may_hold.true)
    a.used (omega arith))
