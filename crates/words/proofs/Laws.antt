-- The laws of loads and stores, once over the width n.
use Prim.Native.Nat.{ℕ, zero, suc, ◌+◌, ◌*◌, ◌/◌, ◌%◌, ◌^◌, ◌<◌, ◌≤◌}
use native.Mathlib.Omega.{arith}
use native.Mathlib.Nat.{pow-suc}
use mathlib.Core.Path.{◌≡◌, refl, sym, ◌∙◌, ap}
use mathlib.Core.List.{List}
use lib.ListN.{length, get_or, set, length-set}
use lib.Seq.{get_or-set_same, get_or-set_other}
use Rattle.words.specs.Words.{value_at, stored}

pub length_stored : (n : ℕ) (m : List ℕ) (a v : ℕ) → length (stored n m a v) ≡ length m
unfolding stored
length_stored zero m a v = refl
length_stored (suc n) m a v = length_stored n (set m a (v % 256)) (a + 1) (v / 256) ∙ length-set m a (v % 256)

-- a byte before what is stored, and one behind it, are as they were
pub byte_before : (n : ℕ) (m : List ℕ) (a v j : ℕ) → j < a → get_or (stored n m a v) j 0 ≡ get_or m j 0
unfolding stored
byte_before zero m a v j h = refl
byte_before (suc n) m a v j h =
    byte_before n (set m a (v % 256)) (a + 1) (v / 256) j (omega arith) ∙ get_or-set_other m a j (v % 256) 0 (omega arith)

pub byte_behind : (n : ℕ) (m : List ℕ) (a v j : ℕ) → a + n ≤ j → get_or (stored n m a v) j 0 ≡ get_or m j 0
unfolding stored
byte_behind zero m a v j h = refl
byte_behind (suc n) m a v j h =
    byte_behind n (set m a (v % 256)) (a + 1) (v / 256) j (omega arith) ∙ get_or-set_other m a j (v % 256) 0 (omega arith)

-- a byte that is stored depends on the number alone, at any place of any list
pub byte_in : (n : ℕ) (m l : List ℕ) (a b v j : ℕ) → j < n → a + n ≤ length m → b + n ≤ length l
    → get_or (stored n m a v) (a + j) 0 ≡ get_or (stored n l b v) (b + j) 0
unfolding stored
byte_in zero m l a b v j h f g = absurd (omega arith)
byte_in (suc n) m l a b v zero h f g = first m a f ∙ sym (first l b g)
  where
    first : (k : List ℕ) (c : ℕ) → c + suc n ≤ length k → get_or (stored n (set k c (v % 256)) (c + 1) (v / 256)) (c + 0) 0 ≡ v % 256
    first k c q =
        let e : c + 0 ≡ c = omega arith in
        ap (λ (i : ℕ). get_or (stored n (set k c (v % 256)) (c + 1) (v / 256)) i 0) e
        ∙ byte_before n (set k c (v % 256)) (c + 1) (v / 256) c (omega arith) ∙ get_or-set_same k c (v % 256) 0 (omega arith)
byte_in (suc n) m l a b v (suc j) h f g =
    let m' = set m a (v % 256) in
    let l' = set l b (v % 256) in
    let em = length-set m a (v % 256) in
    let el = length-set l b (v % 256) in
    let x : a + suc j ≡ a + 1 + j = omega arith in
    let y : b + suc j ≡ b + 1 + j = omega arith in
    ap (λ (i : ℕ). get_or (stored n m' (a + 1) (v / 256)) i 0) x
    ∙ byte_in n m' l' (a + 1) (b + 1) (v / 256) j (omega arith) (omega arith) (omega arith)
    ∙ ap (λ (i : ℕ). get_or (stored n l' (b + 1) (v / 256)) i 0) (sym y)

-- a load depends on its bytes alone, which may stand at different places of two lists
pub same_bytes : (n : ℕ) (m l : List ℕ) (a b : ℕ) → ((j : ℕ) → j < n → get_or m (a + j) 0 ≡ get_or l (b + j) 0)
    → value_at n m a ≡ value_at n l b
unfolding value_at
same_bytes zero m l a b h = refl
same_bytes (suc n) m l a b h =
    let e : a + 0 ≡ a = omega arith in
    let f : b + 0 ≡ b = omega arith in
    let here : get_or m a 0 ≡ get_or l b 0 = ap (λ (k : ℕ). get_or m k 0) (sym e) ∙ h 0 (omega arith) ∙ ap (λ (k : ℕ). get_or l k 0) f in
    let rest : (j : ℕ) → j < n → get_or m (a + 1 + j) 0 ≡ get_or l (b + 1 + j) 0 = λ j p.
    let x : a + 1 + j ≡ a + suc j = omega arith in
    let y : b + 1 + j ≡ b + suc j = omega arith in
    ap (λ (k : ℕ). get_or m k 0) x ∙ h (suc j) (omega arith) ∙ ap (λ (k : ℕ). get_or l k 0) (sym y) in
    rw (here, same_bytes n m l (a + 1) (b + 1) rest)

-- a load elsewhere, of any width, finds what was there
pub load_before : (k n : ℕ) (m : List ℕ) (a b v : ℕ) → b + k ≤ a → value_at k (stored n m a v) b ≡ value_at k m b
load_before k n m a b v h = same_bytes k (stored n m a v) m b b (λ j p. byte_before n m a v (b + j) (omega arith))

pub load_behind : (k n : ℕ) (m : List ℕ) (a b v : ℕ) → a + n ≤ b → value_at k (stored n m a v) b ≡ value_at k m b
load_behind k n m a b v h = same_bytes k (stored n m a v) m b b (λ j p. byte_behind n m a v (b + j) (omega arith))

-- a load of what was stored finds it
pub load_same : (n : ℕ) (m : List ℕ) (a v : ℕ) → a + n ≤ length m → v < 256 ^ n → value_at n (stored n m a v) a ≡ v
unfolding value_at stored
load_same zero m a v h k = omega arith
load_same (suc n) m a v h k =
    let l : List ℕ = set m a (v % 256) in
    let p : 256 ^ suc n ≡ 256 ^ n * 256 = pow-suc 256 n in
    let lt : v / 256 < 256 ^ n = omega arith in
    let e : value_at n (stored n l (a + 1) (v / 256)) (a + 1) ≡ v / 256 = load_same n l (a + 1) (v / 256) (simp length-set (omega arith)) lt in
    let f : get_or (stored n l (a + 1) (v / 256)) a 0 ≡ v % 256 = byte_before n l (a + 1) (v / 256) a (omega arith)
    ∙ get_or-set_same m a (v % 256) 0 (omega arith) in
    rw (e, f) (omega arith)
