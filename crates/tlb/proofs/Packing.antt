-- An entry and its word.
use Prim.Native.Nat.{ℕ, ◌+◌, ◌*◌, ◌/◌, ◌%◌, ◌<◌}
use native.Mathlib.Omega.{arith}
use mathlib.Core.Bool.{Bool}
use mathlib.Core.Path.{◌≡◌, refl, ◌∙◌, ap}
use mathlib.Core.List.{List}
use lib.Dec.{eqb}
use lib.ListN.{get_or}
use Rattle.values.specs.Bits.{number}
use Rattle.values.specs.Empty.{empty_entry}
use Rattle.values.specs.declared.Entry.{Entry}
use Rattle.values.proofs.Cases.{number_bit, number_low}
use Rattle.values.proofs.Maps.{map_at}
use Rattle.tlb.specs.Packing.{entry_of, word_of, entries_of}
use Rattle.walk.specs.Ranges.{InRange}

bit_of : (n : ℕ) (b : Bool) → n ≡ number b → eqb n 1 ≡ b
bit_of n b e = ap (λ (x : ℕ). eqb x 1) e ∙ number_bit b

-- the lowest field of a word, and the rest
two : (a x : ℕ) → a < 2 → ((a + 2 * x) % 2 ≡ a) × ((a + 2 * x) / 2 ≡ x)
two a x h = (omega arith, omega arith)

thirty_two : (a x : ℕ) → a < 32 → ((a + 32 * x) % 32 ≡ a) × ((a + 32 * x) / 32 ≡ x)
thirty_two a x h = (omega arith, omega arith)

byte : (a x : ℕ) → a < 256 → ((a + 0x100 * x) % 0x100 ≡ a) × ((a + 0x100 * x) / 0x100 ≡ x)
byte a x h = (omega arith, omega arith)

page : (a x : ℕ) → a < 0x100000 → ((a + 0x100000 * x) % 0x100000 ≡ a) × ((a + 0x100000 * x) / 0x100000 ≡ x)
page a x h = (omega arith, omega arith)

-- a word's fields, by the places of their lowest bits
module _ (v c b s d p f g : ℕ) (hv : v < 2) (hc : c < 2) (hb : b < 2) (hs : s < 32) (hd : d < 256) (hp : p < 256) (hf : f < 0x100000) where
  record Fields (w : ℕ) : Type 0 where
    is_v : w / 1 % 2 ≡ v
    is_c : w / 2 % 2 ≡ c
    is_b : w / 4 % 2 ≡ b
    is_s : w / 8 % 32 ≡ s
    is_d : w / 0x100 % 0x100 ≡ d
    is_p : w / 0x10000 % 0x100 ≡ p
    is_f : w / 0x1000000 % 0x100000 ≡ f
    is_g : w / 0x100000000000 ≡ g

  fields : Fields (v + 2 * (c + 2 * (b + 2 * (s + 32 * (d + 0x100 * (p + 0x100 * (f + 0x100000 * g)))))))
  fields =
      let x6 = f + 0x100000 * g in
      let x5 = p + 0x100 * x6 in
      let x4 = d + 0x100 * x5 in
      let x3 = s + 32 * x4 in
      let x2 = b + 2 * x3 in
      let x1 = c + 2 * x2 in
      rest (v + 2 * x1) x1 x2 x3 x4 x5 x6 (two v x1 hv) (two c x2 hc) (two b x3 hb) (thirty_two s x4 hs) (byte d x5 hd) (byte p x6 hp) (page f g hf)
    where
      rest : (w x1 x2 x3 x4 x5 x6 : ℕ) → (w % 2 ≡ v) × (w / 2 ≡ x1) → (x1 % 2 ≡ c) × (x1 / 2 ≡ x2) → (x2 % 2 ≡ b) × (x2 / 2 ≡ x3)
          → (x3 % 32 ≡ s) × (x3 / 32 ≡ x4) → (x4 % 0x100 ≡ d) × (x4 / 0x100 ≡ x5) → (x5 % 0x100 ≡ p) × (x5 / 0x100 ≡ x6)
          → (x6 % 0x100000 ≡ f) × (x6 / 0x100000 ≡ g) → Fields w
      rest w x1 x2 x3 x4 x5 x6 e1 e2 e3 e4 e5 e6 e7 =
          let d1 : w / 2 ≡ x1 = e1.1 in
          let d2 : w / 4 ≡ x2 = omega (arith, d1, e2.1) in
          let d3 : w / 8 ≡ x3 = omega (arith, d2, e3.1) in
          let d4 : w / 0x100 ≡ x4 = omega (arith, d3, e4.1) in
          let d5 : w / 0x10000 ≡ x5 = omega (arith, d4, e5.1) in
          let d6 : w / 0x1000000 ≡ x6 = omega (arith, d5, e6.1) in
          let d7 : w / 0x100000000000 ≡ g = omega (arith, d6, e7.1) in
          record {
            is_v = omega (arith, e1.0);
            is_c = rw d1 e2.0;
            is_b = rw d2 e3.0;
            is_s = rw d3 e4.0;
            is_d = rw d4 e5.0;
            is_p = rw d5 e6.0;
            is_f = rw d6 e7.0;
            is_g = d7;
          }

-- packed and unpacked
pub entry_word : (e : Entry) → InRange e → entry_of (word_of e) ≡ e
unfolding entry_of word_of
entry_word e r =
    let v = number e.valid in
    let c = number e.cacheable in
    let b = number e.bufferable in
    let fs = fields v c b e.size e.domain e.aps (e.pbase / 0x1000) (e.vbase / 0x1000) (number_low e.valid) (number_low e.cacheable)
    (number_low e.bufferable) (omega (arith, r.size)) (omega (arith, r.domain)) r.aps (omega (arith, r.pbase_low)) in
    let w = v + 2 * (c + 2 * (b + 2 * (e.size + 32 * (e.domain + 0x100 * (e.aps + 0x100 * (e.pbase / 0x1000 + 0x100000 * (e.vbase / 0x1000))))))) in
    let f0 : eqb (w / 1 % 2) 1 ≡ e.valid = bit_of (w / 1 % 2) e.valid fs.is_v in
    let f1 : eqb (w / 2 % 2) 1 ≡ e.cacheable = bit_of (w / 2 % 2) e.cacheable fs.is_c in
    let f2 : eqb (w / 4 % 2) 1 ≡ e.bufferable = bit_of (w / 4 % 2) e.bufferable fs.is_b in
    let f6 : w / 0x1000000 % 0x100000 * 0x1000 ≡ e.pbase = ap (λ (x : ℕ). x * 0x1000) fs.is_f ∙ whole e.pbase r.pbase in
    let f7 : w / 0x100000000000 * 0x1000 ≡ e.vbase = ap (λ (x : ℕ). x * 0x1000) fs.is_g ∙ whole e.vbase r.vbase in
    rw (f0, f1, f2, fs.is_s, fs.is_d, fs.is_p, f6, f7)
  where
    whole : (n : ℕ) → n % 0x1000 ≡ 0 → n / 0x1000 * 0x1000 ≡ n
    whole n h = omega arith

-- the word 0 is the empty entry
pub entry_zero : entry_of 0 ≡ empty_entry
unfolding entry_of
entry_zero = refl

-- an entry of a list of words
pub entry_at : (ws : List ℕ) (i : ℕ) → get_or (entries_of ws) i empty_entry ≡ entry_of (get_or ws i 0)
entry_at ws i = map_at entry_of empty_entry entry_zero ws i
