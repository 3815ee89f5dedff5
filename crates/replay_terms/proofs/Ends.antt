-- The last part repeated comes to an end.
use Prim.Native.Nat.{ℕ, zero, suc, ◌+◌, ◌≤◌, min}
use native.Mathlib.Omega.{arith}
use mathlib.Core.Bool.{Bool, true}
use mathlib.Core.Path.{◌≡◌, refl, sym, ap, subst}
use mathlib.Core.List.{List, ◌++◌}
use lib.Dec.{eqb, leb}
use lib.ListN.{length, take, drop, length-append, length-take, length-drop}
use lib.Seq.{length-take-le}
use borrow.Author.Tests.{le-leb, eqb-true, eqb-false}
use Rattle.values.proofs.Cases.{case, and_both}
use Rattle.replay.specs.Parts.{Held, waiting_bytes, kept, Parted, put_out, lines_at_most, replayed}
use Rattle.replay.proofs.Bounds.{left_bounded}
use Rattle.replay_terms.specs.Uses.{Use, ends_with, used, wrote, fed, to_print, NothingComes, ComesToAnEnd, Ends}
use Rattle.replay_terms.proofs.OnePart.{part_refused, part_waiting, part_stopped, part_replayed}
use Rattle.replay_terms.proofs.Uses.{one_part}

-- ---- how much a part writes

-- what is written is so long
abbrev Long : Parted → Type 0
Long r = length (wrote r) ≡ r.written

-- bytes put out
put_long : (h : Held) (bytes out : List ℕ) (taken : ℕ) → Long (put_out h bytes out taken)
unfolding put_out
put_long h bytes out taken =
    let n = min (length bytes) (length out) in
    let a = length-append (take n bytes) (drop n out) in
    let b = length-take n bytes in
    length-take-le n (take n bytes ++ drop n out) (omega arith)

-- lines replayed
replayed_long : (ends : Bool) (n : ℕ) (h : Held) (text out : List ℕ) → Long (replayed ends n h text out)
unfolding replayed
replayed_long ends n h text out = put_long _ _ out _

-- by its case
part_long : (h : Held) (left : List ℕ) (u : Use) → Long (used h left u)
part_long h left u =
    let ends = ends_with u left in
    let text = take u.offered left in
    let out = u.slice in
    case (kept h.lines h.held h.waiting h.begun)
    (λ k.
    case (eqb h.waiting 0)
    (λ w.
    case (eqb h.stopped 0)
    (λ s. subst Long (sym (part_replayed ends h text out k w s)) (replayed_long ends (lines_at_most h.held (length out)) h text out))
    (λ s. subst Long (sym (part_stopped ends h text out k w s)) refl))
    (λ w. subst Long (sym (part_waiting ends h text out k w)) (put_long h (waiting_bytes h) out 0)))
    (λ k. subst Long (sym (part_refused ends h text out k)) refl)

-- ---- what is left to be done

-- the bytes left to be taken and to be printed
abbrev to_do : Held → List ℕ → ℕ
to_do h left = length left + length (to_print h left)

-- a part leaves less by what it takes and writes
part_does : (h : Held) (left : List ℕ) (u : Use)
    → to_do (used h left u).replay (drop (used h left u).taken left) + (used h left u).taken + (used h left u).written ≡ to_do h left
part_does h left u =
    let r = used h left u in
    let rest = to_print r.replay (drop r.taken left) in
    let t = (left_bounded (ends_with u left) h (take u.offered left) u.slice r refl).taken_low in
    let l = length-take u.offered left in
    let w = part_long h left u in
    let d = length-drop r.taken left in
    let e = ap length (one_part h left u) in
    let f = length-append (wrote r) rest in
    omega arith

-- ---- the end

module _ (u : Use) (told : u.told ≡ true) (room : 1 ≤ length u.slice) where
  -- nothing comes of a part that takes and writes nothing
  comes_nothing : (h : Held) (left : List ℕ) → length left ≤ u.offered → (used h left u).taken ≡ 0 → (used h left u).written ≡ 0 → NothingComes h left u
  comes_nothing h left o t w =
      record {
        ends = and_both u.told (leb (length left) u.offered) told (le-leb (length left) u.offered o);
        room = room;
        none_taken = t;
        none_written = w;
      }

  -- at once
  ends_here : (h : Held) (left : List ℕ) → length left ≤ u.offered → (used h left u).taken ≡ 0 → (used h left u).written ≡ 0 → ComesToAnEnd h left u
  unfolding fed
  ends_here h left o t w = record { times = 0; at_most = omega arith; nothing = comes_nothing h left o t w }

  -- after one part more
  ends_later : (h : Held) (left : List ℕ) → ComesToAnEnd (used h left u).replay (drop (used h left u).taken left) u
      → to_do (used h left u).replay (drop (used h left u).taken left) + 1 ≤ to_do h left → ComesToAnEnd h left u
  unfolding fed
  ends_later h left c l = let a = c.at_most in record { times = suc c.times; at_most = omega arith; nothing = c.nothing }

  -- by how much is to be done
  ends_by : (n : ℕ) (h : Held) (left : List ℕ) → length left ≤ u.offered → to_do h left ≤ n → ComesToAnEnd h left u
  ends_by zero h left o l = let d = part_does h left u in ends_here h left o (omega arith) (omega arith)
  ends_by (suc n) h left o l =
      let r = used h left u in
      let d = part_does h left u in
      let e = length-drop r.taken left in
      let next : 1 ≤ r.taken + r.written → ComesToAnEnd h left u =
      λ s. ends_later h left (ends_by n r.replay (drop r.taken left) (omega arith) (omega arith)) (omega arith)
      in
      case (eqb (r.taken + r.written) 0)
      (λ z. let q = eqb-true (r.taken + r.written) 0 z in ends_here h left o (omega arith) (omega arith))
      (λ z. next (positive (r.taken + r.written) (eqb-false (r.taken + r.written) 0 z)))
    where
      positive : (k : ℕ) → (k ≡ 0 → ⊥) → 1 ≤ k
      positive zero f = absurd (f refl)
      positive (suc k) f = omega arith

pub ends : Ends
ends h left u told o room = ends_by u told room (length left + length (to_print h left)) h left o (omega arith)
