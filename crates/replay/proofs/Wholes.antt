-- Bytes that all fit the slice: the return of `replay_many`.
use Prim.Native.Nat.{ℕ, ◌+◌, ◌*◌, ◌-◌, ◌≤◌, min}
use native.Mathlib.Omega.{arith}
use native.Mathlib.Nat.{zero-add}
use mathlib.Core.Bool.{Bool, cond}
use mathlib.Core.Path.{◌≡◌, ◌∙◌, ap}
use mathlib.Core.List.{List, ◌++◌}
use lib.Dec.{eqb}
use lib.ListN.{length, drop, length-drop}
use lib.Seq.{take-length, drop-length}
use Rattle.values.proofs.Cases.{case}
use Rattle.machine.specs.Machine.{Machine}
use Rattle.printed.specs.Printed.{printed}
use Rattle.printed.specs.Code.{Laid}
use Rattle.fields.specs.Parse.{verdict_number, Parsed, parse, more}
use Rattle.fields.proofs.First.{parse_within}
use Rattle.sa110.specs.State.{machine_in}
use Rattle.batch.specs.Batch.{machine_after, parsed_answers}
use Rattle.batch.specs.Code.{Batched}
use Rattle.batch.specs.declared.Batch.{Batch}
use Rattle.replay.specs.Parts.{Held, parted_from, put_out, left, settled, replayed}

-- bytes laid at the front, with nothing waiting, are put out
pub put_whole : (m : Machine) (lines made verdict : ℕ) (behind bytes out after : List ℕ) (end most taken : ℕ) → Laid out after 0 end most bytes
    → length bytes ≤ length out
    → parted_from (settled m lines made verdict behind) taken end after 0 ≡ put_out (settled m lines made verdict behind) bytes out taken
unfolding put_out settled
put_whole m lines made verdict behind bytes out after end most taken l h =
    let n : min (length bytes) (length out) ≡ length bytes = omega arith in
    let z : length bytes - length bytes ≡ 0 = omega arith in
    let e : end ≡ length bytes = l.ends ∙ zero-add (length bytes) in
    let a : after ≡ bytes ++ drop (length bytes) out = l.same ∙ ap (λ (k : ℕ). bytes ++ drop k out) (zero-add (length bytes)) in
    rw (n, z, take-length bytes, drop-length bytes, e, a)

-- what is taken, by what comes behind the lines
pub taken_is : (verdict end : ℕ) (text : List ℕ) → end ≤ length text
    → cond (eqb verdict more) end (length text) ≡ length text - left verdict (drop end text)
taken_is verdict end text h =
    let d = length-drop end text in
    case (eqb verdict more)
    (λ u. let e : end ≡ length text - length (drop end text) = omega arith in rw u e)
    (λ u. let e : length text ≡ length text - 0 = omega arith in rw u e)

-- a part without a line begun
pub replayed_many : (ends : Bool) (n : ℕ) (h : Held) (text out : List ℕ) → h.held ≡ 0
    → put_out (settled (machine_after h.machine (parse ends n text)) h.lines (parse ends n text).made (parse ends n text).verdict
    (drop (parse ends n text).end text)) (printed (h.lines + 1) (parsed_answers h.machine (parse ends n text))) out
    (length text - left (parse ends n text).verdict (drop (parse ends n text).end text)) ≡ replayed ends n h text out
unfolding replayed
replayed_many ends n h text out e = rw e

-- lines replayed are put out, and what is behind them held
pub many_is : (ends : Bool) (n : ℕ) (h : Held) (text out memory bad store after : List ℕ) (b : Batch)
    → Batched h.machine ends h.lines n text out memory bad store after b → h.held ≡ 0 → n * 34 ≤ length out
    → (g : Held) → g ≡ settled (machine_in memory bad store b.state b.cp15) h.lines b.made (verdict_number b.verdict) (drop b.end text)
    → (taken : ℕ) → taken ≡ cond (eqb (verdict_number b.verdict) 0) b.end (length text) → parted_from g taken b.written after 0 ≡ replayed ends n h text out
many_is ends n h text out memory bad store after b k z w g e taken t =
    let P : Parsed = parse ends n text in
    let bytes = printed (h.lines + 1) (parsed_answers h.machine P) in
    let s : g ≡ settled (machine_after h.machine P) h.lines P.made P.verdict (drop P.end text) =
    e ∙ rw (k.machine, k.made, k.verdict, k.end)
    in
    let u : taken ≡ length text - left P.verdict (drop P.end text) =
    t ∙ rw (k.verdict, k.end) (taken_is P.verdict P.end text (parse_within ends n text))
    in
    let short = k.laid.short in
    ap (λ (x : Held). parted_from x taken b.written after 0) s
    ∙ ap (λ (x : ℕ). parted_from (settled (machine_after h.machine P) h.lines P.made P.verdict (drop P.end text)) x b.written after 0) u
    ∙ put_whole (machine_after h.machine P) h.lines P.made P.verdict (drop P.end text) bytes out after b.written (n * 34)
    (length text - left P.verdict (drop P.end text)) k.laid (omega arith)
    ∙ replayed_many ends n h text out z
