-- One line replayed: the return of `replay_one`.
use Prim.Native.Nat.{ℕ, ◌+◌, ◌-◌}
use native.Mathlib.Omega.{arith}
use native.Mathlib.Nat.{zero-add}
use mathlib.Core.Bool.{Bool, cond, ◌&&◌}
use mathlib.Core.Path.{◌≡◌, sym, ◌∙◌, ap}
use mathlib.Core.List.{List, ◌++◌}
use lib.Dec.{eqb}
use lib.ListN.{length, take, drop}
use lib.Seq.{length-take-le, take_at}
use borrow.Author.Tests.{eqb-true}
use Rattle.values.proofs.Cases.{case}
use Rattle.printed.specs.Printed.{printed}
use Rattle.printed.specs.Code.{Laid}
use Rattle.fields.specs.Parse.{verdict_number, Parsed, parse, more}
use Rattle.sa110.specs.State.{machine_in}
use Rattle.pieces.specs.Pieces.{onto}
use Rattle.batch.specs.Batch.{machine_after, parsed_answers}
use Rattle.batch.specs.Code.{Batched}
use Rattle.batch.specs.declared.Batch.{Batch}
use Rattle.replay.specs.Parts.{Held, begun_line, put_out, left, settled, replayed}
use Rattle.held.proofs.Keeping.{Kept, settled_same}
use Rattle.replay.proofs.OneLine.{OneParsed, one_parsed}

-- bytes laid at the front are its front
laid_front : (out after bytes : List ℕ) (end most : ℕ) → Laid out after 0 end most bytes → take end after ≡ bytes
laid_front out after bytes end most l =
    ap (λ (x : List ℕ). take end x) l.same ∙ take_at bytes (drop (0 + length bytes) out) end (sym (l.ends ∙ zero-add (length bytes)))

module _ (ends : Bool) (h : Held) (k : Kept h.lines h.held h.waiting h.begun) (long : length h.begun ≡ 64) (text out : List ℕ) where
  parsed : OneParsed ends (begun_line h) text (begun_line h ++ onto (64 - h.held) text) (length (onto (64 - h.held) text))
  parsed =
      let low = k.held_low in
      let l = length-take-le h.held h.begun (omega arith) in
      one_parsed ends (begun_line h) text (64 - h.held) k.no_feed (omega arith)

  abbrev P : Parsed
  P = parse ends 1 (begun_line h ++ text)

  abbrev rest : List ℕ
  rest = drop P.end (begun_line h ++ text)

  -- what is taken
  taken_one : (taken : ℕ) → taken ≡ length (onto (64 - h.held) text) → cond (eqb P.verdict more) taken (length text) ≡ length text - left P.verdict rest
  taken_one taken e =
      case (eqb P.verdict more) (λ u. rw u (e ∙ parsed.more_taken (eqb-true P.verdict 0 u)))
      (λ u. let z : length text ≡ length text - 0 = omega arith in rw u z)

  pub one_is : (whole scratch memory bad store after : List ℕ) (taken : ℕ) (last : Bool) (b : Batch) → whole ≡ begun_line h ++ onto (64 - h.held) text
      → taken ≡ length (onto (64 - h.held) text) → last ≡ (ends && eqb taken (length text))
      → Batched h.machine last h.lines 1 whole scratch memory bad store after b
      → (g : Held) → g ≡ settled (machine_in memory bad store b.state b.cp15) h.lines b.made (verdict_number b.verdict) (drop b.end whole)
      → (t : ℕ) → t ≡ cond (eqb (verdict_number b.verdict) 0) taken (length text) → put_out g (take b.written after) out t ≡ replayed ends 1 h text out
  unfolding replayed
  one_is whole scratch memory bad store after taken last b w n l B g e t u =
      let q : parse last 1 whole ≡ P =
      ap (λ (x : List ℕ). parse last 1 x) w
      ∙ ap (λ (x : Bool). parse x 1 (begun_line h ++ onto (64 - h.held) text)) (l ∙ ap (λ (x : ℕ). ends && eqb x (length text)) n) ∙ sym parsed.same
      in
      let v : verdict_number b.verdict ≡ P.verdict = B.verdict ∙ ap (λ (p : Parsed). p.verdict) q in
      let made : b.made ≡ P.made = B.made ∙ ap (λ (p : Parsed). p.made) q in
      let end : b.end ≡ P.end = B.end ∙ ap (λ (p : Parsed). p.end) q in
      let m : machine_in memory bad store b.state b.cp15 ≡ machine_after h.machine P = B.machine ∙ ap (machine_after h.machine) q in
      let s : g ≡ settled (machine_after h.machine P) h.lines P.made P.verdict rest =
      e ∙ rw (m, made, v, end, w) (settled_same (machine_after h.machine P) h.lines P.made P.verdict
      (drop P.end (begun_line h ++ onto (64 - h.held) text)) rest parsed.open_behind)
      in
      let bytes : take b.written after ≡ printed (h.lines + 1) (parsed_answers h.machine P) =
      laid_front scratch after (printed (h.lines + 1) (parsed_answers h.machine (parse last 1 whole))) b.written 34 B.laid
      ∙ ap (λ (p : Parsed). printed (h.lines + 1) (parsed_answers h.machine p)) q
      in
      let y : t ≡ length text - left P.verdict rest = u ∙ ap (λ (x : ℕ). cond (eqb x 0) taken (length text)) v ∙ taken_one taken n in
      rw (s, bytes, y)
