-- A part leaves what passes the test that the next part makes of it.
use Prim.Native.Nat.{ℕ, ◌+◌, ◌*◌, ◌-◌, ◌≤◌, min}
use native.Mathlib.Omega.{arith}
use mathlib.Core.Bool.{Bool, true, false, cond, ◌&&◌}
use mathlib.Core.Path.{◌≡◌, refl, sym, ◌∙◌, ap, subst}
use mathlib.Core.List.{List, [], ◌∷◌, ◌++◌}
use lib.Dec.{eqb, leb}
use lib.ListN.{length, take, drop, replicate, length-take}
use Rattle.values.specs.Lists.{any}
use Rattle.values.specs.declared.Call.{Call}
use Rattle.values.proofs.Cases.{case}
use Rattle.trace.specs.Fold.{answers_of, final_of}
use Rattle.printed.specs.Printed.{printed}
use Rattle.printed.proofs.Decimal.{decimal_ten}
use Rattle.fields.specs.Parse.{decided, departing, Parsed, parse}
use Rattle.fields.proofs.First.{undecided}
use Rattle.fields.proofs.Calls.{parse_32, parse_calls, open_short}
use Rattle.machine.specs.Machine.{Machine}
use Rattle.soundness_test.specs.Formed.{Formed}
use Rattle.soundness_laws.proofs.LowBytes.{bytes_zeros}
use Rattle.step.specs.Meets.{state_refusal}
use Rattle.step.specs.Call.{served}
use Rattle.step.specs.Run.{next, answered, final}
use Rattle.step.proofs.SoundKept.{start_sound}
use Rattle.terms.specs.Term3.{AllNumbers}
use Rattle.terms.proofs.Corollaries.{calls_numbers}
use Rattle.answers.proofs.Told.{run_told, served_formed}
use Rattle.pieces.specs.Pieces.{is_feed}
use Rattle.batch.specs.Batch.{refused13, lines_limit, machine_after, parsed_answers, stops}
use Rattle.replay.specs.Replay.{zero_machine, zero_memory, zero_map}
use Rattle.replay.specs.Parts as parts
use Rattle.replay.specs.Parts.{Held, begun_line, waiting_bytes, Parted, put_out, lines_at_most, carried, settled, replayed}
use Rattle.held.proofs.Keeping.{kept_all, kept_means}
use Rattle.replay.proofs.Parting.{roomy}
use Rattle.batch.proofs.Printing.{made_few}
use Rattle.replay_terms.specs.Uses.{Use, ends_with, used, IsKept, Well, StaysWell, StaysKept, StartsWell}
use Rattle.replay_terms.proofs.FirstLines.{open_feedless}
use Rattle.replay_terms.proofs.Reading.{calls_read, Reads, reads}
use Rattle.replay_terms.proofs.Printing.{answers_counted, front_padded}
use Rattle.replay_terms.proofs.OnePart.{
  part_waiting,
  part_stopped,
  part_replayed,
  verdict_cases,
}
use Rattle.replay_terms.proofs.Plain.{start_served}
use Rattle.replay_terms.proofs.Widths.{Short, told_short, short_append, printed_short}

-- ---- the machine

-- the machine behind a list of calls has its shape, or refuses every call
final_formed : (m : Machine) (cs : List Call) → (state_refusal m ≡ 0 → Formed m) → AllNumbers cs → state_refusal (final m cs) ≡ 0 → Formed (final m cs)
unfolding final_of AllNumbers
final_formed m [] f n = f
final_formed m (c ∷ cs) f n = final_formed (served m c).machine cs (served_formed m c f n.0) n.1

-- ---- bytes put out

-- the test of what is held behind bytes put out
put_kept : (h : Held) (bytes out : List ℕ) (taken : ℕ) → h.lines ≤ lines_limit → h.held ≤ 63 → any is_feed (begun_line h) ≡ false
    → length bytes - min (length bytes) (length out) ≤ 64 → IsKept (put_out h bytes out taken).replay
unfolding put_out
put_kept h bytes out taken l k f w = sym (kept_all h.lines h.held (length bytes - min (length bytes) (length out)) h.begun l k w f)

-- lines, machine and refusal behind bytes put out
put_lines : (h : Held) (bytes out : List ℕ) (taken : ℕ) → (put_out h bytes out taken).replay.lines ≡ h.lines
unfolding put_out
put_lines h bytes out taken = refl

put_machine : (h : Held) (bytes out : List ℕ) (taken : ℕ) → (put_out h bytes out taken).replay.machine ≡ h.machine
unfolding put_out
put_machine h bytes out taken = refl

put_unrefused : (h : Held) (bytes out : List ℕ) (taken : ℕ) → (put_out h bytes out taken).refusal ≡ 0
unfolding put_out
put_unrefused h bytes out taken = refl

-- bytes put out leave what passes the test
put_stays : (h : Held) (bytes out : List ℕ) (taken : ℕ) → h.lines ≤ lines_limit → h.held ≤ 63 → any is_feed (begun_line h) ≡ false
    → length bytes - min (length bytes) (length out) ≤ 64 → (state_refusal h.machine ≡ 0 → Formed h.machine) → StaysWell (put_out h bytes out taken)
put_stays h bytes out taken l k f w m =
    record {
      well = record {
        is_kept = put_kept h bytes out taken l k f w;
        formed = subst (λ (x : Machine). state_refusal x ≡ 0 → Formed x) (sym (put_machine h bytes out taken)) m;
      };
      not_refused = put_unrefused h bytes out taken;
    }

-- the answer of a line that departs, and none
thirteen_short : Short refused13
unfolding Short
thirteen_short = let d = decimal_ten 13 (omega arith) in (omega arith, tt)

nothing_short : Short []
unfolding Short
nothing_short = tt

-- ---- a line carried over

-- fewer than 64 bytes, and no line feed
record Carried (l : List ℕ) : Type 0 where
  few : length l ≤ 63
  feedless : any is_feed l ≡ false

-- no line
none_carried : Carried []
unfolding any
none_carried = record { few = omega arith; feedless = refl }

-- a line that is not decided
open_carried : (ends : Bool) (behind : List ℕ) → decided ends behind ≡ false → Carried behind
open_carried ends behind d = record { few = open_short ends behind d; feedless = open_feedless behind (undecided ends behind d).0 }

-- by the verdict
carried_by : (ends : Bool) (v : ℕ) (behind : List ℕ) → v ≤ 2 → (v ≡ 1 → decided ends behind ≡ false) → Carried (carried v behind)
carried_by ends v behind o d =
    verdict_cases v o (λ e. rw e none_carried) (λ e. rw e (open_carried ends behind (d e))) (λ e. rw e none_carried)

-- ---- lines replayed

module _ (ends : Bool) (n : ℕ) (h : Held) (text out : List ℕ) (f : state_refusal h.machine ≡ 0 → Formed h.machine) where
  abbrev t : List ℕ
  t = begun_line h ++ text

  abbrev p : Parsed
  p = parse ends n t

  abbrev behind : List ℕ
  behind = drop p.end t

  abbrev bytes : List ℕ
  bytes = printed (h.lines + 1) (parsed_answers h.machine p)

  abbrev after : Held
  after = settled (machine_after h.machine p) h.lines p.made p.verdict behind

  -- what was read, where nothing comes behind
  read : Reads ends n t [] p
  read = reads ends n t [] (λ e. refl)

  -- "32 bits each"
  numbers : AllNumbers (calls_read p)
  numbers = calls_numbers p.numbers (parse_32 ends n t) p.made 0

  -- each answer's number is short
  answers_short : Short (parsed_answers h.machine p)
  answers_short =
      short_append (answers_of next answered h.machine (calls_read p)) (cond (eqb p.verdict departing) refused13 [])
      (told_short (calls_read p) (answers_of next answered h.machine (calls_read p)) (run_told h.machine (calls_read p) f numbers))
      (last (eqb p.verdict departing))
    where
      last : (b : Bool) → Short (cond b refused13 [])
      last true = thirteen_short
      last false = nothing_short

  -- they have at most 34 bytes each
  bytes_short : h.lines + p.made + stops p.verdict ≤ lines_limit → length bytes ≤ n * 34
  bytes_short l =
      let c = answers_counted next answered h.machine (calls_read p) (eqb p.verdict departing) in
      let k = parse_calls ends n t in
      let g = made_few ends n t in
      let s = printed_short (h.lines + 1) (parsed_answers h.machine p) answers_short (omega arith) in
      omega arith

  -- what is held then
  after_lines : after.lines ≡ h.lines + p.made + stops p.verdict
  unfolding settled
  after_lines = refl

  after_machine : after.machine ≡ machine_after h.machine p
  unfolding settled
  after_machine = refl

  after_carried : Carried (carried p.verdict behind)
  after_carried = carried_by ends p.verdict behind read.one_of read.undecided_line

  after_held : after.held ≤ 63
  unfolding settled
  after_held = after_carried.few

  after_feedless : any is_feed (begun_line after) ≡ false
  unfolding settled
  after_feedless = ap (any is_feed) (front_padded (carried p.verdict behind)) ∙ after_carried.feedless

  after_formed : state_refusal after.machine ≡ 0 → Formed after.machine
  after_formed = subst (λ (x : Machine). state_refusal x ≡ 0 → Formed x) (sym after_machine) (final_formed h.machine (calls_read p) f numbers)

  -- what the part leaves
  replayed_stays : length bytes - min (length bytes) (length out) ≤ 64 → h.lines + p.made + stops p.verdict ≤ lines_limit
      → StaysWell (replayed ends n h text out)
  unfolding replayed
  replayed_stays w l =
      put_stays after bytes out (length text - parts.left p.verdict behind) (subst (λ (k : ℕ). k ≤ lines_limit) (sym after_lines) l) after_held
      after_feedless w after_formed

  -- how many lines are counted then
  replayed_lines : (replayed ends n h text out).replay.lines ≡ h.lines + p.made + stops p.verdict
  unfolding replayed
  replayed_lines = put_lines after bytes out (length text - parts.left p.verdict behind) ∙ after_lines

-- as many lines are asked for as the slice has room for, or one
few_wait : (held room k : ℕ) → k ≤ lines_at_most held room * 34 → k - min k room ≤ 64
few_wait held room k =
    case (eqb held 0 && leb 34 room)
    (λ t. let r = (roomy held room t).1 in rw t (λ h. omega arith))
    (λ t. rw t (λ h. omega arith))

-- ---- a part

module _ (h : Held) (left : List ℕ) (u : Use) (g : Well h) where
  abbrev offer : List ℕ
  offer = take u.offered left

  -- what waits is written
  stays_waiting : eqb h.waiting 0 ≡ false → StaysWell (used h left u)
  stays_waiting w =
      let k = kept_means h.lines h.held h.waiting h.begun g.is_kept in
      let e = part_waiting (ends_with u left) h offer u.slice g.is_kept w in
      let l = length-take h.waiting h.pending in
      let few = k.waiting_low in
      subst StaysWell (sym e) (put_stays h (waiting_bytes h) u.slice 0 k.lines_low k.held_low k.no_feed (omega arith) g.formed)

  -- a line departed
  stays_stopped : eqb h.waiting 0 ≡ true → eqb h.stopped 0 ≡ false → StaysWell (used h left u)
  stays_stopped w s = subst StaysWell (sym (part_stopped (ends_with u left) h offer u.slice g.is_kept w s)) (record { well = g; not_refused = refl })

  -- lines are replayed
  stays_replayed : eqb h.waiting 0 ≡ true → eqb h.stopped 0 ≡ true → (used h left u).replay.lines ≤ lines_limit → StaysWell (used h left u)
  stays_replayed w s l =
      let ends = ends_with u left in
      let n = lines_at_most h.held (length u.slice) in
      let e = part_replayed ends h offer u.slice g.is_kept w s in
      let i = ap (λ (r : Parted). r.replay.lines) e ∙ replayed_lines ends n h offer u.slice g.formed in
      let few = subst (λ (k : ℕ). k ≤ lines_limit) i l in
      let b = bytes ends n h offer u.slice g.formed in
      let short = bytes_short ends n h offer u.slice g.formed few in
      subst StaysWell (sym e)
      (replayed_stays ends n h offer u.slice g.formed (few_wait h.held (length u.slice) (length b) short) few)

  -- in every case
  stays : (used h left u).replay.lines ≤ lines_limit → StaysWell (used h left u)
  stays l = case (eqb h.waiting 0) (λ w. case (eqb h.stopped 0) (λ s. stays_replayed w s l) (stays_stopped w)) stays_waiting

pub stays_kept : StaysKept
stays_kept = stays

-- ---- the start

-- the machine of a start on zero bytes has its shape
zero_formed : Formed zero_machine
zero_formed = (start_sound zero_memory zero_map (replicate 16384 0) (bytes_zeros 65536) (bytes_zeros 16384) start_served).0

pub starts_well : StartsWell
unfolding any
starts_well h n e =
    let l = n.no_lines_lem in
    let b = n.none_begun in
    let w = n.none_waiting in
    record {
      is_kept = sym (kept_all h.lines h.held h.waiting h.begun (omega arith) (omega arith) (omega arith) (rw b));
      formed = λ z. subst Formed (sym e) zero_formed;
    }
