-- A slice of the longest text's length is long enough.
use Prim.Native.Nat.{ℕ}
use native.Mathlib.Omega.{arith}
use mathlib.Core.Bool.{true, cond}
use mathlib.Core.Path.{◌≡◌, refl, sym, ◌∙◌, ap, subst}
use mathlib.Core.List.{List, [], ◌∷◌}
use lib.Dec.{ltb}
use lib.ListN.{length}
use Rattle.values.specs.declared.Call.{Call}
use Rattle.values.proofs.Cases.{case}
use Rattle.words.specs.Words.{Bytes}
use Rattle.values.specs.declared.Answer.TheVariants as answer
use Rattle.trace.specs.Codes.{code_of}
use Rattle.trace.specs.Fold.{final_of}
use Rattle.printed.specs.Code.{over}
use Rattle.machine.specs.Machine.{Machine, memory_of}
use Rattle.soundness.specs.Soundness.{sound}
use Rattle.soundness_test.specs.Formed.{Formed}
use Rattle.step.specs.Meets.{start_refusal}
use Rattle.step.specs.Start.{Started, started}
use Rattle.step.specs.Run.{final}
use Rattle.step.proofs.SoundKept.{start_sound, sound_kept}
use Rattle.step.proofs.StateRefusals.{lengths_fit}
use Rattle.terms.specs.Term3.{AllNumbers}
use Rattle.numbers.specs.Text.{text_of}
use Rattle.text.specs.Store.{Stored}
use Rattle.text.specs.Code.{stored_room}
use Rattle.text.proofs.Storing.{store_none, stored_room_lem, room_enough}
use Rattle.text_lent.specs.Codes.{StoredCode}
use Rattle.uses.specs.Uses.{Lent, machine, Starts, Use, Chain, calls_of, last_of}
use Rattle.uses.proofs.Uses.{chain_is, chain_numbers}
use Rattle.text_terms.specs.Longest.{LongestEnough}
use Rattle.text_terms.specs.Stops.{OnlyFifteen, StoreServes}
use Rattle.text_terms.proofs.Longest.{longest_text_lem}

pub longest_enough : LongestEnough
longest_enough m slice f s size low room =
    let short = longest_text_lem m f s size low in
    let none = sym (store_none m (lengths_fit (length (memory_of m)) f.memory_lines f.memory_short) s size) in
    sym (stored_room_lem m slice none) ∙ sym (room_enough m slice (length (text_of m)) (over slice 0 (text_of m)) refl (omega arith) refl)

-- a machine that serves calls goes on so
record Goes (n : ℕ) (m : Machine) : Type 0 where
  formed : Formed m
  is_sound : sound m ≡ true
  memory : length (memory_of m) ≡ n
  size : m.size ≡ n

goes_on : (cs : List Call) (n : ℕ) (m : Machine) → AllNumbers cs → Goes n m → Goes n (final m cs)
unfolding AllNumbers final_of
goes_on [] n m a g = g
goes_on (c ∷ cs) n m a g =
    let k = sound_kept m c g.formed g.is_sound a.0 in
    goes_on cs n _ a.1 (record { formed = k.0; is_sound = k.1; memory = k.2 ∙ g.memory; size = k.3 ∙ g.size })

-- a start that gave 0 was served
start_none : (l : Lent) → Starts l 0 → start_refusal l.memory l.store ≡ 0
unfolding started
start_none l h = sym (ap (λ (x : Started). x.refusal) (h l.bad))

-- the machine after a served start and any uses
after_start : (l : Lent) (us : List Use) → Bytes l.memory → Bytes l.store → Starts l 0 → Chain l us
    → Goes (length l.memory) (machine (last_of l us))
after_start l us mb sb starts chain =
    let begun : machine l ≡ (started l.memory l.bad l.store).machine = ap (λ (x : Started). x.machine) (starts l.bad) in
    let s = start_sound l.memory l.bad l.store mb sb (start_none l starts) in
    let first : Goes (length l.memory) (machine l) =
    subst (Goes (length l.memory)) (sym begun) (record { formed = s.0; is_sound = s.1; memory = s.2; size = s.3 })
    in
    subst (Goes (length l.memory)) (sym (chain_is us l chain).1) (goes_on (calls_of us) (length l.memory) (machine l) (chain_numbers us l chain) first)

-- storing by 15 alone, as an answer
room_answer : (m : Machine) (slice : List ℕ)
    → (stored_room m slice).answer ≡ cond (ltb (length slice) (length (text_of m))) (answer.Refused 15) (answer.Value (length (text_of m)))
unfolding stored_room
room_answer m slice = case (ltb (length slice) (length (text_of m))) (λ t. rw t) (λ t. rw t)

pub only_fifteen : OnlyFifteen
only_fifteen l us mb sb starts chain slice slice₁ code stores =
    let last = after_start l us mb sb starts chain in
    let m = machine (last_of l us) in
    let f = last.formed in
    let none = sym (store_none m (lengths_fit (length (memory_of m)) f.memory_lines f.memory_short) last.is_sound (last.size ∙ sym last.memory)) in
    ap (λ (x : StoredCode). x.code) (stores (last_of l us).bad (last_of l us).store) ∙ ap (λ (x : Stored). code_of x.answer) (sym (stored_room_lem m slice none))
    ∙ ap code_of (room_answer m slice)

pub store_serves : StoreServes
store_serves l us mb sb starts chain typed slice slice₁ code stores room =
    let last = after_start l us mb sb starts chain in
    let m = machine (last_of l us) in
    let calls = typed.calls in
    let e = longest_enough m slice last.formed last.is_sound (last.size ∙ sym last.memory) (omega arith) room in
    ap (λ (x : StoredCode). x.code) (stores (last_of l us).bad (last_of l us).store) ∙ ap (λ (x : Stored). code_of x.answer) e
