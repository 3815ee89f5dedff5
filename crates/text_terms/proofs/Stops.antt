-- A stop changes nothing, so that uses with stops are the uses without them.
use Prim.Native.Nat.{ℕ, ◌+◌, ◌<◌}
use native.Mathlib.Omega.{arith}
use mathlib.Core.Path.{◌≡◌, refl, sym, ◌∙◌, ap, subst}
use mathlib.Core.List.{List, [], ◌∷◌}
use lib.Dec.{eqb}
use lib.ListN.{length, take, drop}
use lib.Seq.{take_at}
use borrow.Author.Tests.{eq-eqb, ne_eqb}
use Rattle.values.proofs.Cases.{case}
use Rattle.values.specs.declared.Answer.TheVariants as answer
use Rattle.trace.specs.Codes.{code_of}
use Rattle.values.specs.Registers.{zero_cp15}
use Rattle.machine.specs.Machine.{Machine, fresh}
use Rattle.step.specs.Start.{Started, started_from}
use Rattle.state.specs.Held.{EightPlaces, zero_state}
use Rattle.state.proofs.Held.{held_same}
use Rattle.state.proofs.Starts.{fresh_is}
use Rattle.sa110.specs.State.{machine_in}
use Rattle.numbers.specs.Text.{text_of}
use Rattle.printed.specs.Code.{over}
use Rattle.text.specs.Store.{Stored, stored_from, store_refusal, stored}
use Rattle.text.specs.Read.{read_refusal, read_back}
use Rattle.text_lent.specs.Codes.{StoredCode}
use Rattle.uses.specs.Uses.{Lent, machine, left, Chain, last_of}
use Rattle.uses.specs.Header.{SameLent, Eight}
use Rattle.uses.proofs.Uses.{uses_agree}
use Rattle.uses.proofs.Header.{header}
use Rattle.text_terms.specs.Stops.{RefusedRead, StoredAgain, StopSame, use_of, stop_at, ChainWithStops, uses_in, last_in, StopsLeftOut, CutRun, StopsAgree}
use Rattle.text_terms.proofs.Texts.{served_says, read_stored, stored_read}

-- ---- one reading, one storing

-- the machine of a refused read
refused_machine : (memory bad store text : List ℕ) → ((read_back memory bad store text).refusal ≡ 0 → ⊥) → (read_back memory bad store text).machine
    ≡ fresh 0 memory bad store
unfolding read_back
refused_machine memory bad store text z = rw (ne_eqb (read_refusal memory bad store text) 0 z)

pub refused_read : RefusedRead
refused_read memory text s r n places reads z =
    let e = reads [] [] in
    let q : (read_back memory [] [] text).refusal ≡ n = ap (λ (x : Started). x.refusal) (sym e) in
    let m : machine_in memory [] [] s r ≡ machine_in memory [] [] (zero_state 0) zero_cp15 =
    ap (λ (x : Started). x.machine) e ∙ refused_machine memory [] [] text (λ k. z (sym q ∙ k)) ∙ sym (fresh_is 0 memory [] [])
    in
    let h = held_same [] memory [] s r memory [] (zero_state 0) zero_cp15 places (record { words_long = refl; slots_long = refl }) m in
    (h.same_state, h.same_cp15)

pub stored_again : StoredAgain
stored_again l text slice slice₁ code reads room stores =
    let e = reads l.bad l.store in
    let m : (read_back l.memory l.bad l.store text).machine ≡ machine l = ap (λ (x : Started). x.machine) (sym e) in
    let q = stored_read l.memory l.bad l.store text slice (ap (λ (x : Started). x.refusal) (sym e)) room in
    let k : stored (machine l) slice ≡ stored_from (over slice 0 text) (answer.Value (length text)) =
    ap (λ (x : Machine). stored x slice) (sym m) ∙ q
    in
    let s = stores l.bad l.store in
    (ap (λ (x : StoredCode). x.slice) s ∙ ap (λ (x : Stored). x.slice) k, ap (λ (x : StoredCode). x.code) s ∙ ap (λ (x : Stored). code_of x.answer) k)

-- ---- a stop

-- a code below 2^32 says that storing was served
served_code : (m : Machine) (slice : List ℕ) (n : ℕ) → n < 0x100000000 → code_of (stored m slice).answer ≡ code_of (answer.Value n)
    → (stored m slice).answer ≡ answer.Value n
unfolding stored
served_code m slice n h e =
    case (eqb (store_refusal m (length slice)) 0)
    (λ t. let q : code_of (answer.Value (length (text_of m))) ≡ code_of (answer.Value n) = rw t at e in
    let k : length (text_of m) ≡ n = omega arith in
    rw t (ap (λ (x : ℕ). answer.Value x) k))
    (λ t. let q : code_of (answer.Refused (store_refusal m (length slice))) ≡ code_of (answer.Value n) = rw t at e in absurd (omega arith))

-- the slice of a served storing begins with the text
served_slice : (m : Machine) (slice : List ℕ) (n : ℕ) → (stored m slice).answer ≡ answer.Value n → n ≡ length (text_of m) → store_refusal m (length slice) ≡ 0
    → take n (stored m slice).slice ≡ text_of m
unfolding stored
served_slice m slice n e k z =
    rw (eq-eqb (store_refusal m (length slice)) 0 z) (take_at (text_of m) (drop (0 + length (text_of m)) slice) n (sym k))

pub stop_same : StopSame
stop_same l k n p =
    let m = machine l in
    let s = p.stores l.bad l.store in
    let value : (stored m p.slice).answer ≡ answer.Value p.long =
    served_code m p.slice p.long p.served (sym (ap (λ (x : StoredCode). x.code) s))
    in
    let says = served_says m p.slice p.long value in
    let text : take p.long p.slice₁ ≡ text_of m =
    ap (λ (x : StoredCode). take p.long x.slice) s ∙ served_slice m p.slice p.long value says.0 says.1
    in
    let back = (read_stored l.memory l.bad l.store p.slice l.state l.cp15 p.long p.typed value).1 in
    let read : started_from (machine_in l.memory l.bad l.store k.state k.cp15) n ≡ started_from m 0 =
    p.reads l.bad l.store ∙ ap (λ (t : List ℕ). read_back l.memory l.bad l.store t) text ∙ back
    in
    let places : EightPlaces l.state = record { words_long = p.typed.words_long; slots_long = p.typed.slots_long } in
    let held = held_same l.bad l.memory l.store k.state k.cp15 l.memory l.store l.state l.cp15 p.places places
    (ap (λ (x : Started). x.machine) read) in (
      ap (λ (x : Started). x.refusal) read,
      (p.same_map, record { same_state = held.same_state; same_cp15 = held.same_cp15; same_memory = p.same_memory; same_store = p.same_store }),
    )

-- the caller holds the very same
lent_is : (k l : Lent) → SameLent k l → k ≡ l
lent_is k l s = rw (s.0, s.1.same_memory, s.1.same_store, s.1.same_state, s.1.same_cp15)

-- ---- stops left out

pub stops_left_out : StopsLeftOut
unfolding ChainWithStops uses_in last_in Chain last_of
stops_left_out l [] t = (tt, refl)
stops_left_out l (use_of u ∷ parts) t = let r = stops_left_out (left u) parts t.1 in ((t.0, r.0), r.1)
stops_left_out l (stop_at n k ∷ parts) t =
    let e : k ≡ l = lent_is k l (stop_same l k n t.0).1 in
    let r = stops_left_out k parts t.1 in
    (subst (λ (x : Lent). Chain x (uses_in parts)) e r.0, r.1 ∙ ap (λ (x : Lent). last_of x (uses_in parts)) e)

pub cut_run : CutRun
cut_run l list answers answers₁ made k eight run parts ends chain same =
    let r = stops_left_out l parts chain in
    let h = header.run l list answers answers₁ made k eight run (uses_in parts) (subst Eight r.1 ends) r.0 same in
    record {
      same_lent = subst (λ (x : Lent). SameLent k x) (sym r.1) h.same_lent;
      same_answers = h.same_answers;
      same_made = h.same_made;
    }

pub stops_agree : StopsAgree
stops_agree l parts u =
    let r = stops_left_out l parts u.chain in (
      uses_agree l (uses_in parts)
          (record { memory_bytes = u.memory_bytes; store_bytes = u.store_bytes; starts = u.starts; chain = r.0; keeps = u.keeps }),
      r.1,
    )
