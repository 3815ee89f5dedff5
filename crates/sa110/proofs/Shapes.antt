-- The shape of a machine whose lists are arrays: their lengths, and that bytes are below 256.
use Prim.Native.Nat.{ℕ, zero, suc, ◌%◌, ◌<◌, ◌≤◌}
use native.Mathlib.Omega.{arith}
use mathlib.Core.Path.{◌≡◌, refl, sym, ◌∙◌, subst}
use mathlib.Core.List.{List, [], ◌∷◌}
use lib.ListN.{length, length-map, get_or, replicate}
use mir.Syntax.{w8}
use mir.Val.{Val}
use denote.Array.{Array, each}
use denote.Shadow.{shadow}
use denote.Plain.{UInt}
use denote.Laws.{Is}
use borrow.Author.Rules.{elem_Fits}
use Rattle.values.specs.Empty.{empty_slot}
use Rattle.values.specs.declared.Slot.{Slot}
use Rattle.words.specs.Words.{Bytes}
use Rattle.tlb.specs.Packing.{entry_of}
use Rattle.buffer.specs.Packing.{slots_of}
use Rattle.buffer.proofs.Slots.{slot_at, length_slots}
use Rattle.cache.specs.Packing.{line_of}
use Rattle.soundness_test.specs.Formed.{Formed}
use Rattle.soundness_laws.proofs.Elements.{same_at}
use Rattle.values.specs.declared.Cp15.{Cp15}
use Rattle.values.specs.declared.Call.{Call}
use Rattle.step.specs.Meets.{state_refusal}
use Rattle.step.specs.Call.{served}
use Rattle.step.specs.Code.{Serves}
use Rattle.trace.specs.Fold.{calls_in, leaves}
use Rattle.step.specs.Run.{left_by}
use Rattle.sa110.specs.State.{bytes_of, machine_in, called_of, ran_of}
use Rattle.state.specs.declared.State.{State}
use Rattle.state.specs.declared.SlotBytes.{SlotBytes}
use Rattle.step.proofs.StateRefusals.{Accepts, accepts}
use Rattle.machine.specs.declared.Outcome.{Outcome}
use Rattle.machine.specs.declared.Scalars.{Scalars}
use Rattle.machine.specs.Lists.{Lists, machine_of, stepped_of}
use Rattle.machine.specs.Scalars.{scalars_from}
use Rattle.machine.specs.Lists.{lists}

-- what an array of bytes tells of its list
pub record Row (xs : List ℕ) : Type 0 where
  pub long : length xs ≡ 16
  pub low : (j : ℕ) → get_or xs j 0 < 256

row_of : (xs : List ℕ) (vs : List Val) → Is (Array (UInt w8) 16) xs vs → Row xs
row_of xs vs p = record { long = p.1.0.1; low = λ j. (elem_Fits w8 w8 xs p.0 j p.1.1 tt).fits }

zeros : Row (replicate 16 0)
zeros = record { long = refl; low = λ j. rw (same_at {A = ℕ} 16 0 j) (omega arith) }

-- and an array of eight of them
pub rows_of : (xs : List (List ℕ)) (us : List Val) → shadow (each (List ℕ) (Array (UInt w8) 16).own_val xs us) → (i : ℕ) → Row (get_or xs i (replicate 16 0))
rows_of [] us p i = zeros
rows_of (x ∷ xs) [] p i = absurd p
rows_of (x ∷ xs) (u ∷ us) p zero = row_of x (u ∷ []) p.0
rows_of (x ∷ xs) (u ∷ us) p (suc i) = rows_of xs us p.1 i

module _ (l : Lists) (es : List ℕ) (s : Scalars) (n : ℕ) (e : length es ≡ 32) (ls : length l.lines ≡ 512) (ps : length l.pointers ≡ 16)
    (st : length l.store ≡ 16384) (sb : Bytes l.store) (ws : length l.words ≡ 8) (bs : length l.bytes ≡ 8)
    (rows : (i : ℕ) → Row (get_or l.bytes i (replicate 16 0))) (whole : length l.memory % 32 ≡ 0) (short : length l.memory ≤ 0x1000000)
    (mb : Bytes l.memory) where
  row_at : (i : ℕ) → Row (get_or (slots_of l.words l.bytes) i empty_slot).bytes
  row_at i = subst (λ (y : Slot). Row y.bytes) (sym (slot_at l.words l.bytes i (ws ∙ sym bs))) (rows i)

  pub formed_of : Formed (machine_of l es s n)
  formed_of =
      record {
        entries_long = length-map es entry_of ∙ e;
        lines_long = length-map l.lines line_of ∙ ls;
        pointers_long = ps;
        store_long = st;
        store_bytes = sb;
        slots_long = length_slots l.words l.bytes (ws ∙ sym bs) ∙ ws;
        slot_long = λ i. (row_at i).long;
        slot_bytes = λ i j h. (row_at i).low j;
        memory_lines = whole;
        memory_short = short;
        memory_bytes = mb;
      }

-- ---- a state by value

-- the lists of a state, with the places' bytes by themselves
abbrev pub lists_in : List ℕ → List ℕ → List ℕ → State → List (List ℕ) → Lists
lists_in memory bad store s bs =
    (lists memory bad s.words bs s.lines s.pointers store)

abbrev pub scalars_in : State → Cp15 → Scalars
scalars_in s r = (scalars_from r s.counts s.used)

module _ (memory bad store : List ℕ) (s : State) (r : Cp15) (bs : List (List ℕ)) (b : bs ≡ bytes_of s.slots)
    (h : state_refusal (machine_in memory bad store s r) ≡ 0) where
  acc : Accepts (machine_in memory bad store s r)
  acc = accepts (machine_in memory bad store s r) h

  pub serves_of : length s.entries ≡ 32 → length s.lines ≡ 512 → length s.pointers ≡ 16 → length s.words ≡ 8 → length bs ≡ 8
      → ((i : ℕ) → Row (get_or bs i (replicate 16 0))) → Bytes memory → Bytes store
      → Serves (machine_of (lists_in memory bad store s bs) s.entries (scalars_in s r) (length memory))
  serves_of e ls ps ws k rows mb sb =
      let a = acc in
      let f = formed_of (lists_in memory bad store s bs) s.entries (scalars_in s r) s.size e ls ps a.store sb ws k rows a.whole a.short mb in
      subst (λ (n : ℕ). Serves (machine_of (lists_in memory bad store s bs) s.entries (scalars_in s r) n)) a.size
      (subst (λ (x : List (List ℕ)). Formed (machine_of (lists_in memory bad store s x) s.entries (scalars_in s r) s.size) →
      Serves (machine_of (lists_in memory bad store s x) s.entries (scalars_in s r) s.size)) (sym b)
      (λ g. record { formed = g; is_sound = a.is_sound; size = a.size; map_fits_lem = a.map_fits_lem }) f)

  -- what the lent lists and arrays hold once the struct of references ends is named by itself, beside the lists behind the struct
  pub called_by_lem : {m bd st ls ps ws : List ℕ} (k : Lists) (fs : List ℕ) (o : Outcome) (c : Call) (held : List SlotBytes)
      → stepped_of k fs (length memory) o ≡ served (machine_of (lists_in memory bad store s bs) s.entries (scalars_in s r) (length memory)) c
      → bytes_of held ≡ k.bytes → m ≡ k.memory → bd ≡ k.bad → st ≡ k.store → ls ≡ k.lines → ps ≡ k.pointers → ws ≡ k.words
      → called_of m bd st (record {
        state = record {
          size = s.size;
          counts = o.scalars.counts;
          used = o.scalars.used;
          entries = fs;
          lines = ls;
          pointers = ps;
          words = ws;
          slots = held;
        };
        cp15 = o.scalars.cp15;
        answer = o.answer;
      })
      ≡ served (machine_in memory bad store s r) c
  called_by_lem k fs o c held e g em eb es el ep ew =
      let a = acc in
      rw (em, eb, es, el, ep, ew, g, a.size) (subst (λ (x : List (List ℕ)). stepped_of k fs (length memory) o
      ≡ served (machine_of (lists_in memory bad store s x) s.entries (scalars_in s r) (length memory)) c) b e)

  pub ran_by : {m bd st ls ps ws : List ℕ} (k : Lists) (fs answers : List ℕ) (t : Scalars) (made : ℕ) (held : List SlotBytes) (n : ℕ) (calls old : List ℕ)
      → leaves (machine_of k fs t (length memory)) answers made
      ≡ left_by (machine_of (lists_in memory bad store s bs) s.entries (scalars_in s r) (length memory)) (calls_in n calls 0) old
      → bytes_of held ≡ k.bytes → m ≡ k.memory → bd ≡ k.bad → st ≡ k.store → ls ≡ k.lines → ps ≡ k.pointers → ws ≡ k.words
      → ran_of m bd st answers (record {
        state = record {
          size = s.size;
          counts = t.counts;
          used = t.used;
          entries = fs;
          lines = ls;
          pointers = ps;
          words = ws;
          slots = held;
        };
        cp15 = t.cp15;
        made = made;
      })
      ≡ left_by (machine_in memory bad store s r) (calls_in n calls 0) old
  ran_by k fs answers t made held n calls old e g em eb es el ep ew =
      let a = acc in
      rw (em, eb, es, el, ep, ew, g, a.size) (subst (λ (x : List (List ℕ)). leaves (machine_of k fs t (length memory)) answers made
      ≡ left_by (machine_of (lists_in memory bad store s x) s.entries (scalars_in s r) (length memory)) (calls_in n calls 0) old) b e)
