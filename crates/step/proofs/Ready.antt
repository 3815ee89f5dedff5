-- What the code asks of the lent lists holds of a machine that refusals 1 to 4 do not hold of, once the call is counted.
use Prim.Native.Nat.{ℕ, ◌+◌, ◌*◌, ◌<◌, ◌≤◌}
use native.Mathlib.Omega.{arith}
use mathlib.Core.Bool.{true, ◌||◌}
use mathlib.Core.Path.{◌≡◌, refl, sym, ◌∙◌, ap, subst}
use mathlib.Core.List.{List, ◌∷◌}
use lib.ListN.{length, length-map, get_or}
use borrow.Author.Tests.{ne_eqb}
use Rattle.values.specs.Lists.{sum}
use Rattle.values.specs.Control.{kept}
use Rattle.values.specs.Empty.{empty_entry, empty_line}
use Rattle.values.specs.declared.Call.{Call}
use Rattle.values.specs.declared.Line.{Line}
use Rattle.values.specs.declared.Slot.{Slot}
use Rattle.values.specs.declared.Answer.TheVariants as answer
use Rattle.values.proofs.Cases.{case, clash}
use Rattle.values.proofs.Sums.{sum_out}
use Rattle.walk.specs.Ranges.{InRange}
use Rattle.tlb.specs.Packing.{entry_of, entries_of}
use Rattle.tlb.proofs.Packing.{entry_at}
use Rattle.buffer.proofs.Slots.{slot_at}
use Rattle.buffer.specs.Ranges.{Fits}
use Rattle.cache.specs.Dcache.{dirty_halves}
use Rattle.cache.specs.Packing.{line_of, lines_of}
use Rattle.cache.proofs.Lines.{line_at}
use Rattle.refusals.proofs.Rows.{rows_unmet}
use Rattle.soundness_test.specs.Meaning.{IsSound}
use Rattle.soundness_laws.proofs.TlbKept.{in_range}
use Rattle.soundness_laws.proofs.Reader.{sound_means}
use Rattle.step.specs.Meets.{state_meets, state_refusal, refusal}
use Rattle.step.proofs.StateRefusals.{not_state_refused, lengths_fit, state_numbered, refusal_rows}
use Rattle.step.specs.Call.{done, served}
use Rattle.step.specs.Code.{Serves}
use Rattle.refusals.specs.Refusals.{refusal_in, row5, call_rows}
use Rattle.machine.specs.declared.Outcome.{Outcome}
use Rattle.machine.specs.declared.Scalars.{Scalars}
use Rattle.machine.specs.Lists.{Lists, machine_of, stepped_of}
use Rattle.machine.specs.Ready.{TlbReady, SideReady, CleanReady}
use Rattle.machine.specs.Scalars.{with_counts, outcome_from}
use Rattle.machine.specs.Machine.{Machine}
use Rattle.values.specs.Counts.{count_limit, counted}

-- the scalars with another call
abbrev pub counted_by : Scalars → Scalars
counted_by s = with_counts s (counted s.counts)

-- an empty entry is in range
empty_ranged : InRange empty_entry
empty_ranged =
    record {
      size = omega arith;
      domain = omega arith;
      aps = omega arith;
      vbase = refl;
      vbase_low = omega arith;
      pbase = refl;
      pbase_low = omega arith;
      section = λ e. refl;
      large = λ e. refl;
    }

-- a dirty line's halves are among all
some_halves : (ls : List Line) (i : ℕ) → dirty_halves (get_or ls i empty_line) ≤ sum dirty_halves ls
some_halves ls i = let e = sum_out dirty_halves ls i empty_line empty_line refl refl in omega arith

module _ (l : Lists) (es : List ℕ) (s : Scalars) (n : ℕ) (k : Serves (machine_of l es s n)) where
  is : IsSound (machine_of l es s n)
  is = sound_means (machine_of l es s n) k.formed.lines_long k.is_sound

  entry_ranged : (i : ℕ) → InRange (entry_of (get_or es i 0))
  entry_ranged i =
      let x = is in
      subst InRange (entry_at es i)
      (case (get_or (entries_of es) i empty_entry).valid
      (λ v.
      in_range (get_or (entries_of es) i empty_entry) (record {
        size = x.entry_size i v;
        vbase = x.entry_vbase i v;
        pbase = x.entry_pbase i v;
        vbase_low = x.entry_vbase_low i v;
        pbase_low = x.entry_pbase_low i v;
        domain = x.entry_domain i v;
        aps = x.entry_aps i v;
      }))
      (λ v. subst InRange (sym (x.entry_empty_lem i v)) empty_ranged))

  line_inside : (i : ℕ) → (line_of (get_or l.lines i 0)).valid ≡ true → (line_of (get_or l.lines i 0)).frame * 32 + 32 ≤ length l.memory
  line_inside i v =
      let w : (get_or (lines_of l.lines) i empty_line).valid ≡ true = ap (λ (y : Line). y.valid) (line_at l.lines i) ∙ v in
      subst (λ (y : Line). y.frame * 32 + 32 ≤ length l.memory) (line_at l.lines i) (is.line_inside i w)

  -- a dirty line is valid: an empty place is all zeros
  line_dirty : (i : ℕ) → ((line_of (get_or l.lines i 0)).low || (line_of (get_or l.lines i 0)).high) ≡ true → (line_of (get_or l.lines i 0)).valid ≡ true
  line_dirty i d =
      subst (λ (y : Line). (y.low || y.high) ≡ true → y.valid ≡ true) (line_at l.lines i)
      (λ t.
      case (get_or (lines_of l.lines) i empty_line).valid
      (λ v. v)
      (λ v. clash t (ap (λ (y : Line). y.low || y.high) (is.line_empty_lem i v)))) d

  halves_room : s.counts.calls < count_limit → (i : ℕ) → s.counts.halves + dirty_halves (line_of (get_or l.lines i 0)) ≤ count_limit
  halves_room low i =
      let h = is.halves in
      let g = some_halves (lines_of l.lines) i in
      let e = ap dirty_halves (line_at l.lines i) in
      omega arith

  pub fits_all : length l.words ≡ 8 → length l.bytes ≡ 8 → Fits l.memory l.words l.bytes s.used
  fits_all w b =
      let x = is in
      record {
        words_long = w;
        bytes_long = b;
        used_low = x.used;
        inside = λ i h.
            let g : i < 8 = let u = x.used in omega arith in
            let f = x.slot_inside i h (let e = k.formed.slots_long in omega arith) in
            subst (λ (y : Slot). y.block * 16 + 16 ≤ length l.memory) (slot_at l.words l.bytes i (w ∙ sym b)) f;
      }

  -- what a clean asks of the data side
  clean_ready : s.counts.calls < count_limit → Fits l.memory l.words l.bytes s.used
      → CleanReady l.memory l.words l.bytes l.lines l.store s
  clean_ready low f =
      record {
        fits = f;
        lines_long = sym (length-map l.lines line_of) ∙ k.formed.lines_long;
        store_long = k.formed.store_long;
        short = k.formed.memory_short;
        lines_inside = λ i h. line_inside i;
        halves = λ i h. halves_room low i;
      }

  entries_all : length es ≡ 32
  entries_all = sym (length-map es entry_of) ∙ k.formed.entries_long

  -- what a CP15 write asks
  pub write_ready : length l.words ≡ 8 → length l.bytes ≡ 8
      → (length es ≡ 32) × (length l.bytes ≡ 8)
      × (s.counts.calls < count_limit → CleanReady l.memory l.words l.bytes l.lines l.store s)
  write_ready w b = (entries_all, b, λ low. clean_ready low (fits_all w b))

  module _ (low : s.counts.calls < count_limit) where
    pub tlb_ready : TlbReady es (counted_by s)
    tlb_ready =
        let x = is in
        record {
          entries_long = entries_all;
          entries_ranged = λ i h. entry_ranged i;
          pointer = let h = x.pointer in omega arith;
          base = let h = x.base in omega arith;
          misses = let h = x.misses in omega arith;
        }

    pub side_ready : Fits l.memory l.words l.bytes s.used → SideReady l (counted_by s)
    side_ready f =
        let x = is in
        record {
          fits = f;
          lines_long = sym (length-map l.lines line_of) ∙ k.formed.lines_long;
          pointers_long = k.formed.pointers_long;
          store_long = k.formed.store_long;
          whole = k.formed.memory_lines;
          short = k.formed.memory_short;
          pointers_low = λ i h. let g = x.pointers i in omega arith;
          lines_inside = λ i h. line_inside i;
          lines_dirty = λ i h. line_dirty i;
          hits = let g = x.hits in omega arith;
          fills = let g = x.fills in omega arith;
          halves = λ i h. halves_room low i;
        }

  pub control_low : s.cp15.registers.control < 0x2000
  unfolding kept
  control_low = let h = is.control in omega arith

  -- ---- refusals 5 to 12

  abbrev here : Machine
  here = machine_of l es s n

  no_state_refusal : refusal_in (state_meets here) ≡ 0
  unfolding state_refusal
  no_state_refusal =
      let f = k.formed in
      sym (not_state_refused here (lengths_fit (length l.memory) f.memory_lines f.memory_short) f.store_long k.is_sound k.size k.map_fits_lem)

  module _ (c : Call) (x : ℕ) (e : x ≡ refusal_in (row5 s.counts.calls ∷ call_rows c)) where
    by_later : refusal here c ≡ x
    by_later = refusal_rows here c ∙ rows_unmet (state_meets here) (row5 s.counts.calls ∷ call_rows c) (state_numbered here) no_state_refusal ∙ sym e

    pub refused_by_lem : (x ≡ 0 → ⊥) → (o : Outcome) → o ≡ outcome_from s (answer.Refused x) → stepped_of l es n o ≡ served here c
    unfolding served
    refused_by_lem z o e' = ap (λ (y : Outcome). stepped_of l es n y) e' ∙ rw (by_later, ne_eqb x 0 z)

    pub not_refused : x ≡ 0 → served here c ≡ done (machine_of l es (counted_by s) n) c
    unfolding served
    not_refused z = rw (by_later, z)

-- another call leaves what a clean asks as it is
pub clean_counted : (memory words : List ℕ) (bytes : List (List ℕ)) (lines store : List ℕ) (s : Scalars)
    → CleanReady memory words bytes lines store s → CleanReady memory words bytes lines store (counted_by s)
clean_counted memory words bytes lines store s r =
    record {
      fits = r.fits;
      lines_long = r.lines_long;
      store_long = r.store_long;
      short = r.short;
      lines_inside = r.lines_inside;
      halves = r.halves;
    }
