-- What a clean and a fill leave, by what their parts leave.
use Rattle.std.specs.Prelude.{Some}
use Prim.Native.Nat.{ℕ, ◌+◌, ◌*◌}
use mathlib.Core.Bool.{true, false}
use mathlib.Core.Path.{◌≡◌, sym, ◌∙◌, ap}
use mathlib.Core.List.{List}
use lib.ListN.{get_or, set}
use Rattle.values.specs.Empty.{empty_line}
use Rattle.values.specs.Addresses.{set_of, tag_of, physical_line}
use Rattle.values.specs.declared.VirtualAddress.{VirtualAddress}
use Rattle.values.specs.declared.PhysicalAddress.{PhysicalAddress}
use Rattle.values.specs.declared.Line.{Line}
use Rattle.values.proofs.Maps.{map_set}
use Rattle.bus.specs.Physical.{line_aborts}
use Rattle.buffer.specs.Buffer.{Backing, physical_behind, ready}
use Rattle.buffer.specs.Packing.{backing_of}
use Rattle.buffer.specs.Ranges.{Left}
use Rattle.cache.specs.Dcache.{Side, halves_sent, dirty_halves, clean_line, fresh_line, cleaned_at, copied, victim, turned, gave_way, line_read, filled}
use Rattle.cache.specs.Packing.{line_of, lines_of, side_of, SentIs}
use Rattle.cache.proofs.Lines.{line_zero, line_at}
use Rattle.cache.specs.Dcache.{side_from}
use Rattle.cache.specs.Dcache.{dcache_from}

module _ (m bad ws : List ℕ) (bs : List (List ℕ)) (used : ℕ) (lines pointers store : List ℕ) where
  -- a line replaced by the line that a word stands for
  lines_with : (i w : ℕ) (l : Line) → line_of w ≡ l → lines_of (set lines i w) ≡ set (lines_of lines) i l
  lines_with i w l e = map_set line_of lines i w ∙ ap (λ (x : Line). set (lines_of lines) i x) e

  pub clean_left : (i : ℕ) (l : Line) → l ≡ line_of (get_or lines i 0) → (m' ws' : List ℕ) (bs' : List (List ℕ)) (n : ℕ)
      → Left m' bad ws' bs' n (halves_sent (backing_of m bad ws bs used) l store (i * 32)) → (w h : ℕ) → line_of w ≡ clean_line (line_of (get_or lines i 0))
      → h ≡ dirty_halves l → SentIs m' bad ws' bs' n (set lines i w) pointers store h (cleaned_at (side_of m bad ws bs used lines pointers store) (Some i))
  unfolding cleaned_at
  clean_left i l e m' ws' bs' n o w h ew eh =
      let q : get_or (lines_of lines) i empty_line ≡ l = line_at lines i ∙ sym e in
      let s : lines_of (set lines i w) ≡ set (lines_of lines) i (clean_line l) = lines_with i w (clean_line l) (ew ∙ ap clean_line (sym e)) in
      rw q
      (record {
        side =
            ap (λ (x : List Line). (side_from (dcache_from x pointers store) (backing_of m' bad ws' bs' n))) s
            ∙ ap (λ (b : Backing). (side_from (dcache_from (set (lines_of lines) i (clean_line l)) pointers store) b)) o.same;
        count = eh;
        fits = o.fits;
      })

  -- the victim's halves have gone out, the buffer is ready, the place is empty, the pointer has stepped
  pub way_left : (va : VirtualAddress) (pa : PhysicalAddress) (i : ℕ) → i ≡ set_of va * 32 + get_or pointers (set_of va) 0
      → (l : Line) → l ≡ line_of (get_or lines i 0) → (b : Backing) → b ≡ halves_sent (backing_of m bad ws bs used) l store (i * 32)
      → (m' ws' : List ℕ) (bs' : List (List ℕ)) (n : ℕ) → Left m' bad ws' bs' n (ready b (physical_line pa * 32) 32)
      → (h : ℕ) → h ≡ dirty_halves l
      → SentIs m' bad ws' bs' n (set lines i 0) (turned pointers (set_of va)) store h (gave_way (side_of m bad ws bs used lines pointers store) va pa)
  unfolding gave_way
  way_left va pa i ei l e b eb m' ws' bs' n o h eh =
      let q : get_or (lines_of lines) i empty_line ≡ l = line_at lines i ∙ sym e in
      let s : lines_of (set lines i 0) ≡ set (lines_of lines) i empty_line = lines_with i 0 empty_line line_zero in
      rw (← ei, q, ← eb)
      (record {
        side =
            ap (λ (x : List Line). (side_from (dcache_from x (turned pointers (set_of va)) store) (backing_of m' bad ws' bs' n))) s
            ∙ ap (λ (x : Backing). (side_from (dcache_from (set (lines_of lines) i empty_line) (turned pointers (set_of va)) store) x)) o.same;
        count = eh;
        fits = o.fits;
      })

-- a fill of which a word aborts leaves the place empty
pub fill_aborted : (s : Side) (va : VirtualAddress) (pa : PhysicalAddress) → line_aborts (physical_behind s.backing) pa ≡ true → filled s va pa
    ≡ gave_way s va pa
unfolding filled
fill_aborted s va pa h = rw h

-- else the line is read
pub fill_left : (m bad ws : List ℕ) (bs : List (List ℕ)) (used : ℕ) (lines pointers store : List ℕ) (s : Side) (va : VirtualAddress) (pa : PhysicalAddress)
    (h : ℕ) → SentIs m bad ws bs used lines pointers store h (gave_way s va pa) → line_aborts (physical_behind s.backing) pa ≡ false
    → (i : ℕ) → i ≡ victim s.cache va → (w : ℕ) → line_of w ≡ fresh_line (tag_of va) (physical_line pa)
    → SentIs m bad ws bs used (set lines i w) pointers (copied store (i * 32) m (physical_line pa * 32) 32) h (filled s va pa)
unfolding filled line_read
fill_left m bad ws bs used lines pointers store s va pa h o a i ei w ew =
    rw (a, ← ei)
    (record {
      side =
          ap (λ (x : List Line). (side_from (dcache_from x pointers (copied store (i * 32) m (physical_line pa * 32) 32)) (backing_of m bad ws bs used)))
          (map_set line_of lines i w ∙ ap (λ (x : Line). set (lines_of lines) i x) ew)
          ∙ ap (λ (x : Side). (side_from (dcache_from (set x.cache.lines i (fresh_line (tag_of va) (physical_line pa))) x.cache.pointers
          (copied x.cache.store (i * 32) x.backing.memory (physical_line pa * 32) 32)) x.backing)) o.side;
      count = o.count;
      fits = o.fits;
    })
