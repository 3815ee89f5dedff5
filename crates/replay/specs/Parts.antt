-- The replay in parts: what a part does. A part may end anywhere, and so may the slice that is lent for the output: the bytes of a line that has not
-- ended, and bytes printed that the slice had no room for, are held until the next part.
use Rattle.std.specs.Prelude.{ℕ, ◌+◌, ◌-◌, ◌/◌, min, Bool, cond, ◌&&◌, List, ◌++◌, eqb, leb, length, take, drop}
use Rattle.printed.specs.Printed.{printed}
use Rattle.fields.specs.Parse.{parse, more}
use Rattle.batch.specs.Batch.{machine_after, parsed_answers}
pub use Rattle.held.specs.Held.{Held, held_from, Parted, parted_from, carried}
unfoldable pub use Rattle.held.specs.Held.{kept, start_replay, put_out, settled}

-- the bytes of the line that has not ended, and those that wait
abbrev pub begun_line : Held → List ℕ
begun_line h = take h.held h.begun

abbrev pub waiting_bytes : Held → List ℕ
waiting_bytes h = take h.waiting h.pending

-- At most so many lines are replayed in one part: where none is begun, as many as the slice has room for, 34 bytes a line, up to 1,024; else one.
abbrev pub lines_at_most : ℕ → ℕ → ℕ
lines_at_most held room = cond (eqb held 0 && leb 34 room) (min (room / 34) 1024) 1

-- how many of the bytes behind the lines are not taken: all, where more lines may come
abbrev pub left : ℕ → List ℕ → ℕ
left verdict behind = cond (eqb verdict more) (length behind) 0

-- the lines of the line begun and the part behind it
unfoldable pub replayed : Bool → ℕ → Held → List ℕ → List ℕ → Parted
replayed ends n h text out =
    let p = parse ends n (begun_line h ++ text) in
    let behind = drop p.end (begun_line h ++ text) in
    put_out (settled (machine_after h.machine p) h.lines p.made p.verdict behind)
    (printed (h.lines + 1) (parsed_answers h.machine p)) out (length text - left p.verdict behind)

-- A part of a text, with which the text `ends` or not. What waits is written first; behind a line that departed all is taken and nothing printed.
unfoldable pub part : Bool → Held → List ℕ → List ℕ → Parted
part ends h text out =
    cond (kept h.lines h.held h.waiting h.begun)
    (cond (eqb h.waiting 0)
    (cond (eqb h.stopped 0) (replayed ends (lines_at_most h.held (length out)) h text out) (parted_from h (length text) 0 out 0))
    (put_out h (waiting_bytes h) out 0))
    (parted_from h 0 0 out 3)
