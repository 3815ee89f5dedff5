-- What a replay holds between two parts of a text, and what a part leaves; the start, bytes put out, and what is held behind lines.
use Rattle.std.specs.Prelude.{ℕ, ◌+◌, ◌-◌, min, Bool, cond, not, ◌&&◌, List, [], ◌++◌, eqb, leb, length, take, drop}
use Rattle.values.specs.Lists.{any}
use Rattle.fields.specs.Parse.{open_line}
use Rattle.machine.specs.Machine.{Machine}
use Rattle.step.specs.Start.{started}
use Rattle.pieces.specs.Pieces.{padded, is_feed}
use Rattle.batch.specs.Batch.{lines_limit, stops}

-- What is held: the machine, how many lines were replayed, how many bytes at the front of `begun` are of a line that has not ended, how many at the front of
-- `pending` wait to be written, and whether a line has departed (not 0).
pub record Held : Type 0 where
  pub machine : Machine
  pub lines : ℕ
  pub held : ℕ
  pub waiting : ℕ
  pub stopped : ℕ
  pub begun : List ℕ
  pub pending : List ℕ

abbrev pub held_from : Machine → ℕ → ℕ → ℕ → ℕ → List ℕ → List ℕ → Held
held_from machine lines held waiting stopped begun pending =
    record { machine = machine; lines = lines; held = held; waiting = waiting; stopped = stopped; begun = begun; pending = pending }

-- what a part asks of the fields: those lines at most, fewer than 64 bytes of a line and no line feed among them, and no more bytes that wait than 64
unfoldable pub kept : ℕ → ℕ → ℕ → List ℕ → Bool
kept lines held waiting begun =
    leb lines lines_limit && (leb held 63 && (leb waiting 64 && not (any is_feed (take held begun))))

-- what a part leaves: what is held, how much of the text was taken and how much of the slice written, the slice, and its refusal: 3, or that of a start
pub record Parted : Type 0 where
  pub replay : Held
  pub taken : ℕ
  pub written : ℕ
  pub out : List ℕ
  pub refusal : ℕ

abbrev pub parted_from : Held → ℕ → ℕ → List ℕ → ℕ → Parted
parted_from replay taken written out refusal = record { replay = replay; taken = taken; written = written; out = out; refusal = refusal }

-- a start: nothing is replayed, held or waiting
unfoldable pub start_replay : List ℕ → List ℕ → List ℕ → Parted
start_replay memory bad store =
    let s = started memory bad store in
    parted_from (held_from s.machine 0 0 0 0 (padded []) (padded [])) 0 0 [] s.refusal

-- Bytes are written at the front of the slice, as many as it holds; the others wait.
unfoldable pub put_out : Held → List ℕ → List ℕ → ℕ → Parted
put_out h bytes out taken =
    let n = min (length bytes) (length out) in
    parted_from (held_from h.machine h.lines h.held (length bytes - n) h.stopped h.begun (padded (drop n bytes))) taken n
    (take n bytes ++ drop n out) 0

-- what is carried over of the bytes behind the lines: a line that is not decided
abbrev pub carried : ℕ → List ℕ → List ℕ
carried verdict behind = cond (eqb verdict open_line) behind []

-- what is held behind lines, by how many were made and what comes behind them
unfoldable pub settled : Machine → ℕ → ℕ → ℕ → List ℕ → Held
settled m lines made verdict behind =
    held_from m (lines + made + stops verdict) (length (carried verdict behind)) 0 (stops verdict) (padded (carried verdict behind)) (padded [])
