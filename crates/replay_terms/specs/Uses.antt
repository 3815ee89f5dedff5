-- Parts do not matter: whatever parts a text is taken in, and however long the slices are that are lent for the output, what is printed is the same.
use Rattle.std.specs.Prelude.{ℕ, ◌+◌, ◌≤◌, Bool, true, cond, ◌&&◌, ◌≡◌, List, [], ◌∷◌, ◌++◌, eqb, leb, length, take, drop, replicate}
use Rattle.fields.specs.Lines.{lines_of}
use Rattle.soundness_test.specs.Formed.{Formed}
use Rattle.step.specs.Meets.{state_refusal}
use Rattle.step.specs.Start.{started}
use Rattle.step.specs.Run.{next, answered}
use Rattle.batch.specs.Batch.{lines_limit}
use Rattle.replay.specs.Replay.{prints, replay_from, zero_machine, replay}
use Rattle.replay.specs.Parts.{Held, begun_line, waiting_bytes, kept, Parted, start_replay, part}

-- A use of a part: how many of the bytes still to be taken are offered, whether the caller tells that the text ends, and the slice lent for the output.
pub record Use : Type 0 where
  pub offered : ℕ
  pub told : Bool
  pub slice : List ℕ

-- The text ends with a part where the caller tells so and all that is left is offered.
abbrev pub ends_with : Use → List ℕ → Bool
ends_with u left = u.told && leb (length left) u.offered

-- one use of a part, with so much of a text left to be taken
abbrev pub used : Held → List ℕ → Use → Parted
used h left u = part (ends_with u left) h (take u.offered left) u.slice

-- the bytes that a part wrote: those at the front of the slice
abbrev pub wrote : Parted → List ℕ
wrote r = take r.written r.out

-- what uses leave: what is held, what is left of the text, and all that was written
pub record Fed : Type 0 where
  pub replay : Held
  pub left : List ℕ
  pub written : List ℕ

abbrev pub fed_from : Held → List ℕ → List ℕ → Fed
fed_from replay left written = record { replay = replay; left = left; written = written }

-- bytes written before the others
abbrev pub behind_written : List ℕ → Fed → Fed
behind_written bytes f = fed_from f.replay f.left (bytes ++ f.written)

-- uses one after another: each gets what the one before it holds, and the text from where that one stopped taking it
unfoldable pub fed : Held → List ℕ → List Use → Fed
fed h left [] = fed_from h left []
fed h left (u ∷ us) = let r = used h left u in behind_written (wrote r) (fed r.replay (drop r.taken left) us)

-- What is still to be printed: the bytes that wait, and what the line begun and the rest of the text print. "the replay stops there": nothing, behind a line
-- that departed.
unfoldable pub to_print : Held → List ℕ → List ℕ
to_print h left =
    waiting_bytes h ++ cond (eqb h.stopped 0) (prints next answered h.machine (h.lines + 1) (begun_line h ++ left)) []

-- ---- what is stated of them

-- For what is held at any time, any text and any uses: what was written, and what is then to be printed, is what was to be printed.
abbrev pub PartsAgree : Type 0
PartsAgree =
    (h : Held) (text : List ℕ) (us : List Use)
    → (fed h text us).written ++ to_print (fed h text us).replay (fed h text us).left ≡ to_print h text

-- nothing is held: no line was replayed, none is begun or has departed, and no bytes wait
pub record NothingHeld (h : Held) : Type 0 where
  pub no_lines_lem : h.lines ≡ 0
  pub none_begun : h.held ≡ 0
  pub none_waiting : h.waiting ≡ 0
  pub not_stopped : h.stopped ≡ 0

-- all is done: nothing is left to be taken, no bytes wait, and a line departed or no line is begun
pub record AllDone (f : Fed) : Type 0 where
  pub none_left : f.left ≡ []
  pub none_waiting : f.replay.waiting ≡ 0
  pub stopped_or_ended : f.replay.stopped ≡ 0 → f.replay.held ≡ 0

-- Uses that start with nothing held, and after which all is done, have written what the whole text prints.
abbrev pub AllPrinted : Type 0
AllPrinted =
    (h : Held) (text : List ℕ) (us : List Use) → NothingHeld h → AllDone (fed h text us) → (fed h text us).written ≡ replay_from h.machine text

-- the bytes that wait are there (the code holds 64 bytes, and at most 64 wait)
abbrev pub WaitingThere : Held → Type 0
WaitingThere h = h.waiting ≤ length h.pending

-- what is held passes the test that a part makes of it, else the part is refused
abbrev pub IsKept : Held → Type 0
IsKept h = kept h.lines h.held h.waiting h.begun ≡ true

-- a use that offers all that is left, tells that the text ends and lends some room, and of which nothing comes
pub record NothingComes (h : Held) (left : List ℕ) (u : Use) : Type 0 where
  pub ends : ends_with u left ≡ true
  pub room : 1 ≤ length u.slice
  pub none_taken : (used h left u).taken ≡ 0
  pub none_written : (used h left u).written ≡ 0

-- A part goes on where something is left to be done: where nothing comes, nothing is to be printed.
abbrev pub GoesOn : Type 0
GoesOn = (h : Held) (left : List ℕ) (u : Use) → IsKept h → WaitingThere h → NothingComes h left u → to_print h left ≡ []

-- So it is enough to repeat the last part until nothing comes: if that part is not refused, all has been written that the whole text prints.
abbrev pub Repeated : Type 0
Repeated =
    (h : Held) (text : List ℕ) (us : List Use) (u : Use) → NothingHeld h → NothingComes (fed h text us).replay (fed h text us).left u
    → (used (fed h text us).replay (fed h text us).left u).refusal ≡ 0 → (fed h text us).written ≡ replay_from h.machine text

-- what is held passes the test, and its machine has its shape, as the code's types give it, or refuses every call
pub record Well (h : Held) : Type 0 where
  pub is_kept : IsKept h
  pub formed : state_refusal h.machine ≡ 0 → Formed h.machine

-- what a part leaves passes the test, and the part is not refused
pub record StaysWell (r : Parted) : Type 0 where
  pub well : Well r.replay
  pub not_refused : r.refusal ≡ 0

-- so it is behind each part, up to the limit of lines
abbrev pub StaysKept : Type 0
StaysKept = (h : Held) (left : List ℕ) (u : Use) → Well h → (used h left u).replay.lines ≤ lines_limit → StaysWell (used h left u)

-- and at the start
abbrev pub StartsWell : Type 0
StartsWell = (h : Held) → NothingHeld h → h.machine ≡ zero_machine → Well h

-- A start holds nothing, on the machine that the library's start makes; on 65,536 zero bytes with a map and a cache store of zeros that is the replay's.
pub record Begins (memory bad store : List ℕ) : Type 0 where
  pub nothing_held : NothingHeld (start_replay memory bad store).replay
  pub machine : (start_replay memory bad store).replay.machine ≡ (started memory bad store).machine

abbrev pub StartBegins : Type 0
StartBegins = (memory bad store : List ℕ) → Begins memory bad store

-- how many lines there are in all: those replayed, and those of the line begun and the rest of the text, unless a line departed
unfoldable pub lines_in_all : Held → List ℕ → ℕ
lines_in_all h left = h.lines + cond (eqb h.stopped 0) (length (lines_of (begun_line h ++ left))) 0

-- So no part of a text is refused, up to the limit of lines, in whatever parts it is taken.
abbrev pub NeverRefused : Type 0
NeverRefused =
    (h : Held) (text : List ℕ) → Well h → lines_in_all h text ≤ lines_limit
    → (us : List Use) (u : Use) → (used (fed h text us).replay (fed h text us).left u).refusal ≡ 0

-- And a caller who starts with nothing held on 65,536 zero bytes, and repeats the last part until nothing comes, has written what the definition says that the
-- text prints.
abbrev pub ReplayWhole : Type 0
ReplayWhole =
    (h : Held) (text : List ℕ) (us : List Use) (u : Use) → NothingHeld h → h.machine ≡ zero_machine → length (lines_of text) ≤ lines_limit
    → NothingComes (fed h text us).replay (fed h text us).left u → (fed h text us).written ≡ replay text

-- The last part repeated, some number of times, until nothing comes: no more often than there are bytes left to be taken and to be printed.
pub record ComesToAnEnd (h : Held) (left : List ℕ) (u : Use) : Type 0 where
  pub times : ℕ
  pub at_most : times ≤ length left + length (to_print h left)
  pub nothing : NothingComes (fed h left (replicate times u)).replay (fed h left (replicate times u)).left u

-- A use that tells that the text ends, offers all that is left and lends some room can be repeated until nothing comes.
abbrev pub Ends : Type 0
Ends = (h : Held) (left : List ℕ) (u : Use) → u.told ≡ true → length left ≤ u.offered → 1 ≤ length u.slice → ComesToAnEnd h left u
