-- What the code's record stands for.
use Rattle.std.specs.Prelude.{ℕ, List}
use Rattle.sa110.specs.State.{machine_in}
use Rattle.held.specs.Held.{Held, held_from, Parted, parted_from}
use Rattle.held.specs.declared.Replay.{Replay}
use Rattle.held.specs.declared.Part.{Part}

-- the record, with memory, map and cache store
abbrev pub held_of : List ℕ → List ℕ → List ℕ → Replay → Held
held_of memory bad store r = held_from (machine_in memory bad store r.state r.cp15) r.lines r.held r.waiting r.stopped r.begun r.pending

-- what a part leaves, with the lent lists
abbrev pub parted_of : List ℕ → List ℕ → List ℕ → List ℕ → Part → Parted
parted_of memory bad store out r = parted_from (held_of memory bad store r.replay) r.replay.taken r.replay.written out r.refusal
