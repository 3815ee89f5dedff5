-- The start call.
use Rattle.std.specs.Prelude.{ℕ, cond, List, eqb, length}
use Rattle.machine.specs.Machine.{Machine, fresh}
use Rattle.step.specs.Meets.{start_refusal}

pub record Started : Type 0 where
  pub machine : Machine
  -- the refusal's number, 0 where the start is served
  pub refusal : ℕ

abbrev pub started_from : Machine → ℕ → Started
started_from m n = record { machine = m; refusal = n }

-- "A start call makes a fresh state". "Each returns its number with value 0 (the start a state all zeros) and changes nothing."
-- The start is lent no map: `bad` is any that later calls are lent.
unfoldable pub started : List ℕ → List ℕ → List ℕ → Started
started memory bad store =
    let n = start_refusal memory store in
    started_from (fresh (cond (eqb n 0) (length memory) 0) memory bad store) n
