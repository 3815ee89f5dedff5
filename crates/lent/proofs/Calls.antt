-- A run over one call is the call.
use Prim.Native.Nat.{ℕ}
use mathlib.Core.Path.{◌≡◌}
use mathlib.Core.List.{[], ◌∷◌}
use lib.ListN.{get_or}
use Rattle.values.proofs.Cases.{case}
use Rattle.trace.specs.Calls.{is_call}
use Rattle.trace.specs.Fold.{Left, calls_in, answers_of, final_of, left_of}
use Rattle.step.specs.Run.{run}
use Rattle.lent.specs.Coded.{Coded, called_by}
use Rattle.machine.specs.Machine.{Machine}

-- what a run leaves of its machine and its first answer
abbrev pub coded_left : Left Machine → Coded
coded_left l = record { machine = l.machine; code = get_or l.answers 0 0 }

pub one_call : (m : Machine) (kind privileged n a v : ℕ)
    → coded_left (run m (kind ∷ privileged ∷ n ∷ a ∷ v ∷ []) (0x300000000 ∷ [])) ≡ called_by m kind privileged n a v
unfolding run calls_in left_of answers_of final_of called_by
one_call m kind privileged n a v =
    case (is_call kind privileged) (λ k. rw k) (λ k. rw k)
