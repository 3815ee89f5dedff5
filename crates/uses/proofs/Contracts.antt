-- The contracts that the chains of uses speak of are the contracts of the exported functions, as the sources of crates `lent` and `host` have them. `spec`
-- is what the source's `requires` and `ensures` say, and what the function is proved to meet: it requires nothing, and ensures this statement of
-- arguments, result and what is lent at its exit. Each holds by computation, and no longer where a contract changes.
use Prim.Native.Nat.{ℕ}
use mathlib.Core.Path.{◌≡◌, refl}
use mathlib.Core.List.{List}
use seplogic.Ra.Ura.{Ura}
use base.Logic.{SProp}
use prog.Memory.{Memory}
use prog.Routine.{Routine}
use types.Logic.{Logic}
use contract.Monad.{Fun}
use contract.Notation as notation
use contract.Lifetimes.{Lfts}
use denote.Triple.Entry.{Args, Res}
use denote.Triple.Spec.{exits}
use Rattle.lent.specs.contracts.sa110_start as start
use Rattle.lent.specs.contracts.sa110_call as call
use Rattle.lent.specs.contracts.sa110_run as run
use Rattle.host.specs.contracts.sa110_plain_run as plain-run
use Rattle.uses.specs.Uses.{Starts, one, many, Meets, PlainRuns}

module _ {M : Type 1} {𝓤 : Ura M} (𝓛 : Logic 𝓤) (mem : Memory → SProp 𝓤) (code : Routine → Fun 𝓤) where
  open notation.connectives 𝓤 use {⌜◌⌝, ⊤ₛ}

  -- state, record, memory and, behind a map in two of them, store are the first arguments of three of them
  pub start_contract : (bad : List ℕ) (κs : Lfts 4) (a : Args start.signature κs) (r : Res start.signature κs)
      → ((start.spec 𝓛 mem code κs a).requires tt ≡ ⊤ₛ)
      × ((start.spec 𝓛 mem code κs a).ensures tt r
      ≡ exits 𝓛 start.signature (start.ended).kept κs a
      (λ e. ⌜ Starts (record { memory = a.1.1.0.now; bad = bad; store = a.1.1.1.0.now; state = e.0.now; cp15 = e.1.0.now }) r ⌝))
  start_contract bad κs a r = (refl, refl)

  pub call_contract : (κs : Lfts 5) (a : Args call.signature κs) (r : Res call.signature κs)
      → ((call.spec 𝓛 mem code κs a).requires tt ≡ ⊤ₛ)
      × ((call.spec 𝓛 mem code κs a).ensures tt r
      ≡ exits 𝓛 call.signature (call.ended).kept κs a
      (λ e. ⌜ Meets (record { memory = a.1.1.0.now; bad = a.1.1.1.0.now; store = a.1.1.1.1.0.now; state = a.0.now; cp15 = a.1.0.now })
      (one a.1.1.1.1.1.0 a.1.1.1.1.1.1.0 a.1.1.1.1.1.1.1.0 a.1.1.1.1.1.1.1.1.0 a.1.1.1.1.1.1.1.1.1.0 r
      (record { memory = e.1.1.0.now; bad = a.1.1.1.0.now; store = e.1.1.1.1.0.now; state = e.0.now; cp15 = e.1.0.now })) ⌝))
  call_contract κs a r = (refl, refl)

  pub run_contract : (κs : Lfts 7) (a : Args run.signature κs) (r : Res run.signature κs)
      → ((run.spec 𝓛 mem code κs a).requires tt ≡ ⊤ₛ)
      × ((run.spec 𝓛 mem code κs a).ensures tt r
      ≡ exits 𝓛 run.signature (run.ended).kept κs a
      (λ e. ⌜ Meets (record { memory = a.1.1.0.now; bad = a.1.1.1.0.now; store = a.1.1.1.1.0.now; state = a.0.now; cp15 = a.1.0.now })
      (many a.1.1.1.1.1.0.now a.1.1.1.1.1.1.0.now e.1.1.1.1.1.1.0.now r
      (record { memory = e.1.1.0.now; bad = a.1.1.1.0.now; store = e.1.1.1.1.0.now; state = e.0.now; cp15 = e.1.0.now })) ⌝))
  run_contract κs a r = (refl, refl)

  pub plain_run_contract : (κs : Lfts 4) (a : Args plain-run.signature κs) (r : Res plain-run.signature κs)
      → ((plain-run.spec 𝓛 mem code κs a).requires tt ≡ ⊤ₛ)
      × ((plain-run.spec 𝓛 mem code κs a).ensures tt r
      ≡ exits 𝓛 plain-run.signature (plain-run.ended).kept κs a
      (λ e. ⌜ PlainRuns a.0.now a.1.0.now a.1.1.0.now a.1.1.1.0.now e.0.now e.1.1.1.0.now r ⌝))
  plain_run_contract κs a r = (refl, refl)
