-- The contracts that the terms speak of are the contracts of `sa110::start`, `sa110::call`, `sa110::run` and `plain::run`, as their sources have them. `spec`
-- is what the source's `requires` and `ensures` say, and what the function is proved to meet: it requires nothing, and ensures this statement of
-- arguments, result and what is lent at its exit. Each holds by computation, and no longer where a contract changes.
use mathlib.Core.Path.{◌≡◌, refl}
use seplogic.Ra.Ura.{Ura}
use base.Logic.{SProp}
use prog.Memory.{Memory}
use prog.Routine.{Routine}
use types.Logic.{Logic}
use contract.Monad.{Fun}
use contract.Notation as notation
use contract.Lifetimes.{Lfts}
use denote.Triple.Entry.{Args, Res}
use denote.Triple.Spec.{exits}
use Rattle.sa110.specs.contracts.start as start
use Rattle.sa110.specs.contracts.call as call
use Rattle.sa110.specs.contracts.run as run
use Rattle.plain.specs.contracts.run as plain-run
use Rattle.terms.specs.Callers.{Starts, Calls, Runs}
use Rattle.terms.specs.Corollaries.{PlainCodeRun}

module _ {M : Type 1} {𝓤 : Ura M} (𝓛 : Logic 𝓤) (mem : Memory → SProp 𝓤) (code : Routine → Fun 𝓤) where
  open notation.connectives 𝓤 use {⌜◌⌝, ⊤ₛ}

  pub start_contract : (κs : Lfts 2) (a : Args start.signature κs) (r : Res start.signature κs)
      → ((start.spec 𝓛 mem code κs a).requires tt ≡ ⊤ₛ)
      × ((start.spec 𝓛 mem code κs a).ensures tt r
      ≡ exits 𝓛 start.signature (start.ended).kept κs a
      (λ e. ⌜ Starts a.0.now a.1.0.now r ⌝))
  start_contract κs a r = (refl, refl)

  -- state and record, by value, are the first two arguments
  pub call_contract : (κs : Lfts 3) (a : Args call.signature κs) (r : Res call.signature κs)
      → ((call.spec 𝓛 mem code κs a).requires tt ≡ ⊤ₛ)
      × ((call.spec 𝓛 mem code κs a).ensures tt r
      ≡ exits 𝓛 call.signature (call.ended).kept κs a
      (λ e. ⌜ Calls a.1.1.0.now a.1.1.1.0.now a.1.1.1.1.0.now a.0 a.1.0 a.1.1.1.1.1.0
      e.1.1.0.now e.1.1.1.1.0.now r ⌝))
  call_contract κs a r = (refl, refl)

  pub run_contract : (κs : Lfts 5) (a : Args run.signature κs) (r : Res run.signature κs)
      → ((run.spec 𝓛 mem code κs a).requires tt ≡ ⊤ₛ)
      × ((run.spec 𝓛 mem code κs a).ensures tt r
      ≡ exits 𝓛 run.signature (run.ended).kept κs a
      (λ e. ⌜ Runs a.1.1.0.now a.1.1.1.0.now a.1.1.1.1.0.now a.0 a.1.0 a.1.1.1.1.1.0.now
      a.1.1.1.1.1.1.0.now e.1.1.0.now e.1.1.1.1.0.now e.1.1.1.1.1.1.0.now r ⌝))
  run_contract κs a r = (refl, refl)

  pub plain_run_contract : (κs : Lfts 4) (a : Args plain-run.signature κs) (r : Res plain-run.signature κs)
      → ((plain-run.spec 𝓛 mem code κs a).requires tt ≡ ⊤ₛ)
      × ((plain-run.spec 𝓛 mem code κs a).ensures tt r
      ≡ exits 𝓛 plain-run.signature (plain-run.ended).kept κs a
      (λ e. ⌜ PlainCodeRun a.0.now a.1.0.now a.1.1.0.now a.1.1.1.0.now e.0.now e.1.1.1.0.now r ⌝))
  plain_run_contract κs a r = (refl, refl)
