-- The contracts that the stops speak of are the contracts of the exported functions, as the sources of crate `text_lent` have them. Each holds by
-- computation, and no longer where a contract changes.
use mathlib.Core.Path.{◌≡◌, refl}
use seplogic.Ra.Ura.{Ura}
use base.Logic.{SProp}
use prog.Memory.{Memory}
use prog.Routine.{Routine}
use types.Logic.{Logic}
use contract.Monad.{Fun}
use contract.Notation as notation
use contract.Lifetimes.{Lfts}
use denote.Triple.Entry.{Args, Res}
use denote.Triple.Spec.{exits}
use mathlib.Core.List.{List}
use Prim.Native.Nat.{ℕ}
use Rattle.text_lent.specs.contracts.sa110_store_text as store-text
use Rattle.text_lent.specs.contracts.sa110_read_text as read_text
use Rattle.text_terms.specs.Stops.{Stores, Reads}

module _ {M : Type 1} {𝓤 : Ura M} (𝓛 : Logic 𝓤) (mem : Memory → SProp 𝓤) (code : Routine → Fun 𝓤) where
  open notation.connectives 𝓤 use {⌜◌⌝, ⊤ₛ}

  -- on any map and cache store, which the function is not lent
  pub store_text_contract : (κs : Lfts 4) (a : Args store-text.signature κs) (r : Res store-text.signature κs) (bad store : List ℕ)
      → ((store-text.spec 𝓛 mem code κs a).requires tt ≡ ⊤ₛ)
      × ((store-text.spec 𝓛 mem code κs a).ensures tt r
      ≡ exits 𝓛 store-text.signature (store-text.ended).kept κs a
      (λ e. ⌜ Stores (record { memory = a.1.1.0.now; bad = bad; store = store; state = a.0.now; cp15 = a.1.0.now }) a.1.1.1.0.now
      e.1.1.1.0.now r ⌝))
  store_text_contract κs a r bad store = (refl, refl)

  pub read_text_contract : (κs : Lfts 4) (a : Args read_text.signature κs) (r : Res read_text.signature κs)
      → ((read_text.spec 𝓛 mem code κs a).requires tt ≡ ⊤ₛ)
      × ((read_text.spec 𝓛 mem code κs a).ensures tt r
      ≡ exits 𝓛 read_text.signature (read_text.ended).kept κs a
      (λ e. ⌜ Reads a.1.1.0.now a.1.1.1.0.now e.0.now e.1.0.now r ⌝))
  read_text_contract κs a r = (refl, refl)
