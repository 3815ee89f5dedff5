-- The contracts that `same_exports` speaks of are those of `sa110_rights_table` and `sa110_right`, as the source of crate `host` has them; so is the
-- contract of `rights::table`, which gives the constant table. `spec` is what the source's `requires` and `ensures` say. Each holds by computation.
use mathlib.Core.Path.{◌≡◌, refl}
use seplogic.Ra.Ura.{Ura}
use base.Logic.{SProp}
use prog.Memory.{Memory}
use prog.Routine.{Routine}
use types.Logic.{Logic}
use contract.Monad.{Fun}
use contract.Notation as notation
use contract.Lifetimes.{Lfts}
use denote.Triple.Entry.{Args, Res}
use denote.Triple.Spec.{exits}
use Rattle.host.specs.contracts.sa110_rights_table as rights-table
use Rattle.host.specs.contracts.sa110_right as right
use Rattle.rights.specs.contracts.table as constant
use Rattle.rights.specs.Rights.{rights_table}
use Rattle.rights_terms.specs.SameTable.{Fills, Answers}

module _ {M : Type 1} {𝓤 : Ura M} (𝓛 : Logic 𝓤) (mem : Memory → SProp 𝓤) (code : Routine → Fun 𝓤) where
  open notation.connectives 𝓤 use {⌜◌⌝, ⊤ₛ}

  pub rights_table_contract : (κs : Lfts 1) (a : Args rights-table.signature κs) (r : Res rights-table.signature κs)
      → ((rights-table.spec 𝓛 mem code κs a).requires tt ≡ ⊤ₛ)
      × ((rights-table.spec 𝓛 mem code κs a).ensures tt r
      ≡ exits 𝓛 rights-table.signature (rights-table.ended).kept κs a (λ e. ⌜ Fills e.0.now ⌝))
  rights_table_contract κs a r = (refl, refl)

  pub right_contract : (κs : Lfts 0) (a : Args right.signature κs) (r : Res right.signature κs)
      → ((right.spec 𝓛 mem code κs a).requires tt ≡ ⊤ₛ)
      × ((right.spec 𝓛 mem code κs a).ensures tt r
      ≡ exits 𝓛 right.signature (right.ended).kept κs a (λ e. ⌜ Answers a.0 r ⌝))
  right_contract κs a r = (refl, refl)

  pub constant_contract : (κs : Lfts 0) (a : Args constant.signature κs) (r : Res constant.signature κs)
      → ((constant.spec 𝓛 mem code κs a).requires tt ≡ ⊤ₛ)
      × ((constant.spec 𝓛 mem code κs a).ensures tt r
      ≡ exits 𝓛 constant.signature (constant.ended).kept κs a (λ e. ⌜ r ≡ rights_table ⌝))
  constant_contract κs a r = (refl, refl)
