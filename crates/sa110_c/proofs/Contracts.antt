-- The contract of each exported function is the contract of the library's function of that name, of which the theorems speak: it requires and ensures
-- the same of arguments, result and what is lent. Each holds by computation, and no longer where a clause changes on one side alone.
use mathlib.Core.Path.{◌≡◌, refl}
use seplogic.Ra.Ura.{Ura}
use base.Logic.{SProp}
use prog.Memory.{Memory}
use prog.Routine.{Routine}
use types.Logic.{Logic}
use contract.Monad.{Fun}
use contract.Lifetimes.{Lfts}
use denote.Triple.Entry.{Args}
use Rattle.lent.specs.contracts.sa110_start as of_start
use Rattle.sa110_c.specs.contracts.sa110_start as start
use Rattle.lent.specs.contracts.sa110_call as of_call
use Rattle.sa110_c.specs.contracts.sa110_call as call
use Rattle.lent.specs.contracts.sa110_run as of_run
use Rattle.sa110_c.specs.contracts.sa110_run as run
use Rattle.inspect.specs.contracts.sa110_look as of_look
use Rattle.sa110_c.specs.contracts.sa110_look as look
use Rattle.inspect.specs.contracts.sa110_sound as of_sound
use Rattle.sa110_c.specs.contracts.sa110_sound as sound
use Rattle.host.specs.contracts.sa110_right as of_right
use Rattle.sa110_c.specs.contracts.sa110_right as right
use Rattle.host.specs.contracts.sa110_rights_table as of_rights_table
use Rattle.sa110_c.specs.contracts.sa110_rights_table as rights_table
use Rattle.host.specs.contracts.sa110_walk as of_walk
use Rattle.sa110_c.specs.contracts.sa110_walk as walk
use Rattle.host.specs.contracts.sa110_plain_run as of_plain_run
use Rattle.sa110_c.specs.contracts.sa110_plain_run as plain_run
use Rattle.replay_lent.specs.contracts.sa110_replay as of_replay
use Rattle.sa110_c.specs.contracts.sa110_replay as replay
use Rattle.text_lent.specs.contracts.sa110_store_text as of_store_text
use Rattle.sa110_c.specs.contracts.sa110_store_text as store_text
use Rattle.text_lent.specs.contracts.sa110_read_text as of_read_text
use Rattle.sa110_c.specs.contracts.sa110_read_text as read_text

module _ {M : Type 1} {𝓤 : Ura M} (𝓛 : Logic 𝓤) (mem : Memory → SProp 𝓤) (code : Routine → Fun 𝓤) where
  pub start_exported : (κs : Lfts 4) (a : Args start.signature κs) → start.spec 𝓛 mem code κs a ≡ of_start.spec 𝓛 mem code κs a
  start_exported κs a = refl

  pub call_exported : (κs : Lfts 5) (a : Args call.signature κs) → call.spec 𝓛 mem code κs a ≡ of_call.spec 𝓛 mem code κs a
  call_exported κs a = refl

  pub run_exported : (κs : Lfts 7) (a : Args run.signature κs) → run.spec 𝓛 mem code κs a ≡ of_run.spec 𝓛 mem code κs a
  run_exported κs a = refl

  pub look_exported : (κs : Lfts 5) (a : Args look.signature κs) → look.spec 𝓛 mem code κs a ≡ of_look.spec 𝓛 mem code κs a
  look_exported κs a = refl

  pub sound_exported : (κs : Lfts 2) (a : Args sound.signature κs) → sound.spec 𝓛 mem code κs a ≡ of_sound.spec 𝓛 mem code κs a
  sound_exported κs a = refl

  pub right_exported : (κs : Lfts 0) (a : Args right.signature κs) → right.spec 𝓛 mem code κs a ≡ of_right.spec 𝓛 mem code κs a
  right_exported κs a = refl

  pub rights_table_exported : (κs : Lfts 1) (a : Args rights_table.signature κs) → rights_table.spec 𝓛 mem code κs a ≡ of_rights_table.spec 𝓛 mem code κs a
  rights_table_exported κs a = refl

  pub walk_exported : (κs : Lfts 2) (a : Args walk.signature κs) → walk.spec 𝓛 mem code κs a ≡ of_walk.spec 𝓛 mem code κs a
  walk_exported κs a = refl

  pub plain_run_exported : (κs : Lfts 4) (a : Args plain_run.signature κs) → plain_run.spec 𝓛 mem code κs a ≡ of_plain_run.spec 𝓛 mem code κs a
  plain_run_exported κs a = refl

  pub replay_exported : (κs : Lfts 6) (a : Args replay.signature κs) → replay.spec 𝓛 mem code κs a ≡ of_replay.spec 𝓛 mem code κs a
  replay_exported κs a = refl

  pub store_text_exported : (κs : Lfts 4) (a : Args store_text.signature κs) → store_text.spec 𝓛 mem code κs a ≡ of_store_text.spec 𝓛 mem code κs a
  store_text_exported κs a = refl

  pub read_text_exported : (κs : Lfts 4) (a : Args read_text.signature κs) → read_text.spec 𝓛 mem code κs a ≡ of_read_text.spec 𝓛 mem code κs a
  read_text_exported κs a = refl
