use mathlib.Core.Path.{◌∙◌, ap}
use Rattle.values.specs.Bits.{number}
use Rattle.inspect.proofs.sound_code.Goals as goal

pub returns : goal.returns
returns c = λ memory bad store e. c.bit_number.ensures.0 ∙ ap number (c.is_sound.ensures memory bad store e)
