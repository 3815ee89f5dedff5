-- "Each returns its number": the number of each refusal of "Refused calls, in checking order", and of document 02's 13 to 16; 0 where none is met.
use Rattle.std.specs.Prelude.{ℕ, Result, Ok, Err}
use Rattle.refusals.specs.declared.Refusal.{Refusal}
use Rattle.refusals.specs.declared.Refusal.TheVariants as refusals

abbrev pub number_of : Refusal → ℕ
number_of refusals.Memory = 1
number_of refusals.Store = 2
number_of refusals.State = 3
number_of refusals.Length = 4
number_of refusals.Count = 5
number_of refusals.Width = 6
number_of refusals.Value = 7
number_of refusals.User = 8
number_of refusals.Register = 9
number_of refusals.Operation = 10
number_of refusals.BigEndian = 11
number_of refusals.Control = 12
number_of refusals.Line = 13
number_of refusals.Text = 14
number_of refusals.Room = 15
number_of refusals.Map = 16

-- the number that a test of refusals answers
abbrev pub refusal_code : {A : Type 0} → Result A Refusal → ℕ
refusal_code (Ok x) = 0
refusal_code (Err r) = number_of r
