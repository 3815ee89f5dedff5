-- "Marked cases (hexadecimal)": M1 to M12, as calls with what a machine answers, and the table of them for the library. "Memory 40000 bytes, table
-- base 4000, domain register 5 unless stated": `run_with` begins with these registers; M1 to M3 and M11, whose answers do not depend on them, with
-- those of a fresh start.
use Rattle.std.specs.Prelude.{ℕ, ◌-◌, ◌/◌, ◌%◌, Bool, true, false, List, [], ◌∷◌, ◌++◌, ◌≡◌, pos, negsuc, replicate}
use Rattle.values.specs.Addresses.{set_of, tag_of}
use Rattle.bus.specs.Physical.{no_bad_words}
use Rattle.values.specs.declared.VirtualAddress.{VirtualAddress}
use Rattle.values.specs.declared.Call.{Call}
use Rattle.values.specs.declared.Call.TheVariants.{Read, Write}
use Rattle.values.specs.declared.Call.TheVariants as calls
use Rattle.values.specs.declared.Kind.{Kind}
use Rattle.values.specs.declared.Kind.TheVariants.{Load, SignedLoad, Store}
use Rattle.values.specs.declared.Registers.{Registers}
use Rattle.values.specs.Registers.{zero_registers, with_control, with_base, with_domains}
use Rattle.values.specs.declared.Answer.{Answer}
use Rattle.values.specs.declared.Answer.TheVariants.{Value, Signed, Fault, Refused}
use Rattle.values.specs.declared.Status.{Status}
use Rattle.values.specs.declared.Status.TheVariants.{Alignment, WalkFirst, TranslationSection, TranslationPage, DomainPage, PermissionSection, PermissionPage}
use Rattle.walk.specs.Walk.{first_address, second_address}
use Rattle.step.specs.Start.{started}
use Rattle.step.specs.Run.{answers}
use Rattle.machine.specs.Machine.{with_registers}

-- ---- calls

-- accesses and CP15 calls, privileged, and user accesses
abbrev pub access : Bool → Kind → ℕ → ℕ → Call
access privileged kind width a = calls.Access (record { kind = kind; privileged = privileged; width = width; address = record { 0 = a } })

abbrev pub load : ℕ → ℕ → Call
load width a = access true Load width a

abbrev pub user_load : ℕ → ℕ → Call
user_load width a = access false Load width a

abbrev pub signed_load : ℕ → ℕ → Call
signed_load width a = access true SignedLoad width a

abbrev pub store : ℕ → ℕ → ℕ → Call
store width a v = access true (Store v) width a

abbrev pub user_store : ℕ → ℕ → ℕ → Call
user_store width a v = access false (Store v) width a

abbrev pub read : ℕ → Call
read n = Read (record { privileged = true; register = n; opcode = 0; crm = 0 })

abbrev pub write : ℕ → ℕ → Call
write n v = Write (record { privileged = true; register = n; opcode = 0; crm = 0 }) v

-- ---- runs

abbrev pub zeros : List ℕ
zeros = replicate 0x40000 0

-- a memory from the address `at` on: zeros up to the address a, the word v there, and then what follows it
abbrev pub word : ℕ → ℕ → ℕ → List ℕ → List ℕ
word at a v rest = replicate (a - at) 0 ++ (v % 256 ∷ v / 256 % 256 ∷ v / 0x10000 % 256 ∷ v / 0x1000000 ∷ rest)

-- zeros from the address `at` up to the memory's end
abbrev pub end : ℕ → List ℕ
end at = replicate (0x40000 - at) 0

-- a machine's answers to calls after a start on a memory; and with table base 4000 and these domain and control registers
abbrev pub Run : Type 0
Run = List ℕ → List Call → List Answer

abbrev pub RunWith : Type 0
RunWith = ℕ → ℕ → Run

-- "table base 4000"
abbrev pub registers : ℕ → ℕ → Registers
registers domains control = with_domains (with_base (with_control zero_registers control) 0x4000) domains

-- those of the library, with a map of zeros
abbrev pub run : Run
run memory calls = answers (started memory (no_bad_words memory) (replicate 16384 0)).machine calls

abbrev pub run_with : RunWith
run_with domains control memory calls =
    answers (with_registers (started memory (no_bad_words memory) (replicate 16384 0)).machine (registers domains control)) calls

abbrev pub fault : Status → ℕ → ℕ → Answer
fault status domain address = Fault (record { status = status; domain = domain; address = record { 0 = address } })

-- ---- the memories of M4 and M8 to M12

-- "level 1 word C0E at 4004", and a word at the physical address that it gives
abbrev pub memory4 : List ℕ
memory4 = word 0 0x4004 0xC0E (word 0x4008 0x23454 0xABCD (end 0x23458))

-- "level 1 word 8021": at 4004, for the address 145678; the level 2 word "at 8114", and words at the physical addresses of M9 and M10
abbrev pub memory8 : ℕ → List ℕ
memory8 w = word 0 0x4004 0x8021 (word 0x4008 0x8114 w (word 0x8118 0x10678 0x1111 (word 0x1067C 0x25678 0x2222 (end 0x2567C))))

-- byte 80, byte 7F and halfword 8000, from address 0 on
abbrev pub memory11 : List ℕ
memory11 = word 0 0 0x80007F80 (end 4)

-- a section with AP 00 at 4004
abbrev pub memory12 : List ℕ
memory12 = word 0 0x4004 0x002 (end 0x4008)

-- ---- the cases, of a machine by what it answered

-- a virtual address
abbrev pub va : ℕ → VirtualAddress
va a = record { 0 = a }

-- "M1 fresh control reads 70."
abbrev pub M1 : Run → Type 0
M1 answered =
    answered zeros (read 1 ∷ []) ≡ (Value 0x70 ∷ [])

-- "M2 write 100D, read 107D; 5 and 8 give refusal 12, 85 gives 11."
abbrev pub M2 : Run → Type 0
M2 answered =
    answered zeros (write 1 0x100D ∷ read 1 ∷ write 1 5 ∷ write 1 8 ∷ write 1 0x85 ∷ [])
    ≡ (Value 0 ∷ Value 0x107D ∷ Refused 12 ∷ Refused 12 ∷ Refused 11 ∷ [])

-- "M3 base 12347FFF reads 12344000."
abbrev pub M3 : Run → Type 0
M3 answered =
    answered zeros (write 2 0x12347FFF ∷ read 2 ∷ []) ≡ (Value 0 ∷ Value 0x12344000 ∷ [])

-- "M4 word load at 123456: A set, FSR 01;"
abbrev pub M4Set : RunWith → Type 0
M4Set answered =
    answered 5 3 memory4 (load 4 0x123456 ∷ read 5 ∷ []) ≡ (fault Alignment 0 0x123456 ∷ Value 0x01 ∷ [])

-- "A clear, level 1 word C0E at 4004, physical 23454."
abbrev pub M4Clear : RunWith → Type 0
M4Clear answered =
    answered 5 1 memory4 (load 4 0x123456 ∷ []) ≡ (Value 0xABCD ∷ [])

-- "M5 that line's set is 2, tag 91A."
abbrev pub M5Set : Type 0
M5Set =
    set_of (va 0x123456) ≡ 2

abbrev pub M5Tag : Type 0
M5Tag =
    tag_of (va 0x123456) ≡ 0x91A

-- "M6 address FFF00000: level 1 word at 7FFC; memory 7FE0 long gives FSR 0C."
abbrev pub M6Word : Type 0
M6Word =
    (first_address 0x4000 (va 0xFFF00000)).0 ≡ 0x7FFC

abbrev pub M6 : RunWith → Type 0
M6 answered =
    answered 5 1 (replicate 0x7FE0 0) (load 4 0xFFF00000 ∷ read 5 ∷ []) ≡ (fault WalkFirst 0 0xFFF00000 ∷ Value 0x0C ∷ [])

-- "M7 level 1 word 0: FSR 05."
abbrev pub M7 : RunWith → Type 0
M7 answered =
    answered 5 1 zeros (load 4 0x123456 ∷ read 5 ∷ []) ≡ (fault TranslationSection 0 0x123456 ∷ Value 0x05 ∷ [])

-- "M8 level 1 word 8021, address 145678: level 2 word at 8114; 0 gives FSR 17."
abbrev pub M8Word : Type 0
M8Word =
    (second_address 0x8021 (va 0x145678)).0 ≡ 0x8114

abbrev pub M8 : RunWith → Type 0
M8 answered =
    answered 5 1 (memory8 0) (load 4 0x145678 ∷ read 5 ∷ []) ≡ (fault TranslationPage 1 0x145678 ∷ Value 0x17 ∷ [])

-- "M9 there 10042: privileged load at 10678, user load FSR 1F,"
abbrev pub M9 : RunWith → Type 0
M9 answered =
    answered 5 1 (memory8 0x10042) (load 4 0x145678 ∷ user_load 4 0x145678 ∷ read 5 ∷ [])
    ≡ (Value 0x1111 ∷ fault PermissionPage 1 0x145678 ∷ Value 0x1F ∷ [])

-- "domain register 1 FSR 1B."
abbrev pub M9Domain : RunWith → Type 0
M9Domain answered =
    answered 1 1 (memory8 0x10042) (load 4 0x145678 ∷ read 5 ∷ []) ≡ (fault DomainPage 1 0x145678 ∷ Value 0x1B ∷ [])

-- "M10 there 20FFD: physical 25678."
abbrev pub M10 : RunWith → Type 0
M10 answered =
    answered 5 1 (memory8 0x20FFD) (load 4 0x145678 ∷ []) ≡ (Value 0x2222 ∷ [])

-- "M11 byte 80 signed is −128, halfword 8000 is −32768 (both decimal), 7F is 7F."
abbrev pub M11 : Run → Type 0
M11 answered =
    answered memory11 (signed_load 1 0 ∷ signed_load 2 2 ∷ signed_load 1 1 ∷ [])
    ≡ (Signed (negsuc 127) ∷ Signed (negsuc 32767) ∷ Signed (pos 0x7F) ∷ [])

-- "M12 AP 00, S set, R clear, domain value 1: privileged load allowed, every other denied."
abbrev pub M12 : RunWith → Type 0
M12 answered =
    answered 5 0x101 memory12 (load 4 0x123456 ∷ user_load 4 0x123456 ∷ store 4 0x123456 0 ∷ user_store 4 0x123456 0 ∷ [])
    ≡ (Value 0 ∷ fault PermissionSection 0 0x123456 ∷ fault PermissionSection 0 0x123456 ∷ fault PermissionSection 0 0x123456 ∷ [])

-- the table, of the library
pub record MarkedCases : Type 0 where
  pub m1 : M1 run
  pub m2 : M2 run
  pub m3 : M3 run
  pub m4_set : M4Set run_with
  pub m4_clear : M4Clear run_with
  pub m5_set : M5Set
  pub m5_tag : M5Tag
  pub m6_word : M6Word
  pub m6 : M6 run_with
  pub m7 : M7 run_with
  pub m8_word : M8Word
  pub m8 : M8 run_with
  pub m9 : M9 run_with
  pub m9_domain : M9Domain run_with
  pub m10 : M10 run_with
  pub m11 : M11 run
  pub m12 : M12 run_with
