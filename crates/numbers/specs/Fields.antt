-- Document 02, Four, the fields of each line, "in document 01's order".
use Rattle.std.specs.Prelude.{ℕ, zero, suc, ◌+◌, ◌*◌, ◌-◌, ◌/◌, ◌%◌, Bool, List, [], ◌∷◌, ◌++◌, get_or, set, replicate}
use Rattle.values.specs.Registers.{zero_registers, with_control, with_base, with_domains, with_fsr, with_far}
use Rattle.values.specs.Counts.{zero_counts, with_calls, with_misses, with_hits, with_fills, with_halves}
use Rattle.values.specs.declared.Registers.{Registers}
use Rattle.values.specs.declared.Counts.{Counts}
use Rattle.values.specs.declared.Entry.{Entry}
use Rattle.values.specs.declared.Line.{Line}
use Rattle.values.specs.declared.Slot.{Slot}
use Rattle.form.specs.Form.{Field, field_below, word, flag}

-- ---- the first line

-- "first a line with the five registers, the memory length, the TLB pointer, the sixteen set pointers, the number of buffer entries and the five counts"
pub record Head : Type 0 where
  pub registers : Registers
  pub size : ℕ
  pub pointer : ℕ
  pub pointers : List ℕ
  pub used : ℕ
  pub counts : Counts

abbrev pub head_from : Registers → ℕ → ℕ → List ℕ → ℕ → Counts → Head
head_from registers size pointer pointers used counts =
    record { registers = registers; size = size; pointer = pointer; pointers = pointers; used = used; counts = counts }

-- all zeros
abbrev pub empty_head : Head
empty_head = head_from zero_registers 0 0 (replicate 16 0) 0 zero_counts

-- control is as it is kept, without the bits that read as one
abbrev pub register_field : (Registers → ℕ) → (Registers → ℕ → Registers) → Field Head
register_field get put =
    word (λ (h : Head). get h.registers)
    (λ (h : Head) (n : ℕ). head_from (put h.registers n) h.size h.pointer h.pointers h.used h.counts)

abbrev pub size_field : Field Head
size_field =
    word (λ (h : Head). h.size) (λ (h : Head) (n : ℕ). head_from h.registers n h.pointer h.pointers h.used h.counts)

abbrev pub pointer_field : Field Head
pointer_field =
    word (λ (h : Head). h.pointer) (λ (h : Head) (n : ℕ). head_from h.registers h.size n h.pointers h.used h.counts)

-- the pointers of n sets, from set i on
unfoldable pub set_fields : ℕ → ℕ → List (Field Head)
set_fields zero i = []
set_fields (suc n) i =
    word (λ (h : Head). get_or h.pointers i 0)
    (λ (h : Head) (p : ℕ). head_from h.registers h.size h.pointer (set h.pointers i p) h.used h.counts)
    ∷ set_fields n (i + 1)

abbrev pub used_field : Field Head
used_field =
    word (λ (h : Head). h.used) (λ (h : Head) (n : ℕ). head_from h.registers h.size h.pointer h.pointers n h.counts)

abbrev pub count_field : (Counts → ℕ) → (Counts → ℕ → Counts) → Field Head
count_field get put =
    word (λ (h : Head). get h.counts)
    (λ (h : Head) (n : ℕ). head_from h.registers h.size h.pointer h.pointers h.used (put h.counts n))

-- control, table base, domains, FSR, FAR; the memory length at the start; the pointers; the number of buffer entries; calls, TLB misses, hits, fills, halves
abbrev pub head_fields : List (Field Head)
head_fields =
    register_field (λ (r : Registers). r.control) with_control
    ∷ register_field (λ (r : Registers). r.base) with_base
    ∷ register_field (λ (r : Registers). r.domains) with_domains
    ∷ register_field (λ (r : Registers). r.fsr) with_fsr
    ∷ register_field (λ (r : Registers). r.far) with_far
    ∷ size_field
    ∷ pointer_field
    ∷ (set_fields 16 0
    ++ (used_field
    ∷ count_field (λ (c : Counts). c.calls) with_calls
    ∷ count_field (λ (c : Counts). c.misses) with_misses
    ∷ count_field (λ (c : Counts). c.hits) with_hits
    ∷ count_field (λ (c : Counts). c.fills) with_fills
    ∷ count_field (λ (c : Counts). c.halves) with_halves
    ∷ []))

-- ---- a TLB line

abbrev pub entry_from : Bool → ℕ → ℕ → ℕ → ℕ → ℕ → Bool → Bool → Entry
entry_from valid size vbase pbase domain aps cacheable bufferable =
    record {
      valid = valid;
      size = size;
      vbase = vbase;
      pbase = pbase;
      domain = domain;
      aps = aps;
      cacheable = cacheable;
      bufferable = bufferable;
    }

-- an access permission of the four, two bits each, by its place's value in `aps`
abbrev pub ap_field : ℕ → Field Entry
ap_field unit =
    field_below 4 (λ (e : Entry). e.aps / unit % 4)
    (λ (e : Entry) (n : ℕ). entry_from e.valid e.size e.vbase e.pbase e.domain (e.aps - e.aps / unit % 4 * unit + n * unit)
    e.cacheable e.bufferable)

-- valid, size, virtual base, physical base, domain, AP0 to AP3, C, B
abbrev pub entry_fields : List (Field Entry)
entry_fields =
    flag (λ (e : Entry). e.valid)
    (λ (e : Entry) (b : Bool). entry_from b e.size e.vbase e.pbase e.domain e.aps e.cacheable e.bufferable)
    ∷ word (λ (e : Entry). e.size)
    (λ (e : Entry) (n : ℕ). entry_from e.valid n e.vbase e.pbase e.domain e.aps e.cacheable e.bufferable)
    ∷ word (λ (e : Entry). e.vbase)
    (λ (e : Entry) (n : ℕ). entry_from e.valid e.size n e.pbase e.domain e.aps e.cacheable e.bufferable)
    ∷ word (λ (e : Entry). e.pbase)
    (λ (e : Entry) (n : ℕ). entry_from e.valid e.size e.vbase n e.domain e.aps e.cacheable e.bufferable)
    ∷ word (λ (e : Entry). e.domain)
    (λ (e : Entry) (n : ℕ). entry_from e.valid e.size e.vbase e.pbase n e.aps e.cacheable e.bufferable)
    ∷ ap_field 1 ∷ ap_field 4 ∷ ap_field 16 ∷ ap_field 64
    ∷ flag (λ (e : Entry). e.cacheable)
    (λ (e : Entry) (b : Bool). entry_from e.valid e.size e.vbase e.pbase e.domain e.aps b e.bufferable)
    ∷ flag (λ (e : Entry). e.bufferable)
    (λ (e : Entry) (b : Bool). entry_from e.valid e.size e.vbase e.pbase e.domain e.aps e.cacheable b)
    ∷ []

-- ---- a cache line

abbrev pub line_from : Bool → ℕ → ℕ → Bool → Bool → Line
line_from valid tag frame low high = record { valid = valid; tag = tag; frame = frame; low = low; high = high }

-- tag, physical line number, valid, dirty low half, dirty high half
abbrev pub line_fields : List (Field Line)
line_fields =
    word (λ (l : Line). l.tag) (λ (l : Line) (n : ℕ). line_from l.valid n l.frame l.low l.high)
    ∷ word (λ (l : Line). l.frame) (λ (l : Line) (n : ℕ). line_from l.valid l.tag n l.low l.high)
    ∷ flag (λ (l : Line). l.valid) (λ (l : Line) (b : Bool). line_from b l.tag l.frame l.low l.high)
    ∷ flag (λ (l : Line). l.low) (λ (l : Line) (b : Bool). line_from l.valid l.tag l.frame b l.high)
    ∷ flag (λ (l : Line). l.high) (λ (l : Line) (b : Bool). line_from l.valid l.tag l.frame l.low b)
    ∷ []

-- ---- a buffer line

abbrev pub slot_from : ℕ → ℕ → List ℕ → Slot
slot_from block mask bytes = record { block = block; mask = mask; bytes = bytes }

-- n bytes, from byte i on
unfoldable pub byte_fields : ℕ → ℕ → List (Field Slot)
byte_fields zero i = []
byte_fields (suc n) i =
    field_below 0x100 (λ (s : Slot). get_or s.bytes i 0) (λ (s : Slot) (b : ℕ). slot_from s.block s.mask (set s.bytes i b))
    ∷ byte_fields n (i + 1)

-- sixteen bytes, mask, block number
abbrev pub slot_fields : List (Field Slot)
slot_fields =
    byte_fields 16 0
    ++ (word (λ (s : Slot). s.mask) (λ (s : Slot) (n : ℕ). slot_from s.block n s.bytes)
    ∷ word (λ (s : Slot). s.block) (λ (s : Slot) (n : ℕ). slot_from n s.mask s.bytes)
    ∷ [])
