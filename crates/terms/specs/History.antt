-- What the rules remember of a run. "cleans, drains and flushes are served writes; stores (dropped ones left out), walks and lines reached
-- are the plain machine's." Whether a call is served is the plain machine's too: refusals 1 to 4 do not occur in a run after a served start.
use Rattle.std.specs.Prelude.{ℕ, ◌/◌, Bool, true, false, cond, ◌&&◌, ◌||◌, List, [], ◌∷◌, eqb, Result, Ok, Err}
use Rattle.values.specs.Addresses.{virtual_line, physical_line, word_of}
use Rattle.values.specs.declared.VirtualAddress.{VirtualAddress}
use Rattle.values.specs.declared.PhysicalAddress.{PhysicalAddress}
use Rattle.values.specs.declared.Kind.{Kind}
use Rattle.values.specs.declared.Kind.TheVariants.{Load, SignedLoad, Store, Swap}
use Rattle.values.specs.declared.Transfer.{Transfer}
use Rattle.values.specs.declared.Call.{Call}
use Rattle.values.specs.declared.Call.TheVariants.{Read, Write}
use Rattle.values.specs.declared.Call.TheVariants as calls
use Rattle.bus.specs.Physical.{Physical, aborts}
use Rattle.translation.specs.Alignment.{cleared}
use Rattle.cp15.specs.Operations.{flushes_dcache, cleans_line, drains, flushes_tlb}
use Rattle.plain.specs.Plain.{Plain, plain_physical, plain_reach, plain_refusal, plainly}
use Rattle.values.specs.declared.Cause.{Cause}
use Rattle.translation.specs.declared.Place.{Place}

-- How far a line or a word has come since its last store: never stored to, stored, then cleaned, then drained, then the TLB flushed.
pub data Stage : Type 0 where
  never : Stage
  stored : Stage
  cleaned : Stage
  drained : Stage
  flushed : Stage

pub record History : Type 0 where
  -- R2: the pairs of a virtual and a physical line, the first reaching the second since the last whole Dcache flush
  pub reached : ℕ → ℕ → Bool
  -- R3, R4 and the end: "the virtual line its last store ... went through", for a physical line
  pub through : ℕ → ℕ
  -- R3 and the end: a physical line's stage
  pub line_stage : ℕ → Stage
  -- R4: the stage of a physical word
  pub word_stage : ℕ → Stage
  -- R5: the table base was written and no whole TLB flush came after
  pub base_stale : Bool

-- nothing has happened
abbrev pub no_history : History
no_history = record { reached = λ v p. false; through = λ l. 0; line_stage = λ l. never; word_stage = λ w. never; base_stale = false }

-- ---- a stage after a clean, a drain, a whole TLB flush

-- "cleaned after its last store"; whether the clean is "under the virtual line its last store before that clean went through"
abbrev pub after_clean : Bool → Stage → Stage
after_clean ours never = never
after_clean ours stored = cond ours cleaned stored
after_clean ours cleaned = cleaned
after_clean ours drained = drained
after_clean ours flushed = flushed

-- "then a drain"
abbrev pub after_drain : Stage → Stage
after_drain never = never
after_drain stored = stored
after_drain cleaned = drained
after_drain drained = drained
after_drain flushed = flushed

-- "then a whole TLB flush"
abbrev pub after_tlb_flush : Stage → Stage
after_tlb_flush never = never
after_tlb_flush stored = stored
after_tlb_flush cleaned = cleaned
after_tlb_flush drained = flushed
after_tlb_flush flushed = flushed

-- ---- the history after a call

-- the physical line of a physical word
abbrev pub line_of_word : ℕ → ℕ
line_of_word w = w / 8

-- a virtual line reaches a physical line
abbrev pub with_reach : History → VirtualAddress → PhysicalAddress → History
with_reach h va pa =
    record {
      reached = λ v p. (eqb v (virtual_line va) && eqb p (physical_line pa)) || h.reached v p;
      through = h.through;
      line_stage = h.line_stage;
      word_stage = h.word_stage;
      base_stale = h.base_stale;
    }

-- "every data access whose translation and rights pass reaches a line, even one outside memory"
unfoldable pub after_reach : History → VirtualAddress → Result Place Cause → History
after_reach h va (Err why) = h
after_reach h va (Ok l) = with_reach h va l.address

-- a line and a word of it are stored to, through a virtual line
abbrev pub with_store : History → VirtualAddress → PhysicalAddress → History
with_store h va pa =
    record {
      reached = h.reached;
      through = λ p. cond (eqb p (physical_line pa)) (virtual_line va) (h.through p);
      line_stage = λ p. cond (eqb p (physical_line pa)) stored (h.line_stage p);
      word_stage = λ w. cond (eqb w (word_of pa)) stored (h.word_stage w);
      base_stale = h.base_stale;
    }

-- a store or a swap, "dropped ones left out", outside memory or at a bad word, and those that fault
unfoldable pub after_store : History → Physical → VirtualAddress → Result Place Cause → History
after_store h memory va (Err why) = h
after_store h memory va (Ok l) = cond (aborts memory l.address) h (with_store h va l.address)

-- what an access of a kind stores; a swap as a store
abbrev pub after_kind : Kind → History → Physical → VirtualAddress → Result Place Cause → History
after_kind Load h memory va c = h
after_kind SignedLoad h memory va c = h
after_kind (Store v) h memory va c = after_store h memory va c
after_kind (Swap v) h memory va c = after_store h memory va c

abbrev pub after_line_clean : History → ℕ → History
after_line_clean h v =
    record {
      reached = h.reached;
      through = h.through;
      line_stage = λ p. after_clean (eqb (h.through p) v) (h.line_stage p);
      word_stage = λ w. after_clean (eqb (h.through (line_of_word w)) v) (h.word_stage w);
      base_stale = h.base_stale;
    }

abbrev pub after_buffer_drain : History → History
after_buffer_drain h =
    record {
      reached = h.reached;
      through = h.through;
      line_stage = λ p. after_drain (h.line_stage p);
      word_stage = λ w. after_drain (h.word_stage w);
      base_stale = h.base_stale;
    }

abbrev pub after_whole_tlb_flush : History → History
after_whole_tlb_flush h =
    record {
      reached = h.reached;
      through = h.through;
      line_stage = h.line_stage;
      word_stage = λ w. after_tlb_flush (h.word_stage w);
      base_stale = false;
    }

-- R2 counts "between whole Dcache flushes"
abbrev pub after_whole_flush : History → History
after_whole_flush h =
    record {
      reached = λ v p. false;
      through = h.through;
      line_stage = h.line_stage;
      word_stage = h.word_stage;
      base_stale = h.base_stale;
    }

-- "after a table base write"
abbrev pub after_base_write : History → History
after_base_write h =
    record { reached = h.reached; through = h.through; line_stage = h.line_stage; word_stage = h.word_stage; base_stale = true }

-- a served CP15 write of v
unfoldable pub after_write : History → Transfer → ℕ → History
after_write h t v =
    cond (eqb t.register 2) (after_base_write h)
    (cond (flushes_dcache t) (after_whole_flush h)
    (cond (cleans_line t) (after_line_clean h (virtual_line (record { 0 = v })))
    (cond (drains t) (after_buffer_drain h)
    (cond (flushes_tlb t) (after_whole_tlb_flush h)
    h))))

-- a served call
abbrev pub after_served : Plain → History → Call → History
after_served p h (calls.Access a) =
    after_kind a.kind (after_reach h (cleared a) (plain_reach p a)) (plain_physical p) (cleared a) (plain_reach p a)
after_served p h (Read t) = h
after_served p h (Write t v) = after_write h t v

-- any call: a refused one leaves the history as it is
unfoldable pub after : Plain → History → Call → History
after p h c = cond (eqb (plain_refusal p c) 0) (after_served p h c) h

-- the history after a list of calls
unfoldable pub history_after : Plain → History → List Call → History
history_after p h [] = h
history_after p h (c ∷ cs) = history_after (plainly p c).plain (after p h c) cs
