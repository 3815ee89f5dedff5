-- References that are those that came in, said at once.
use Prim.Native.Nat.{ℕ}
use mathlib.Core.Path.{◌≡◌, ap}
use mathlib.Core.List.{List}
use lib.ListN.{length}
use Rattle.machine.specs.declared.Lent.{Lent}
use Rattle.machine.specs.Lists.{Kept}

-- the names of the references that may be written through, and the map, which may not
pub record Names : Type 0 where
  pub memory : ℕ
  pub bad : List ℕ
  pub words : ℕ
  pub bytes : ℕ
  pub lines : ℕ
  pub pointers : ℕ
  pub store : ℕ

abbrev pub names : Lent → Names
names t = record {
  memory = t.memory.ghost_name;
  bad = t.bad.now;
  words = t.words.ghost_name;
  bytes = t.bytes.ghost_name;
  lines = t.lines.ghost_name;
  pointers = t.pointers.ghost_name;
  store = t.store.ghost_name;
}

pub kept : {t u : Lent} → names u ≡ names t → length u.memory.now ≡ length t.memory.now → length u.words.now ≡ length t.words.now
    → length u.lines.now ≡ length t.lines.now → length u.pointers.now ≡ length t.pointers.now → length u.store.now ≡ length t.store.now → Kept t u
kept e m w l p s = record {
  memory = ap (λ (x : Names). x.memory) e;
  bad = ap (λ (x : Names). x.bad) e;
  words = ap (λ (x : Names). x.words) e;
  bytes = ap (λ (x : Names). x.bytes) e;
  lines = ap (λ (x : Names). x.lines) e;
  pointers = ap (λ (x : Names). x.pointers) e;
  store = ap (λ (x : Names). x.store) e;
  memory_long = m;
  words_long = w;
  lines_long = l;
  pointers_long = p;
  store_long = s;
}
