use Rattle.values.proofs.Maps.{map_set}
use Rattle.cache.specs.Dcache.{hit_store}
use Rattle.cache.specs.Packing.{line_of}
use Rattle.cache.proofs.Lines.{line_at}
use Rattle.cache.proofs.store.Goals as goal

pub returns : goal.returns
unfolding hit_store
returns c = let a = c.args in
    λ ps. rw (
      c.store.ensures,
      map_set line_of a.lines.now a.i c.marked.result,
      c.marked.ensures,
      line_at a.lines.now a.i,
    )
