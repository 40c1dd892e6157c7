use Rattle.std.proofs.Common.{◌*◌, ◌<◌, length, set, slice_get, refl, sym, ap, ◌∙◌, subst}
use Rattle.std.proofs.lemmas.Option.{slice_get_read, slice_get_within}
use Rattle.split_exec.specs.Passing.{AddsInterior}
use Rattle.whole_turns.specs.Turns.{setting_of}
use Rattle.whole_runs.proofs.turns.turn.Goals as goal

pub returns : goal.returns
returns g c =
    let stores = c.args.stores in
    let t = c.args.nest.now.target.array in
    let old = c.index_mut.result.now in
    let new = c.apply.new.target in
    let count = c.at-array.result.now.rows * c.at-array.result.now.cols in record {
      count = count;
      sums = c.inner.new.delta;
      old = old;
      new = new;
      turned = record {
        old_is = ap (λ xs. slice_get xs t) (sym c.into_vec-stores.ensures)
            ∙ slice_get_read c.into_vec-stores.result.items (length c.into_vec-stores.result.items) t old refl
            (subst (λ xs. t < length xs) (sym c.into_vec-stores.ensures) (slice_get_within stores t c.requires.target.store c.requires.target.store_is)) c.index_mut.ensures.value;
        added = subst (λ ds. AddsInterior (setting_of c.args.job.now c.args.places.now c.args.nest.now stores) 0 c.args.planned.now ds c.inner.new.delta) c.in_ok-delta.ensures c.inner.ensures.sums;
        applied = c.apply.ensures.applied;
      };
      after_is = c.from_vec.ensures ∙ ap (λ xs. set xs t new) c.into_vec-stores.ensures;
    }
