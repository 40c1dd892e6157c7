use Rattle.std.proofs.Common.{◌≡◌, ◌∙◌, ◌+◌, [], map, take, drop, get_or, pos, ◌+ℤ◌, refl, sym, ap, subst, arith}
use Rattle.std.specs.Prelude.{slice_set}
use Rattle.std.proofs.lemmas.List.Elements.{All-contains}
use Rattle.job_model.specs.Accepted.{IsNestOf}
use Rattle.job_model.specs.Points.{bounds_at, spans_of}
use Rattle.pass_model.specs.Local.{own_size}
use Rattle.split_exec.specs.Boxes.{AreAlike, IsNearSpan, Replaces, points_below, points_from}
use Rattle.split_exec.proofs.ApplyLemmas.{branches_both, branches_first, none_written, writes_both, writes_none}
use Rattle.split_exec.proofs.BoxLemmas.{all_points, from_inside, near_bounds, next_points, span_is}
use Rattle.split_exec.proofs.boxes.+write_from.Goals as goal

pub returns-then-rules_out-clause-replaces : goal.returns-then-rules_out-clause-replaces
returns-then-rules_out-clause-replaces g t c =
    let job = c.args.job.now in
    let nest = c.args.nest.now in
    let places = map g.P.Placement.triples c.args.places.now in
    let sums = c.args.delta.now in
    let can = c.requires.can in
    let spans = spans_of nest.vars in
    let is : IsNestOf job nest = All-contains (IsNestOf job) job.nests nest can.at.accepted.nests can.nest_is in
    let xs = points_from (take c.args.depth c.args.values) (drop c.args.depth spans) in
    let inside = from_inside spans c.args.depth c.args.values refl c.requires.four c.requires.depth c.requires.chosen in
    writes_none job places nest c.args.rank sums (g.D.Cells.grid c.args.target.now) xs
    (none_written job places nest c.args.rank sums xs
    (λ k d below. c.rules_out.ensures.some c.if-rules_out.true (get_or xs k d) (inside k d below).box (subst (λ p. AreAlike c.args.depth p (get_or xs k d)) (sym c.new-point.ensures) (inside k d below).alike)))

pub count_of-k-end-requires : goal.count_of-k-end-requires
count_of-k-end-requires g t c =
    let job = c.args.job.now in
    let nest = c.args.nest.now in
    let places = map g.P.Placement.triples c.args.places.now in
    let sums = c.args.delta.now in
    let can = c.requires.can in
    let spans = spans_of nest.vars in
    let is : IsNestOf job nest = All-contains (IsNestOf job) job.nests nest can.at.accepted.nests can.nest_is in
    subst IsNearSpan (sym (c.bounds_at-span.ensures ∙ ap (λ vs. bounds_at vs c.args.depth) c.as_slice.ensures)) (near_bounds nest.vars is.near c.args.depth)

pub loop-k-init : goal.loop-k-init
loop-k-init g t c = record {
  can = c.requires.can;
  replaces = writes_none c.args.job.now (map g.P.Placement.triples c.args.places.now) c.args.nest.now c.args.rank c.args.delta.now (g.D.Cells.grid c.args.target.now) [] (λ k. refl);
  branches = branches_first (g.D.Access.tree c.args.target.now);
}

pub with_next-next-requires-clause-nest : goal.with_next-next-requires-clause-nest
with_next-next-requires-clause-nest g t c =
    let job = c.args.job.now in
    let nest = c.args.nest.now in
    let places = map g.P.Placement.triples c.args.places.now in
    let sums = c.args.delta.now in
    let can = c.requires.can in
    let spans = spans_of nest.vars in
    let is : IsNestOf job nest = All-contains (IsNestOf job) job.nests nest can.at.accepted.nests can.nest_is in
    is.near

pub with_next-next-requires-clause-span : goal.with_next-next-requires-clause-span
with_next-next-requires-clause-span g t c = c.bounds_at-span.ensures ∙ ap (λ vs. bounds_at vs c.args.depth) c.as_slice.ensures

pub loop-k-preserved : goal.loop-k-preserved
loop-k-preserved g t c =
    let job = c.args.job.now in
    let nest = c.args.nest.now in
    let places = map g.P.Placement.triples c.args.places.now in
    let sums = c.args.delta.now in
    let can = c.requires.can in
    let spans = spans_of nest.vars in
    let is : IsNestOf job nest = All-contains (IsNestOf job) job.nests nest can.at.accepted.nests can.nest_is in
    let array = is.target.array in
    let named = is.target.element.named in
    let n = own_size places array c.args.rank in
    let before = points_below (take c.args.depth c.args.values) (drop (c.args.depth + 1) spans) c.bounds_at-span.result.0 c.loop-k.k in
    let next = points_from (take (c.args.depth + 1) (slice_set c.args.values c.args.depth (c.bounds_at-span.result.0 +ℤ pos c.loop-k.k))) (drop (c.args.depth + 1) spans) in
    let more : Replaces job places nest c.args.rank sums (g.D.Cells.grid c.loop-k.target) (g.D.Cells.grid c.write_from.new.target) next =
    subst (λ l. Replaces job places nest c.args.rank sums (g.D.Cells.grid c.loop-k.target) (g.D.Cells.grid c.write_from.new.target) (points_from (take (c.args.depth + 1) l) (drop (c.args.depth + 1) spans))) c.with_next-next.ensures.is c.write_from.ensures.replaces in
    record {
      can = c.write_from.ensures.can;
      replaces = subst (Replaces job places nest c.args.rank sums (g.D.Cells.grid c.args.target.now) (g.D.Cells.grid c.write_from.new.target)) (sym (next_points c.args.values c.args.depth (drop (c.args.depth + 1) spans) c.bounds_at-span.result.0 c.loop-k.k (omega arith)))
          (writes_both job places nest c.args.rank sums (g.D.Cells.grid c.args.target.now) (g.D.Cells.grid c.loop-k.target) (g.D.Cells.grid c.write_from.new.target) n before next (can.elements array named) (c.loop-k.invariant.can.elements array named) c.loop-k.invariant.replaces more);
      branches = branches_both (g.D.Access.tree c.args.target.now) (g.D.Access.tree c.loop-k.target) (g.D.Access.tree c.write_from.new.target) c.loop-k.invariant.branches c.write_from.ensures.branches;
    }

pub returns-clause-replaces : goal.returns-clause-replaces
returns-clause-replaces g t c =
    let job = c.args.job.now in
    let nest = c.args.nest.now in
    let places = map g.P.Placement.triples c.args.places.now in
    let sums = c.args.delta.now in
    let can = c.requires.can in
    let spans = spans_of nest.vars in
    let is : IsNestOf job nest = All-contains (IsNestOf job) job.nests nest can.at.accepted.nests can.nest_is in
    subst (Replaces job places nest c.args.rank sums (g.D.Cells.grid c.args.target.now) (g.D.Cells.grid c.loop-k.target))
    (ap (λ n. points_below (take c.args.depth c.args.values) (drop (c.args.depth + 1) spans) c.bounds_at-span.result.0 n) (let all : c.loop-k.k ≡ c.count_of-k-end.result = omega arith in all)
    ∙ all_points (take c.args.depth c.args.values) c.args.depth spans c.bounds_at-span.result c.count_of-k-end.result (omega arith) (c.bounds_at-span.ensures ∙ ap (λ vs. bounds_at vs c.args.depth) c.as_slice.ensures ∙ sym (span_is nest.vars c.args.depth (omega arith))) c.count_of-k-end.ensures)
    c.loop-k.invariant.replaces
