-- What is measured of a term's references is what their query has.
use Rattle.std.proofs.Common.{◌≡◌, ◌∙◌, ℕ, zero, suc, ◌<◌, ◌≤◌, List, [], ◌∷◌, map, length, Option, Some, None, ℤ, pos, negsuc, ◌-ℤ◌, ◌<ℤ◌, ◌≤ℤ◌, get_or, slice_get, slice_index_or, refl, sym, ap, subst, arith}
use Rattle.std.specs.List.{All}
use Rattle.std.proofs.lemmas.List.{length-map, get_or-map}
use Rattle.bern_base.specs.declared.job.Ref.{Ref}
use Rattle.bern_base.specs.declared.job.Span.{Span}
use Rattle.bern_base.specs.declared.stats.LevelStat.{LevelStat}
use Rattle.bern_base.specs.declared.stats.Stats.{Stats}
use Rattle.job_model.specs.Points.{bounds_at, bounds_of, natural}
use Rattle.term_model.specs.Plans.{SparseRef, JoinLevel, depth_of, level_at, no_level, no_sparse, sparse_at}
use Rattle.term_model.specs.Queries.{level_of_stat, levels_by, levels_measured, sparse_ref}
use Rattle.join_plan.specs.Costs.{levels_in, no_stat, size_of, stats_by, stats_of}
use Rattle.join_plan.specs.Steps.{FewLevels}
use Rattle.join_plan.specs.Tasks.{CanSchedule, Task, query_in}

-- a reference that is there, or none
sparse_of : List Stats → Option Ref → SparseRef
sparse_of stats None = no_sparse
sparse_of stats (Some ref) = sparse_ref (levels_by stats) ref

sparse_is : (stats : List Stats) (refs : List Ref) (r : ℕ) → slice_index_or (map (sparse_ref (levels_by stats)) refs) r no_sparse ≡ sparse_of stats (slice_get refs r)
unfolding sparse_of
sparse_is stats [] r = refl
sparse_is stats (ref ∷ refs) zero = refl
sparse_is stats (ref ∷ refs) (suc r) = sparse_is stats refs r

measured_is : (found : Option Stats) → levels_measured found ≡ map level_of_stat (levels_in found)
measured_is None = refl
measured_is (Some stats) = refl

levels_are : (stats : List Stats) (found : Option Ref) → (sparse_of stats found).levels ≡ map level_of_stat (stats_by stats found)
unfolding sparse_of
levels_are stats None = refl
levels_are stats (Some ref) = measured_is (slice_get stats ref.array)

-- the levels of a reference, by what was measured
pub query_levels : (task : Task) (r : ℕ) → (sparse_at (query_in task) r).levels ≡ map level_of_stat (stats_of task.stats task.term r)
query_levels task r = ap (λ s. s.levels) (sparse_is task.stats task.term.sparse r) ∙ levels_are task.stats (slice_get task.term.sparse r)

pub depth_is : (task : Task) (r : ℕ) → length (stats_of task.stats task.term r) ≡ depth_of (query_in task) r
depth_is task r = sym (length-map (stats_of task.stats task.term r) level_of_stat) ∙ ap length (sym (query_levels task r))

pub few_levels : (task : Task) → CanSchedule task → FewLevels (query_in task)
few_levels task can r = subst (λ n. n ≤ 2) (depth_is task r) (can.levels r).0

pub level_is : (task : Task) (r level : ℕ) (other : LevelStat) → level < length (stats_of task.stats task.term r) →
    level_at (query_in task) r level ≡ level_of_stat (slice_index_or (stats_of task.stats task.term r) level other)
level_is task r level other below = ap (λ ls. slice_index_or ls level no_level) (query_levels task r) ∙ get_or-map level_of_stat (stats_of task.stats task.term r) level other no_level below

pub level_read : (task : Task) (r level : ℕ) (ls : List LevelStat) (other : LevelStat) → ls ≡ stats_of task.stats task.term r → level < length ls →
    level_at (query_in task) r level ≡ level_of_stat (slice_index_or ls level other)
level_read task r level ls other is below =
    level_is task r level other (subst (λ xs. level < length xs) is below) ∙ ap (λ xs. level_of_stat (slice_index_or xs level other)) (sym is)

pub ref_is : (task : Task) (r : ℕ) (ref : Ref) → slice_get task.term.sparse r ≡ Some ref → sparse_at (query_in task) r ≡ sparse_ref (levels_by task.stats) ref
unfolding sparse_of
ref_is task r ref is = sparse_is task.stats task.term.sparse r ∙ ap (sparse_of task.stats) is

-- ---- loops

bounds_by : Option Span → ℤ × ℤ
bounds_by None = (pos 0, pos 1)
bounds_by (Some span) = bounds_of span

bounds_are : (vars : List Span) (v : ℕ) → bounds_at vars v ≡ bounds_by (slice_get vars v)
unfolding bounds_by
bounds_are [] v = refl
bounds_are (span ∷ vars) zero = refl
bounds_are (span ∷ vars) (suc v) = bounds_are vars v

pub unused_size : (vars : List Span) (v : ℕ) → slice_get vars v ≡ None → 1 ≡ size_of (bounds_at vars v)
unfolding bounds_by
unused_size vars v is = ap size_of (sym (bounds_are vars v ∙ ap bounds_by is))

pub used_size : (vars : List Span) (v : ℕ) (span : Span) → slice_get vars v ≡ Some span → natural (span.hi -ℤ span.lo) ≡ size_of (bounds_at vars v)
unfolding bounds_by
used_size vars v span is = ap size_of (sym (bounds_are vars v ∙ ap bounds_by is))
