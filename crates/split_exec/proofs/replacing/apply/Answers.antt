use Rattle.std.proofs.Common.{◌≡◌, ◌<◌, ℕ, Some, length, map, sym, subst, arith}
use Rattle.std.specs.Prelude.{slice_get}
use Rattle.std.proofs.lemmas.List.Elements.{All-contains}
use Rattle.bern_base.specs.declared.job.ArrayDecl.{ArrayDecl}
use Rattle.job_model.specs.Accepted.{IsNestOf}
use Rattle.pass_model.specs.Local.{IsOwn, local_element}
use Rattle.split_exec.specs.Applying.{HasSize}
use Rattle.split_exec.proofs.ApplyLemmas.{added_applied, box_writes, replaced_applied}
use Rattle.split_exec.proofs.RankLemmas.{dealt, extent_is, few, own_low, own_size_low}
use Rattle.split_exec.proofs.replacing.apply.Goals as goal

pub add_sums-requires-clause-size : goal.add_sums-requires-clause-size
add_sums-requires-clause-size g c =
    let is : IsNestOf c.args.job.now c.args.nest.now = All-contains (IsNestOf c.args.job.now) c.args.job.now.nests c.args.nest.now c.requires.at.accepted.nests c.requires.nest_is in
    subst (HasSize (g.D.Cells.grid c.args.target.now)) (sym (c.requires.count is.target.array is.target.element.named)) (c.requires.elements is.target.array is.target.element.named)

pub add_sums-requires-clause-few : goal.add_sums-requires-clause-few
add_sums-requires-clause-few g c =
    let job = c.args.job.now in
    let places = map g.P.Placement.triples c.args.places.now in
    let ranks = map g.P.Placement.ranks c.args.places.now in
    let is : IsNestOf job c.args.nest.now = All-contains (IsNestOf job) job.nests c.args.nest.now c.requires.at.accepted.nests c.requires.nest_is in
    let number = c.args.nest.now.target.array in
    let low = own_size_low places is.target.array c.args.rank (extent_is job places ranks c.args.rank c.requires.at number is.target.array is.target.element.named) in
    let most = few job places ranks c.args.rank c.requires.at number is.target.array is.target.element.named is.target.whole in
    omega (arith, low, most, c.requires.count is.target.array is.target.element.named)

pub returns-then-nest-clause-applied : goal.returns-then-nest-clause-applied
returns-then-nest-clause-applied g c =
    let job = c.args.job.now in
    let nest = c.args.nest.now in
    let places = map g.P.Placement.triples c.args.places.now in
    let ranks = map g.P.Placement.ranks c.args.places.now in
    let rank = c.args.rank in
    let sums = c.args.delta.now in
    let is : IsNestOf job nest = All-contains (IsNestOf job) job.nests nest c.requires.at.accepted.nests c.requires.nest_is in
    let size : HasSize (g.D.Cells.grid c.args.target.now) (length sums) = subst (HasSize (g.D.Cells.grid c.args.target.now)) (sym (c.requires.count is.target.array is.target.element.named)) (c.requires.elements is.target.array is.target.element.named) in
    let low : (array : ArrayDecl) → slice_get job.arrays nest.target.array ≡ Some array → (n : ℕ) → IsOwn places array rank n → local_element places array rank n < length sums = λ array named n own.
    (let (count, place, below) = dealt job g.P.Placement.triples g.P.Placement.ranks g.met.P.Placement.placed c.args.places.now rank c.requires.at nest.target.array array named in
    let inside = own_low places array rank n place (extent_is job places ranks rank c.requires.at nest.target.array array named) own in
    omega (arith, inside, c.requires.count array named)) in
    replaced_applied job places nest rank sums (g.D.Cells.grid c.args.target.now) (g.D.Cells.grid c.write_box.new.target) c.if-nest.true size low
    (λ array named n own.
    let (count, place, below) = dealt job g.P.Placement.triples g.P.Placement.ranks g.met.P.Placement.placed c.args.places.now rank c.requires.at nest.target.array array named in
    box_writes job places nest rank array n is named place (extent_is job places ranks rank c.requires.at nest.target.array array named) own)
    c.write_box.ensures.replaces

pub returns-else-nest-clause-applied : goal.returns-else-nest-clause-applied
returns-else-nest-clause-applied g c =
    let job = c.args.job.now in
    let nest = c.args.nest.now in
    let places = map g.P.Placement.triples c.args.places.now in
    let ranks = map g.P.Placement.ranks c.args.places.now in
    let rank = c.args.rank in
    let sums = c.args.delta.now in
    let is : IsNestOf job nest = All-contains (IsNestOf job) job.nests nest c.requires.at.accepted.nests c.requires.nest_is in
    let size : HasSize (g.D.Cells.grid c.args.target.now) (length sums) = subst (HasSize (g.D.Cells.grid c.args.target.now)) (sym (c.requires.count is.target.array is.target.element.named)) (c.requires.elements is.target.array is.target.element.named) in
    let low : (array : ArrayDecl) → slice_get job.arrays nest.target.array ≡ Some array → (n : ℕ) → IsOwn places array rank n → local_element places array rank n < length sums = λ array named n own.
    (let (count, place, below) = dealt job g.P.Placement.triples g.P.Placement.ranks g.met.P.Placement.placed c.args.places.now rank c.requires.at nest.target.array array named in
    let inside = own_low places array rank n place (extent_is job places ranks rank c.requires.at nest.target.array array named) own in
    omega (arith, inside, c.requires.count array named)) in
    added_applied job places nest rank sums (g.D.Cells.grid c.args.target.now) (g.D.Cells.grid c.add_sums.new.target) c.if-nest.false size low c.add_sums.ensures.added
