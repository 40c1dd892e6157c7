use Rattle.std.proofs.Common.{◌≡◌, ℕ, List, Some, length, slice_get, ◌∙◌, sym, ap, subst}
use Rattle.bern_base.specs.declared.job.Nest.{Nest}
use Rattle.placement.specs.declared.part.Part.{Part}
use Rattle.rank_node.specs.Holdings.{AreHeld}
use Rattle.rank_node.proofs.ListLemmas.{some_same}
use Rattle.rank_node.proofs.NewLemmas.{element_at, new_fresh, new_is}
use Rattle.rank_node.proofs.node.Node.new.Goals as goal

pub returns-clause-fresh : goal.returns-clause-fresh
returns-clause-fresh g c = new_fresh g.run c.args.rank c.args.ranks c.from_vec.result (c.from_vec.ensures ∙ c.in_ok-given.ensures)

pub returns-clause-node : goal.returns-clause-node
returns-clause-node g c =
    let job = c.requires.1.0 in
    let parts = c.requires.1.1.1.1 in
    let nest : c.at-nest.result.now ≡ job.nest = some_same (sym c.at-nest.ensures ∙ ap (λ nests. slice_get nests 0) job.nests) in
    let target : c.at-nest.result.now.target.array ≡ g.run.target = ap (λ (n : Nest). n.target.array) nest ∙ ap (λ r. r.array) job.product.target in
    let part = element_at c.args.parts g.run.stored parts.stored in
    let P : ℕ → Type 0 = λ k. slice_get c.args.parts k ≡ Some part.0 in
    let entries = c.stored_entries.ensures part.0 (subst P (sym c.factors-stored.ensures.stored) part.1) ∙ parts.entries part.0 part.1 in
    let Q : List Part → Type 0 = λ ps. AreHeld c.args.job.now ps (length ps) c.in_ok-values.values in
    new_is g.run c.args.job.now c.args.parts c.args.rank c.args.ranks c.dealing-extent.result.0 c.dealing-extent.result.1 c.at-nest.result.now.target.array c.factors-stored.result.1 c.stored_entries.result c.in_ok-values.values c.new.result c.new-2.result c.from_vec.result c.from_vec-2.result
    c.requires.0 job parts c.requires.1.1.0 c.requires.1.1.1.0 c.dealing-extent.ensures target c.factors-stored.ensures.source entries (subst Q c.as_slice.ensures c.in_ok-values.ensures) (c.from_vec.ensures ∙ c.in_ok-given.ensures) (c.from_vec-2.ensures ∙ c.in_ok-sent.ensures)
