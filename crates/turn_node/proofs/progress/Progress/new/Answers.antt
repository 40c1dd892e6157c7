use Rattle.std.proofs.Common.{[], replicate, refl, ap, ◌∙◌}
use Rattle.turn_node.specs.declared.progress.Progress.{Progress}
use Rattle.turn_node.specs.declared.stage.Stage.TheVariants.{Inspect}
use Rattle.turn_node.specs.Asks.{no_needs}
use Rattle.turn_node.proofs.ProgressLemmas.{new_is}
use Rattle.turn_node.proofs.progress.Progress.new.Goals as goal

pub returns-clause-is : goal.returns-clause-is
returns-clause-is g c =
    let n : Progress = record { rank = c.args.rank; turns = c.args.turns; asks = c.new-2.result; asked = c.in_ok-asked.asked; mail = c.in_ok-mail.mail; taken = c.in_ok-taken.taken; sent = c.from_vec.result; stage = Inspect } in
    let r = c.requires.1.1.0 in
    (new_is g.run n c.requires.0 c.requires.1.0 c.requires.1.1.1 (c.in_ok-asked.ensures ∙ ap (λ k. replicate k no_needs) r) (c.in_ok-mail.ensures ∙ ap (λ k. replicate k []) r) (c.in_ok-taken.ensures ∙ ap (λ k. replicate k 0) r)
    (c.from_vec.ensures ∙ c.in_ok-sent.ensures ∙ ap (λ k. replicate k (record { letters = 0; values = 0 })) r) refl).0

pub returns-clause-fresh : goal.returns-clause-fresh
returns-clause-fresh g c =
    let n : Progress = record { rank = c.args.rank; turns = c.args.turns; asks = c.new-2.result; asked = c.in_ok-asked.asked; mail = c.in_ok-mail.mail; taken = c.in_ok-taken.taken; sent = c.from_vec.result; stage = Inspect } in
    let r = c.requires.1.1.0 in
    (new_is g.run n c.requires.0 c.requires.1.0 c.requires.1.1.1 (c.in_ok-asked.ensures ∙ ap (λ k. replicate k no_needs) r) (c.in_ok-mail.ensures ∙ ap (λ k. replicate k []) r) (c.in_ok-taken.ensures ∙ ap (λ k. replicate k 0) r)
    (c.from_vec.ensures ∙ c.in_ok-sent.ensures ∙ ap (λ k. replicate k (record { letters = 0; values = 0 })) r) refl).1
