use Rattle.std.proofs.Common.{◌++◌, sym, ap, ◌∙◌}
use Rattle.job_model.specs.Nests.{end_state}
use Rattle.rank_product.specs.Runs.{first_state}
use Rattle.job_runs.specs.Texts.{arrays_text, events_text}
use Rattle.job_runs.proofs.running.replay_text.Goals as goal

pub print_replayed-requires-clause-prints : goal.print_replayed-requires-clause-prints
print_replayed-requires-clause-prints c = c.requires.accepted.prints

pub returns : goal.returns
returns c =
    let job = c.args.job.now in
    c.in_ok-write_events.ensures.ok
    ∙ ap (λ t. t ++ events_text c.in_ok-values.events) (c.in_ok-text.ensures ∙ ap (arrays_text job) (sym c.in_ok-values.ensures.state))
    ∙ ap (λ n. arrays_text job (end_state job (first_state c.args.matrices)) ++ events_text n) c.in_ok-values.ensures.events
