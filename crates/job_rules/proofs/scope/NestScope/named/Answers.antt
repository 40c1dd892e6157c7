use Rattle.std.proofs.Common.{◌∙◌, sym, ap}
use Rattle.std.specs.Option.{option_or}
use Rattle.job_rules.specs.Known.{lookup}
use Rattle.job_rules.specs.Looked.{named_in}
use Rattle.job_rules.proofs.scope.NestScope.named.Goals as goal

pub returns-in-Some : goal.returns-in-Some
returns-in-Some c =
    ap (λ o. option_or o (lookup c.args.name.now c.self.inside.variables.now)) (sym c.in-Some.is ∙ c.find.ensures) ∙ ap (λ scope. named_in scope c.args.name.now) c.self.view_is

pub returns-in-None : goal.returns-in-None
returns-in-None c =
    c.find-in-None.ensures ∙ ap (λ o. option_or o (lookup c.args.name.now c.self.inside.variables.now)) (sym c.in-None.is ∙ c.find.ensures)
    ∙ ap (λ scope. named_in scope c.args.name.now) c.self.view_is
