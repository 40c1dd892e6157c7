use Rattle.std.proofs.Common.{◌≡◌, ◌∙◌, Bool, true, false, not, Option, Some, None, refl, sym, ap}
use Rattle.std.specs.Prelude.{is_none, is_some}
use Rattle.job_rules.specs.declared.names.Named.{Named}
use Rattle.job_rules.specs.Known.{lookup}
use Rattle.job_rules.proofs.declarations.is_unknown.Goals as goal

none_is : (o : Option Named) (b : Bool) → is_some o ≡ not b → b ≡ is_none o
none_is None true is = refl
none_is None false is = absurd cc
none_is (Some what) true is = absurd cc
none_is (Some what) false is = refl

pub returns : goal.returns
returns c =
    let found = c.find.ensures ∙ ap (λ name. lookup name c.args.names.now) c.as_bytes.ensures in
    none_is (lookup c.args.name.now c.args.names.now) c.is_none.result (sym (ap is_some found) ∙ c.is_none.ensures)
