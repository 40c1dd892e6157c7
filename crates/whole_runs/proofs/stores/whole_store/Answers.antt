use Rattle.std.proofs.Common.{◌≡◌, slice_get, sym, ap, ◌∙◌, subst}
use Rattle.bern_base.specs.declared.job.ArrayDecl.{ArrayDecl}
use Rattle.bern_base.specs.declared.job.FormatDecl.{FormatDecl}
use Rattle.formats.specs.Builds.{CanBuild}
use Rattle.whole_laws.proofs.BuildLemmas.{wholes-can-be-built}
use Rattle.whole_runs.proofs.ListLemmas.{some_same}
use Rattle.whole_runs.proofs.stores.whole_store.Goals as goal

pub build-requires : goal.build-requires
build-requires c =
    let r = c.requires in
    let array : r.array ≡ c.at-array.result.now = some_same (sym r.array_is ∙ c.at-array.ensures) in
    let format : r.format ≡ c.at-format.result.now =
    some_same (sym r.format_is ∙ ap (λ (a : ArrayDecl). slice_get c.args.job.now.formats a.format) array ∙ c.at-format.ensures) in
    subst (λ (f : FormatDecl). CanBuild f.shape c.in_ok-globals.globals c.args.order.now c.args.matrix) format
    (subst (λ gs. CanBuild r.format.shape gs c.args.order.now c.args.matrix) (sym c.in_ok-globals.ensures)
    (wholes-can-be-built r.array r.format r.ranks c.args.order.now c.args.matrix r.whole))
