use Rattle.std.proofs.Common.{arith, ℕ, List, Ok, sym, ◌∙◌, subst}
use Rattle.std.specs.List.{AllZip}
use Rattle.bern_base.specs.declared.matrix.Matrix.{Matrix}
use Rattle.job_files.specs.FileOrder.{HasRoom, IsArrayIn, IsForUse, IsOfUse, Loads, LoadsUses}
use Rattle.job_files.specs.Uses.{array_matrices, spread, uses_of, with_places}
use Rattle.job_files.specs.Weight.{weight_of}
use Rattle.job_files.proofs.ArrayLemmas.{arrays_room, own_count, spread_all, spread_arrays, zip_job}
use Rattle.job_files.proofs.JobLemmas.{all_load}
use Rattle.job_files.proofs.ShelfLemmas.{if_some_weaker}
use Rattle.std.specs.List.{All}
use Rattle.job_files.specs.PlaceLists.{HasListsIn}
use Rattle.job_files.specs.RowOrders.{HasOrderUse}
use Rattle.job_files.proofs.OrderLemmas.{orders_used}
use Rattle.job_files.proofs.PlaceListLemmas.{lists_kept, lists_told}
use Rattle.job_files.proofs.arrays.load_with.Goals as goal

pub array_files-requires-clause-used : goal.array_files-requires-clause-used
array_files-requires-clause-used g c = subst (λ us. All (HasOrderUse c.args.job.now.formats us) c.args.job.now.arrays) (sym c.in-Ok.ensures) (orders_used c.args.ranks (with_places c.args.places.now c.args.job.now))

pub array_files-requires-clause-own : goal.array_files-requires-clause-own
array_files-requires-clause-own g c = own_count c.args.ranks (with_places c.args.places.now c.args.job.now) c.in-Ok.uses c.in-Ok-load_uses.loaded c.in-Ok.ensures c.in-Ok-load_uses.ensures.matrix

pub returns-in-Ok-array_files-clause-matrices : goal.returns-in-Ok-array_files-clause-matrices
returns-in-Ok-array_files-clause-matrices g c =
    let job = with_places c.args.places.now c.args.job.now in
    let own : List Matrix = array_matrices c.in-Ok.uses c.in-Ok-load_uses.loaded in
    subst (AllZip (IsArrayIn job.formats) job.arrays) (sym c.in-Ok-array_files.ensures.matrices) (spread_arrays job.formats job.arrays own (zip_job IsForUse c.args.ranks job c.in-Ok.uses c.in-Ok-load_uses.loaded c.in-Ok.ensures c.in-Ok-load_uses.ensures.matrix))

pub returns-in-Ok-array_files-clause-told : goal.returns-in-Ok-array_files-clause-told
returns-in-Ok-array_files-clause-told g c =
    let job = with_places c.args.places.now c.args.job.now in
    let weight = c.in-Some.weight in
    let loaded : List Matrix = c.in-Ok-load_uses.loaded in
    let own : List Matrix = array_matrices c.in-Ok.uses loaded in
    if_some_weaker (g.F.Shelf.files c.args.shelf.now) (λ fs. LoadsUses fs weight c.in-Ok.uses (Ok loaded)) (λ fs. Loads fs c.args.name.now c.args.ranks job (Ok c.in-Ok-array_files.files.matrices))
    (λ fs loads.
    let told : LoadsUses fs weight (uses_of c.args.ranks job) (Ok loaded) = subst (λ us. LoadsUses fs weight us (Ok loaded)) c.in-Ok.ensures loads in
    let zip : AllZip (IsOfUse fs) c.in-Ok.uses loaded = loads.1 in
    all_load fs c.args.name.now c.args.ranks weight job loaded c.in-Ok-array_files.files.matrices c.in-Some.ensures.some.0 c.in-Some.ensures.some.1 told
    (c.in-Ok-array_files.ensures.matrices ∙ spread_all fs job.formats job.arrays own (zip_job (IsOfUse fs) c.args.ranks job c.in-Ok.uses loaded c.in-Ok.ensures zip)))
    c.in-Ok-load_uses.ensures.told

pub returns-in-Ok-array_files-clause-light : goal.returns-in-Ok-array_files-clause-light
returns-in-Ok-array_files-clause-light g c = omega (arith, c.in-Some.ensures.some.0, c.in-Some.ensures.some.1)

pub returns-in-Ok-array_files-clause-room : goal.returns-in-Ok-array_files-clause-room
returns-in-Ok-array_files-clause-room g c =
    let room = λ (w : ℕ). All (HasRoom w) (spread c.args.job.now.arrays (array_matrices c.in-Ok.uses c.in-Ok-load_uses.loaded)) in
    subst (All (HasRoom (weight_of c.args.job.now c.args.ranks))) (sym c.in-Ok-array_files.ensures.matrices)
    (subst room c.in-Some.ensures.some.0 (arrays_room c.in-Some.weight c.in-Ok.uses c.in-Ok-load_uses.loaded c.args.job.now.arrays c.in-Some.ensures.some.1 c.in-Ok-load_uses.ensures.room))

pub returns-in-Ok-array_files-clause-lists : goal.returns-in-Ok-array_files-clause-lists
returns-in-Ok-array_files-clause-lists g c among =
    lists_kept c.args.ranks (with_places c.args.places.now c.args.job.now) among c.in-Ok.uses c.in-Ok-load_uses.loaded c.in-Ok.ensures c.in-Ok-array_files.files.lists c.in-Ok-array_files.ensures.lists

pub returns-in-Ok-array_files-clause-listed : goal.returns-in-Ok-array_files-clause-listed
returns-in-Ok-array_files-clause-listed g c among =
    let job = with_places c.args.places.now c.args.job.now in
    if_some_weaker (g.F.Shelf.files c.args.shelf.now) (λ fs. LoadsUses fs c.in-Some.weight c.in-Ok.uses (Ok c.in-Ok-load_uses.loaded))
    (λ fs. HasListsIn fs c.args.ranks job (Ok c.in-Ok-array_files.files))
    (λ fs loads. lists_told c.args.ranks job among c.in-Ok.uses c.in-Ok-load_uses.loaded c.in-Ok.ensures fs loads.1 c.in-Ok-array_files.files.lists c.in-Ok-array_files.ensures.lists)
    c.in-Ok-load_uses.ensures.told
