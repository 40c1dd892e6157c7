use Rattle.std.proofs.Common.{[], sym, ◌∙◌, arith}
use Rattle.std.proofs.lemmas.List.Quantifiers.{position-Some}
use Rattle.job_files.specs.FileOrder.{IsForUse}
use Rattle.job_files.specs.PlaceLists.{is_place_of}
use Rattle.job_files.specs.declared.uses.Use.{Use}
use Rattle.job_files.specs.declared.uses.Use.TheVariants as by
use Rattle.job_files.proofs.ArrayLemmas.{zip_len}
use Rattle.job_files.proofs.OrderLemmas.{none_there}
use Rattle.job_files.proofs.PlaceListLemmas.{use_at, zip_found}
use Rattle.job_files.proofs.lists.listed_places.Goals as goal

pub at-requires : goal.at-requires
at-requires c =
    let none : Use = by.Order [] 0 in
    let found = position-Some (is_place_of c.args.file.now c.args.size c.args.ranks) c.args.uses.now c.in-Some.number none (sym c.place_use.ensures ∙ c.in-Some.is) in
    omega (arith, found.0, zip_len IsForUse c.args.uses.now c.args.loaded.now c.requires)

pub listed_by-requires-clause-matrix : goal.listed_by-requires-clause-matrix
listed_by-requires-clause-matrix c =
    let none : Use = by.Order [] 0 in
    let found = position-Some (is_place_of c.args.file.now c.args.size c.args.ranks) c.args.uses.now c.in-Some.number none (sym c.place_use.ensures ∙ c.in-Some.is) in
    let own = use_at c.args.uses.now c.args.file.now c.args.size c.args.ranks c.in-Some.number none found.0 found.1 in
    (zip_found IsForUse c.args.uses.now c.args.loaded.now c.in-Some.number (by.Place c.args.file.now c.args.size c.args.ranks) c.at.result.now c.requires own c.at.ensures).matrix

pub listed_by-requires-clause-fits : goal.listed_by-requires-clause-fits
listed_by-requires-clause-fits c =
    let none : Use = by.Order [] 0 in
    let found = position-Some (is_place_of c.args.file.now c.args.size c.args.ranks) c.args.uses.now c.in-Some.number none (sym c.place_use.ensures ∙ c.in-Some.is) in
    let own = use_at c.args.uses.now c.args.file.now c.args.size c.args.ranks c.in-Some.number none found.0 found.1 in
    (zip_found IsForUse c.args.uses.now c.args.loaded.now c.in-Some.number (by.Place c.args.file.now c.args.size c.args.ranks) c.at.result.now c.requires own c.at.ensures).fits

pub returns-in_ok-listed_by-in-Some : goal.returns-in_ok-listed_by-in-Some
returns-in_ok-listed_by-in-Some c =
    let none : Use = by.Order [] 0 in
    let found = position-Some (is_place_of c.args.file.now c.args.size c.args.ranks) c.args.uses.now c.in-Some.number none (sym c.place_use.ensures ∙ c.in-Some.is) in record {
      number = c.in-Some.number;
      matrix = c.at.result.now;
      use_is = use_at c.args.uses.now c.args.file.now c.args.size c.args.ranks c.in-Some.number none found.0 found.1;
      matrix_is = c.at.ensures;
      is = c.in_ok-listed_by-in-Some.ensures;
    }

pub returns-in-None : goal.returns-in-None
returns-in-None c = none_there (is_place_of c.args.file.now c.args.size c.args.ranks) c.args.uses.now (sym c.place_use.ensures ∙ c.in-None.is)
