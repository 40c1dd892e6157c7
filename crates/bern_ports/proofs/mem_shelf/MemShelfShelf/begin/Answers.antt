use Rattle.std.proofs.Common.{List, ℕ, sym, ◌∙◌, Some, Err, refl, subst, rules}
use Rattle.bern_ports.specs.Files.{BlamesOnly}
use Rattle.bern_ports.specs.MemShelf.{count_of}
use Rattle.bern_ports.proofs.ShelfLemmas.{place-Some, blames}
use Rattle.bern_ports.proofs.mem_shelf.MemShelfShelf.begin.Goals as goal

pub returns-then-is_to_fail-clause-blame : goal.returns-then-is_to_fail-clause-blame
returns-then-is_to_fail-clause-blame c =
    let s = c.args.self.now in
    let Blames : List ℕ → Type 0 = λ counts. BlamesOnly {T = Unit {0}} (Some s.files) c.args.name.now (count_of s.files s.faults_by_file) (count_of s.files counts) (Err c.fault-then-is_to_fail.result) in
    subst Blames (sym c.count_fault.ensures.count)
    (blames s.files c.args.name.now c.in-Some.at s.faults_by_file c.fault-then-is_to_fail.result (sym c.place.ensures ∙ c.in-Some.is) s.faults_beside c.count_fault.ensures.fits)

pub returns-else-is_to_fail-clause-start : goal.returns-else-is_to_fail-clause-start
returns-else-is_to_fail-clause-start c =
    let found = sym c.place.ensures ∙ c.in-Some.is in
    record {
      there = rw found (search rules);
      left = rw found refl;
      current = (place-Some c.args.self.now.files c.args.name.now c.in-Some.at found).1;
    }
