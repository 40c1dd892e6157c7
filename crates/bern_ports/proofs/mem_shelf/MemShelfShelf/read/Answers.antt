use Rattle.std.proofs.Common.{◌≡◌, ℕ, ◌+◌, ◌≤◌, List, [], ◌++◌, length, take, drop, add-zero, sym, ◌∙◌, Some, Err, ap, subst}
use Rattle.bern_ports.specs.Files.{BlamesOnly, file_at}
use Rattle.bern_ports.specs.MemShelf.{count_of}
use Rattle.bern_ports.proofs.ShelfLemmas.{place_own, blames}
use Rattle.bern_ports.proofs.mem_shelf.MemShelfShelf.read.Goals as goal

pub returns-then-is_to_fail-clause-blame : goal.returns-then-is_to_fail-clause-blame
returns-then-is_to_fail-clause-blame c =
    let s = c.args.self.now in
    let name : List ℕ = (file_at s.files s.at).0 in
    let Blames : List ℕ → Type 0 = λ counts. BlamesOnly {T = ℕ} (Some s.files) name (count_of s.files s.faults_by_file) (count_of s.files counts) (Err c.fault.result) in
    subst Blames (sym c.count_fault.ensures.count)
    (blames s.files name s.at s.faults_by_file c.fault.result (place_own s.files s.at s.once (s.place c.requires.begun)) s.faults_beside c.count_fault.ensures.fits)

pub give-count-requires-clause-within : goal.give-count-requires-clause-within
give-count-requires-clause-within c =
    let s = c.args.self.now in
    let bytes : c.as_bytes-2.result.now ≡ (file_at s.files s.at).1 = c.as_bytes-2.ensures ∙ ap (λ p. p.1) c.file_of-file.ensures in
    subst (λ xs. s.offset ≤ length xs) (sym bytes) (s.within c.requires.begun)

pub invariant_of-self-2-clause-within : goal.invariant_of-self-2-clause-within
invariant_of-self-2-clause-within c =
    let s = c.args.self.now in
    let bytes : c.as_bytes-2.result.now ≡ (file_at s.files s.at).1 = c.as_bytes-2.ensures ∙ ap (λ p. p.1) c.file_of-file.ensures in
    λ begun. subst (λ xs. s.offset + c.give-count.result ≤ length xs) bytes c.give-count.ensures.within

pub returns-clause-bytes : goal.returns-clause-bytes
returns-clause-bytes c =
    let s = c.args.self.now in
    let n : ℕ = c.give-count.result in
    let bytes : c.as_bytes-2.result.now ≡ (file_at s.files s.at).1 = c.as_bytes-2.ensures ∙ ap (λ p. p.1) c.file_of-file.ensures in (
      subst (λ xs. drop s.offset xs ≡ take n c.give-count.new.buf ++ drop (s.offset + n) xs) bytes c.give-count.ensures.next,
      λ none room. ap (λ k. drop k (file_at s.files s.at).1) (ap (λ k. s.offset + k) none ∙ add-zero s.offset)
          ∙ subst (λ xs. drop s.offset xs ≡ []) bytes (c.give-count.ensures.some none),
    )
