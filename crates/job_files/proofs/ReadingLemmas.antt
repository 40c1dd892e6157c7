-- Reading a file piece by piece, against its whole.
use Rattle.std.proofs.Common.{◌≡◌, ℕ, ◌+◌, ◌<◌, ◌≤◌, min, take, List, [], ◌++◌, length, Some, None, Option, IsSome, Result, Ok, Err, sym, ap, ◌∙◌, subst, refl, append_assoc, append-nil, length-append, arith}
use Rattle.std.proofs.lemmas.Bool.{false≢true}
use Rattle.std.specs.Io.KnownBytes.{Consumes, IsAtEnd, ReadConsumes}
use Rattle.std.specs.Io.{ReadsAtMost}
use Rattle.std.proofs.lemmas.List.{length-take, take-append-le}
use Rattle.bern_ports.specs.Files.{Files, bytes_of, StandsAtStart}
use Rattle.job_files.specs.Answers.{Stands, TakesAtMost}

goes_on : (files : Files) (name bytes back given : List ℕ) (new : Option (List ℕ)) → bytes_of files name ≡ Some (bytes ++ back) → Consumes (Some back) new given → Stands files name (bytes ++ given) new
goes_on files name bytes back given None whole consumed = absurd consumed
goes_on files name bytes back given (Some rest) whole consumed =
    (rest, refl, whole ∙ ap (λ t. Some (bytes ++ t)) consumed ∙ ap (λ t. Some t) (sym (append_assoc bytes given rest)))

pub stands_more : (files : Files) (name bytes given : List ℕ) (old new : Option (List ℕ)) → Stands files name bytes old → Consumes old new given → Stands files name (bytes ++ given) new
stands_more files name bytes given old new stands consumed =
    goes_on files name bytes stands.0 given new stands.2 (subst (λ o. Consumes o new given) stands.1 consumed)

-- where nothing more comes, the whole was read
pub stands_end : (files : Files) (name bytes : List ℕ) (left : Option (List ℕ)) → Stands files name bytes left → IsAtEnd left → bytes_of files name ≡ Some bytes
stands_end files name bytes left stands end =
    let none : stands.0 ≡ [] = subst IsAtEnd stands.1 end in
    stands.2 ∙ ap (λ t. Some (bytes ++ t)) none ∙ ap (λ t. Some t) (append-nil bytes)

pub stands_long : (files : Files) (name bytes : List ℕ) (left : Option (List ℕ)) (limit : ℕ) → Stands files name bytes left → limit < length bytes → (whole : List ℕ) × (bytes_of files name ≡ Some whole) × (limit < length whole)
stands_long files name bytes left limit stands long = (bytes ++ stands.0, stands.2, longer (length bytes) (length stands.0) (length (bytes ++ stands.0)) limit (length-append bytes stands.0) long)
  where
    longer : (a b c n : ℕ) → c ≡ a + b → n < a → n < c
    longer a b c n sum long = omega (arith, sum, long)

start_of : (files : Files) (name : List ℕ) (bytes : Option (List ℕ)) (left : Option (List ℕ)) → IsSome bytes → bytes_of files name ≡ bytes → left ≡ bytes → Stands files name [] left
start_of files name None left some is same = absurd (false≢true some)
start_of files name (Some bytes) left some is same = (bytes, same, is)

pub stands_start : (files : Files) (name begun : List ℕ) (left : Option (List ℕ)) → StandsAtStart files name begun left → Stands files name [] left
stands_start files name begun left start = start_of files name (bytes_of files name) left start.there refl start.left

-- what a read put into the front of a longer buffer
pub consumes_front : {E : Type 0} (old new : Option (List ℕ)) (r : Result ℕ E) (buf rest : List ℕ) → ReadsAtMost r buf → 0 < length buf → ReadConsumes old new r buf → ReadConsumes old new r (buf ++ rest)
consumes_front old new (Ok n) buf rest within some read = (subst (Consumes old new) (sym (take-append-le n buf rest within.0)) read.0, λ none room. read.1 none some)
consumes_front old new (Err failed) buf rest within some read = read

-- so many bytes more were taken
pub takes_more : (most count : ℕ) (files : Files) (name bytes buf : List ℕ) (old new : Option (List ℕ)) → Stands files name bytes old → Consumes old new (take count buf) → length bytes + count ≤ most → TakesAtMost most files name new
takes_more most count files name bytes buf old new stands consumed few =
    (bytes ++ take count buf, stands_more files name bytes (take count buf) old new stands consumed, fits (length bytes) (length buf) (length (take count buf)) (length (bytes ++ take count buf)) (length-take count buf) (length-append bytes (take count buf)) refl)
  where
    fits : (a room given all : ℕ) → given ≡ min count room → all ≡ a + given → length bytes ≡ a → all ≤ most
    fits a room given all is sum own = omega (arith, is, sum, own, few)
