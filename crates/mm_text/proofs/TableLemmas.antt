-- What becomes of a table at the line that a piece begins with.
use Rattle.std.proofs.Common.{◌≡◌, ℕ, suc, ◌+◌, ◌-◌, ◌<◌, false, replicate, List, ◌∷◌, ◌++◌, length, refl, sym, ap, ◌∙◌, arith, append_assoc, Ok, Err}
use Rattle.std.specs.Prelude.{Result}
use Rattle.bern_base.specs.declared.matrix.Entry.{Entry}
use Rattle.mm_profile.specs.declared.sizes.Head.{Head}
use Rattle.mm_profile.specs.Lines.{lines, words, without_return}
use Rattle.mm_profile.specs.Places.{Stated, At, column_from, columns}
use Rattle.mm_profile.specs.Sums.{matrix_of}
use Rattle.mm_profile.specs.Profile.{Fault, entries, kept, is_skipped, and_then}
use Rattle.mm_text.specs.declared.entry_line.Counted.{Counted}
use Rattle.mm_text.specs.declared.due.Due.{Due}
use Rattle.mm_text.specs.declared.due.Due.TheVariants.{Lines, Listed}
use Rattle.mm_text.specs.declared.table.Table.{Table}
use Rattle.mm_text.specs.Counts.{counted_list}
use Rattle.mm_text.specs.Cursor.{due_list}
use Rattle.mm_text.specs.Tables.{table_rest, lines_rest}
use Rattle.mm_text.specs.Fronts.{BeginsWithLine}
use Rattle.mm_text.specs.PlainLines.{SaysEntry, SaysNext}
use Rattle.mm_text.proofs.PieceLemmas.{lines_split}
use Rattle.mm_text.proofs.PlacesLemmas.{column_step}
use Rattle.mm_text.proofs.EntriesLemmas.{entries_ok}

-- entries that come before all others
counts_before : (head : Head) (before counted : List Entry) (read : Result (List Entry) Fault)
    → and_then (and_then read (λ more. Ok (counted ++ more))) (λ more. Ok (matrix_of head (before ++ more))) ≡ and_then read (λ more. Ok (matrix_of head ((before ++ counted) ++ more)))
counts_before head before counted (Ok more) = ap (λ all. Ok (matrix_of head all)) (sym (append_assoc before counted more))
counts_before head before counted (Err fault) = refl

-- a line that is not skipped
kept_line : (n : ℕ) (line : List ℕ) (rest : List (List ℕ)) → is_skipped (words line) ≡ false → kept n (line ∷ rest) ≡ (n, words line) ∷ kept (n + 1) rest
kept_line n line rest is = rw is refl

-- what becomes of a table at the entry line that a piece begins with
pub takes_first : (before : Table) (due : Due) (counted : Counted) (piece rest : List ℕ) (n : ℕ) (more : List ℕ) → BeginsWithLine piece rest (SaysNext before.head before.due counted due)
    → lines_rest before n (lines (piece ++ more))
    ≡ and_then (entries before.head (due_list before.head due) (kept (n + 1) (lines (rest ++ more))) (n + 1 + length (lines (rest ++ more)))) (λ all. Ok (matrix_of before.head ((before.counted.items ++ counted_list counted) ++ all)))
takes_first before due counted piece rest n more first =
    let line : List ℕ = without_return first.line in
    let left : List (List ℕ) = lines (rest ++ more) in
    let past : n + length (line ∷ left) ≡ n + 1 + length left = omega arith in
    ap (lines_rest before n) (lines_split piece first.line rest more first.whole first.is)
    ∙ ap (λ numbered. table_rest before numbered (n + length (line ∷ left))) (kept_line n line left first.says.kept)
    ∙ ap (table_rest before ((n, words line) ∷ kept (n + 1) left)) past
    ∙ ap (λ read. and_then read (λ all. Ok (matrix_of before.head (before.counted.items ++ all)))) (first.says.entry n (kept (n + 1) left) (n + 1 + length left))
    ∙ counts_before before.head before.counted.items (counted_list counted) (entries before.head (due_list before.head due) (kept (n + 1) left) (n + 1 + length left))

-- what a line says may be said otherwise
pub says_more : {bytes rest : List ℕ} {P Q : List ℕ → Type 0} → BeginsWithLine bytes rest P → ((line : List ℕ) → P line → Q line) → BeginsWithLine bytes rest Q
says_more first more = record { line = first.line; is = first.is; whole = first.whole; says = more (without_return first.line) first.says }

replicate_more : (n m : ℕ) → n ≡ suc m → replicate n Stated ≡ Stated ∷ replicate m Stated
replicate_more n m is = rw is refl

-- an entry line that names its place, where one is due
pub next_stated : (head : Head) (count : ℕ) (counted : Counted) (line : List ℕ) → 0 < count → SaysEntry head Stated counted line → SaysNext head (Lines count) counted (Lines (count - 1)) line
next_stated head count counted line some says = record {
  kept = says.kept;
  entry = λ n lines past.
      rw (replicate_more count (count - 1) (omega (arith, some))) (entries_ok head Stated (replicate (count - 1) Stated) (words line) n lines past (counted_list counted) says.entry);
}

-- an entry line that comes for a place
pub next_listed : (head : Head) (row col : ℕ) (counted : Counted) (after : Due) (line : List ℕ) → row < head.rows → due_list head after ≡ column_from head.rows (row + 1) col ++ columns head (col + 1) (head.cols - (col + 1))
    → SaysEntry head (At row col) counted line → SaysNext head (Listed row col) counted after line
next_listed head row col counted after line below places says = record {
  kept = says.kept;
  entry = λ n lines past.
      rw (column_step head.rows row col below)
      (rw (← places) (entries_ok head (At row col) (due_list head after) (words line) n lines past (counted_list counted) says.entry));
}
