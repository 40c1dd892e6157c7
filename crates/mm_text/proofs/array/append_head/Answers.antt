use Rattle.std.proofs.Common.{◌≡◌, ℕ, List, ◌++◌, codes, append_assoc}
use Rattle.mm_profile.specs.ArrayText.{sizes_line}
use Rattle.mm_text.proofs.AppendLemmas.{starts_with_append}
use Rattle.mm_text.proofs.array.append_head.Goals as goal

four_at_the_end : (out a b c d : List ℕ) → (((out ++ a) ++ b) ++ c) ++ d ≡ out ++ (((a ++ b) ++ c) ++ d)
four_at_the_end out a b c d = simp append_assoc

pub returns-clause-ok : goal.returns-clause-ok
returns-clause-ok c =
    rw (c.in_ok-append_sizes.ensures.ok, c.in_ok-append-3.ensures.ok, c.in_ok-append-2.ensures.ok, c.as_bytes.ensures, c.in_ok-append.ensures.ok)
    (four_at_the_end c.args.out.now (codes "%%MatrixMarket matrix array integer general\n% ") c.args.name.now (codes "\n") (sizes_line c.args.rows c.args.cols))

pub returns-clause-kept : goal.returns-clause-kept
returns-clause-kept c = rw (returns-clause-ok c) (starts_with_append _ _)
