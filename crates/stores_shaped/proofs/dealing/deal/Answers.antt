use Rattle.std.proofs.Common.{◌≡◌, ◌+◌, ◌++◌, ◌∷◌, [], List, ℕ, length, length-append, map, get_or, take, sym, ap, ◌∙◌, subst, arith}
use Rattle.std.proofs.lemmas.List.{length-map}
use Rattle.stores_shaped.specs.Counts.{AreDealt, entry_of}
use Rattle.stores_shaped.specs.declared.counts.RowCount.{RowCount}
use Rattle.stores_shaped.proofs.DealLemmas.{dealt_more, dealt_most}
use Rattle.stores_shaped.proofs.dealing.deal.Goals as goal

pub overflow_cast-len : goal.overflow_cast-len
overflow_cast-len c = omega (arith, c.len.ensures, c.diagonals.invariant.indices.few, dealt_most c.args.rows.now c.diagonals.diagonal, c.requires.few)

pub diagonals-preserved : goal.diagonals-preserved
diagonals-preserved c =
    let rows = c.args.rows.now in
    let f = c.args.filled.now in
    let d = c.diagonals.diagonal in
    let v = c.diagonals.invariant in
    let width = c.in_ok-push_diagonal.field-0 in
    let e = c.in_ok-push_diagonal.ensures in
    let starts = c.push.new.self.items in
    let begin : ℕ = c.len.result in
    let at : begin ≡ length c.diagonals.indices.items = omega (arith, c.len.ensures) in
    let more : starts ≡ c.diagonals.starts.items ++ begin ∷ [] = c.in_ok-push.ensures.items in record {
      indices = subst (λ (xs : List ℕ). AreDealt rows f.indices.items f.starts.items (d + 1) xs c.push_diagonal.new.indices.items) (sym more)
          (subst (λ (xs : List ℕ). AreDealt rows f.indices.items f.starts.items (d + 1) (c.diagonals.starts.items ++ begin ∷ []) xs) (sym e.indices)
          (dealt_more rows f.indices.items f.starts.items d c.diagonals.starts.items c.diagonals.indices.items width begin v.indices e.width at));
      values = subst (λ (xs : List ℕ). AreDealt rows f.values.items f.starts.items (d + 1) xs c.push_diagonal.new.values.items) (sym more)
          (subst (λ (xs : List ℕ). AreDealt rows f.values.items f.starts.items (d + 1) (c.diagonals.starts.items ++ begin ∷ []) xs) (sym e.values)
          (dealt_more rows f.values.items f.starts.items d c.diagonals.starts.items c.diagonals.values.items width begin v.values e.width (at ∙ sym v.alike)));
      alike = let entry : List ℕ → RowCount → ℕ = λ given r. get_or given (entry_of f.starts.items d r) 0 in
          omega (
            arith,
            v.alike,
            ap length e.indices,
            ap length e.values,
            length-append c.diagonals.indices.items (map (entry f.indices.items) (take width rows)),
            length-append c.diagonals.values.items (map (entry f.values.items) (take width rows)),
            length-map (take width rows) (entry f.indices.items),
            length-map (take width rows) (entry f.values.items),
          );
    }
