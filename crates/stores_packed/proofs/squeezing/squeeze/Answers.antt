use Rattle.std.proofs.Common.{◌+◌, ◌++◌, ◌∷◌, [], sym, subst, ap, ◌∙◌}
use Rattle.stores_packed.proofs.RangeLemmas.{AreKept, kept_more, kept_skip}
use Rattle.stores_packed.proofs.squeezing.squeeze.Goals as goal
use Rattle.stores_packed.proofs.squeezing.squeeze.Goals.{then-from-line+in_ok-push+in_ok-push-2, else-from-line}

pub keeping-preserved : goal.keeping-preserved
keeping-preserved c =
    let from = c.args.from.now in
    let line = c.keeping.line in
    elim c.if-from-line.branch [
      | then-from-line+in_ok-push+in_ok-push-2 w ↦
          let outers = ap (λ v. v.items) w.outers-is ∙ w.in_ok-push.ensures.items in
          let starts = ap (λ v. v.items) w.starts-is ∙ w.in_ok-push-2.ensures.items in
          subst (λ xs. AreKept from (line + 1) xs c.if-from-line.starts.items) (sym outers)
          (subst (λ xs. AreKept from (line + 1) (c.keeping.outers.items ++ line ∷ []) xs) (sym starts) (kept_more from line c.keeping.outers.items c.keeping.starts.items c.keeping.invariant w.if-from-line.true))
      | else-from-line w ↦
          subst (λ v. AreKept from (line + 1) v.items c.if-from-line.starts.items) (sym w.outers-is)
          (subst (λ v. AreKept from (line + 1) c.keeping.outers.items v.items) (sym w.starts-is) (kept_skip from line c.keeping.outers.items c.keeping.starts.items c.keeping.invariant w.if-from-line.false))
    ]
