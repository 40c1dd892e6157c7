use Rattle.std.proofs.Common.{◌≡◌, ℕ, ◌<◌, ◌≤◌, ◌+◌, List, length, get_or, sym, ap, ◌∙◌, subst, ⊎_elim, arith}
use Rattle.std.proofs.lemmas.Bool.{cases_lt, lt-ltb, le-ltb, ltb-false}
use Rattle.bern_base.specs.declared.matrix.Entry.{Entry}
use Rattle.placement.proofs.RanksLemmas.{IsReached, reached_next, reached_same, gap_found, gap_left, no_gap, all_single}
use Rattle.placement.proofs.listed.has_gap.Goals as goal
use Rattle.placement.proofs.listed.has_gap.Goals.{then-entry-next-2, else-entry-next-2}

pub returns-then-entry-next-clause-gap : goal.returns-then-entry-next-clause-gap
returns-then-entry-next-clause-gap c =
    let e = c.entry-item.result in
    let up : c.loop-entry.next < (get_or c.args.entries.now c.loop-entry.entry-index e).row = omega (arith, c.if-entry-next.true, ap (λ (f : Entry). f.row) c.entry-item.is) in
    sym (gap_found c.args.entries.now c.args.extent c.loop-entry.entry-index c.loop-entry.next e c.requires.inside c.requires.rising c.loop-entry.invariant c.loop-entry-test.true up)

pub loop-entry-preserved : goal.loop-entry-preserved
loop-entry-preserved c =
    let es = c.args.entries.now in
    let k = c.loop-entry.entry-index in
    let e = c.entry-item.result in
    let row : (get_or es k e).row ≡ e.row = ap (λ (f : Entry). f.row) (sym c.entry-item.is) in
    elim c.if-entry-next-2.branch [
      | then-entry-next-2 w ↦ subst (IsReached es (k + 1)) (sym w.next-is) (reached_next es k c.loop-entry.next e c.loop-entry.invariant c.loop-entry-test.true (row ∙ w.if-entry-next-2.true))
      | else-entry-next-2 w ↦
          subst (IsReached es (k + 1)) (sym w.next-is)
          (reached_same es k c.loop-entry.next e c.loop-entry.invariant c.loop-entry-test.true (omega (arith, row, c.if-entry-next.false, w.if-entry-next-2.false)))
    ]

at_end : (es : List Entry) (k next : ℕ) → k ≤ length es → length es ≤ k → IsReached es k next → IsReached es (length es) next
at_end es k next within past so_far = let all : k ≡ length es = omega (arith, within, past) in subst (λ n. IsReached es n next) all so_far

pub returns-clause-gap : goal.returns-clause-gap
returns-clause-gap c =
    let es = c.args.entries.now in
    let so_far : IsReached es (length es) c.loop-entry.next = at_end es c.loop-entry.entry-index c.loop-entry.next c.loop-entry.auto.entry-index-end c.loop-entry-test.false c.loop-entry.invariant in
    ⊎_elim
    (λ left. lt-ltb c.loop-entry.next c.args.extent left ∙ sym (gap_left es c.args.extent c.loop-entry.next so_far left))
    (λ past. le-ltb c.loop-entry.next c.args.extent past ∙ sym (no_gap es c.args.extent c.loop-entry.next so_far past))
    (cases_lt c.loop-entry.next c.args.extent)

pub returns-clause-single : goal.returns-clause-single
returns-clause-single c none few =
    let es = c.args.entries.now in
    let so_far : IsReached es (length es) c.loop-entry.next = at_end es c.loop-entry.entry-index c.loop-entry.next c.loop-entry.auto.entry-index-end c.loop-entry-test.false c.loop-entry.invariant in
    all_single es c.args.extent c.loop-entry.next so_far (ltb-false c.loop-entry.next c.args.extent none) few
