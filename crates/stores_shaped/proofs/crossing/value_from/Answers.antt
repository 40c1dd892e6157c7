use Rattle.std.proofs.Common.{◌≡◌, ◌∙◌, ◌<◌, ◌≤◌, ⊎_elim, length, get_or, sym, subst, arith}
use Rattle.std.proofs.lemmas.Bool.{cases_lt}
use Rattle.bern_base.proofs.ElementLemmas.{element_none, element_one, larger_from, smaller_up_to}
use Rattle.stores_shaped.proofs.crossing.value_from.Goals as goal

pub returns-then-here-number-clause-value : goal.returns-then-here-number-clause-value
returns-then-here-number-clause-value c =
    let e = c.index-entries-at.result in
    let m = c.args.part.now in
    let is : e ≡ get_or m.entries c.passing.at e = subst (λ xs. e ≡ get_or xs c.passing.at e) c.as_slice-entries.ensures c.index-entries-at.is in
    let below : c.passing.at < length m.entries = subst (λ xs. c.passing.at < length xs) c.as_slice-entries.ensures c.passing-test.true in
    c.new.ensures ∙ c.bits.ensures.bits
    ∙ sym (element_one m.cols m.entries c.args.number c.passing.at e c.requires.part.rising below is (sym c.number-here.ensures ∙ c.if-here-number.true) c.bits.ensures.fits)

pub returns-then-here-number-2-clause-value : goal.returns-then-here-number-2-clause-value
returns-then-here-number-2-clause-value c =
    let e = c.index-entries-at.result in
    let m = c.args.part.now in
    let is : e ≡ get_or m.entries c.passing.at e = subst (λ xs. e ≡ get_or xs c.passing.at e) c.as_slice-entries.ensures c.index-entries-at.is in
    c.new-then-here-number-2.ensures
    ∙ sym (element_none m.cols m.entries c.args.number
    (λ k within same. ⊎_elim
    (λ (low : k < c.passing.at). omega (arith, c.passing.invariant.before k low, same))
    (λ high. omega (arith, larger_from m.cols m.entries c.passing.at c.args.number e c.requires.part.rising is (omega arith) k high within, same))
    (cases_lt k c.passing.at)))

pub passing-preserved : goal.passing-preserved
passing-preserved c =
    let e = c.index-entries-at.result in
    let m = c.args.part.now in
    let is : e ≡ get_or m.entries c.passing.at e = subst (λ xs. e ≡ get_or xs c.passing.at e) c.as_slice-entries.ensures c.index-entries-at.is in
    let below : c.passing.at < length m.entries = subst (λ xs. c.passing.at < length xs) c.as_slice-entries.ensures c.passing-test.true in record {
      within = omega arith;
      before = smaller_up_to m.cols m.entries c.passing.at c.args.number e c.requires.part.rising below is (omega arith);
    }

pub returns-clause-value : goal.returns-clause-value
returns-clause-value c =
    let m = c.args.part.now in
    let past = subst (λ xs. length xs ≤ c.passing.at) c.as_slice-entries.ensures c.passing-test.false in
    c.new-2.ensures
    ∙ sym (element_none m.cols m.entries c.args.number (λ k within same. omega (arith, c.passing.invariant.before k (omega (arith, past)), same)))
