-- A strict rise of element numbers, by the entries themselves and by the list of their numbers.
use Rattle.std.proofs.Common.{◌≡◌, IsTrue, ℕ, zero, suc, ◌+◌, ◌-◌, ◌<◌, ◌≤◌, length, List, map, get_or, sym, subst, arith, ◌∙◌, ap, refl}
use Rattle.std.proofs.lemmas.List.{get_or-map, length-map}
use Rattle.std.specs.List.Sorted.{IsStrictlyIncreasing}
use Rattle.bern_base.specs.declared.matrix.Entry.{Entry}
use Rattle.bern_base.specs.Matrix.{number, IsInside}
use Rattle.bern_base.proofs.matrix.is_matrix.Goals as goal

number_at : (cols : ℕ) (xs : List Entry) (k : ℕ) (d : Entry) → k < length xs → get_or (map (number cols) xs) k 0 ≡ number cols (get_or xs k d)
number_at cols xs k d below = get_or-map (number cols) xs k d 0 below

numbers_rise : (cols : ℕ) (xs : List Entry) → ((k : ℕ) (d : Entry) → k + 1 < length xs → number cols (get_or xs k d) < number cols (get_or xs (k + 1) d)) → IsStrictlyIncreasing (map (number cols) xs)
numbers_rise cols xs rise k below =
    let d : Entry = record { row = 0; col = 0; value = 0 } in
    let inside : k + 1 < length xs = subst (λ n. k + 1 < n) (length-map xs (number cols)) below in
    rw (number_at cols xs k d (omega (arith, inside)), number_at cols xs (k + 1) d inside) (rise k d inside)

number_above : (cols : ℕ) (xs : List Entry) (k : ℕ) (d : Entry) → IsStrictlyIncreasing (map (number cols) xs) → k + 1 < length xs → number cols (get_or xs k d) < number cols (get_or xs (k + 1) d)
number_above cols xs k d rise inside =
    rw (sym (number_at cols xs k d (omega (arith, inside))), sym (number_at cols xs (k + 1) d inside)) (rise k (rw (length-map xs (number cols)) inside))

-- the number of an entry that is below `least` lies under that of the one before it
no_rise : (cols : ℕ) (xs : List Entry) (i least : ℕ) (e : Entry) → (i ≡ 0 → least ≡ 0) → ((d : Entry) → 0 < i → least ≡ number cols (get_or xs (i - 1) d) + 1) → number cols e < least → e ≡ get_or xs i e → i < length xs → IsStrictlyIncreasing (map (number cols) xs) → ⊥
no_rise cols xs zero least e start last below is inside rise = omega (arith, start refl, below)
no_rise cols xs (suc i) least e start last below is inside rise =
    let before : suc i - 1 ≡ i = omega arith in
    let one : suc i ≡ i + 1 = omega arith in
    let top : least ≡ number cols (get_or xs i e) + 1 = subst (λ j. least ≡ number cols (get_or xs j e) + 1) before (last e (omega arith)) in
    let up : number cols (get_or xs i e) < number cols (get_or xs (i + 1) e) = number_above cols xs i e rise (omega (arith, inside)) in
    let same : number cols e ≡ number cols (get_or xs (i + 1) e) = ap (number cols) (is ∙ ap (λ j. get_or xs j e) one) in
    omega (arith, top, up, same, below)

pub returns-then-not-is_inside : goal.returns-then-not-is_inside
returns-then-not-is_inside c =
    let P : Entry → Type 0 = IsInside c.args.matrix.now.rows c.args.matrix.now.cols in (
      λ t. cc,
      λ m.
          let here : c.loop-entry.entry-index < length c.args.matrix.now.entries = subst (λ xs. c.loop-entry.entry-index < length xs) c.as_slice-entry-items.ensures c.loop-entry-test.true in
          let same : get_or c.args.matrix.now.entries c.loop-entry.entry-index c.entry-item.result ≡ c.entry-item.result = sym (c.entry-item.is ∙ ap (λ xs. get_or xs c.loop-entry.entry-index c.entry-item.result) c.as_slice-entry-items.ensures) in
          subst IsTrue c.if-not-is_inside.true (c.is_inside.ensures.1 (subst P same (m.inside c.loop-entry.entry-index c.entry-item.result here))),
    )

pub returns-then-number-least : goal.returns-then-number-least
returns-then-number-least c = (
  λ t. cc,
  λ m. absurd (no_rise c.args.matrix.now.cols c.as_slice-entry-items.result.now c.loop-entry.entry-index c.loop-entry.least c.entry-item.result
      c.loop-entry.invariant.start c.loop-entry.invariant.last (rw (sym c.number-number.ensures) c.if-number-least.true) c.entry-item.is c.loop-entry-test.true
      (rw c.as_slice-entry-items.ensures m.rising)),
)

pub returns : goal.returns
returns c =
    let end : length c.args.matrix.now.entries ≤ c.loop-entry.entry-index = subst (λ xs. length xs ≤ c.loop-entry.entry-index) c.as_slice-entry-items.ensures c.loop-entry-test.false in (
      λ t. record {
        inside = λ k d below. subst (λ xs. IsInside c.args.matrix.now.rows c.args.matrix.now.cols (get_or xs k d)) c.as_slice-entry-items.ensures (c.loop-entry.invariant.inside k d (omega (arith, end, below)));
        rising = numbers_rise c.args.matrix.now.cols c.args.matrix.now.entries
            (λ k d below. subst (λ xs. number c.args.matrix.now.cols (get_or xs k d) < number c.args.matrix.now.cols (get_or xs (k + 1) d)) c.as_slice-entry-items.ensures
            (c.loop-entry.invariant.rising k d (omega (arith, end, below))));
      },
      λ m. refl,
    )
