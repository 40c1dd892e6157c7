use Rattle.std.proofs.Common.{◌≡◌, ◌∙◌, ◌*◌, ◌%◌, ◌^◌, refl, sym, ap, subst}
use Rattle.std.specs.Prelude.{if◌then◌else◌}
use Rattle.std.proofs.lemmas.Bool.{eq-eqb, ne_eqb}
use Rattle.std.proofs.lemmas.Nat.{mul-mod_first}
use Rattle.job_model.specs.Values.{product_of}
use Rattle.split_exec.specs.Hits.{Grow}
use Rattle.split_exec.specs.Recorded.{Source, leaves_of, record_adds, record_value, slots_value, source}
use Rattle.split_exec.proofs.SumLemmas.{grow_one}
use Rattle.split_exec.proofs.records.add_record.Goals as goal

pub returns : goal.returns
returns g c =
    let f : Source = source g.V.Access.tree g.V.Cells.grid c.args.stores.now c.args.inbox.now.sets in
    let t = c.args.planned.now.term in
    let r = c.args.recorded.now in
    let value = c.with_leaves-value.result in
    let product = c.slot_product-product.result in
    let leaves = product_of (leaves_of f t r) in
    let same : record_value f t r % 2 ^ 64 ≡ value % 2 ^ 64 =
    sym (mul-mod_first (slots_value f t r) leaves (2 ^ 64)) ∙ ap (λ n. n * leaves % 2 ^ 64) (sym c.slot_product-product.ensures) ∙ mul-mod_first product leaves (2 ^ 64) ∙ sym c.with_leaves-value.ensures in
    subst (λ new. Grow c.args.delta.now new (λ k. record_adds f t k r)) (sym c.add.ensures)
    (grow_one c.args.delta.now r.target value (λ k. record_adds f t k r) c.requires.target
    (ap (λ b. (if b then record_value f t r else 0) % 2 ^ 64) (eq-eqb r.target r.target refl) ∙ same)
    (λ k apart. ap (λ b. if b then record_value f t r else 0) (ne_eqb r.target k (λ is. apart (sym is)))))
