use Rattle.std.proofs.Common.{◌≡◌, ℕ, Bool, Some, ◌+◌, ◌-◌, ◌<◌, suc, List, option_map, sym, ap, subst, ◌∙◌, arith}
use Rattle.std.proofs.lemmas.Result.{err_from_is_err_and}
use Rattle.bern_base.specs.declared.limits.TheConstants.{MOST_ITEMS}
use Rattle.bern_base.specs.declared.raw.RawItem.{RawItem}
use Rattle.job_text.specs.declared.tokens.Token.{Token}
use Rattle.job_text.specs.Reading.{seen}
use Rattle.job_text.specs.NestReading.{Reads, with_front, list_at, item_at, sign_at, items_at}
use Rattle.job_text.proofs.ListLemmas.{reads_none, reads_fail, reads_end, reads_on, with_front-nil}
use Rattle.job_text.proofs.StopLemmas.{gives_err}
use Rattle.job_text.proofs.sums.items.Goals as goal

pub loop-init : goal.loop-init
loop-init c = record {
  carries = rw c.new-items.ensures (with_front-nil _);
  within = omega arith;
}

so_far : (i : ℕ) (front : List RawItem) (minus : Bool) (rest : List Token) (all : Reads (List RawItem)) → i < MOST_ITEMS → with_front front (list_at item_at sign_at (MOST_ITEMS - i) minus rest) ≡ all → with_front front (list_at item_at sign_at (suc (MOST_ITEMS - (i + 1))) minus rest) ≡ all
so_far i front minus rest all below is =
    let turns : MOST_ITEMS - i ≡ suc (MOST_ITEMS - (i + 1)) = omega arith in
    subst (λ n. with_front front (list_at item_at sign_at n minus rest) ≡ all) turns is

pub returns-in_err-item-clause-value : goal.returns-in_err-item-clause-value
returns-in_err-item-clause-value c =
    let front = c.loop.items in
    let all = items_at c.args.minus c.args.tokens.now in
    let i = c.loop.counter in
    gives_err seen c.from_residual.result c.in_err-item.field-0.0 (item_at c.loop.minus c.loop.rest.now) all (err_from_is_err_and c.from_residual.result c.from_residual.ensures.1) c.in_err-item.ensures.value
    (reads_fail item_at sign_at front (MOST_ITEMS - (i + 1)) c.loop.minus c.loop.rest.now all (so_far i front c.loop.minus c.loop.rest.now all c.loop-test.true c.loop.invariant.carries))

pub returns-in-None-clause-value : goal.returns-in-None-clause-value
returns-in-None-clause-value c =
    let front = c.loop.items in
    let all = items_at c.args.minus c.args.tokens.now in
    let i = c.loop.counter in
    reads_end item_at sign_at front (MOST_ITEMS - (i + 1)) c.loop.minus c.loop.rest.now all (so_far i front c.loop.minus c.loop.rest.now all c.loop-test.true c.loop.invariant.carries)
    c.in_ok-item.after.now c.in_ok-item.item c.in_ok-item.ensures.value (sym c.next_sign.ensures.value ∙ ap (option_map seen) c.in-None.is)
    ∙ ap (λ items. Some (items, c.in_ok-item.after.now)) (sym c.in_ok-with_last-in-None.ensures)

pub loop-preserved : goal.loop-preserved
loop-preserved c =
    let front = c.loop.items in
    let all = items_at c.args.minus c.args.tokens.now in
    let i = c.loop.counter in
    record {
      carries = rw c.in_ok-items-in-Some.ensures (reads_on item_at sign_at front (MOST_ITEMS - (i + 1)) c.loop.minus c.loop.rest.now all (so_far i front c.loop.minus c.loop.rest.now all c.loop-test.true c.loop.invariant.carries)
          c.in-Some.sign c.in_ok-item.after.now c.in-Some.next.now c.in_ok-item.item c.in_ok-item.ensures.value (sym c.next_sign.ensures.value ∙ ap (option_map seen) c.in-Some.is));
      within = let item = c.in_ok-item.ensures.shorter in let next = c.in-Some.ensures.shorter in omega arith;
    }

pub returns-clause-value : goal.returns-clause-value
returns-clause-value c =
    let none : MOST_ITEMS - c.loop.counter ≡ 0 = omega arith in
    let all = items_at c.args.minus c.args.tokens.now in
    reads_none item_at sign_at c.loop.items c.loop.minus c.loop.rest.now all (subst (λ n. with_front c.loop.items (list_at item_at sign_at n c.loop.minus c.loop.rest.now) ≡ all) none c.loop.invariant.carries)
