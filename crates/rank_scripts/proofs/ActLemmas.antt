-- Acts joined end to end, and positions in a script.
use Rattle.std.proofs.Common.{◌≡◌, ℕ, zero, suc, ◌+◌, ◌≤◌, true, List, [], ◌∷◌, ◌++◌, length, length-append, drop, refl, sym, ap, ◌∙◌, append_assoc, arith}
use Rattle.std.proofs.lemmas.List.Concat.{flat_map-append}
use Rattle.rank_scripts.specs.Acts.{Act, Work, Post, Wait, posted_to, posts_to, works, waits, until, at_work, at_post, at_wait, at_end, receiver}
use Rattle.rank_scripts.specs.Nodes.{IsPlace}

-- what acts post that stand one after the other
pub posts_to-append : {L : Type 0} (q : ℕ) (xs ys : List (Act L)) →
    posts_to q (xs ++ ys) ≡ posts_to q xs ++ posts_to q ys
posts_to-append q xs ys = flat_map-append (posted_to q) xs ys

pub works-append : {L : Type 0} (xs ys : List (Act L)) → works (xs ++ ys) ≡ works xs + works ys
works-append [] ys = omega arith
works-append (Work ∷ xs) ys = let rest = works-append xs ys in omega arith
works-append (Post to letter ∷ xs) ys = works-append xs ys
works-append (Wait ∷ xs) ys = works-append xs ys

pub waits-append : {L : Type 0} (xs ys : List (Act L)) → waits (xs ++ ys) ≡ waits xs + waits ys
waits-append [] ys = omega arith
waits-append (Work ∷ xs) ys = waits-append xs ys
waits-append (Post to letter ∷ xs) ys = waits-append xs ys
waits-append (Wait ∷ xs) ys = let rest = waits-append xs ys in omega arith

-- what a list of acts is, by its first act
pub work_first : {L : Type 0} (todo : List (Act L)) → at_work todo ≡ true → todo ≡ Work ∷ drop 1 todo
work_first [] at = absurd (cc)
work_first (Work ∷ acts) at = refl
work_first (Post to letter ∷ acts) at = absurd (cc)
work_first (Wait ∷ acts) at = absurd (cc)

pub post_first : {L : Type 0} (todo : List (Act L)) → at_post todo ≡ true →
    (letter : L) × (todo ≡ Post (receiver todo) letter ∷ drop 1 todo)
post_first [] at = absurd (cc)
post_first (Work ∷ acts) at = absurd (cc)
post_first (Post to letter ∷ acts) at = (letter, refl)
post_first (Wait ∷ acts) at = absurd (cc)

pub wait_first : {L : Type 0} (todo : List (Act L)) → at_wait todo ≡ true → todo ≡ Wait ∷ drop 1 todo
wait_first [] at = absurd (cc)
wait_first (Work ∷ acts) at = absurd (cc)
wait_first (Post to letter ∷ acts) at = absurd (cc)
wait_first (Wait ∷ acts) at = refl

pub end_first : {L : Type 0} (todo : List (Act L)) → at_end todo ≡ true → todo ≡ []
end_first [] at = refl
end_first (act ∷ acts) at = absurd (cc)

-- what stands before a wait
pub until-wait : {L : Type 0} (before acts : List (Act L)) → until (waits before) (before ++ Wait ∷ acts) ≡ before
until-wait [] acts = refl
until-wait (Work ∷ before) acts = ap (λ xs. Work ∷ xs) (until-wait before acts)
until-wait (Post to letter ∷ before) acts = ap (λ xs. Post to letter ∷ xs) (until-wait before acts)
until-wait (Wait ∷ before) acts = ap (λ xs. Wait ∷ xs) (until-wait before acts)

-- no more is posted before a wait than in all
pub until-posts : {L : Type 0} (r m : ℕ) (acts : List (Act L)) →
    length (posts_to r (until m acts)) ≤ length (posts_to r acts)
until-posts r m [] = omega arith
until-posts r m (Work ∷ acts) = until-posts r m acts
until-posts r m (Post to letter ∷ acts) =
    let rest = until-posts r m acts in
    let here = length-append (posted_to r (Post to letter)) (posts_to r (until m acts)) in
    let all = length-append (posted_to r (Post to letter)) (posts_to r acts) in
    omega arith
until-posts r zero (Wait ∷ acts) = omega arith
until-posts r (suc m) (Wait ∷ acts) = until-posts r m acts

-- nor more than before a later wait
pub until-posts_before : {L : Type 0} (r m : ℕ) (before acts : List (Act L)) → m ≤ waits before →
    length (posts_to r (until m (before ++ Wait ∷ acts))) ≤ length (posts_to r before)
until-posts_before r zero [] acts h = omega arith
until-posts_before r (suc m) [] acts h = absurd (omega arith)
until-posts_before r m (Work ∷ before) acts h = until-posts_before r m before acts h
until-posts_before r m (Post to letter ∷ before) acts h =
    let rest = until-posts_before r m before acts h in
    let here = length-append (posted_to r (Post to letter)) (posts_to r (until m (before ++ Wait ∷ acts))) in
    let all = length-append (posted_to r (Post to letter)) (posts_to r before) in
    omega arith
until-posts_before r zero (Wait ∷ before) acts h = omega arith
until-posts_before r (suc m) (Wait ∷ before) acts h = until-posts_before r m before acts (omega arith)

-- the place one act further on
pub IsPlace-next : {L : Type 0} (script : List (Act L)) (m : ℕ) (act : Act L) (acts : List (Act L)) →
    IsPlace script m (act ∷ acts) → IsPlace script (m + waits (act ∷ [])) acts
IsPlace-next script m act acts place =
    record {
      before = place.before ++ act ∷ [];
      split = place.split ∙ sym (append_assoc place.before (act ∷ []) acts);
      count = let count = waits-append place.before (act ∷ []) in let before = place.count in omega arith;
    }
