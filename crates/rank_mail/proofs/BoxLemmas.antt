-- Each step on a box keeps its rule.
use Rattle.std.proofs.Common.{◌≡◌, ℕ, zero, suc, List, [], ◌∷◌, ◌++◌, length, drop, slice_set, refl, sym, ap, ◌∙◌, subst, append_assoc, ◌⊎◌, inl, inr, ⊎_elim}
use mathlib.Core.Option.{some, some-injective, some-ne-none}
use lib.ListN.{get_elem?}
use Rattle.crossbeam_queue.specs.Fifo.{Pushes, Pops, Forks, Merges, Learns}
use Rattle.crossbeam_queue.proofs.Lists.{at_set}
use Rattle.bern_base.specs.declared.letter.Letter.{Letter}
use Rattle.rank_scripts.specs.Scripts.{IsFrontOf, IsNextOf}
use Rattle.rank_scripts.proofs.BookLemmas.{IsFrontOf-from, IsFrontOf-split, IsFrontOf-next, IsNextOf-from}
use Rattle.rank_mail.specs.declared.rule.Role.TheVariants.{Whole, Receives, Sends, Joined, Spent}
use Rattle.rank_mail.specs.declared.rule.Route.{Route}
use Rattle.rank_mail.specs.declared.rule.Hand.{Hand}
use Rattle.rank_mail.specs.Hands.{nowhere, whole, receives, sends, joined, spent, IsHeld, Unsplit, Split, Closed, IsBoxOf, IsBox, AreFronts, IsTaken}

-- the pass of a list of one, and of a list of two
only : (a v : Hand) (port : ℕ) → get_elem? (a ∷ []) port ≡ some v → (port ≡ 0) × (a ≡ v)
only a v zero e = (refl, some-injective a v e)
only a v (suc port) e = absurd (some-ne-none v (sym e))

either : (a b v : Hand) (port : ℕ) → get_elem? (a ∷ b ∷ []) port ≡ some v → ((port ≡ 0) × (a ≡ v)) ⊎ ((port ≡ 1) × (b ≡ v))
either a b v zero e = inl (refl, some-injective a v e)
either a b v (suc zero) e = inr (refl, some-injective b v e)
either a b v (suc (suc port)) e = absurd (some-ne-none v (sym e))

-- the passes with another view at one place
abbrev changed : List Hand → ℕ → Hand → List Hand → Type 0
changed views port w after = slice_set views port w ≡ after

first_changed : (a b w : Hand) (views : List Hand) (port : ℕ) → views ≡ a ∷ b ∷ [] → port ≡ 0 → slice_set views port w ≡ w ∷ b ∷ []
first_changed a b w views port all at = ap (λ xs. slice_set xs port w) all ∙ ap (λ n. slice_set (a ∷ b ∷ []) n w) at

second_changed : (a b w : Hand) (views : List Hand) (port : ℕ) → views ≡ a ∷ b ∷ [] → port ≡ 1 → slice_set views port w ≡ a ∷ w ∷ []
second_changed a b w views port all at = ap (λ xs. slice_set xs port w) all ∙ ap (λ n. slice_set (a ∷ b ∷ []) n w) at

alone_changed : (a w : Hand) (views : List Hand) (port : ℕ) → views ≡ a ∷ [] → port ≡ 0 → slice_set views port w ≡ w ∷ []
alone_changed a w views port all at = ap (λ xs. slice_set xs port w) all ∙ ap (λ n. slice_set (a ∷ []) n w) at

-- what the rule says to the sender, to the receiver, to the pass of an unused box and to that of a closed one
record IsSender (items : List Letter) (views : List Hand) (port : ℕ) (v : Hand) : Type 0 where
  taken : List Letter
  through : v.posted ≡ taken ++ items
  within : IsFrontOf v.posted v.route.book
  place : port ≡ 1
  views_are : views ≡ receives v.route taken ∷ sends v.route v.posted ∷ []

record IsReceiver (items : List Letter) (views : List Hand) (port : ℕ) (v : Hand) : Type 0 where
  posted : List Letter
  through : posted ≡ v.taken ++ items
  within : IsFrontOf posted v.route.book
  place : port ≡ 0
  views_are : views ≡ receives v.route v.taken ∷ sends v.route posted ∷ []

sender : (items : List Letter) (views : List Hand) (port : ℕ) (v : Hand) → v.role ≡ Sends → IsBox items views → get_elem? views port ≡ some v → IsSender items views port v
sender items views port v may (route, posted, taken, h) at = held h.held
  where
    looked : (xs : List Hand) → views ≡ xs → get_elem? xs port ≡ some v
    looked xs e = ap (λ ys. get_elem? ys port) (sym e) ∙ at

    here : (is : sends route posted ≡ v) → port ≡ 1 → views ≡ receives route taken ∷ sends route posted ∷ [] → IsSender items views port v
    here is place all =
        let Q : Hand → Type 0 = λ u. IsSender items views port u in
        subst Q is (record { taken = taken; through = h.through; within = h.within; place = place; views_are = all })

    held : IsHeld route posted taken views → IsSender items views port v
    held (Unsplit none all) = let r : (port ≡ 0) × (whole ≡ v) = only whole v port (looked _ all) in let e : Whole ≡ Sends = ap (λ (u : Hand). u.role) r.1 ∙ may in absurd cc
    held (Split all) = ⊎_elim
        (λ (r : (port ≡ 0) × (receives route taken ≡ v)). let e : Receives ≡ Sends = ap (λ (u : Hand). u.role) r.1 ∙ may in absurd cc)
        (λ (r : (port ≡ 1) × (sends route posted ≡ v)). here r.1 r.0 all)
        (either (receives route taken) (sends route posted) v port (looked _ all))
    held (Closed all) = ⊎_elim
        (λ (r : (port ≡ 0) × (joined route posted taken ≡ v)). let e : Joined ≡ Sends = ap (λ (u : Hand). u.role) r.1 ∙ may in absurd cc)
        (λ (r : (port ≡ 1) × (spent ≡ v)). let e : Spent ≡ Sends = ap (λ (u : Hand). u.role) r.1 ∙ may in absurd cc)
        (either (joined route posted taken) spent v port (looked _ all))

receiver : (items : List Letter) (views : List Hand) (port : ℕ) (v : Hand) → v.role ≡ Receives → IsBox items views → get_elem? views port ≡ some v → IsReceiver items views port v
receiver items views port v may (route, posted, taken, h) at = held h.held
  where
    looked : (xs : List Hand) → views ≡ xs → get_elem? xs port ≡ some v
    looked xs e = ap (λ ys. get_elem? ys port) (sym e) ∙ at

    here : (is : receives route taken ≡ v) → port ≡ 0 → views ≡ receives route taken ∷ sends route posted ∷ [] → IsReceiver items views port v
    here is place all =
        let Q : Hand → Type 0 = λ u. IsReceiver items views port u in
        subst Q is (record { posted = posted; through = h.through; within = h.within; place = place; views_are = all })

    held : IsHeld route posted taken views → IsReceiver items views port v
    held (Unsplit none all) = let r : (port ≡ 0) × (whole ≡ v) = only whole v port (looked _ all) in let e : Whole ≡ Receives = ap (λ (u : Hand). u.role) r.1 ∙ may in absurd cc
    held (Split all) = ⊎_elim
        (λ (r : (port ≡ 0) × (receives route taken ≡ v)). here r.1 r.0 all)
        (λ (r : (port ≡ 1) × (sends route posted ≡ v)). let e : Sends ≡ Receives = ap (λ (u : Hand). u.role) r.1 ∙ may in absurd cc)
        (either (receives route taken) (sends route posted) v port (looked _ all))
    held (Closed all) = ⊎_elim
        (λ (r : (port ≡ 0) × (joined route posted taken ≡ v)). let e : Joined ≡ Receives = ap (λ (u : Hand). u.role) r.1 ∙ may in absurd cc)
        (λ (r : (port ≡ 1) × (spent ≡ v)). let e : Spent ≡ Receives = ap (λ (u : Hand). u.role) r.1 ∙ may in absurd cc)
        (either (joined route posted taken) spent v port (looked _ all))

-- lists that make nothing together hold nothing
none_after : (xs ys : List Letter) → xs ++ ys ≡ [] → ys ≡ []
none_after [] ys e = e
none_after (x ∷ xs) ys e = absurd cc

-- a new box
pub begins : IsBox [] (whole ∷ [])
begins = (nowhere, [], [], record { through = refl; within = refl; held = Unsplit refl refl })

-- a letter is posted
pub pushes : (n port : ℕ) (v : Hand) (x : Letter) → v.role ≡ Sends → IsNextOf v.route.book v.posted x →
    Pushes IsBox n port v x (λ w. w ≡ sends v.route (v.posted ++ x ∷ []))
pushes n port v x may next items views room h at =
    let s = sender items views port v may h at in
    let w = sends v.route (v.posted ++ x ∷ []) in
    let box : IsBoxOf v.route (v.posted ++ x ∷ []) s.taken (items ++ x ∷ []) (slice_set views port w) = record {
      through = ap (λ xs. xs ++ x ∷ []) s.through ∙ append_assoc s.taken items (x ∷ []);
      within = IsFrontOf-next v.posted v.route.book x s.within next;
      held = Split (second_changed (receives v.route s.taken) (sends v.route v.posted) w views port s.views_are s.place);
    } in
    (w, (v.route, v.posted ++ x ∷ [], s.taken, box), refl)

-- a letter is taken
pub pops : (port : ℕ) (v : Hand) → v.role ≡ Receives → Pops IsBox port v (λ x w. IsTaken v x w)
pops port v may x items views h at =
    let s = receiver (x ∷ items) views port v may h at in
    let w = receives v.route (v.taken ++ x ∷ []) in
    let box : IsBoxOf v.route s.posted (v.taken ++ x ∷ []) items (slice_set views port w) = record {
      through = s.through ∙ sym (append_assoc v.taken (x ∷ []) items);
      within = s.within;
      held = Split (first_changed (receives v.route v.taken) (sends v.route s.posted) w views port s.views_are s.place);
    } in
    let after = items ++ behind s.posted v.route.book in
    let whole_book : v.taken ++ x ∷ after ≡ v.route.book =
    sym (append_assoc v.taken (x ∷ items) (behind s.posted v.route.book)) ∙ ap (λ xs. xs ++ behind s.posted v.route.book) (sym s.through) ∙ IsFrontOf-split s.posted v.route.book s.within in
    (w, (v.route, s.posted, v.taken ++ x ∷ [], box), record { after = refl; next = IsNextOf-from v.taken x after v.route.book whole_book })
  where
    behind : List Letter → List Letter → List Letter
    behind front book = drop (length front) book

-- the sender's pass is split from the one that there is
pub forks : (route : Route) (port : ℕ) (v : Hand) → v.role ≡ Whole → Forks IsBox port v (receives route []) (sends route [])
forks route port v may items views (old, posted, taken, h) at = held h.held
  where
    looked : (xs : List Hand) → views ≡ xs → get_elem? xs port ≡ some v
    looked xs e = ap (λ ys. get_elem? ys port) (sym e) ∙ at

    none_held : posted ≡ [] → items ≡ []
    none_held none = none_after taken items (sym h.through ∙ none)

    held : IsHeld old posted taken views → IsBox items (slice_set views port (receives route []) ++ sends route [] ∷ [])
    held (Unsplit none all) =
        let r : (port ≡ 0) × (whole ≡ v) = only whole v port (looked _ all) in
        let box : IsBoxOf route [] [] items (slice_set views port (receives route []) ++ sends route [] ∷ []) = record {
          through = sym (none_held none);
          within = refl;
          held = Split (ap (λ xs. xs ++ sends route [] ∷ []) (alone_changed whole (receives route []) views port all r.0));
        } in
        (route, [], [], box)
    held (Split all) = ⊎_elim
        (λ (r : (port ≡ 0) × (receives old taken ≡ v)). let e : Receives ≡ Whole = ap (λ (u : Hand). u.role) r.1 ∙ may in absurd cc)
        (λ (r : (port ≡ 1) × (sends old posted ≡ v)). let e : Sends ≡ Whole = ap (λ (u : Hand). u.role) r.1 ∙ may in absurd cc)
        (either (receives old taken) (sends old posted) v port (looked _ all))
    held (Closed all) = ⊎_elim
        (λ (r : (port ≡ 0) × (joined old posted taken ≡ v)). let e : Joined ≡ Whole = ap (λ (u : Hand). u.role) r.1 ∙ may in absurd cc)
        (λ (r : (port ≡ 1) × (spent ≡ v)). let e : Spent ≡ Whole = ap (λ (u : Hand). u.role) r.1 ∙ may in absurd cc)
        (either (joined old posted taken) spent v port (looked _ all))

-- the receiver's pass takes in the sender's
pub merges : (port : ℕ) (v : Hand) (other : ℕ) (w : Hand) → v.role ≡ Receives → w.role ≡ Sends →
    Merges IsBox port v other w (joined v.route w.posted v.taken) spent
merges port v other w may_take may_post items views h at apart after =
    let was = ⊎_elim (λ (x : (other ≡ port) × (both ≡ w)). absurd (apart x.0)) (λ (x : (¬ (other ≡ port)) × (get_elem? views other ≡ some w)). x.1) (at_set views port other both w after) in
    let s = sender items views other w may_post h was in
    let r = receiver items views port v may_take h at in
    let same : sends v.route r.posted ≡ sends w.route w.posted = second_of (sym r.views_are ∙ s.views_are) in
    let posted : r.posted ≡ w.posted = ap (λ (u : Hand). u.posted) same in
    let box : IsBoxOf v.route w.posted v.taken items (slice_set (slice_set views port both) other spent) = record {
      through = sym posted ∙ r.through;
      within = (let P : List Letter → Type 0 = λ xs. IsFrontOf xs v.route.book in subst P posted r.within);
      held = Closed (second_changed both (sends v.route r.posted) spent (slice_set views port both) other (first_changed (receives v.route v.taken) (sends v.route r.posted) both views port r.views_are r.place) s.place);
    } in
    (v.route, w.posted, v.taken, box)
  where
    both : Hand
    both = joined v.route w.posted v.taken

    second_of : {a b c d : Hand} → a ∷ b ∷ [] ≡ c ∷ d ∷ [] → b ≡ d
    second_of {a} {b} {c} {d} e = cc

-- what a joined pass knows is in order
pub totals : (port : ℕ) (v : Hand) → v.role ≡ Joined → Learns IsBox port v (λ items. AreFronts v.taken v.posted v.route.book)
totals port v may items views (route, posted, taken, h) at = held h.held
  where
    looked : (xs : List Hand) → views ≡ xs → get_elem? xs port ≡ some v
    looked xs e = ap (λ ys. get_elem? ys port) (sym e) ∙ at

    held : IsHeld route posted taken views → AreFronts v.taken v.posted v.route.book
    held (Unsplit none all) = let r : (port ≡ 0) × (whole ≡ v) = only whole v port (looked _ all) in let e : Whole ≡ Joined = ap (λ (u : Hand). u.role) r.1 ∙ may in absurd cc
    held (Split all) = ⊎_elim
        (λ (r : (port ≡ 0) × (receives route taken ≡ v)). let e : Receives ≡ Joined = ap (λ (u : Hand). u.role) r.1 ∙ may in absurd cc)
        (λ (r : (port ≡ 1) × (sends route posted ≡ v)). let e : Sends ≡ Joined = ap (λ (u : Hand). u.role) r.1 ∙ may in absurd cc)
        (either (receives route taken) (sends route posted) v port (looked _ all))
    held (Closed all) = ⊎_elim
        (λ (r : (port ≡ 0) × (joined route posted taken ≡ v)).
        let Q : Hand → Type 0 = λ u. AreFronts u.taken u.posted u.route.book in
        subst Q r.1 (record { of_posted = IsFrontOf-from taken items posted (sym h.through); of_book = h.within }))
        (λ (r : (port ≡ 1) × (spent ≡ v)). let e : Spent ≡ Joined = ap (λ (u : Hand). u.role) r.1 ∙ may in absurd cc)
        (either (joined route posted taken) spent v port (looked _ all))
