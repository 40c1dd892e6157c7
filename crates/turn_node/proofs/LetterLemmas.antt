-- The letters that a rank posts are the next ones of its books.
use Rattle.std.proofs.Common.{◌≡◌, ℕ, ◌+◌, Some, Result, Ok, Err, IfOk, sym, ◌∙◌, subst}
use Rattle.bern_base.specs.declared.letter.Letter.{Letter}
use Rattle.turn_model.specs.Runs.{Run, schedule, scripts}
use Rattle.turn_model.specs.Schedules.{request, values_letter}
use Rattle.turn_node.specs.declared.progress.Progress.{Progress}
use Rattle.turn_node.specs.declared.stage.Stage.TheVariants.{Request, Values}
use Rattle.turn_node.specs.Positions.{todo_of}
use Rattle.turn_node.specs.Progresses.{node_of, IsFirstOfRest, IsNextToPost, IsProgress}
use Rattle.turn_node.proofs.MailLemmas.{is_due}
use Rattle.turn_node.proofs.NodeLemmas.{letter_fits}
use Rattle.turn_node.proofs.PositionLemmas.{post_request, post_values}

some_same : {A : Type 0} (x y : A) → Some x ≡ Some y → x ≡ y
some_same x y e = cc

pub request_fits : {E : Type 0} (run : Run) (n : Progress) (to : ℕ) (result : Result Letter E) → n.stage ≡ Request to → IsProgress run n → IfOk result (λ letter. letter ≡ request (schedule run) n.rank to) →
    (IfOk result (λ letter. IsFirstOfRest (scripts run) n.rank (node_of run n) letter)) × (IfOk result (λ letter. IsNextToPost (scripts run) n.rank (node_of run n) letter))
request_fits run n to (Ok letter) at is letter_is =
    let todo = post_request run n.rank to n.stage at is.stage in
    let P : Letter → Type 0 = λ l. (IsFirstOfRest (scripts run) n.rank (node_of run n) l) × (IsNextToPost (scripts run) n.rank (node_of run n) l) in
    subst P (sym letter_is) (letter_fits run n.rank to (node_of run n) (request (schedule run) n.rank to) (todo_of run n.rank (Request (to + 1))) is.fit todo)
request_fits run n to (Err error) at is letter_is = (tt, tt)

pub values_fits : {E : Type 0} (run : Run) (n : Progress) (turn to : ℕ) (result : Result Letter E) → n.stage ≡ Values turn to → IsProgress run n → IfOk result (λ letter. values_letter (schedule run) turn n.rank to ≡ Some letter) →
    (IfOk result (λ letter. IsFirstOfRest (scripts run) n.rank (node_of run n) letter)) × (IfOk result (λ letter. IsNextToPost (scripts run) n.rank (node_of run n) letter))
values_fits run n turn to (Ok letter) at is letter_is =
    let first = post_values run n.rank turn to n.stage at is.stage in
    let same : first.letter ≡ letter = some_same first.letter letter (sym (is_due run turn n.rank to first.letter first.is).letter_is ∙ letter_is) in
    let P : Letter → Type 0 = λ l. (IsFirstOfRest (scripts run) n.rank (node_of run n) l) × (IsNextToPost (scripts run) n.rank (node_of run n) l) in
    subst P same (letter_fits run n.rank to (node_of run n) first.letter (todo_of run n.rank (Values turn (to + 1))) is.fit first.todo)
values_fits run n turn to (Err error) at is letter_is = (tt, tt)
