-- The letters of a turn, dropped rank after rank.
use Rattle.std.specs.Prelude.{◌≡◌, ℕ, ◌+◌, ◌<◌, ◌≤◌, length, drop}
use Rattle.turn_model.specs.Runs.{Run}
use Rattle.turn_node.specs.declared.progress.Progress.{Progress}
use Rattle.turn_node.specs.Progresses.{box_at, given_of, used}

-- of the ranks below n the letters of turn t were dropped, and nothing else changed
pub record HaveDropped (run : Run) (old new : Progress) (t n : ℕ) : Type 0 where
  pub same : new ≡ record old { mail = new.mail }
  pub long : length new.mail ≡ length old.mail
  pub before : (q : ℕ) → q < n → box_at new.mail q ≡ drop (used run old.rank (t + 1) q) (given_of run old q)
  pub after : (q : ℕ) → n ≤ q → box_at new.mail q ≡ box_at old.mail q
