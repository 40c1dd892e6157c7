-- Letters that are told apart by a number, for tests.
use Rattle.std.specs.Prelude.{◌≡◌, ℕ, List, [], IsSome, map}
use Rattle.std.specs.List.{range_with_len}
use Rattle.bern_base.specs.declared.letter.Letter.{Letter}
use Rattle.bern_base.specs.declared.letter.Letter.TheVariants.{Values}
use Rattle.rank_mail.specs.Lanes.{Books}
use Rattle.rank_mail.specs.Desks.{Desk, peer_at, posted, book_to}

abbrev pub numbered : ℕ → Letter
numbered number = Values number []

-- the first of them
abbrev pub numbers : ℕ → List Letter
numbers count = map numbered (range_with_len 0 count)

-- each rank is to post so many to each other one
abbrev pub alike : ℕ → Books
alike count p q = numbers count

-- the end has still to post all of them to rank q
pub record IsReady (count : ℕ) (desk : Desk) (q : ℕ) : Type 0 where
  pub known : IsSome (peer_at desk q)
  pub book : book_to desk q ≡ numbers count
  pub none : posted desk q ≡ []
