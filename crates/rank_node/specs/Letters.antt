-- What a node reads in the letters that it was given from a rank, and the Request that it writes.
use Rattle.std.specs.Prelude.{ℕ, List, [], ◌∷◌}
use Rattle.bern_base.specs.declared.letter.Letter.{Letter}
use Rattle.bern_base.specs.declared.letter.Letter.TheVariants.{Request, Values}
use Rattle.bern_base.specs.declared.letter.NeedSet.{NeedSet}
use Rattle.rank_model.specs.Products.{need_sets}

-- the elements of the first set, if there is one
abbrev pub asked_elements : List NeedSet → List ℕ
asked_elements [] = []
asked_elements (set ∷ sets) = set.elements

-- the elements that a letter asks for
abbrev pub asked_by : Letter → List ℕ
asked_by (Request needs) = asked_elements needs.sets
asked_by (Values turn values) = []

-- those that the first letter asks for
abbrev pub asked_in : List Letter → List ℕ
asked_in [] = []
asked_in (letter ∷ letters) = asked_by letter

-- the values of a letter
abbrev pub letter_values : Letter → List ℕ
letter_values (Request needs) = []
letter_values (Values turn values) = values

-- the values of the letter after the Request
abbrev pub turn_values : List Letter → List ℕ
turn_values [] = []
turn_values (request ∷ []) = []
turn_values (request ∷ letter ∷ letters) = letter_values letter

abbrev pub request_of : ℕ → ℕ → List ℕ → Letter
request_of owner array elements = Request (record { sets = need_sets 0 owner array elements })
