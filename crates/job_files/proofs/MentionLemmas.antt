-- The files of uses by first mention, as the uses grow.
use Rattle.std.proofs.Common.{◌≡◌, ℕ, Bool, true, false, ◌||◌, ◌&&◌, not, cond, List, [], ◌∷◌, ◌++◌, append-nil, filter, refl, sym, ap, ◌∙◌}
use Rattle.std.specs.List.{list_any}
use Rattle.std.proofs.lemmas.List.Elements.{filter-append}
use Rattle.job_files.specs.declared.uses.Use.{Use}
use Rattle.job_files.specs.Uses.{file_of, is_of, mentioned}

abbrev pub is_other : Use → List ℕ → Bool
is_other u name = not (is_of name u)

-- none of these uses is of this file
abbrev pub is_new : List Use → List ℕ → Bool
is_new uses name = not (list_any (is_of name) uses)

not_or : (a b : Bool) → not (a || b) ≡ (not b && not a)
not_or true true = refl
not_or true false = refl
not_or false true = refl
not_or false false = refl

filter_next : (p : List ℕ → Bool) (x : List ℕ) (b : Bool) (ys zs : List (List ℕ)) → filter p ys ≡ zs → filter p (cond b (x ∷ ys) ys) ≡ cond (b && p x) (x ∷ zs) zs
filter_next p x true ys zs same = ap (λ l. cond (p x) (x ∷ l) l) same
filter_next p x false ys zs same = same

pub filter_filter : (p q r : List ℕ → Bool) → ((x : List ℕ) → r x ≡ (q x && p x)) → (xs : List (List ℕ)) → filter p (filter q xs) ≡ filter r xs
filter_filter p q r both [] = refl
filter_filter p q r both (x ∷ xs) =
    filter_next p x (q x) (filter q xs) (filter r xs) (filter_filter p q r both xs) ∙ ap (λ b. cond b (x ∷ filter r xs) (filter r xs)) (sym (both x))

pub all_new : (names : List (List ℕ)) → names ≡ filter (is_new []) names
all_new [] = refl
all_new (n ∷ names) = ap (λ ns. n ∷ ns) (all_new names)

-- later uses mention what earlier ones do not
mentioned-append : (us vs : List Use) → mentioned (us ++ vs) ≡ mentioned us ++ filter (is_new us) (mentioned vs)
mentioned-append [] vs = all_new (mentioned vs)
mentioned-append (u ∷ us) vs =
    ap (λ ns. file_of u ∷ filter (is_other u) ns) (mentioned-append us vs)
    ∙ ap (λ ns. file_of u ∷ ns) (filter-append (is_other u) (mentioned us) (filter (is_new us) (mentioned vs)))
    ∙ ap (λ ns. file_of u ∷ filter (is_other u) (mentioned us) ++ ns)
    (filter_filter (is_other u) (is_new us) (is_new (u ∷ us)) (λ n. not_or (is_of n u) (list_any (is_of n) us)) (mentioned vs))

-- one more use, of a file that was mentioned
pub mentioned_again : (us : List Use) (u : Use) → list_any (is_of (file_of u)) us ≡ true → mentioned (us ++ u ∷ []) ≡ mentioned us
mentioned_again us u known = mentioned-append us (u ∷ []) ∙ ap (λ b. mentioned us ++ cond (not b) (file_of u ∷ []) []) known ∙ append-nil (mentioned us)

-- and of one that was not
pub mentioned_first : (us : List Use) (u : Use) → list_any (is_of (file_of u)) us ≡ false → mentioned (us ++ u ∷ []) ≡ mentioned us ++ file_of u ∷ []
mentioned_first us u new = mentioned-append us (u ∷ []) ∙ ap (λ b. mentioned us ++ cond (not b) (file_of u ∷ []) []) new

-- the files around one that is mentioned for the first time
pub record Around (us all : List Use) (u : Use) : Type 0 where
  pub later : List (List ℕ)
  pub are : mentioned all ≡ mentioned us ++ file_of u ∷ later

pub around : (us vs all : List Use) (u : Use) → all ≡ us ++ u ∷ vs → list_any (is_of (file_of u)) us ≡ false → Around us all u
around us vs all u split new =
    let rest : List (List ℕ) = filter (is_new us) (filter (is_other u) (mentioned vs)) in
    record {
      later = rest;
      are = ap mentioned split ∙ mentioned-append us (u ∷ vs) ∙ ap (λ b. mentioned us ++ cond (not b) (file_of u ∷ rest) rest) new;
    }
