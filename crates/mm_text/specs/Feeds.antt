-- Which bytes a feed stands for.
use Rattle.std.specs.Prelude.{◌≡◌, ℕ, ◌+◌, min, List, ◌++◌, length, if◌then◌else◌, Option, Some, None, Result, Ok, Err}
use Rattle.bern_base.specs.declared.limits.TheConstants.{MOST_FILE_BYTES}
use Rattle.bern_base.specs.declared.refusal.Rule.TheVariants.{M12}
use Rattle.mm_profile.specs.Lines.{lines}
use Rattle.mm_profile.specs.Profile.{file, is_too_long}
use Rattle.mm_text.specs.Readings.{rest_of}
use Rattle.mm_text.specs.declared.reading.Reading.{Reading}
use Rattle.mm_text.specs.declared.feed.MatrixFeed.{MatrixFeed}
use Rattle.mm_text.specs.declared.error.FeedError.{FeedError}
use Rattle.mm_text.specs.declared.error.FeedError.TheVariants.{TooLong, NoMemory}

-- whatever follows, the reading does with it as the file does that begins with these bytes
abbrev pub IsRead : Option Reading → List ℕ → Type 0
IsRead None bytes = ⊥
IsRead (Some reading) bytes = (more : List ℕ) →
    rest_of reading more ≡ (if is_too_long bytes then Err (0, M12) else file (lines (bytes ++ more)))

-- these bytes were fed
pub record StandsForBytes (feed : MatrixFeed) (bytes : List ℕ) : Type 0 where
  pub count : feed.count ≡ min (length bytes) (MOST_FILE_BYTES + 1)
  pub read : IsRead feed.reading bytes

-- memory ran out: it stands for no bytes, and answers nothing else from then on
abbrev pub IsSpent : MatrixFeed → Type 0
IsSpent feed = feed.reading ≡ None

-- the feed after a piece, by cases on what feeding it answers
abbrev pub Feeds : MatrixFeed → List ℕ → MatrixFeed → Result (Unit {0}) FeedError → Type 0
Feeds before piece after (Ok _) = (bytes : List ℕ) → StandsForBytes before bytes → StandsForBytes after (bytes ++ piece)
Feeds before piece after (Err TooLong) = (bytes : List ℕ) → StandsForBytes before bytes → StandsForBytes after (bytes ++ piece)
Feeds before piece after (Err NoMemory) = IsSpent after
