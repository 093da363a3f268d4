-- What a line of recorded answers says, and how an answer differs from the one that it owes.
use Rattle.std.specs.Prelude.{◌≡◌, ◌≢◌, ℕ, List, Option, None, Result, Ok, Err, ◌⊎◌, codes, MatchOption}
use Rattle.std.specs.Str.{trim}
use Rattle.std.specs.Str.Pattern.{FindsText, SplitsAroundMatch}
use denote.Ref.{Bor}

-- the signs behind a command and before another answer
abbrev pub equals : List ℕ
equals = codes " = "

abbrev pub instead : List ℕ
instead = codes " ! "

-- the text has the sign nowhere
abbrev pub Lacks : List ℕ → List ℕ → Type 0
Lacks sign text = FindsText sign text None

-- the text is cut into two round the first place where it has the sign
abbrev pub IsCut : List ℕ → List ℕ → List ℕ → List ℕ → Type 0
IsCut sign text before after = SplitsAroundMatch (FindsText sign) text before after

-- owed is the answer behind the first " ! ", or else the only one, with no white space around it
abbrev pub IsOwed : List ℕ → List ℕ → Type 0
IsOwed answers owed = (Lacks instead answers × (owed ≡ trim answers))
    ⊎ ((theirs : List ℕ) × (ours : List ℕ) × IsCut instead answers theirs ours × (owed ≡ trim ours))

-- the line has the command before the first " = ", and owes the answer
pub record IsRecord (line command owed : List ℕ) : Type 0 where
  pub answers : List ℕ
  pub cut : IsCut equals line command answers
  pub owes : IsOwed answers owed

-- Gives says what a command may be answered with
module _ {Answer Fault : Type 0} (bytes : Answer → List ℕ) (Gives : Bor (List ℕ) → Result Answer Fault → Type 0) (line : List ℕ) where
  -- the line's command was answered, and the answer is there where its text is not the one that is owed
  abbrev pub IsDifference : Option Answer → Type 0
  IsDifference difference = (command : Bor (List ℕ)) × (owed : List ℕ) × (ours : Answer)
      × IsRecord line command.now owed × Gives command (Ok ours)
      × MatchOption difference (bytes ours ≡ owed) (λ other. (other ≡ ours) × (bytes ours ≢ owed))

module _ {Answer Fault : Type 0} (Gives : Bor (List ℕ) → Result Answer Fault → Type 0) (line : List ℕ) where
  -- the line has no answer, or its command is answered with a fault
  abbrev pub HasNoAnswer : Fault → Type 0
  HasNoAnswer fault = Lacks equals line ⊎ ((command : Bor (List ℕ)) × (owed : List ℕ) × IsRecord line command.now owed × Gives command (Err fault))
