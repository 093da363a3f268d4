-- When a list function is refused, and what the list that it writes then holds.
use Rattle.std.specs.Prelude.{ℕ, Bool, cond, List, ◌++◌, length, drop, replicate, Ok, Err, Result, ◌==◌, nat_lt}
use Rattle.algebra.specs.Field.{FieldOn}
use Rattle.lists.specs.declared.fault.ListFault.{ListFault}
use Rattle.lists.specs.declared.fault.ListFault.TheVariants.{Empty, Short}

-- x, refused where the shortest list given has no entry
abbrev pub unless_empty : {X : Type 0} → ℕ → X → Result X ListFault
unless_empty given x = cond (given == 0) (Err Empty) (Ok x)

-- how many entries are written: as many as needed, refused where an empty list is given or where there is no room
abbrev pub admit : ℕ → ℕ → ℕ → Result ℕ ListFault
admit given needed room = cond (given == 0) (Err Empty) (cond (nat_lt room needed) (Err Short) (Ok needed))

-- a list lent for an answer, after the call: the answer, then its own entries past it; as it was after a refusal
abbrev pub lent_after : {A : Type 0} → Result ℕ ListFault → List A → List A → List A
lent_after (Ok n) new old = new ++ drop n old
lent_after (Err e) new old = old

-- a list lent to work in, after the call: all ZERO where it was used, else as it was
abbrev pub zeros_if : {A : Type 0} → FieldOn A → Bool → List A → List A
zeros_if F used list = cond used (replicate (length list) F.𝟘) list

-- what a call answers that writes a list, and what the lent list then holds
module _ {A : Type 0} (given : ℕ) (new old : List A) where
  abbrev pub answer_count : Result ℕ ListFault
  answer_count = admit given (length new) (length old)

  abbrev pub answer_list : List A
  answer_list = lent_after answer_count new old
