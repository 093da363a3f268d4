-- What the commands on lists are answered with.
use Rattle.std.specs.Prelude.{ℕ, List, ◌++◌, map, Result, Ok, Err, codes, decimal}
use Rattle.algebra.specs.Field.{Enumeration}
use Rattle.lists.specs.declared.fault.ListFault.{ListFault}
use Rattle.replay.specs.Elements.{decimal_list}
use Rattle.replay.specs.Outcomes.{recorded_refusal}
use Rattle.sheet.specs.Refusals.{list_refusal}

-- an element by its number
abbrev pub of_number : {A : Type 0} → Enumeration A → A → List ℕ
of_number N x = decimal (N.number x)

-- elements by their numbers, with commas between
abbrev pub of_list : {A : Type 0} → Enumeration A → List A → List ℕ
of_list N xs = decimal_list (map N.number xs)

-- the text of what is answered, or the number of the refusal
abbrev pub shown : {X : Type 0} → (X → List ℕ) → Result X ListFault → List ℕ
shown text (Ok x) = text x
shown text (Err fault) = recorded_refusal (list_refusal fault).number
