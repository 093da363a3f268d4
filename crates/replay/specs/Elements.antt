-- Elements of a field as text, each by its number: what is written, and what a text reads as.
use Rattle.std.specs.Prelude.{◌≡◌, ℕ, ◌<◌, cond, List, [], ◌∷◌, ◌++◌, map, decimal, ◌==◌, Option, Some}
use Rattle.std.specs.Fmt.{◌++?◌}
use Rattle.std.specs.Str.Parse.{IsNumeral, without_leading_plus, digits_value}
use Rattle.std.specs.List.{AllByRecursion, slice_split}
use Rattle.algebra.specs.Field.{Enumeration}

-- what items print, a comma before each; none where an item does not say what it prints
abbrev pub commas_before : {A : Type 0} → (A → Option (List ℕ)) → List A → Option (List ℕ)
commas_before output [] = Some []
commas_before output (x ∷ xs) = (Some (44 ∷ []) ++? output x) ++? commas_before output xs

-- what items print, with commas between, a minus for none
abbrev pub with_commas : {A : Type 0} → (A → Option (List ℕ)) → List A → Option (List ℕ)
with_commas output [] = Some (45 ∷ [])
with_commas output (x ∷ xs) = output x ++? commas_before output xs

-- numbers in decimal, a comma before each
abbrev pub after_commas : List ℕ → List ℕ
after_commas [] = []
after_commas (n ∷ ns) = 44 ∷ (decimal n ++ after_commas ns)

-- numbers in decimal with commas between, a minus for none
abbrev pub decimal_list : List ℕ → List ℕ
decimal_list [] = 45 ∷ []
decimal_list (n ∷ ns) = decimal n ++ after_commas ns

-- the number that a text of digits writes, behind a plus or not
abbrev pub number_in : List ℕ → ℕ
number_in text = digits_value 10 (without_leading_plus text)

-- the text is the decimal of an element's number
abbrev pub IsReadable : {A : Type 0} → Enumeration A → List ℕ → Type 0
IsReadable N text = IsNumeral 10 (without_leading_plus text) × (number_in text < N.size)

-- the element that a readable text stands for
abbrev pub element_in : {A : Type 0} → Enumeration A → List ℕ → A
element_in N text = N.element (number_in text)

-- the parts of a text between its commas
abbrev pub between_commas : List ℕ → List (List ℕ)
between_commas text = slice_split (λ b. b == 44) text

-- the texts of the elements in a list's text: none in a single minus
abbrev pub entries : List ℕ → List (List ℕ)
entries [] = between_commas []
entries (c ∷ []) = cond (c == 45) [] (between_commas (c ∷ []))
entries (c ∷ d ∷ text) = between_commas (c ∷ d ∷ text)

-- the elements are those that a list's text stands for, in order
abbrev pub ReadsAs : {A : Type 0} → Enumeration A → List ℕ → List A → Type 0
ReadsAs N text elements = AllByRecursion (IsReadable N) (entries text) × (elements ≡ map (element_in N) (entries text))
