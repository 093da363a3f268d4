-- What the commands on powers and on a field itself are answered with.
use Rattle.std.specs.Prelude.{ℕ, ◌+◌, ◌-◌, List, ◌++◌, Option, None, Some, codes, decimal}
use Rattle.algebra.specs.Field.{FieldOn, Enumeration, divisors_to, pow}
use Rattle.algebra.specs.Poly.{tab}
use Rattle.replay.specs.Elements.{decimal_list}

-- the number of an element that may be absent
abbrev pub or_none : {A : Type 0} → Enumeration A → Option A → List ℕ
or_none N None = codes "none"
or_none N (Some x) = decimal (N.number x)

-- the powers of x from one exponent to another
abbrev pub powers_between : {A : Type 0} → FieldOn A → A → ℕ → ℕ → List A
powers_between F x first last = tab (last + 1 - first) (λ k. pow F x (first + k))

-- what a field has fixed, each with its name: a generator and its order, one less than the size
abbrev pub constants : {A : Type 0} → FieldOn A → Enumeration A → A → ℕ → List ℕ
constants F N generator order = codes "zero=" ++ (decimal (N.number F.𝟘)
    ++ (codes " one=" ++ (decimal (N.number F.𝟙)
    ++ (codes " gen=" ++ (decimal (N.number generator)
    ++ (codes " size=" ++ (decimal (order + 1)
    ++ (codes " order=" ++ (decimal order
    ++ (codes " factors=" ++ decimal_list (divisors_to order order)))))))))))
