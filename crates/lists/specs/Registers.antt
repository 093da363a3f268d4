-- What the call for a shortest register answers.
use Rattle.std.specs.Prelude.{ℕ, ◌+◌, ◌/◌, min, List, length, Result}
use Rattle.std.specs.Result.{result_map_both}
use Rattle.algebra.specs.Field.{FieldOn}
use Rattle.algebra.specs.Poly.{coeff}
use Rattle.algebra.specs.Register.{register}
use Rattle.lists.specs.Faults.{admit}
use Rattle.lists.specs.declared.fault.ListFault.{ListFault}

module _ {A : Type 0} (F : FieldOn A) where
  -- the connection list that Massey's steps lead to
  abbrev pub connection_list : List A → List A
  connection_list s = (register F (coeff F s) (length s)).conn

  -- its length, where N terms find room for N + 1 entries in the answer list, and for as many in each half of the second
  abbrev pub register_count : List A → ℕ → ℕ → Result ℕ ListFault
  register_count s answer second =
      result_map_both (λ _. length (connection_list s)) (λ fault. fault) (admit (length s) (length s + 1) (min answer (second / 2)))
