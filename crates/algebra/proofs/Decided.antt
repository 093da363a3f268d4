-- A decision as a flag: set where it is no.
use Rattle.std.proofs.Common.{Bool, true, false}

abbrev pub is_no : {P : Type 0} → Dec P → Bool
is_no (yes p) = false
is_no (no p) = true
