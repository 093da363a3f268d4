-- The changes that an equation tells.
use Rattle.std.specs.Prelude.{ℕ}
use Rattle.std.specs.declared.cmp.PartialEq as equality
use Rattle.fields.specs.declared.field.ExtensionField as extension
use Rattle.fields.specs.declared.field.Field as field
use Rattle.correction.specs.Steps.Forney.{HasValue}
use Rattle.correction.specs.declared.forney.Forney.{Forney}

-- the change at a position is a symbol of the base, whose number is y
module _ {E S : Type 0} {lifting : extension.Ghosts E S} {above : field.Ghosts E} {same : equality.Ghosts E} {base : field.Ghosts S} {alike : equality.Ghosts S} where
  abbrev pub HasChangeAt : Forney E S lifting above same base alike → ℕ → ℕ → Type 0
  HasChangeAt f position y = HasValue above.field lifting.lifted base.numbers f.evaluator.now f.derivative.now f.root f.first position y
