use Rattle.std.proofs.Common.{refl}
use Rattle.sheet.specs.declared.characters.Case.TheVariants.{Lower, Upper}
use Rattle.sheet.proofs.ReadBack.{reads_as}
use Rattle.sheet.proofs.characters.write_character.Goals as goal

pub returns-in-Lower-clause-read_back : goal.returns-in-Lower-clause-read_back
returns-in-Lower-clause-read_back c =
    reads_as Lower _ _ c.in_ok-small.field-0.now _ c.from.ensures c.in_ok-small.ensures.lookup.3 refl

pub returns-in-Upper-clause-read_back : goal.returns-in-Upper-clause-read_back
returns-in-Upper-clause-read_back c =
    reads_as Upper _ _ c.in_ok-small.field-0.now _ c.from.ensures c.in_ok-small.ensures.lookup.3 c.to_ascii_uppercase.ensures.value
