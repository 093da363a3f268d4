use Rattle.std.proofs.Common.{◌≡◌, vec_items, map}
use Rattle.std.specs.List.{AllByRecursion}
use Rattle.replay.specs.Elements.{IsReadable, element_in}
use Rattle.replay.proofs.elements.read_elements.Given as goal

-- the elements are those of the parts so far
abbrev pub invariant-loop-part : goal.invariant-loop-part
invariant-loop-part g l =
    let texts = map (λ part. part.now) l.yielded in
    AllByRecursion (IsReadable g.F.Field.numbers) texts × (vec_items l.elements ≡ map (element_in g.F.Field.numbers) texts)
